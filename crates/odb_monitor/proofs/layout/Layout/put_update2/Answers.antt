use Rattle.std.proofs.Common.{◌≡◌, ◌++◌, OnOk, subst, sym}
use Rattle.odb_atoms.specs.Represented.Atom.{uuid_of}
use Rattle.odb_monitor.specs.Represented.Line.{change_in}
use Rattle.odb_print.specs.Tokens.{tokens_of}
use Rattle.odb_monitor.specs.Update.{row_update}
use Rattle.odb_monitor.specs.declared.line.Change.{Change}
use Rattle.odb_request.specs.Request.{update2}
use Rattle.odb_monitor.proofs.layout.Layout.put_update2.Goals as goal

pub returns-in-ComesIn : goal.returns-in-ComesIn
returns-in-ComesIn c = subst (λ (change : Change). OnOk c.put_set.result (c.put_set.new.out ≡ c.args.out.now ++ tokens_of (row_update update2 c.args.self.now.first c.args.self.now.columns (change_in c.args.self.now.columns (uuid_of c.args.line.now.uuid) change)))) (sym c.in-ComesIn.is) c.put_set.ensures

pub returns-in-Differs : goal.returns-in-Differs
returns-in-Differs c = subst (λ (change : Change). OnOk c.put_differences.result (c.put_differences.new.out ≡ c.args.out.now ++ tokens_of (row_update update2 c.args.self.now.first c.args.self.now.columns (change_in c.args.self.now.columns (uuid_of c.args.line.now.uuid) change)))) (sym c.in-Differs.is) c.put_differences.ensures
