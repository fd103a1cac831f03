use Rattle.std.proofs.Common.{◌≡◌, ◌++◌, OnOk, subst, sym}
use Rattle.odb_atoms.specs.Represented.Atom.{uuid_of}
use Rattle.odb_monitor.specs.Represented.Line.{change_in}
use Rattle.odb_print.specs.Tokens.{tokens_of}
use Rattle.odb_monitor.specs.Update.{row_update}
use Rattle.odb_monitor.specs.declared.line.Change.{Change}
use Rattle.odb_request.specs.Request.{update}
use Rattle.odb_monitor.proofs.layout.Layout.put_update.Goals as goal

pub returns-in-ComesIn : goal.returns-in-ComesIn
returns-in-ComesIn c = subst (λ (change : Change). OnOk c.put_whole.result (c.put_whole.new.out ≡ c.args.out.now ++ tokens_of (row_update update c.args.self.now.first c.args.self.now.columns (change_in c.args.self.now.columns (uuid_of c.args.line.now.uuid) change)))) (sym c.in-ComesIn.is) c.put_whole.ensures

pub returns-in-GoesOut : goal.returns-in-GoesOut
returns-in-GoesOut c = subst (λ (change : Change). OnOk c.put_whole-in-GoesOut.result (c.put_whole-in-GoesOut.new.out ≡ c.args.out.now ++ tokens_of (row_update update c.args.self.now.first c.args.self.now.columns (change_in c.args.self.now.columns (uuid_of c.args.line.now.uuid) change)))) (sym c.in-GoesOut.is) c.put_whole-in-GoesOut.ensures

pub returns-in-Differs : goal.returns-in-Differs
returns-in-Differs c = subst (λ (change : Change). OnOk c.put_changed.result (c.put_changed.new.out ≡ c.args.out.now ++ tokens_of (row_update update c.args.self.now.first c.args.self.now.columns (change_in c.args.self.now.columns (uuid_of c.args.line.now.uuid) change)))) (sym c.in-Differs.is) c.put_changed.ensures
