use Rattle.std.proofs.Common.{rules, ◌≡◌, ◌++◌, OnOk, map, subst, sym}
use Rattle.odb_atoms.specs.Represented.Atom.{uuid_of}
use Rattle.odb_monitor.specs.Represented.Form.{all_in}
use Rattle.odb_print.specs.Tokens.{tokens_of}
use Rattle.odb_monitor.specs.Update.{one, row_object}
use Rattle.odb_monitor.proofs.Forms.{all_cut}
use Rattle.odb_monitor.proofs.layout.Layout.put_whole.Goals as goal

pub returns : goal.returns
returns c =
    let cs = c.args.self.now.columns in
    let u = uuid_of c.args.uuid in
    let r = c.args.row.now in
    let built : OnOk c.put_one-put.result (c.put_one-put.new.out ≡ c.args.out.now ++ tokens_of (one c.args.name.now (row_object cs (map (all_in (u, r)) cs)))) = search rules in
    subst (λ vs. OnOk c.put_one-put.result (c.put_one-put.new.out ≡ c.args.out.now ++ tokens_of (one c.args.name.now (row_object cs vs)))) (sym (all_cut cs u r)) built
