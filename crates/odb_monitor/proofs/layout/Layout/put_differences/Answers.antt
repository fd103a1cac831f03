use Rattle.std.proofs.Common.{rules, ◌≡◌, ◌++◌, OnOk, codes, map, subst, sym}
use Rattle.odb_atoms.specs.Represented.Atom.{uuid_of}
use Rattle.odb_monitor.specs.Represented.Form.{difference_in}
use Rattle.odb_print.specs.Tokens.{tokens_of}
use Rattle.odb_monitor.specs.Update.{one, row_object}
use Rattle.odb_monitor.proofs.Forms.{differences_cut}
use Rattle.odb_monitor.proofs.layout.Layout.put_differences.Goals as goal

pub returns : goal.returns
returns c =
    let cs = c.args.self.now.columns in
    let u = uuid_of c.args.uuid in
    let p = c.args.old.now in
    let q = c.args.new.now in
    let built : OnOk c.put_one-put.result (c.put_one-put.new.out ≡ c.args.out.now ++ tokens_of (one (codes "modify") (row_object cs (map (difference_in (u, p) (u, q)) cs)))) = search rules in
    subst (λ vs. OnOk c.put_one-put.result (c.put_one-put.new.out ≡ c.args.out.now ++ tokens_of (one (codes "modify") (row_object cs vs)))) (sym (differences_cut cs u p q)) built
