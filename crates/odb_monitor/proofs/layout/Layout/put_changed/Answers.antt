use Rattle.std.proofs.Common.{rules, ◌≡◌, ◌++◌, List, OnOk, Option, map, subst, sym}
use Rattle.odb_atoms.specs.Represented.Atom.{uuid_of}
use Rattle.odb_atoms.specs.Value.{Value}
use Rattle.odb_monitor.specs.Represented.Form.{all_in, old_in}
use Rattle.odb_monitor.specs.Represented.Layout.{new_and_old}
use Rattle.odb_print.specs.Tokens.{tokens_of}
use Rattle.odb_monitor.specs.Update.{row_object}
use Rattle.odb_monitor.proofs.Forms.{all_cut, old_cut}
use Rattle.odb_monitor.proofs.layout.Layout.put_changed.Goals as goal

pub returns : goal.returns
returns c =
    let cs = c.args.self.now.columns in
    let u = uuid_of c.args.uuid in
    let p = c.args.old.now in
    let q = c.args.new.now in
    let built : OnOk c.put_both-put.result (c.put_both-put.new.out ≡ c.args.out.now ++ tokens_of (new_and_old (row_object cs (map (all_in (u, q)) cs)) (row_object cs (map (old_in (u, p) (u, q)) cs)))) = search rules in
    subst (λ (vs : List (Option Value) × List (Option Value)). OnOk c.put_both-put.result (c.put_both-put.new.out ≡ c.args.out.now ++ tokens_of (new_and_old (row_object cs vs.0) (row_object cs vs.1)))) (λ i. let vs : List (Option Value) × List (Option Value) = (sym (all_cut cs u q) i, sym (old_cut cs u p q) i) in vs) built
