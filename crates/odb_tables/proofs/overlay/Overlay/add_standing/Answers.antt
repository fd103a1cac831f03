use Rattle.std.proofs.Common.{rules, ◌≡◌, ◌++◌, map, ap, subst, ◌∙◌}
use Rattle.std.proofs.lemmas.Map.Iter.{iter_end}
use Rattle.std.specs.Map.Iter.{deref_pair}
use Rattle.odb_tables.specs.Represented.Found.{Lists, standing}
use Rattle.odb_tables.specs.Represented.Overlay.{Touched}
use Rattle.odb_tables.proofs.Found.{found, is_there, listed-there}
use Rattle.odb_tables.proofs.overlay.Overlay.add_standing.Goals as goal

pub returns : goal.returns
returns c =
    let es = c.self.inside.rows.entries in
    let all : map deref_pair c.loop-key.yielded ≡ es = search (rules, iter_end) in
    let grown : c.loop-key.keys.items ≡ c.args.keys.now.items ++ found is_there (map deref_pair c.loop-key.yielded) = c.loop-key.invariant in
    (found is_there es, grown ∙ ap (λ xs. c.args.keys.now.items ++ found is_there xs) all, subst (λ (o : Touched). Lists (found is_there es) (standing o)) c.self.view_is (listed-there c.self.inside.rows c.iter-key-items.ensures.unique))
