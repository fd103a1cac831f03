use Rattle.std.proofs.Common.{rules, ◌≡◌, ◌++◌, map, ap, subst, ◌∙◌}
use Rattle.std.proofs.lemmas.Map.Iter.{iter_end}
use Rattle.std.specs.Map.Iter.{deref_pair}
use Rattle.odb_atoms.specs.Represented.Atom.{uuid_of}
use Rattle.odb_tables.specs.Represented.Found.{Lists, passing, standing}
use Rattle.odb_tables.specs.Represented.Overlay.{Touched}
use Rattle.odb_tables.proofs.Found.{found, is_standing, listed-standing}
use Rattle.odb_tables.proofs.overlay.Overlay.find.Goals as goal

pub returns : goal.returns
returns g c =
    let p = g.T.Test.passes c.args.test.now in
    let es = c.self.inside.rows.entries in
    let all : map deref_pair c.loop-key.yielded ≡ es = search (rules, iter_end) in
    let grown : map uuid_of c.loop-key.found.items ≡ map uuid_of c.args.found.now.items ++ found (is_standing p) (map deref_pair c.loop-key.yielded) = c.loop-key.invariant in
    (found (is_standing p) es, grown ∙ ap (λ xs. map uuid_of c.args.found.now.items ++ found (is_standing p) xs) all, subst (λ (o : Touched). Lists (found (is_standing p) es) (passing p (standing o))) c.self.view_is (listed-standing p c.self.inside.rows c.iter-key-items.ensures.unique))
