use Rattle.std.proofs.Common.{rules, ◌≡◌, ◌++◌, map, ap, subst, ◌∙◌}
use Rattle.std.proofs.lemmas.Map.Iter.{iter_end}
use Rattle.std.specs.Map.Iter.{deref_pair}
use Rattle.odb_atoms.specs.Represented.Atom.{uuid_of}
use Rattle.odb_tables.specs.Database.{Table}
use Rattle.odb_tables.specs.Represented.Found.{Lists, passing, untouched}
use Rattle.odb_tables.proofs.Found.{found, is_untouched, listed-untouched}
use Rattle.odb_tables.proofs.table.Table.find_untouched.Goals as goal

pub returns : goal.returns
returns g c =
    let p = g.T.Test.passes c.args.test.now in
    let o = c.args.overlay.now in
    let es = c.self.inside.rows.entries in
    let all : map deref_pair c.loop-key.yielded ≡ es = search (rules, iter_end) in
    let grown : map uuid_of c.loop-key.found.items ≡ map uuid_of c.args.found.now.items ++ found (is_untouched p o) (map deref_pair c.loop-key.yielded) = c.loop-key.invariant in
    (found (is_untouched p o) es, grown ∙ ap (λ xs. map uuid_of c.args.found.now.items ++ found (is_untouched p o) xs) all, subst (λ (t : Table). Lists (found (is_untouched p o) es) (passing p (untouched o t))) c.self.view_is (listed-untouched p o c.self.inside.rows c.iter-key-items.ensures.unique))
