use Rattle.std.proofs.Common.{rules, ◌≡◌, ◌==◌, not, length, map, sym, ap, ◌∙◌}
use Rattle.std.proofs.lemmas.List.{length-map}
use Rattle.std.specs.Vec.{vec_len}
use Rattle.odb_atoms.specs.Represented.Atom.{uuid_of}
use Rattle.odb_tables.specs.Database.{table_at}
use Rattle.odb_tables.specs.Represented.Found.{Lists, passing}
use Rattle.odb_tables.proofs.Twins.{any-found}
use Rattle.odb_tables.proofs.draft.Draft.has_any_at_all.Goals as goal

pub returns : goal.returns
returns g c =
    let p = g.T.Test.passes c.args.test.now in
    let t = table_at c.args.self.now.now c.args.table in
    let found = c.in_ok-found.found.items in
    let listed : Lists (map uuid_of found) (passing p t) = c.in_ok-found.ensures in
    let long : length found ≡ vec_len c.in_ok-found.found = search rules in
    ap not (c.is_empty.ensures ∙ ap (λ n. n == 0) (sym (length-map found uuid_of ∙ long))) ∙ any-found p t (map uuid_of found) listed
