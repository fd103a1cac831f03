use Rattle.std.proofs.Common.{rules, [], map, subst}
use Rattle.odb_atoms.specs.Represented.Atom.{uuid_of}
use Rattle.odb_tables.specs.Represented.Found.{Appends, passing, standing, untouched}
use Rattle.odb_tables.proofs.Found.{parts-Lists}
use Rattle.odb_tables.proofs.draft.found_in.Goals as goal

pub returns : goal.returns
returns g c suffices =
    let p = g.T.Test.passes c.args.test.now in
    let o = c.args.overlay.now in
    let t = c.args.base.now in
    let first = map uuid_of c.find_untouched.new.found.items in
    let second = map uuid_of c.find.new.found.items in
    let some : Appends [] first (passing p (untouched o t)) = subst (λ us. Appends (map uuid_of us) first (passing p (untouched o t))) c.new-found.ensures.items (c.in_ok-find_untouched.ensures suffices) in
    let rest : Appends first second (passing p (standing o)) = search rules in
    parts-Lists p o t first second some rest
