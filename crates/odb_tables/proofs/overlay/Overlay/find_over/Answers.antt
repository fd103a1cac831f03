use Rattle.std.proofs.Common.{rules, ◌≡◌, ◌∙◌, filter, map, ap, subst}
use Rattle.std.proofs.lemmas.Fn.{filter_same}
use Rattle.odb_atoms.specs.Represented.Atom.{uuid_of}
use Rattle.odb_tables.specs.Represented.Found.{Appends, passing, standing}
use Rattle.odb_tables.proofs.Grounds.{is_left, left-map, over-Lists}
use Rattle.odb_tables.proofs.overlay.Overlay.find_over.Goals as goal

pub returns : goal.returns
returns g c t listed =
    let p = g.T.Test.passes c.args.test.now in
    let o = c.args.self.now in
    let us = map uuid_of c.args.found.items in
    let second = map uuid_of c.find.new.found.items in
    let kept : c.retain.new.self.items ≡ filter (λ x. is_left o (uuid_of x)) c.args.found.items = filter_same _ _ _ (λ x b f' k. search rules) _ _ c.retain.ensures.filtered in
    let left : map uuid_of c.retain.new.self.items ≡ filter (is_left o) us = ap (map uuid_of) kept ∙ left-map o c.args.found.items in
    let rest : Appends (map uuid_of c.retain.new.self.items) second (passing p (standing o)) = search rules in
    over-Lists p o t us second listed (subst (λ xs. Appends xs second (passing p (standing o))) left rest)
