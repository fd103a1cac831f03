use Rattle.std.proofs.Common.{rules, ◌≡◌, filter, subst}
use Rattle.std.proofs.lemmas.Fn.{filter_same}
use Rattle.odb_tables.specs.Represented.Found.{Appends, standing}
use Rattle.odb_tables.proofs.Grounds.{is_left, over-Suffices}
use Rattle.odb_tables.proofs.overlay.Overlay.candidates_over.Goals as goal

pub returns : goal.returns
returns c p t enough =
    let o = c.args.self.now in
    let first = c.args.keys.items in
    let second = c.add_standing.new.keys.items in
    let kept : c.retain.new.self.items ≡ filter (is_left o) first = filter_same _ _ _ (λ x b f' k. search rules) _ _ c.retain.ensures.filtered in
    let rest : Appends c.retain.new.self.items second (standing o) = search rules in
    over-Suffices o first p t second enough (subst (λ xs. Appends xs second (standing o)) kept rest)
