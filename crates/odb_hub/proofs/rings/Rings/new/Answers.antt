use Rattle.std.proofs.Common.{rules, ◌≡◌, [], is_some, sym, ap, ◌∙◌, true≢false}
use Rattle.odb_atoms.specs.FinMap.{get}
use Rattle.odb_hub.proofs.RingsIn.{none_in}
use Rattle.odb_service.proofs.SessionMaps.{get-empty}
use Rattle.odb_hub.proofs.rings.Rings.new.Goals as goal

pub invariant_of-result : goal.invariant_of-result
invariant_of-result c s r there =
    let none : c.new.result.entries ≡ [] = search rules in
    absurd (true≢false (sym (ap is_some (sym (get-empty s) ∙ ap (λ m. get m s) (sym (none_in c.new.result none)) ∙ there))))
