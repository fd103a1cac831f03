use Rattle.std.proofs.Common.{rules, ◌≡◌, ◌==◌, not, filter, ap, ◌∙◌}
use Rattle.std.proofs.lemmas.Fn.{filter_same}
use Rattle.odb_service.specs.World.{Waiting}
use Rattle.odb_core.specs.Deadlines.{earliest}
use Rattle.odb_core.specs.Represented.Counts.{count_of}
use Rattle.odb_core.proofs.WaitingCounts.{counted_others}
use Rattle.odb_core.proofs.waiting_list.WaitingList.end_session.Goals as goal

pub invariant_of-self : goal.invariant_of-self
invariant_of-self c =
    let i = c.self.inside in
    let n = c.args.session in
    let left : c.retain.new.self.items ≡ filter (λ (p : Waiting). not (p.session == n)) i.items.items = filter_same _ _ _ (λ x b f' k. search rules) _ _ c.retain.ensures.filtered in
    let first : c.earliest_of-self-inside.result ≡ earliest c.retain.new.self.items = search rules in
    (counted_others (count_of i.counts) (count_of c.forget.new.self) n i.items.items c.retain.new.self.items c.self.invariant.0 c.forget.ensures left, first)

pub returns : goal.returns
returns c =
    let n = c.args.session in
    let left : c.retain.new.self.items ≡ filter (λ (p : Waiting). not (p.session == n)) c.self.inside.items.items = filter_same _ _ _ (λ x b f' k. search rules) _ _ c.retain.ensures.filtered in
    left ∙ ap (filter (λ (p : Waiting). not (p.session == n))) c.self.view_is
