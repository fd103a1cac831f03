use Rattle.std.proofs.Common.{rules, ap, ◌∙◌, not, nat_eq, ℕ, ◌≡◌}
use Rattle.std.specs.Prelude.{filter}
use Rattle.std.proofs.lemmas.Fn.{filter_same}
use Rattle.odb_locks.specs.Locks as model
use Rattle.odb_locks.specs.Locks.{without}
use Rattle.odb_locks.proofs.lock.Lock.release.Goals as goal

pub returns : goal.returns
returns c =
    let claims : c.retain.new.self.items ≡ filter (λ (claim : model.Claim). not (nat_eq claim.session c.args.session)) c.self.inside.claims.items = filter_same _ _ _ (λ x b f' k. search rules) _ _ c.retain.ensures.filtered in
    let robbed : c.retain-2.new.self.items ≡ filter (λ (t : ℕ). not (nat_eq t c.args.session)) c.self.inside.robbed.items = filter_same _ _ _ (λ x b f' k. search rules) _ _ c.retain-2.ensures.filtered in
    (λ i. let k : model.Lock = record { claims = claims i; robbed = robbed i } in k) ∙ ap (without c.args.session) c.self.view_is
