-- A session of several that is carried on: what its number then has, and what the machine sees.
use Rattle.std.proofs.Common.{◌≡◌, ℕ, Option, Some, None, option_map, refl, sym, ap, subst, ◌∙◌}
use Rattle.std.proofs.lemmas.Option.{none-some, same_Some}
use Rattle.std.specs.Prelude.{option_and_then}
use Rattle.odb_atoms.specs.FinMap as finite
use Rattle.odb_chain.specs.Chains.{Chains}
use Rattle.odb_schema.specs.Schema.{Schema}
use Rattle.odb_service.specs.Server.{served_by}
use Rattle.odb_service.specs.Session.{Session}
use Rattle.odb_recent.specs.Recent.{Recent}
use Rattle.odb_sessions.specs.Book.{book_with}
use Rattle.odb_sessions.specs.Carried.{Carries, IsCarriedOut, last_finished, used_by}
use Rattle.odb_sessions.specs.Marked.{MarkedSession, Sessions, all_seen, marks_of, seen}
use Rattle.odb_sessions.specs.Posts.{at_number}
use Rattle.odb_sessions.specs.Tied.{IsTied}
use Rattle.odb_sessions.specs.Watches.{KeepsWatch}
use Rattle.odb_sessions.proofs.Carried.{tied_carried}
use Rattle.odb_sessions.proofs.Posts.{at_open, at_shut}
use Rattle.odb_sessions.proofs.Ties.{get-seen, seen-insert}

pub carried_out : (k new : Chains) (m then : Sessions) (s n j : ℕ) (x y : MarkedSession) → finite.get m s ≡ Some x → then ≡ finite.insert m s y → Carries k new (marks_of x) (marks_of y) → ((schema : Schema) → seen y ≡ used_by (served_by schema) k.db n j (seen x)) → KeepsWatch x y → IsCarriedOut k new m then s n j
carried_out k new m then s n j x y there is f session watch = (
  λ z at.
      let same : x ≡ z = same_Some x z (sym there ∙ at) in
      (y, is, subst (λ (w : MarkedSession). Carries k new (marks_of w) (marks_of y)) same f, (λ schema. session schema ∙ ap (λ (w : MarkedSession). used_by (served_by schema) k.db n j (seen w)) same), subst (λ (w : MarkedSession). KeepsWatch w y) same watch),
  λ none. absurd (none-some x (sym none ∙ there)),
)

pub not_carried_out : (k : Chains) (m then : Sessions) (s n j : ℕ) → finite.get m s ≡ None → then ≡ m → IsCarriedOut k k m then s n j
not_carried_out k m then s n j shut is = (λ z at. absurd (none-some z (sym shut ∙ at)), λ none. (is, refl))

module _ (k new : Chains) (m then : Sessions) (s n j : ℕ) (f : IsCarriedOut k new m then s n j) where
  pub tied_after : IsTied k m → IsTied new then
  tied_after h = by (finite.get m s) refl
    where
      by : (o : Option MarkedSession) → finite.get m s ≡ o → IsTied new then
      by None is = let none : (then ≡ m) × (new ≡ k) = f.1 is in subst (IsTied new) (sym none.0) (subst (λ (c : Chains). IsTied c m) (sym none.1) h)
      by (Some x) is =
          let one : (y : MarkedSession) × (then ≡ finite.insert m s y) × Carries k new (marks_of x) (marks_of y) × ((schema : Schema) → seen y ≡ used_by (served_by schema) k.db n j (seen x)) × KeepsWatch x y = f.0 x is in
          subst (IsTied new) (sym one.1) (tied_carried k new m s x one.0 h is one.2 one.4)

  -- with these last commits
  pub seen_after : (r : Recent) (schema : Schema) → book_with new.db r (all_seen then) ≡ book_with k.db r (at_number (used_by (served_by schema) k.db n j) (all_seen m) s)
  seen_after r schema = by (finite.get m s) refl
    where
      g : Session → Session
      g = used_by (served_by schema) k.db n j

      by : (o : Option MarkedSession) → finite.get m s ≡ o → book_with new.db r (all_seen then) ≡ book_with k.db r (at_number g (all_seen m) s)
      by None is =
          let none : (then ≡ m) × (new ≡ k) = f.1 is in
          (λ i. book_with (none.1 i).db r (all_seen (none.0 i))) ∙ ap (book_with k.db r) (sym (at_shut g (all_seen m) s (get-seen m s ∙ ap (option_map seen) is)))
      by (Some x) is =
          let one : (y : MarkedSession) × (then ≡ finite.insert m s y) × Carries k new (marks_of x) (marks_of y) × ((schema : Schema) → seen y ≡ used_by (served_by schema) k.db n j (seen x)) × KeepsWatch x y = f.0 x is in
          (λ i. book_with (one.2.0 i) r ((ap all_seen one.1 ∙ seen-insert m s one.0 ∙ ap (finite.insert (all_seen m) s) (one.3 schema) ∙ sym (at_open g (all_seen m) s (seen x) (get-seen m s ∙ ap (option_map seen) is))) i))

pub text_seen : (n s : ℕ) (m : Sessions) → option_and_then (λ (x : MarkedSession). last_finished n (seen x).queue) (finite.get m s) ≡ option_and_then (λ (x : Session). last_finished n x.queue) (finite.get (all_seen m) s)
text_seen n s m = by (finite.get m s) ∙ sym (ap (option_and_then (λ (x : Session). last_finished n x.queue)) (get-seen m s))
  where
    by : (o : Option MarkedSession) → option_and_then (λ (x : MarkedSession). last_finished n (seen x).queue) o ≡ option_and_then (λ (x : Session). last_finished n x.queue) (option_map seen o)
    by None = refl
    by (Some x) = refl
