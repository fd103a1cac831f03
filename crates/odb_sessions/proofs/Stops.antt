-- What a cancel and a change queue, as the machine sees it.
use Rattle.std.proofs.Common.{◌≡◌, ℕ, List, [], ◌∷◌, ◌++◌, flat_map, map, refl, ap, ◌∙◌}
use Rattle.std.proofs.lemmas.List.{append-nil}
use Rattle.odb_chain.specs.Chains.{Chains}
use Rattle.odb_service.specs.Session.{Item}
use Rattle.odb_service.specs.World.{push}
use Rattle.odb_sessions.specs.Marked.{MarkedItem, Sessions, all_seen, item_seen, marks_due, marks_of, plain, seen}
use Rattle.odb_sessions.specs.Posts.{at_number, with_items}
use Rattle.odb_sessions.specs.Tied.{IsTied}
use Rattle.odb_sessions.proofs.Newest.{marks-with, seen-with}
use Rattle.odb_sessions.proofs.Seen.{at_seen, at_tied}
use Rattle.odb_sessions.proofs.WatchNumbers.{keeps_so}

module _ (a b : Item) (qs : List MarkedItem) (is : qs ≡ plain a ∷ plain b ∷ []) where
  pub two_tied : (k : Chains) (m : Sessions) (s : ℕ) → IsTied k m → IsTied k (at_number (with_items qs) m s)
  two_tied k m s h = at_tied k (with_items qs) m s (λ x. marks-with qs x ∙ ap (λ ms. marks_of x ++ ms) (ap (flat_map marks_due) is) ∙ append-nil (marks_of x)) (λ x. keeps_so x (with_items qs x) refl refl) h

  pub two_seen : (m : Sessions) (s : ℕ) → all_seen (at_number (with_items qs) m s) ≡ at_number (push (a ∷ b ∷ [])) (all_seen m) s
  two_seen m s = at_seen (with_items qs) (push (a ∷ b ∷ [])) m s (λ x. seen-with qs x ∙ ap (λ items. push items (seen x)) (ap (map item_seen) is))
