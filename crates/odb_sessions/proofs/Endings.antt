-- What the end of a transaction queues, as the machine sees it.
use Rattle.std.proofs.Common.{◌≡◌, ℕ, List, [], ◌∷◌, ◌++◌, flat_map, map, Some, option_map, refl, sym, ap, ◌∙◌}
use Rattle.std.proofs.lemmas.List.{append-nil}
use Rattle.odb_atoms.specs.FinMap.{get, insert}
use Rattle.odb_chain.specs.Chains.{Chains}
use Rattle.odb_schema.specs.Json.{Data}
use Rattle.odb_schema.specs.Schema.{Schema}
use Rattle.odb_service.specs.Server.{served_by}
use Rattle.odb_service.specs.Session.{Item, Watch, asked, sync}
use Rattle.odb_service.specs.World.{push}
use Rattle.odb_sessions.specs.Asked.{ended_in, ids_asked}
use Rattle.odb_sessions.specs.Marked.{MarkedItem, MarkedSession, Sessions, all_seen, item_seen, marks_due, marks_of, plain, seen}
use Rattle.odb_sessions.specs.Posts.{at_number, with_items}
use Rattle.odb_sessions.specs.Tied.{IsTied}
use Rattle.odb_sessions.proofs.Newest.{marks-with, seen-with}
use Rattle.odb_sessions.proofs.Posts.{at_open}
use Rattle.odb_sessions.proofs.Replays.{asked_ids, map-map}
use Rattle.odb_sessions.proofs.Seen.{at_tied}
use Rattle.odb_sessions.proofs.Ties.{get-seen, seen-insert}
use Rattle.odb_sessions.proofs.WatchNumbers.{keeps_so}

module _ {A : Type 0} (g : A → Data) (reply : Item) where
  abbrev pub ending_of : List A → List MarkedItem
  ending_of ids = map (λ i. plain (sync (g i))) ids ++ plain reply ∷ []

  no_marks : (ids : List A) → flat_map marks_due (ending_of ids) ≡ []
  no_marks [] = refl
  no_marks (i ∷ ids) = no_marks ids

  syncs_seen : (ids : List A) → map item_seen (ending_of ids) ≡ map sync (map g ids) ++ reply ∷ []
  syncs_seen [] = refl
  syncs_seen (i ∷ ids) = ap (λ is. sync (g i) ∷ is) (syncs_seen ids)

  pub ending_tied : (k : Chains) (m : Sessions) (s : ℕ) (qs : List MarkedItem) (ids : List A) → qs ≡ ending_of ids → IsTied k m → IsTied k (at_number (with_items qs) m s)
  ending_tied k m s qs ids is h = at_tied k (with_items qs) m s (λ x. marks-with qs x ∙ ap (λ ms. marks_of x ++ ms) (ap (flat_map marks_due) is ∙ no_marks ids) ∙ append-nil (marks_of x)) (λ x. keeps_so x (with_items qs x) refl refl) h

  pub ending_seen : (schema : Schema) (m : Sessions) (s : ℕ) (x : MarkedSession) (qs : List MarkedItem) (ids : List A) → get m s ≡ Some x → qs ≡ ending_of ids → map g ids ≡ ids_asked (seen x) → all_seen (at_number (with_items qs) m s) ≡ at_number (ended_in schema reply) (all_seen m) s
  ending_seen schema m s x qs ids there is asks =
      let ks : List Watch = asked (served_by schema) (seen x) in
      let items : map item_seen qs ≡ map (λ k. sync k.id) ks ++ reply ∷ [] =
      ap (map item_seen) is ∙ syncs_seen ids ∙ ap (λ ds. map sync ds ++ reply ∷ []) (asks ∙ sym (asked_ids schema (seen x)))
      ∙ ap (λ is. is ++ reply ∷ []) (map-map (λ (k : Watch). k.id) sync ks) in
      ap all_seen (at_open (with_items qs) m s x there) ∙ seen-insert m s (with_items qs x)
      ∙ ap (insert (all_seen m) s) (seen-with qs x ∙ ap (λ is. push is (seen x)) items)
      ∙ sym (at_open (ended_in schema reply) (all_seen m) s (seen x) (get-seen m s ∙ ap (option_map seen) there))
