-- A client's pictures, found by their ids.
use Rattle.std.proofs.Common.{◌≡◌, ℕ, Bool, true, false, cond, List, [], ◌∷◌, ◌++◌, map, Some, None, refl, sym, ◌∙◌, ap, is_some, true≢false}
use Rattle.std.specs.Prelude.{bytes_eq, option_map, option_and_then, option_to_list, find}
use Rattle.std.specs.Cmp.Lexicographic.{nat_list_eq_equiv}
use Rattle.std.proofs.lemmas.Slice.Eq.{bytes_eq-Decides}
use Rattle.serde_json.specs.Data.{Data}
use Rattle.odb_cond.specs.Filter.{Filter}
use Rattle.odb_law.proofs.HeadlineRuns.{client_from-append, client_from-one, sent_follow}
use Rattle.odb_law.proofs.SessionInvariant.{IsKept, IsSound, IsThere, seen, texts, with_new}
use Rattle.odb_law.proofs.TakingPictures.{item_heard}
use Rattle.odb_law.specs.Client.{client, client_from, is_id_of}
use Rattle.odb_law.specs.Headline.{AllSent, pictured}
use Rattle.odb_service.specs.Service.{Service}
use Rattle.odb_service.specs.Session.{Item, Monitor, Out, Revision, at_first, gives, has_id, leaves}
use Rattle.odb_monitor.proofs.Lists.{bytes_eq-itself}
use Rattle.odb_monitor.proofs.Views.{some_is}
use Rattle.odb_monitor.specs.Names.{AreDistinct, IsApart}
use Rattle.odb_monitor.specs.View.{query}
use Rattle.odb_request.specs.Request.{Request}
use Rattle.odb_tables.specs.Database.{Db}
use Rattle.odb_service.proofs.Each.{Each}

pub find_map : {A B : Type 0} (g : A → B) (p : B → Bool) (xs : List A) → find p (map g xs) ≡ option_map g (find (λ x. p (g x)) xs)
find_map g p [] = refl
find_map g p (x ∷ xs) = elim (p (g x)) as (λ b. cond b (Some (g x)) (find p (map g xs)) ≡ option_map g (cond b (Some x) (find (λ y. p (g y)) xs))) [ true ↦ refl | false ↦ find_map g p xs ]

pub found_passes : {A : Type 0} (p : A → Bool) (xs : List A) (y : A) → find p xs ≡ Some y → p y ≡ true
found_passes p [] y e = absurd (true≢false (sym (ap is_some e)))
found_passes p (x ∷ xs) y e =
    elim (p x) as (λ b. p x ≡ b → cond b (Some x) (find p xs) ≡ Some y → p y ≡ true) [
      | true ↦ λ is e. ap p (sym (some_is x y e)) ∙ is
      | false ↦ λ _ e. found_passes p xs y e
    ] refl e

-- the element that was changed is found at its place
pub found_changed : {A : Type 0} (p : A → Bool) (f : A → A) → ((x : A) → p x ≡ true → p (f x) ≡ true) → (xs : List A) (y : A) → find p xs ≡ Some y → find p (at_first p f xs) ≡ Some (f y)
found_changed p f stays [] y e = absurd (true≢false (sym (ap is_some e)))
found_changed p f stays (x ∷ xs) y e =
    elim (p x) as (λ b. p x ≡ b → cond b (Some x) (find p xs) ≡ Some y → find p (cond b (f x ∷ xs) (x ∷ at_first p f xs)) ≡ Some (f y)) [
      | true ↦ λ is e. ap (λ b. cond b (Some (f x)) (find p xs)) (stays x is) ∙ ap (λ z. Some (f z)) (some_is x y e)
      | false ↦ λ isnt e. ap (λ b. cond b (Some x) (find p (at_first p f xs))) isnt ∙ found_changed p f stays xs y e
    ] refl e

module _ (h : Service) where
  -- two ids that print alike find the same
  pub same_found : (i j : Data) (ms : List Monitor) (m : Monitor) → find (has_id h i) ms ≡ Some m → has_id h j m ≡ true → find (has_id h j) ms ≡ Some m
  same_found i j ms m e same =
      let a : h.printed i ≡ h.printed m.watch.id = (bytes_eq-Decides (h.printed i) (h.printed m.watch.id)).0 (found_passes (has_id h i) ms m e) in
      let b : h.printed j ≡ h.printed m.watch.id = (bytes_eq-Decides (h.printed j) (h.printed m.watch.id)).0 same in
      ap (λ t. find (λ (k : Monitor). bytes_eq t (h.printed k.watch.id)) ms) (b ∙ sym a) ∙ e

  -- an id that is apart from all isn't that of one that was changed
  apart_changed : (t : List ℕ) (old new : Data) (fs : List (List ℕ × Filter)) (ms : List Monitor) (m : Monitor) → find (has_id h old) ms ≡ Some m
      → IsApart t (texts h (map (λ m. m.watch) (at_first (has_id h old) (with_new h new fs) ms))) → bytes_eq t (h.printed new) ≡ false
  apart_changed t old new fs [] m e a = absurd (true≢false (sym (ap is_some e)))
  apart_changed t old new fs (k ∷ ms) m e a =
      elim (has_id h old k) as (λ b. cond b (Some k) (find (has_id h old) ms) ≡ Some m → IsApart t (texts h (map (λ m. m.watch) (cond b (with_new h new fs k ∷ ms) (k ∷ at_first (has_id h old) (with_new h new fs) ms)))) → bytes_eq t (h.printed new) ≡ false) [
        | true ↦ λ _ a. a.0
        | false ↦ λ e a. apart_changed t old new fs ms m e a.1
      ] e a

  -- a monitor is found by its new id, where ids are then distinct
  pub new_found : (old new : Data) (fs : List (List ℕ × Filter)) (ms : List Monitor) (m : Monitor) → find (has_id h old) ms ≡ Some m
      → AreDistinct (texts h (map (λ m. m.watch) (at_first (has_id h old) (with_new h new fs) ms))) → find (has_id h new) (at_first (has_id h old) (with_new h new fs) ms) ≡ Some (with_new h new fs m)
  new_found old new fs [] m e d = absurd (true≢false (sym (ap is_some e)))
  new_found old new fs (k ∷ ms) m e d =
      elim (has_id h old k) as (λ b. cond b (Some k) (find (has_id h old) ms) ≡ Some m → AreDistinct (texts h (map (λ m. m.watch) (cond b (with_new h new fs k ∷ ms) (k ∷ at_first (has_id h old) (with_new h new fs) ms))))
      → find (has_id h new) (cond b (with_new h new fs k ∷ ms) (k ∷ at_first (has_id h old) (with_new h new fs) ms)) ≡ Some (with_new h new fs m)) [
        | true ↦ λ e d. ap (λ b. cond b (Some (with_new h new fs k)) (find (has_id h new) ms)) (bytes_eq-itself (h.printed new)) ∙ ap (λ x. Some (with_new h new fs x)) (some_is k m e)
        | false ↦ λ e d. ap (λ b. cond b (Some k) (find (has_id h new) (at_first (has_id h old) (with_new h new fs) ms))) (nat_list_eq_equiv.symm (h.printed new) (h.printed k.watch.id) ∙ apart_changed (h.printed k.watch.id) old new fs ms m e d.0) ∙ new_found old new fs ms m e d.1
      ] e d

  pub pictured_seen : (i : Data) (os : List Out) (ms : List Monitor) (m : Monitor) → client h os ≡ Some (map seen ms) → find (has_id h i) ms ≡ Some m → pictured h i os ≡ Some (seen m)
  pictured_seen i os ms m c e = ap (option_and_then (λ ps. find (is_id_of h i) ps)) c ∙ find_map seen (is_id_of h i) ms ∙ ap (option_map seen) e

  pub is_now : (db : Db) (qs : List Request) (m : Monitor) → m.view ≡ query db qs → AllSent m.watch.requests → (seen m).view ≡ Some (query db qs)
  is_now db qs m e a = ap (λ b. cond b (Some m.view) None) (sent_follow m.watch.requests a) ∙ ap Some e

  -- the pictures after one more item
  pub client_item : (revision : Revision) (i : Item) (ms : List Monitor) (os : List Out) → IsSound h i → IsThere h i (map (λ m. m.watch) ms) → Each (IsKept h) ms → client h os ≡ Some (map seen ms)
      → client h (os ++ option_to_list (gives h revision i ms)) ≡ Some (map seen (leaves h revision.db i ms))
  client_item revision i ms os s there k c =
      client_from-append h os (option_to_list (gives h revision i ms)) [] ∙ ap (option_and_then (λ qs. client_from h qs (option_to_list (gives h revision i ms)))) c
      ∙ client_from-one h (map seen ms) (gives h revision i ms) ∙ item_heard h revision i ms s there k
