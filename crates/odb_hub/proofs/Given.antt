-- Rounds of one session alone end where a message is held back for it, or where it is owed nothing.
use Rattle.std.proofs.Common.{◌≡◌, ℕ, Bool, true, false, cond, not, List, [], ◌∷◌, ◌++◌, map, Option, Some, None, Ok, is_some, refl, sym, ap, subst, ◌∙◌, true≢false}
use Rattle.std.specs.Prelude.{option_to_list}
use Rattle.std.proofs.lemmas.List.{nil_from_length}
use Rattle.std.proofs.lemmas.Option.{none-some, same_Some}
use Rattle.std.specs.BTreeSet.{BTreeSet, contains}
use Rattle.std.specs.Ordering.{nat_cmp}
use Rattle.odb_atoms.specs.FinMap.{get, insert}
use Rattle.odb_core.specs.Represented.Core.{IsQuietBut}
use Rattle.odb_hub.specs.Guarded.{Guarded}
use Rattle.odb_hub.specs.Own.{IsGiven, IsOwedNothing, TakesIf, TakesOwnRound}
use Rattle.odb_hub.specs.Rings.{IsServed, Ring, Text, is_free_at, texts_to}
use Rattle.odb_hub.proofs.Stepping.{ok_is, served_with}
use Rattle.odb_service.proofs.SessionMaps.{get-insert, key-itself}
use Rattle.odb_service.proofs.WhatIsOwed.{none_owed, takes}
use Rattle.odb_service.specs.Run.{Sent, round, sent, take_each, take_of}
use Rattle.odb_service.specs.Server.{Server, printed, serve, served_by}
use Rattle.odb_service.specs.Service.{Service}
use Rattle.odb_service.specs.Session.{Out, Session, owed, take}
use Rattle.odb_service.specs.World.{World, revision_of}

-- ---- who isn't among those that may be owed something

pub quiet_given : (among : BTreeSet ℕ) (s : ℕ) (v : Server) → IsQuietBut among v → contains nat_cmp among s ≡ false → IsOwedNothing s v
quiet_given among s v quiet out x there = none_owed (served_by v.schema) (revision_of v.world) x (ap (λ (r : Option Out × Session). r.0) (quiet s x out there))

-- ---- a round that gave nothing

abbrev Printed : Type 0
Printed = ℕ × Text

abbrev is_nil : List Printed → Bool
is_nil [] = true
is_nil (x ∷ xs) = false

none_sent : (s : ℕ) (o : Option Out) → map printed (sent s o ++ []) ≡ [] → o ≡ None
none_sent s None e = refl
none_sent s (Some o) e = absurd (true≢false (sym (ap is_nil e)))

-- what is owed after the only taking
module _ (h : Service) where
  left : (s : ℕ) (w : World) (o : Option Session) → get w.sessions s ≡ o → map printed ((take_of h s o w).1 ++ []) ≡ []
      → (x : Session) → get (take_of h s o w).0.sessions s ≡ Some x → owed h (revision_of (take_of h s o w).0) x ≡ []
  left s w None there none x found = absurd (none-some x (sym there ∙ found))
  left s w (Some y) there none x found =
      let r : Option Out × Session = take h (revision_of w) y in
      let nothing : r.0 ≡ None = none_sent s r.0 none in
      let put : get (insert w.sessions s r.1) s ≡ Some r.1 = get-insert w.sessions s r.1 s ∙ ap (λ b. cond b (Some r.1) (get w.sessions s)) (key-itself s) in
      let same : r.1 ≡ x = same_Some r.1 x (sym put ∙ found) in
      let first : owed h (revision_of w) y ≡ owed h (revision_of w) r.1 = (takes h (revision_of w) y).owes ∙ ap (λ (p : Option Out). option_to_list p ++ owed h (revision_of w) r.1) nothing in
      ap (owed h (revision_of w)) (sym same) ∙ sym first ∙ none_owed h (revision_of w) y nothing

emptied : (s : ℕ) (v w : Server) → serve (round (s ∷ [])) v ≡ Ok (w, []) → IsOwedNothing s w
emptied s v w went =
    let h : Service = served_by v.schema in
    let t : World × List Sent = take_each h (s ∷ []) v.world in
    let given : Server × List Printed = served_with (round (s ∷ [])) v t in
    let is : given ≡ (w, []) = ok_is given (w, []) went in
    subst (IsOwedNothing s) (ap (λ (p : Server × List Printed). p.0) is) (left h s v.world (get v.world.sessions s) refl (ap (λ (p : Server × List Printed). p.1) is))

not_free : (o p : Option Ring) (outs : List Text) → IsServed false outs o p → is_free_at p ≡ false
not_free None p outs k = ap is_free_at k.2
not_free (Some a) p outs k = ap is_free_at k.3 ∙ ap (λ (t : Option Text). not (is_some t)) k.4.2 ∙ ap not k.0

pub gave_nothing : (s : ℕ) (old new : Guarded) → TakesOwnRound s 0 old new → IsGiven s new
gave_nothing s old new t = by t.0 t.2 t.4
  where
    none : t.1 ≡ []
    none = nil_from_length t.1 (sym t.3)

    by : (listed : Bool) → TakesIf listed (round (s ∷ [])) old new t.1 → IsServed listed (texts_to s t.1) (get old.rings s) (get new.rings s) → IsGiven s new
    by true taken served free = emptied s old.server new.server (subst (λ os. serve (round (s ∷ [])) old.server ≡ Ok (new.server, os)) none taken.0)
    by false same served free = absurd (true≢false (sym free ∙ not_free (get old.rings s) (get new.rings s) (texts_to s t.1) served))
