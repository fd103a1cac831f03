-- What is owed is what rounds give, one after another, until there is none.
use Rattle.std.proofs.Common.{◌≡◌, ℕ, true, false, cond, List, [], ◌∷◌, ◌++◌, map, Option, Some, None, refl, sym, ◌∙◌, ap, subst, ◌==◌, ◌+◌, ◌≤◌, zero, suc, length, Ok, append_assoc, append-nil, arith}
use Rattle.std.specs.Prelude.{option_to_list, replicate}
use borrow.Author.Tests.{eq-eqb}
use Rattle.odb_atoms.specs.FinMap.{get, insert}
use Rattle.odb_law.proofs.HeadlineRuns.{sent_to-append}
use Rattle.odb_service.proofs.SessionMaps.{get-insert}
use Rattle.odb_law.specs.Law.{OwedIsTaken, RoundsTake, after_taking}
use Rattle.odb_service.specs.Run.{Sent, State, if_ok, next, once, round, run, sent, sent_to, take_each, take_of}
use Rattle.odb_service.specs.Service.{Service}
use Rattle.odb_service.specs.Session.{Out, Revision, Session, owed, take}
use Rattle.odb_service.specs.World.{World, revision_of}
use Rattle.odb_service.proofs.SessionMaps.{session-itself}
use Rattle.odb_service.proofs.SessionMaps.{eq_turned}
use Rattle.odb_service.proofs.WhatIsOwed.{none_owed, takes}

module _ (h : Service) where
  -- ---- rounds

  pub given_one : (f : List Out) (s t : ℕ) (o : Option Out) → f ++ sent_to t (sent s o ++ []) ≡ cond (t == s) (f ++ option_to_list o) f
  given_one f s t None = append-nil f ∙ elim (t == s) as (λ b. f ≡ cond b (f ++ []) f) [ true ↦ sym (append-nil f) | false ↦ refl ]
  given_one f s t (Some o) =
      ap (λ b. f ++ cond b (o ∷ []) []) (eq_turned s t)
      ∙ elim (t == s) as (λ b. f ++ cond b (o ∷ []) [] ≡ cond b (f ++ o ∷ []) f) [ true ↦ refl | false ↦ append-nil f ]

  abbrev of_turn : State → ℕ → World × List Sent → State
  of_turn st s r = record { world = r.0; given = λ t. st.given t ++ sent_to t (r.1 ++ []); requests = st.requests }

  pub one_taken : (st : State) (s : ℕ) (x : Session) → get st.world.sessions s ≡ Some x → next h (round (s ∷ [])) st ≡ Ok (after_taking h s x st)
  one_taken st s x found =
      ap (λ o. Ok (of_turn st s (take_of h s o st.world))) found
      ∙ (λ i. Ok (record {
        world = record (st.world) { sessions = insert st.world.sessions s (take h (revision_of st.world) x).1 };
        given = λ t. given_one (st.given t) s t (take h (revision_of st.world) x).0 i;
        requests = st.requests;
      }))

  none_taken : (st : State) (s : ℕ) → get st.world.sessions s ≡ None → next h (round (s ∷ [])) st ≡ Ok st
  none_taken st s found = ap (λ o. Ok (of_turn st s (take_of h s o st.world))) found ∙ (λ i. Ok (record { world = st.world; given = λ t. append-nil (st.given t) i; requests = st.requests }))

  abbrev of_turns : State → World × List Sent → State
  of_turns st r = record { world = r.0; given = λ t. st.given t ++ sent_to t r.1; requests = st.requests }

  given_next : (f : List Out) (t : ℕ) (xs ys : List Sent) → (f ++ sent_to t (xs ++ [])) ++ sent_to t ys ≡ f ++ sent_to t (xs ++ ys)
  given_next f t xs ys = ap (λ zs. (f ++ sent_to t zs) ++ sent_to t ys) (append-nil xs) ∙ append_assoc f (sent_to t xs) (sent_to t ys) ∙ ap (λ os. f ++ os) (sym (sent_to-append t xs ys))

  many_taken : (ss : List ℕ) (st : State) → Ok (of_turns st (take_each h ss st.world)) ≡ run h (map (λ s. round (s ∷ [])) ss) st
  many_taken [] st = λ i. Ok (record { world = st.world; given = λ t. append-nil (st.given t) i; requests = st.requests })
  many_taken (s ∷ ss) st =
      let one : World × List Sent = take_of h s (get st.world.sessions s) st.world in
      (λ i. Ok (record { world = (take_each h ss one.0).0; given = λ t. sym (given_next (st.given t) t one.1 (take_each h ss one.0).1) i; requests = st.requests }))
      ∙ many_taken ss (of_turn st s one)

  pub rounds_take : RoundsTake h
  rounds_take = record { one = one_taken; closed = none_taken; many = λ st ss. many_taken (once ss) st }

  -- ---- as many rounds as there is owed

  abbrev Dries : State → ℕ → Session → ℕ → Type 0
  Dries st s x n =
      (now : State) × (run h (replicate n (round (s ∷ []))) st ≡ Ok now) × (now.given s ≡ st.given s ++ owed h (revision_of st.world) x) × (now.world.db ≡ st.world.db)

  is_empty_list : (os : List Out) → length os ≤ 0 → os ≡ []
  is_empty_list [] l = refl
  is_empty_list (o ∷ os) l = absurd (omega (arith, l))

  shorter : (revision : Revision) (x : Session) (n : ℕ) (o : Option Out) → (take h revision x).0 ≡ o → length (option_to_list o ++ owed h revision (take h revision x).1) ≤ suc n → length (owed h revision (take h revision x).1) ≤ n
  shorter revision x n None e l =
      let none : owed h revision (take h revision x).1 ≡ [] = ap (λ o. option_to_list o ++ owed h revision (take h revision x).1) (sym e) ∙ sym (takes h revision x).owes ∙ none_owed h revision x e in
      subst (λ (os : List Out). length os ≤ n) (sym none) (omega arith)
  shorter revision x n (Some o) e l = omega (arith, l)

  dries : (n : ℕ) (st : State) (s : ℕ) (x : Session) → get st.world.sessions s ≡ Some x → length (owed h (revision_of st.world) x) ≤ n → Dries st s x n
  dries zero st s x found l = (st, refl, sym (ap (λ os. st.given s ++ os) (is_empty_list (owed h (revision_of st.world) x) l) ∙ append-nil (st.given s)), refl)
  dries (suc n) st s x found l =
      let revision : Revision = revision_of st.world in
      let st1 : State = after_taking h s x st in
      let found1 : get st1.world.sessions s ≡ Some (take h revision x).1 = get-insert st.world.sessions s (take h revision x).1 s ∙ ap (λ b. cond b (Some (take h revision x).1) (get st.world.sessions s)) (session-itself s) in
      let rest : Dries st1 s (take h revision x).1 n = dries n st1 s (take h revision x).1 found1 (shorter revision x n (take h revision x).0 refl (subst (λ os. length os ≤ suc n) (takes h revision x).owes l)) in (
        rest.0,
        ap (if_ok (run h (replicate n (round (s ∷ []))))) (one_taken st s x found) ∙ rest.1,
        rest.2 ∙ ap (λ b. cond b (st.given s ++ option_to_list (take h revision x).0) (st.given s) ++ owed h revision (take h revision x).1) (eq-eqb s s refl)
            ∙ append_assoc (st.given s) (option_to_list (take h revision x).0) (owed h revision (take h revision x).1) ∙ ap (λ os. st.given s ++ os) (sym (takes h revision x).owes),
        rest.3,
      )

  at_least : (n more : ℕ) → n ≤ n + more
  at_least n more = omega arith

  pub owed_is_taken : OwedIsTaken h
  owed_is_taken st s x found more = dries (length (owed h (revision_of st.world) x) + more) st s x found (at_least (length (owed h (revision_of st.world) x)) more)
