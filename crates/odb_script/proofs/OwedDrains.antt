-- To drain the sessions of a list is to drain those of them that may be owed something, found by their numbers.
use Rattle.std.proofs.Common.{◌≡◌, ℕ, Bool, true, false, cond, ◌||◌, T, List, [], ◌∷◌, map, filter, Option, Some, None, refl, sym, ap, subst, ◌∙◌, true≢false}
use Rattle.std.specs.declared.cmp.Ordering.{Ordering}
use Rattle.std.specs.declared.cmp.Ordering.TheVariants.{Less, Equal, Greater}
use Rattle.std.specs.BTreeSet.{BTreeSet, contains}
use Rattle.std.specs.Cmp.{nat_cmp_total, tied_back}
use Rattle.std.specs.FinMap.Entries.{below_all, is_sorted}
use Rattle.std.specs.List.{AllByRecursion, list_any}
use Rattle.std.specs.List.Sorted.{IsStrictlySortedBy}
use Rattle.std.specs.Ordering.{eq_by_cmp, is_eq, nat_cmp, ordering_reverse}
use Rattle.odb_atoms.proofs.Rising.{before_all, both, find-below, first, is_less, less, second, turned}
use Rattle.odb_atoms.specs.FinMap.{get, insert}
use Rattle.odb_service.specs.Server.{Server, served_by}
use Rattle.odb_service.specs.Session.{Session, drained}
use Rattle.odb_service.proofs.SessionMaps.{get-insert, same_key}
use Rattle.odb_core.specs.Represented.Core.{IsQuietBut}
use Rattle.odb_core.proofs.WorldPosts.{reinserted}
use Rattle.odb_script.specs.Script.{ScriptSession}
use Rattle.odb_script.specs.Represented.Draining.{all_drained, drain_if, drain_session, drained_session, found_drained, numbered, numbered_drained}
use Rattle.odb_script.specs.Represented.Names.{AreInOrder, by_number}
use Rattle.odb_script.proofs.DrainOne.{ends}

abbrev Printed : Type 0
Printed = Server × List ℕ

-- ---- a session that isn't owed anything

module _ (owed : BTreeSet ℕ) where
  not_drained : (name : List ℕ) (q : ℕ) (s : Server) (t : List ℕ) → IsQuietBut owed s → contains nat_cmp owed q ≡ false → drained_session name q (s, t) ≡ (s, t)
  not_drained name q s t quiet out = by (get s.world.sessions q) refl
    where
      by : (o : Option Session) → get s.world.sessions q ≡ o → drained_session name q (s, t) ≡ (s, t)
      by None absent = ap (λ o. drain_if name q o (s, t)) absent
      by (Some x) there =
          let nothing = quiet q x out there in
          ends name q s t x there (ap (λ (r : _ × Session). r.0) nothing)
          ∙ ap (λ (y : Session). let r : Printed = (record s { world = record (s.world) { sessions = insert s.world.sessions q y } }, t) in r) (ap (λ (r : _ × Session). r.1) nothing)
          ∙ ap (λ m. let r : Printed = (record s { world = record (s.world) { sessions = m } }, t) in r) (reinserted s.world.sessions q x there)

  still_quiet : (name : List ℕ) (n : ℕ) (s : Server) (t : List ℕ) → contains nat_cmp owed n ≡ true → IsQuietBut owed s → (o : Option Session) → IsQuietBut owed (drain_if name n o (s, t)).0
  still_quiet name n s t is_in quiet None = quiet
  still_quiet name n s t is_in quiet (Some y) = λ q x out there.
      quiet q x out (sym (get-insert s.world.sessions n (drained (served_by s.schema) s.world.db y) q ∙ ap (λ c. cond c (Some (drained (served_by s.schema) s.world.db y)) (get s.world.sessions q)) (apart q out (eq_by_cmp nat_cmp q n) refl)) ∙ there)
    where
      apart : (q : ℕ) → contains nat_cmp owed q ≡ false → (b : Bool) → eq_by_cmp nat_cmp q n ≡ b → b ≡ false
      apart q out true tie = absurd (true≢false (sym is_in ∙ ap (contains nat_cmp owed) (sym (same_key q n tie)) ∙ out))
      apart q out false tie = refl

  still_after : (x : ScriptSession) (p : Printed) → contains nat_cmp owed x.session ≡ true → IsQuietBut owed p.0 → IsQuietBut owed (drain_session x p).0
  still_after x p is_in quiet = by x.held
    where
      by : (held : Bool) → IsQuietBut owed (cond held p (drained_session x.name x.session p)).0
      by true = quiet
      by false = still_quiet x.name x.session p.0 p.1 is_in quiet (get p.0.world.sessions x.session)

  passed_over : (x : ScriptSession) (p : Printed) → contains nat_cmp owed x.session ≡ false → IsQuietBut owed p.0 → drain_session x p ≡ p
  passed_over x p out quiet = by x.held
    where
      by : (held : Bool) → cond held p (drained_session x.name x.session p) ≡ p
      by true = refl
      by false = not_drained x.name x.session p.0 p.1 quiet out

  fewer_drained : (xs : List ScriptSession) (p : Printed) → IsQuietBut owed p.0 → all_drained xs p ≡ all_drained (filter (λ x. contains nat_cmp owed x.session) xs) p
  fewer_drained [] p quiet = refl
  fewer_drained (x ∷ xs) p quiet = by (λ r still. fewer_drained xs r still) (contains nat_cmp owed x.session) refl
    where
      by : ((r : Printed) → IsQuietBut owed r.0 → all_drained xs r ≡ all_drained (filter (λ y. contains nat_cmp owed y.session) xs) r) → (b : Bool) → contains nat_cmp owed x.session ≡ b
          → all_drained xs (drain_session x p) ≡ all_drained (cond b (x ∷ filter (λ y. contains nat_cmp owed y.session) xs) (filter (λ y. contains nat_cmp owed y.session) xs)) p
      by rest true is_in = rest (drain_session x p) (still_after x p is_in quiet)
      by rest false out = ap (all_drained xs) (passed_over x p out quiet) ∙ rest p quiet

-- ---- those of some numbers, found one by one

abbrev is_among : List ℕ → ScriptSession → Bool
is_among qs x = list_any (eq_by_cmp nat_cmp x.session) qs

abbrev IsBelow : ℕ → List ℕ → Type 0
IsBelow k qs = AllByRecursion (λ q. nat_cmp k q ≡ Less) qs

abbrev Rises : List ℕ → Type 0
Rises [] = Unit {0}
Rises (q ∷ qs) = IsBelow q qs × Rises qs

rises : (qs : List ℕ) → IsStrictlySortedBy nat_cmp qs → Rises qs
unfolding IsStrictlySortedBy
rises [] up = tt
rises (q ∷ qs) up = (up.0, rises qs up.1)

before_each : (a b : ℕ) → nat_cmp a b ≡ Less → (qs : List ℕ) → IsBelow b qs → IsBelow a qs
before_each a b low [] h = tt
before_each a b low (q ∷ qs) h = (nat_cmp_total.trans a b q low h.0, before_each a b low qs h.1)

not_among : (k : ℕ) (qs : List ℕ) → IsBelow k qs → list_any (eq_by_cmp nat_cmp k) qs ≡ false
not_among k [] h = refl
not_among k (q ∷ qs) h = ap (λ r. is_eq r || list_any (eq_by_cmp nat_cmp k) qs) h.0 ∙ not_among k qs h.1

untied : (a b : ℕ) → nat_cmp a b ≡ Less → eq_by_cmp nat_cmp b a ≡ false
untied a b low = ap is_eq (nat_cmp_total.antisymm b a ∙ ap ordering_reverse low)

nobody : (qs : List ℕ) (p : Printed) → found_drained qs [] p ≡ p
nobody [] p = refl
nobody (q ∷ qs) p = nobody qs p

-- a session below all of the numbers isn't found
skipped : (x : ScriptSession) (xs : List ScriptSession) (qs : List ℕ) → IsBelow x.session qs → (p : Printed) → found_drained qs (x ∷ xs) p ≡ found_drained qs xs p
skipped x xs [] h p = refl
skipped x xs (q ∷ qs) h p =
    ap (λ b. found_drained qs (x ∷ xs) (numbered_drained (cond b (Some x) (numbered q xs)) p)) (untied x.session q h.0)
    ∙ skipped x xs qs h.1 (numbered_drained (numbered q xs) p)

-- a number below all of the sessions needn't be asked for
not_asked : (q : ℕ) (qs : List ℕ) (xs : List ScriptSession) → T (below_all nat_cmp q (map by_number xs)) → filter (is_among (q ∷ qs)) xs ≡ filter (is_among qs) xs
not_asked q qs [] h = refl
not_asked q qs (x ∷ xs) h =
    let same : is_among (q ∷ qs) x ≡ is_among qs x = ap (λ b. b || is_among qs x) (untied q x.session (less _ (first _ _ h))) in
    λ i. cond (same i) (x ∷ not_asked q qs xs (second _ _ h) i) (not_asked q qs xs (second _ _ h) i)

none_asked : (xs : List ScriptSession) (p : Printed) → all_drained (filter (is_among []) xs) p ≡ p
none_asked [] p = refl
none_asked (x ∷ xs) p = none_asked xs p

found : (xs : List ScriptSession) (qs : List ℕ) → AreInOrder xs → Rises qs → (p : Printed) → all_drained (filter (is_among qs) xs) p ≡ found_drained qs xs p
found [] qs up rise p = sym (nobody qs p)
found (x ∷ xs) qs up rise p = at (λ rs rest q. found xs rs (second (below_all nat_cmp x.session (map by_number xs)) (is_sorted nat_cmp (map by_number xs)) up) rest q) qs rise p
  where
    Rest : Type 0
    Rest = (rs : List ℕ) → Rises rs → (q : Printed) → all_drained (filter (is_among rs) xs) q ≡ found_drained rs xs q

    below : T (below_all nat_cmp x.session (map by_number xs))
    below = first (below_all nat_cmp x.session (map by_number xs)) (is_sorted nat_cmp (map by_number xs)) up

    at : Rest → (qs : List ℕ) → Rises qs → (p : Printed) → all_drained (filter (is_among qs) (x ∷ xs)) p ≡ found_drained qs (x ∷ xs) p
    at rest [] rise p = none_asked (x ∷ xs) p
    at rest (q ∷ qs) rise p = by (λ r. at rest qs rise.1 r) (nat_cmp x.session q) refl
      where
        by : ((r : Printed) → all_drained (filter (is_among qs) (x ∷ xs)) r ≡ found_drained qs (x ∷ xs) r) → (r : Ordering) → nat_cmp x.session q ≡ r → all_drained (filter (is_among (q ∷ qs)) (x ∷ xs)) p ≡ found_drained (q ∷ qs) (x ∷ xs) p
        by more Less e =
            let low : IsBelow x.session (q ∷ qs) = (e, before_each x.session q e qs rise.0) in
            ap (λ b. all_drained (cond b (x ∷ filter (is_among (q ∷ qs)) xs) (filter (is_among (q ∷ qs)) xs)) p) (not_among x.session (q ∷ qs) low)
            ∙ rest (q ∷ qs) rise p
            ∙ sym (skipped x xs (q ∷ qs) low p)
        by more Equal e =
            let is : x.session ≡ q = same_key x.session q (ap is_eq e) in
            ap (λ r. all_drained (cond (is_eq r || is_among qs x) (x ∷ filter (is_among (q ∷ qs)) xs) (filter (is_among (q ∷ qs)) xs)) p) e
            ∙ ap (λ ys. all_drained ys (drain_session x p)) (not_asked q qs xs (subst (λ k. T (below_all nat_cmp k (map by_number xs))) is below))
            ∙ rest qs rise.1 (drain_session x p)
            ∙ sym (skipped x xs qs (subst (λ k. IsBelow k qs) (sym is) rise.0) (drain_session x p))
            ∙ ap (λ r. found_drained qs (x ∷ xs) (numbered_drained (cond (is_eq r) (Some x) (numbered q xs)) p)) (sym (tied_back nat_cmp_total x.session q e))
        by more Greater e =
            let low : nat_cmp q x.session ≡ Less = turned nat_cmp_total x.session q e in
            let all : T (below_all nat_cmp q (map by_number (x ∷ xs))) = both _ _ (is_less low) (before_all nat_cmp_total q x.session (map by_number xs) low below) in
            ap (λ ys. all_drained ys p) (not_asked q qs (x ∷ xs) all)
            ∙ more p
            ∙ ap (λ o. found_drained qs (x ∷ xs) (numbered_drained o p)) (sym (find-below nat_cmp_total q (map by_number (x ∷ xs)) all))

pub drained_by_number : (owed : BTreeSet ℕ) (xs : List ScriptSession) (p : Printed) → IsQuietBut owed p.0 → AreInOrder xs → IsStrictlySortedBy nat_cmp owed.keys → all_drained xs p ≡ found_drained owed.keys xs p
drained_by_number owed xs p quiet up rise = fewer_drained owed xs p quiet ∙ found xs owed.keys up (rises owed.keys rise) p
