-- The sessions of a slab and the index of their numbers: what is found there, what a change makes of the map that they stand for, and that they still belong together.
use Rattle.std.proofs.Common.{◌≡◌, ◌≢◌, ℕ, Bool, true, false, cond, List, [], ◌∷◌, IsSome, Option, Some, None, option_and_then, refl, sym, ap, subst, ◌∙◌, inl, inr, true≢false}
use Rattle.std.proofs.lemmas.Bool.{cases_eq}
use Rattle.std.proofs.lemmas.Option.{none-some, same_Some}
use Rattle.std.specs.BTreeMap.{BTreeMap, UpdatesBy}
use Rattle.std.specs.Cmp.{nat_cmp_total}
use Rattle.std.specs.FinMap.{nat_cmp-IsAntisymmetric}
use Rattle.std.specs.Ordering.{eq_by_cmp, nat_cmp}
use Rattle.slab.specs.Slab.{Slab, Updates, get, with_value}
use Rattle.slab.proofs.SlabLemmas.{Updates-with_value}
use Rattle.odb_atoms.specs.FinMap as finite
use Rattle.odb_atoms.proofs.FinMaps.{get-map_entries}
use Rattle.odb_sessions.specs.Marked.{MarkedSession, Sessions}
use Rattle.odb_sessions.specs.Represented.Keyed.{Agree, IsKeyed, key_of, session_under, sessions_under}
use Rattle.odb_service.proofs.SessionMaps.{get-empty, get-insert, get-remove, key-itself, same_key, same_map}

get-from_entries : (es : List (ℕ × ℕ)) (q : ℕ) → finite.get (finite.from_entries {R = nat_cmp} es) q ≡ key_of es q
get-from_entries [] q = get-empty q
get-from_entries (e ∷ es) q = get-insert (finite.from_entries es) e.0 e.1 q ∙ ap (cond (eq_by_cmp nat_cmp q e.0) (Some e.1)) (get-from_entries es q)

pub get-under : (index : List (ℕ × ℕ)) (slots : List (Option MarkedSession)) (q : ℕ) → finite.get (sessions_under index slots) q ≡ option_and_then (session_under slots) (key_of index q)
get-under index slots q =
    get-map_entries nat_cmp_total nat_cmp-IsAntisymmetric (λ number key. session_under slots key) (finite.from_entries index) q
    ∙ ap (option_and_then (session_under slots)) (get-from_entries index q)

-- where the number has this key, what lies under it is what the number has
pub get-at : (index : List (ℕ × ℕ)) (slots : List (Option MarkedSession)) (q k : ℕ) → key_of index q ≡ Some k → finite.get (sessions_under index slots) q ≡ session_under slots k
get-at index slots q k at = get-under index slots q ∙ ap (option_and_then (session_under slots)) at

pub get-nowhere : (index : List (ℕ × ℕ)) (slots : List (Option MarkedSession)) (q : ℕ) → key_of index q ≡ None → finite.get (sessions_under index slots) q ≡ None
get-nowhere index slots q none = get-under index slots q ∙ ap (option_and_then (session_under slots)) none

pub none_under : (index : List (ℕ × ℕ)) (slots : List (Option MarkedSession)) → index ≡ [] → sessions_under index slots ≡ finite.empty
none_under index slots none = same_map _ _ (λ q. get-nowhere index slots q (ap (λ es. key_of es q) none) ∙ sym (get-empty q))

pub apart_at : (s q : ℕ) → q ≢ s → eq_by_cmp nat_cmp s q ≡ false
apart_at s q differs = by (eq_by_cmp nat_cmp s q) refl
  where
    by : (b : Bool) → eq_by_cmp nat_cmp s q ≡ b → eq_by_cmp nat_cmp s q ≡ false
    by true is = absurd (differs (sym (same_key s q is)))
    by false is = is

module _ (m : Sessions) (s : ℕ) where
  get-inserted : (x : MarkedSession) (q : ℕ) → q ≡ s → finite.get (finite.insert m s x) q ≡ Some x
  get-inserted x q same = get-insert m s x q ∙ ap (λ b. cond b (Some x) (finite.get m q)) (ap (λ t. eq_by_cmp nat_cmp t s) same ∙ key-itself s)

  get-beside : (x : MarkedSession) (q : ℕ) → q ≢ s → finite.get (finite.insert m s x) q ≡ finite.get m q
  get-beside x q differs = get-insert m s x q ∙ ap (λ b. cond b (Some x) (finite.get m q)) (apart_at q s (λ e. differs (sym e)))

  get-removed : (q : ℕ) → q ≡ s → finite.get (finite.remove m s) q ≡ None
  get-removed q same = get-remove m s q ∙ ap (λ b. cond b None (finite.get m q)) (ap (λ t. eq_by_cmp nat_cmp t s) same ∙ key-itself s)

  get-left : (q : ℕ) → q ≢ s → finite.get (finite.remove m s) q ≡ finite.get m q
  get-left q differs = get-remove m s q ∙ ap (λ b. cond b None (finite.get m q)) (apart_at q s (λ e. differs (sym e)))

-- ---- what the map becomes

module _ (index changed : List (ℕ × ℕ)) (slots new : List (Option MarkedSession)) (s k : ℕ) (elsewhere : (q : ℕ) → q ≢ s → key_of changed q ≡ key_of index q) (others : (j : ℕ) → j ≢ k → session_under new j ≡ session_under slots j) (used : (q j : ℕ) → q ≢ s → key_of index q ≡ Some j → j ≢ k) where
  stays : (q : ℕ) → q ≢ s → finite.get (sessions_under changed new) q ≡ finite.get (sessions_under index slots) q
  stays q differs = get-under changed new q ∙ ap (option_and_then (session_under new)) (elsewhere q differs) ∙ by (key_of index q) refl ∙ sym (get-under index slots q)
    where
      by : (o : Option ℕ) → key_of index q ≡ o → option_and_then (session_under new) o ≡ option_and_then (session_under slots) o
      by None at = refl
      by (Some j) at = others j (used q j differs at)

  pub put_in : (x : MarkedSession) → key_of changed s ≡ Some k → session_under new k ≡ Some x → sessions_under changed new ≡ finite.insert (sessions_under index slots) s x
  put_in x here lies =
      same_map _ _
      (λ q. elim (cases_eq q s) [
        | inl same ↦ ap (finite.get (sessions_under changed new)) same ∙ get-at changed new s k here ∙ lies ∙ sym (get-inserted (sessions_under index slots) s x q same)
        | inr differs ↦ stays q differs ∙ sym (get-beside (sessions_under index slots) s x q differs)
      ])

  pub taken_out : key_of changed s ≡ None → sessions_under changed new ≡ finite.remove (sessions_under index slots) s
  taken_out none =
      same_map _ _
      (λ q. elim (cases_eq q s) [
        | inl same ↦ ap (finite.get (sessions_under changed new)) same ∙ get-nowhere changed new s none ∙ sym (get-removed (sessions_under index slots) s q same)
        | inr differs ↦ stays q differs ∙ sym (get-left (sessions_under index slots) s q differs)
      ])

-- what no number has may be taken out
pub nothing_removed : (m : Sessions) (s : ℕ) → finite.get m s ≡ None → m ≡ finite.remove m s
nothing_removed m s none =
    same_map _ _
    (λ q. elim (cases_eq q s) [
      | inl same ↦ ap (finite.get m) same ∙ none ∙ sym (get-removed m s q same)
      | inr differs ↦ sym (get-left m s q differs)
    ])

-- ---- that they belong together

nothing : (o : Option MarkedSession) → o ≡ None → IsSome o → ⊥
nothing o none is = true≢false (sym (subst IsSome none is))

-- a number with no session has no key
pub without_key : (index : List (ℕ × ℕ)) (slots : List (Option MarkedSession)) (s : ℕ) → IsKeyed index slots → finite.get (sessions_under index slots) s ≡ None → key_of index s ≡ None
without_key index slots s h shut = by (key_of index s) refl
  where
    by : (o : Option ℕ) → key_of index s ≡ o → key_of index s ≡ None
    by None is = is
    by (Some k) is = absurd (nothing (session_under slots k) (sym (get-at index slots s k is) ∙ shut) (h.0 s k is))

module _ (key_at : ℕ → Option ℕ) (lies new : ℕ → Option MarkedSession) (s k : ℕ) (others : (j : ℕ) → j ≢ k → new j ≡ lies j) where
  agree_written : key_at s ≡ Some k → IsSome (new k) → Agree key_at lies → Agree key_at new
  agree_written there has h = (
    λ q j at. elim (cases_eq j k) [
      | inl same ↦ subst (λ i. IsSome (new i)) (sym same) has
      | inr differs ↦ subst IsSome (sym (others j differs)) (h.0 q j at)
    ],
    h.1,
    λ j is. elim (cases_eq j k) [
      | inl same ↦ (s, there ∙ ap Some (sym same))
      | inr differs ↦ h.2 j (subst IsSome (others j differs) is)
    ],
  )

  module _ (changed : ℕ → Option ℕ) (elsewhere : (q : ℕ) → q ≢ s → changed q ≡ key_at q) where
    agree_inserted : key_at s ≡ None → lies k ≡ None → changed s ≡ Some k → IsSome (new k) → Agree key_at lies → Agree changed new
    agree_inserted shut vacant here has h = (
      λ q j at. elim (cases_eq q s) [
        | inl same ↦ subst (λ i. IsSome (new i)) (sym (its_key q j same at)) has
        | inr differs ↦ subst IsSome (sym (others j (other_key q j (was q j differs at)))) (h.0 q j (was q j differs at))
      ],
      λ q r j p t. elim (cases_eq q s) [
        | inl same ↦ elim (cases_eq r s) [
          | inl alike ↦ same ∙ sym alike
          | inr differs ↦ absurd (other_key r j (was r j differs t) (its_key q j same p))
        ]
        | inr apart ↦ elim (cases_eq r s) [
          | inl alike ↦ absurd (other_key q j (was q j apart p) (its_key r j alike t))
          | inr differs ↦ h.1 q r j (was q j apart p) (was r j differs t)
        ]
      ],
      λ j is. elim (cases_eq j k) [
        | inl same ↦ (s, here ∙ ap Some (sym same))
        | inr differs ↦
            let found : (q : ℕ) × (key_at q ≡ Some j) = h.2 j (subst IsSome (others j differs) is) in
            (found.0, elsewhere found.0 (λ e. none-some j (sym shut ∙ ap key_at (sym e) ∙ found.1)) ∙ found.1)
      ],
    )
      where
        was : (q j : ℕ) → q ≢ s → changed q ≡ Some j → key_at q ≡ Some j
        was q j differs at = sym (elsewhere q differs) ∙ at

        its_key : (q j : ℕ) → q ≡ s → changed q ≡ Some j → j ≡ k
        its_key q j same at = same_Some j k (sym at ∙ ap changed same ∙ here)

        other_key : (q j : ℕ) → key_at q ≡ Some j → j ≢ k
        other_key q j at e = nothing (lies j) (ap lies e ∙ vacant) (h.0 q j at)

    agree_removed : key_at s ≡ Some k → new k ≡ None → changed s ≡ None → Agree key_at lies → Agree changed new
    agree_removed there gone here h = (
      λ q j at. subst IsSome (sym (others j (λ e. out q j at (h.1 q s k (was q j at ∙ ap Some e) there)))) (h.0 q j (was q j at)),
      λ q r j p t. h.1 q r j (was q j p) (was r j t),
      λ j is.
          let differs : j ≢ k = λ e. nothing (new j) (ap new e ∙ gone) is in
          let found : (q : ℕ) × (key_at q ≡ Some j) = h.2 j (subst IsSome (others j differs) is) in
          (found.0, elsewhere found.0 (λ e. differs (same_Some j k (sym found.1 ∙ ap key_at e ∙ there))) ∙ found.1),
    )
      where
        out : (q j : ℕ) → changed q ≡ Some j → q ≢ s
        out q j at e = none-some j (sym here ∙ ap changed (sym e) ∙ at)

        was : (q j : ℕ) → changed q ≡ Some j → key_at q ≡ Some j
        was q j at = sym (elsewhere q (out q j at)) ∙ at

-- ---- both at once, where the index and the slab change

module _ (old new : BTreeMap ℕ ℕ) (s : ℕ) (o : Option ℕ) (changed : UpdatesBy nat_cmp (nat_cmp s) old new o) where
  elsewhere : (q : ℕ) → q ≢ s → key_of new.entries q ≡ key_of old.entries q
  elsewhere q differs = changed.2 q (apart_at s q differs)

module _ (index : List (ℕ × ℕ)) (slab : Slab MarkedSession) (s k : ℕ) (x : MarkedSession) (there : key_of index s ≡ Some k) (h : IsKeyed index slab.slots) where
  written : Updates slab (with_value slab k x) k (Some x)
  written = Updates-with_value slab k x (h.0 s k there)

  pub view_written : sessions_under index (with_value slab k x).slots ≡ finite.insert (sessions_under index slab.slots) s x
  view_written =
      put_in index index slab.slots (with_value slab k x).slots s k (λ q differs. refl) written.others
      (λ q j differs at e. differs (h.1 q s k (at ∙ ap Some e) there)) x there written.changed

  pub keyed_written : IsKeyed index (with_value slab k x).slots
  keyed_written = agree_written (key_of index) (session_under slab.slots) (session_under (with_value slab k x).slots) s k written.others there (subst IsSome (sym written.changed) refl) h

module _ (old new : BTreeMap ℕ ℕ) (slab reserved after : Slab MarkedSession) (s k : ℕ) (x : MarkedSession) (kept : reserved.slots ≡ slab.slots) (shut : key_of old.entries s ≡ None) (vacant : get reserved k ≡ None) (changed : UpdatesBy nat_cmp (nat_cmp s) old new (Some k)) (put : Updates reserved after k (Some x)) (h : IsKeyed old.entries slab.slots) where
  others_put : (j : ℕ) → j ≢ k → session_under after.slots j ≡ session_under slab.slots j
  others_put j differs = put.others j differs ∙ ap (λ ss. session_under ss j) kept

  vacant_before : session_under slab.slots k ≡ None
  vacant_before = ap (λ ss. session_under ss k) (sym kept) ∙ vacant

  pub view_inserted : sessions_under new.entries after.slots ≡ finite.insert (sessions_under old.entries slab.slots) s x
  view_inserted =
      put_in old.entries new.entries slab.slots after.slots s k (elsewhere old new s (Some k) changed) others_put
      (λ q j differs at e. nothing (session_under slab.slots j) (ap (session_under slab.slots) e ∙ vacant_before) (h.0 q j at)) x changed.1 put.changed

  pub keyed_inserted : IsKeyed new.entries after.slots
  keyed_inserted =
      agree_inserted (key_of old.entries) (session_under slab.slots) (session_under after.slots) s k others_put (key_of new.entries) (elsewhere old new s (Some k) changed)
      shut vacant_before changed.1 (subst IsSome (sym put.changed) refl) h

module _ (old new : BTreeMap ℕ ℕ) (slab after : Slab MarkedSession) (s k : ℕ) (there : key_of old.entries s ≡ Some k) (changed : UpdatesBy nat_cmp (nat_cmp s) old new None) (taken : Updates slab after k None) (h : IsKeyed old.entries slab.slots) where
  pub view_removed : sessions_under new.entries after.slots ≡ finite.remove (sessions_under old.entries slab.slots) s
  view_removed =
      taken_out old.entries new.entries slab.slots after.slots s k (elsewhere old new s None changed) taken.others
      (λ q j differs at e. differs (h.1 q s k (at ∙ ap Some e) there)) changed.1

  pub keyed_removed : IsKeyed new.entries after.slots
  keyed_removed =
      agree_removed (key_of old.entries) (session_under slab.slots) (session_under after.slots) s k taken.others (key_of new.entries) (elsewhere old new s None changed)
      there taken.changed changed.1 h
