-- The sessions of a slab in the order of their numbers: they are the entries of the map that they stand for.
use Rattle.std.proofs.Common.{◌≡◌, ℕ, suc, Bool, true, false, cond, ◌&&◌, T, List, [], ◌∷◌, ◌++◌, flat_map, length, IsSome, Option, Some, None, option_and_then, refl, sym, ap, subst, ◌∙◌, true≢false}
use Rattle.std.proofs.lemmas.Option.{none-some}
use Rattle.std.specs.declared.cmp.Ordering.TheVariants.{Less}
use Rattle.std.specs.Cmp.{nat_cmp_total}
use Rattle.std.specs.FinMap.{nat_cmp-IsAntisymmetric}
use Rattle.std.specs.FinMap.Entries.{below_all, find, is_sorted, same_entries}
use Rattle.std.specs.List.{AllByRecursion}
use Rattle.std.specs.List.Sorted.{IsStrictlySortedBy}
use Rattle.std.specs.Map.{keys_of}
use Rattle.std.specs.Ordering.{eq_by_cmp, is_lt, nat_cmp}
use Rattle.odb_atoms.specs.FinMap as finite
use Rattle.odb_atoms.proofs.Rising.{find-below}
use Rattle.odb_chain.specs.Chains.{Mark}
use Rattle.odb_sessions.specs.Marked.{MarkedSession, marks_of}
use Rattle.odb_sessions.specs.Represented.Keyed.{key_of, session_under, sessions_under}
use Rattle.odb_sessions.specs.Tied.{entry_marks}
use Rattle.odb_sessions.proofs.Keyed.{get-under}
use Rattle.odb_service.proofs.SessionMaps.{key-itself, same_key}

-- ---- the index is in order

both : (a b : Bool) → T a → T b → T (a && b)
both true b p q = q
both false b p q = p

apart : (a b : Bool) → T (a && b) → T a × T b
apart true b h = (tt, h)
apart false b h = absurd h

below : (x : ℕ) (es : List (ℕ × ℕ)) → AllByRecursion (λ y. nat_cmp x y ≡ Less) (keys_of es) → T (below_all nat_cmp x es)
below x [] h = tt
below x (e ∷ es) h = both _ _ (subst (λ r. T (is_lt r)) (sym h.0) tt) (below x es h.1)

sorted : (es : List (ℕ × ℕ)) → IsStrictlySortedBy nat_cmp (keys_of es) → T (is_sorted nat_cmp es)
unfolding IsStrictlySortedBy
sorted [] h = tt
sorted (e ∷ es) h = both _ _ (below e.0 es h.0) (sorted es h.1)

find-is : (q : ℕ) (es : List (ℕ × ℕ)) → find nat_cmp q es ≡ key_of es q
find-is q [] = refl
find-is q (e ∷ es) = ap (cond (eq_by_cmp nat_cmp q e.0) (Some e.1)) (find-is q es)

-- ---- the sessions in the order of the index

-- with this session in front, if there is one
abbrev pub onto : Option MarkedSession → ℕ → List (ℕ × MarkedSession) → List (ℕ × MarkedSession)
onto None n es = es
onto (Some x) n es = (n, x) ∷ es

-- the marks of a session, if there is one
abbrev pub marks_there : Option MarkedSession → List Mark
marks_there None = []
marks_there (Some x) = marks_of x

module _ (slots : List (Option MarkedSession)) where
  -- what lies under each key of the index, with its number
  abbrev pub filled : List (ℕ × ℕ) → List (ℕ × MarkedSession)
  filled [] = []
  filled (e ∷ es) = onto (session_under slots e.1) e.0 (filled es)

  below-filled : (x : ℕ) (es : List (ℕ × ℕ)) → T (below_all nat_cmp x es) → T (below_all nat_cmp x (filled es))
  below-filled x [] h = tt
  below-filled x (e ∷ es) h =
      let parts : T (is_lt (nat_cmp x e.0)) × T (below_all nat_cmp x es) = apart (is_lt (nat_cmp x e.0)) (below_all nat_cmp x es) h in
      by (session_under slots e.1) parts.0 (below-filled x es parts.1)
    where
      by : (o : Option MarkedSession) → T (is_lt (nat_cmp x e.0)) → T (below_all nat_cmp x (filled es)) → T (below_all nat_cmp x (onto o e.0 (filled es)))
      by None p q = q
      by (Some y) p q = both _ _ p q

  sorted-filled : (es : List (ℕ × ℕ)) → T (is_sorted nat_cmp es) → T (is_sorted nat_cmp (filled es))
  sorted-filled [] h = tt
  sorted-filled (e ∷ es) h =
      let parts : T (below_all nat_cmp e.0 es) × T (is_sorted nat_cmp es) = apart (below_all nat_cmp e.0 es) (is_sorted nat_cmp es) h in
      by (session_under slots e.1) (below-filled e.0 es parts.0) (sorted-filled es parts.1)
    where
      by : (o : Option MarkedSession) → T (below_all nat_cmp e.0 (filled es)) → T (is_sorted nat_cmp (filled es)) → T (is_sorted nat_cmp (onto o e.0 (filled es)))
      by None p q = q
      by (Some y) p q = both _ _ p q

  find-filled : (q : ℕ) (es : List (ℕ × ℕ)) → T (is_sorted nat_cmp es) → find nat_cmp q (filled es) ≡ option_and_then (session_under slots) (find nat_cmp q es)
  find-filled q [] h = refl
  find-filled q (e ∷ es) h =
      let parts : T (below_all nat_cmp e.0 es) × T (is_sorted nat_cmp es) = apart (below_all nat_cmp e.0 es) (is_sorted nat_cmp es) h in
      by (session_under slots e.1) refl (eq_by_cmp nat_cmp q e.0) refl (find-filled q es parts.1) (find-below nat_cmp_total e.0 es parts.0)
    where
      by : (o : Option MarkedSession) → session_under slots e.1 ≡ o → (b : Bool) → eq_by_cmp nat_cmp q e.0 ≡ b → find nat_cmp q (filled es) ≡ option_and_then (session_under slots) (find nat_cmp q es) → find nat_cmp e.0 es ≡ None
          → find nat_cmp q (onto o e.0 (filled es)) ≡ option_and_then (session_under slots) (cond b (Some e.1) (find nat_cmp q es))
      by None lies true is ih none = ih ∙ ap (option_and_then (session_under slots)) (ap (λ k. find nat_cmp k es) (same_key q e.0 is) ∙ none) ∙ sym lies
      by None lies false is ih none = ih
      by (Some x) lies true is ih none = ap (λ b. cond b (Some x) (find nat_cmp q (filled es))) is ∙ sym lies
      by (Some x) lies false is ih none = ap (λ b. cond b (Some x) (find nat_cmp q (filled es))) is ∙ ih

  length-filled : (es : List (ℕ × ℕ)) → T (is_sorted nat_cmp es) → ((q k : ℕ) → find nat_cmp q es ≡ Some k → IsSome (session_under slots k)) → length (filled es) ≡ length es
  length-filled [] h lie = refl
  length-filled (e ∷ es) h lie =
      let parts : T (below_all nat_cmp e.0 es) × T (is_sorted nat_cmp es) = apart (below_all nat_cmp e.0 es) (is_sorted nat_cmp es) h in
      by (session_under slots e.1) (lie e.0 e.1 (ap (λ b. cond b (Some e.1) (find nat_cmp e.0 es)) (key-itself e.0)))
      (length-filled es parts.1 (λ q k at. lie q k (later q k at (find-below nat_cmp_total e.0 es parts.0) (eq_by_cmp nat_cmp q e.0) refl)))
    where
      by : (o : Option MarkedSession) → IsSome o → length (filled es) ≡ length es → length (onto o e.0 (filled es)) ≡ suc (length es)
      by None is ih = absurd (true≢false (sym is))
      by (Some x) is ih = ap suc ih

      later : (q k : ℕ) → find nat_cmp q es ≡ Some k → find nat_cmp e.0 es ≡ None → (b : Bool) → eq_by_cmp nat_cmp q e.0 ≡ b → cond (eq_by_cmp nat_cmp q e.0) (Some e.1) (find nat_cmp q es) ≡ Some k
      later q k at none true is = absurd (none-some k (sym none ∙ ap (λ n. find nat_cmp n es) (sym (same_key q e.0 is)) ∙ at))
      later q k at none false is = ap (λ b. cond b (Some e.1) (find nat_cmp q es)) is ∙ at

  -- the marks of what lies under an entry's key
  abbrev pub marks_under : ℕ × ℕ → List Mark
  marks_under e = marks_there (session_under slots e.1)

  pub marks-filled : (es : List (ℕ × ℕ)) → flat_map marks_under es ≡ flat_map entry_marks (filled es)
  marks-filled [] = refl
  marks-filled (e ∷ es) = ap (λ ms. marks_under e ++ ms) (marks-filled es) ∙ by (session_under slots e.1)
    where
      by : (o : Option MarkedSession) → marks_there o ++ flat_map entry_marks (filled es) ≡ flat_map entry_marks (onto o e.0 (filled es))
      by None = refl
      by (Some x) = refl

module _ (index : List (ℕ × ℕ)) (slots : List (Option MarkedSession)) (h : IsStrictlySortedBy nat_cmp (keys_of index)) where
  pub entries-under : (sessions_under index slots).entries ≡ filled slots index
  unfolding finite.get
  entries-under =
      same_entries nat_cmp nat_cmp_total nat_cmp-IsAntisymmetric (sessions_under index slots).entries (filled slots index) (sessions_under index slots).sorted (sorted-filled slots index (sorted index h))
      (λ q. get-under index slots q ∙ ap (option_and_then (session_under slots)) (sym (find-is q index)) ∙ sym (find-filled slots q index (sorted index h)))

  pub len-under : ((q k : ℕ) → key_of index q ≡ Some k → IsSome (session_under slots k)) → finite.len (sessions_under index slots) ≡ length index
  unfolding finite.len
  len-under lie = ap length entries-under ∙ length-filled slots index (sorted index h) (λ q k at. lie q k (sym (find-is q index) ∙ at))
