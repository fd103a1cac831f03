-- What is so of the jobs of a round stays so as jobs come, each with its decision.
use Rattle.std.proofs.Common.{◌≡◌, ℕ, zero, suc, ◌==◌, ◌++◌, true, false, List, [], ◌∷◌, is_some, length, slice_get, slice_index_or, Bool, Option, Some, None, refl, sym, ap, subst, ◌∙◌, ◌⊎◌}
use Rattle.std.specs.Prelude.{if◌then◌else◌}
use Rattle.std.specs.Cmp.{unsigned_Decides}
use Rattle.std.specs.List.{All, AllByRecursion, AllZip}
use Rattle.std.proofs.lemmas.List.Elements.{All-push, All-from_recursion, recursion_from_All}
use Rattle.std.proofs.lemmas.Option.{none-some, same_Some}
use mathlib.Core.Logic.{inl, inr}
use Rattle.odb_chain.specs.Chains.{Chains}
use Rattle.odb_monitor.specs.Job.{Job, updates_of}
use Rattle.odb_recent.specs.Undo.{Undo}
use Rattle.odb_round.specs.Alike.{AreUnlike, IsLike, job_like}
use Rattle.odb_sessions.specs.Alike.{Likeness}
use Rattle.odb_sessions.specs.FirstTexts.{AreFirstTexts, FirstText, IsOfNow}
use Rattle.odb_round.specs.Jobs.{Decision, IsFor, Keeps, if_sent}
use Rattle.odb_round.specs.ByMarks.{contents}
use Rattle.odb_round.specs.Represented.Decided.{AreDecided, AreNoted, ArePlaced, Differs, IsAmong, IsDecided, IsPlaced, IsPlanned, IsSame, Puts, bucket_at}
use Rattle.odb_sessions.specs.Represented.Digest.{digest}
use Rattle.odb_round.specs.Represented.Served.{IsAtPlace}
use Rattle.odb_round.specs.declared.decided.Decided.{Decided}
use Rattle.odb_round.proofs.Served.{at_later}
use Rattle.odb_round.proofs.Places.{added_at, keeps_added, none_for, some_for, still_for}

-- ---- lists with one element more

all_but_last : {X : Type 0} (P : X → Type 0) (xs : List X) (y : X) → All P (xs ++ y ∷ []) → All P xs
all_but_last {X = X} P xs y h = All-from_recursion P xs (by xs (recursion_from_All P (xs ++ y ∷ []) h))
  where
    by : (xs : List X) → AllByRecursion P (xs ++ y ∷ []) → AllByRecursion P xs
    by [] h = tt
    by (x ∷ xs) h = (h.0, by xs h.1)

the_last : {X : Type 0} (P : X → Type 0) (xs : List X) (y : X) → All P (xs ++ y ∷ []) → P y
the_last {X = X} P xs y h = by xs (recursion_from_All P (xs ++ y ∷ []) h)
  where
    by : (xs : List X) → AllByRecursion P (xs ++ y ∷ []) → P y
    by [] h = h.0
    by (x ∷ xs) h = by xs h.1

-- what stands in it stood there, or is the last
old_or_last : {X : Type 0} (xs : List X) (y : X) (n : ℕ) (x : X) → slice_get (xs ++ y ∷ []) n ≡ Some x → (slice_get xs n ≡ Some x) ⊎ ((n ≡ length xs) × (y ≡ x))
old_or_last [] y zero x at = inr (refl, same_Some y x at)
old_or_last [] y (suc n) x at = absurd (none-some x at)
old_or_last (z ∷ xs) y zero x at = inl at
old_or_last (z ∷ xs) y (suc n) x at = elim (old_or_last xs y n x at) [ inl old ↦ inl old | inr last ↦ inr (ap suc last.0, last.1) ]

-- as many, each related to the one at its place
zipped_more : {X Y : Type 0} (R : X → Y → Type 0) (xs : List X) (ys : List Y) (x : X) (y : Y) → AllZip R xs ys → R x y → AllZip R (xs ++ x ∷ []) (ys ++ y ∷ [])
zipped_more R [] [] x y h r = (r, tt)
zipped_more R [] (b ∷ ys) x y h r = absurd h
zipped_more R (a ∷ xs) [] x y h r = absurd h
zipped_more R (a ∷ xs) (b ∷ ys) x y h r = (h.0, zipped_more R xs ys x y h.1 r)

pub zipped_length : {X Y : Type 0} (R : X → Y → Type 0) (xs : List X) (ys : List Y) → AllZip R xs ys → length xs ≡ length ys
zipped_length R [] [] h = refl
zipped_length R [] (b ∷ ys) h = absurd h
zipped_length R (a ∷ xs) [] h = absurd h
zipped_length R (a ∷ xs) (b ∷ ys) h = ap suc (zipped_length R xs ys h.1)

-- ---- what was decided

still : (k : Chains) (us : List Undo) (a b : List Job) (ds : List Decision) → Keeps a b → All (IsDecided k us a) ds → All (IsDecided k us b) ds
still k us a b ds kept was i d low = still_for a b (if_sent (job_like (contents k) us k.db (slice_index_or ds i d).likeness)) (slice_index_or ds i d).place kept (was i d low)

still_placed : (a b : List Likeness) (ds : List Decision) → Keeps a b → All (IsPlaced a) ds → All (IsPlaced b) ds
still_placed a b ds kept was i d low = at_later a b (slice_index_or ds i d).likeness (slice_index_or ds i d).place kept (was i d low)

-- one decision more, of which the same is so as of those that were there
put_in : (P : Decision → Type 0) (old new : Decided) (d : Decision) → Puts old new d → ((n : ℕ) → All P (bucket_at old n)) → P d → (n : ℕ) → All P (bucket_at new n)
put_in P old new d puts was own n = subst (All P) (sym (puts n)) (by (n == digest d.likeness))
  where
    by : (b : Bool) → All P (if b then bucket_at old n ++ d ∷ [] else bucket_at old n)
    by true = All-push P (bucket_at old n) d (was n) own
    by false = was n

-- what differs from all differs from those that were there
differed : (old new : Decided) (d : Decision) (l : Likeness) (n : ℕ) → Puts old new d → All (Differs l) (bucket_at new n) → All (Differs l) (bucket_at old n)
differed old new d l n puts h = by (n == digest d.likeness) (subst (All (Differs l)) (puts n) h)
  where
    by : (b : Bool) → All (Differs l) (if b then bucket_at old n ++ d ∷ [] else bucket_at old n) → All (Differs l) (bucket_at old n)
    by true h = all_but_last (Differs l) (bucket_at old n) d h
    by false h = h

still_noted : (ls : List Likeness) (old new : Decided) (d : Decision) → Puts old new d → AreNoted ls old → AreNoted ls new
still_noted ls old new d puts noted n l at h = noted n l at (differed old new d l (digest l) puts h)

same_number : (n : ℕ) → (n == n) ≡ true
same_number n = (unsigned_Decides n n).1 refl

-- the decision that was put in is found
noted_now : (old new : Decided) (d : Decision) → Puts old new d → All (Differs d.likeness) (bucket_at new (digest d.likeness)) → ⊥
noted_now old new d puts h =
    let n = digest d.likeness in
    let is : bucket_at new n ≡ bucket_at old n ++ d ∷ [] = puts n ∙ ap (λ b. if b then bucket_at old n ++ d ∷ [] else bucket_at old n) (same_number n) in
    the_last (Differs d.likeness) (bucket_at old n) d (subst (All (Differs d.likeness)) is h) refl

-- what was decided serves what is alike
pub found : (k : Chains) (us : List Undo) (js : List Job) (d : Decided) (n : ℕ) (x : Decision) → AreDecided k us js d → IsAmong (bucket_at d n) x → IsFor js (if_sent (job_like (contents k) us k.db x.likeness)) x.place
found k us js d n x decided (i, low, at) = subst (IsDecided k us js) (sym at) (decided n i x low)

pub placed : (ls : List Likeness) (d : Decided) (n : ℕ) (x : Decision) → ArePlaced ls d → IsAmong (bucket_at d n) x → IsAtPlace ls x.likeness x.place
placed ls d n x all (i, low, at) = subst (IsPlaced ls) (sym at) (all n i x low)

-- ---- rounds

-- nothing is wanted yet
pub none_planned : (k : Chains) (us : List Undo) (fs : List FirstText) (d : Decided) → AreFirstTexts k.db fs → ((n : ℕ) → bucket_at d n ≡ []) → IsPlanned k us fs [] [] d
none_planned k us fs d firsts none = (
  λ n. subst (All (IsDecided k us [])) (sym (none n)) (All-from_recursion (IsDecided k us []) [] tt),
  firsts,
  All-from_recursion (IsOfNow k.db) [] tt,
  λ n l at. absurd (none-some l at),
  λ m n l at. absurd (none-some l at),
  tt,
  λ n. subst (All (IsPlaced [])) (sym (none n)) (All-from_recursion (IsPlaced []) [] tt),
)

-- nothing changed
pub same_planned : (k : Chains) (us : List Undo) (fs : List FirstText) (a b : List Job) (ls ms : List Likeness) (d e : Decided) → b ≡ a → ms ≡ ls → IsSame d e → IsPlanned k us fs a ls d → IsPlanned k us fs b ms e
same_planned k us fs a b ls ms d e jobs likes same p =
    subst (λ (js : List Job). IsPlanned k us fs js ms e) (sym jobs) (subst (λ (ls : List Likeness). IsPlanned k us fs a ls e) (sym likes) (
      λ n. subst (All (IsDecided k us a)) (sym (same n)) (p.0 n),
      p.1,
      p.2,
      λ n l at h. p.3 n l at (subst (All (Differs l)) (same (digest l)) h),
      p.4,
      p.5,
      λ n. subst (All (IsPlaced ls)) (sym (same n)) (p.6 n),
    ))

-- nothing is sent of this
pub silent_planned : (k : Chains) (us : List Undo) (fs : List FirstText) (js : List Job) (ls : List Likeness) (d e : Decided) (l : Likeness) → is_some (updates_of (job_like (contents k) us k.db l)) ≡ false
    → Puts d e (record { likeness = l; place = None }) → IsPlanned k us fs js ls d → IsPlanned k us fs js ls e
silent_planned k us fs js ls d e l none puts p = (
  put_in (IsDecided k us js) d e (record { likeness = l; place = None }) puts p.0 (none_for js (job_like (contents k) us k.db l) none),
  p.1,
  p.2,
  still_noted ls d e (record { likeness = l; place = None }) puts p.3,
  p.4,
  p.5,
  put_in (IsPlaced ls) d e (record { likeness = l; place = None }) puts p.6 tt,
)

-- what stood there is unlike what is found nowhere
apart : (ls : List Likeness) (d : Decided) (l : Likeness) → AreNoted ls d → All (Differs l) (bucket_at d (digest l)) → (n : ℕ) (m : Likeness) → slice_get ls n ≡ Some m → l ≡ m → ⊥
apart ls d l noted fresh n m at same = noted n m at (subst (λ (m : Likeness). All (Differs m) (bucket_at d (digest m))) same fresh)

more_noted : (ls : List Likeness) (d e : Decided) (l : Likeness) (place : Option ℕ) → Puts d e (record { likeness = l; place = place }) → AreNoted ls d → AreNoted (ls ++ l ∷ []) e
more_noted ls d e l place puts noted n m at h = elim (old_or_last ls l n m at) [
  | inl old ↦ noted n m old (differed d e (record { likeness = l; place = place }) m (digest m) puts h)
  | inr last ↦ noted_now d e (record { likeness = l; place = place }) puts (subst (λ (m : Likeness). All (Differs m) (bucket_at e (digest m))) (sym last.1) h)
]

more_unlike : (ls : List Likeness) (d : Decided) (l : Likeness) → AreNoted ls d → All (Differs l) (bucket_at d (digest l)) → AreUnlike ls → AreUnlike (ls ++ l ∷ [])
more_unlike ls d l noted fresh unlike a b m one other = elim (old_or_last ls l a m one) [
  | inl old ↦ elim (old_or_last ls l b m other) [
    | inl too ↦ unlike a b m old too
    | inr last ↦ absurd (apart ls d l noted fresh a m old last.1)
  ]
  | inr last ↦ elim (old_or_last ls l b m other) [
    | inl too ↦ absurd (apart ls d l noted fresh b m too last.1)
    | inr end ↦ last.0 ∙ sym end.0
  ]
]

-- a job that nobody was like
pub more_planned : (k : Chains) (us : List Undo) (fs : List FirstText) (js : List Job) (ls : List Likeness) (d e : Decided) (l : Likeness) (j : Job)
    → IsLike (contents k) us k.db j l → IsOfNow k.db j → is_some (updates_of j) ≡ true → All (Differs l) (bucket_at d (digest l)) → Puts d e (record { likeness = l; place = Some (length js) })
    → IsPlanned k us fs js ls d → IsPlanned k us fs (js ++ j ∷ []) (ls ++ l ∷ []) e
more_planned k us fs js ls d e l j is now sent fresh puts p =
    let x : Decision = record { likeness = l; place = Some (length js) } in
    let all : List Job = js ++ j ∷ [] in
    let more : List Likeness = ls ++ l ∷ [] in
    let own : IsDecided k us all x = subst (λ (i : Job). IsFor all (if_sent i) (Some (length js))) is.0 (some_for all j (length js) (added_at js all j (length js) refl refl) sent) in (
      put_in (IsDecided k us all) d e x puts (λ n. still k us js all (bucket_at d n) (keeps_added js all j refl) (p.0 n)) own,
      p.1,
      All-push (IsOfNow k.db) js j p.2 now,
      more_noted ls d e l (Some (length js)) puts p.3,
      more_unlike ls d l p.3 fresh p.4,
      zipped_more (IsLike (contents k) us k.db) js ls j l p.5 is,
      put_in (IsPlaced more) d e x puts (λ n. still_placed ls more (bucket_at d n) (keeps_added ls more l refl) (p.6 n)) (added_at ls more l (length js) refl (zipped_length (IsLike (contents k) us k.db) js ls p.5)),
    )
