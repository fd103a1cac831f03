-- By what two lists of entries differ that lie in parts, where all keys of the first parts are less than those of the second.
use Rattle.std.specs.Prelude.{◌≡◌, ℕ, zero, suc, ◌<◌, true, false, T, List, [], ◌∷◌, ◌++◌, drop, get_or, length, map, take}
use Rattle.std.proofs.Common.{arith}
use mathlib.Core.Path.{refl, sym, ap, subst, ◌∙◌}
use mathlib.Core.Bool.{true≢false}
use Rattle.std.proofs.lemmas.List.{append_assoc, take-append-drop}
use Rattle.std.specs.declared.cmp.Ordering.TheVariants.{Less, Equal, Greater}
use Rattle.std.specs.FinMap.Entries.{below_all}
use Rattle.std.specs.Cmp.{alike_right}
use Rattle.std.specs.Ordering.{is_lt, ordering_reverse}
use Rattle.odb_atoms.specs.Atom.{Atom, atom_cmp}
use Rattle.odb_atoms.specs.Represented.AtomOrder.{atom_cmp_total}
use Rattle.odb_atoms.specs.Represented.Entry.{AreApart, AreBefore, AreFrom, Entry, IsFrom, IsRising, alike, merged}
use Rattle.odb_atoms.proofs.Chunks.{map-append, rising_back, rising_front}
use Rattle.odb_atoms.proofs.Merges.{merged-alike, merged-different, merged-greater, merged-less, merged-nothing}
use Rattle.odb_atoms.proofs.Rising.{both, first, is_less, less, second}

apart_tail : (x : Entry) (xs ys : List Entry) → AreApart (x ∷ xs) ys → AreApart xs ys
apart_tail x xs [] h = tt
apart_tail x xs (y ∷ ys) h = second _ _ h

nothing : (xs : List Entry) → merged xs [] ≡ xs
nothing = merged-nothing

back : (x y : Atom) → atom_cmp x y ≡ Less → atom_cmp y x ≡ Greater
back x y p = atom_cmp_total.antisymm y x ∙ ap ordering_reverse p

-- where the second list has nothing among the first part
alone_first : (xs more ys : List Entry) → AreApart xs ys → merged (xs ++ more) ys ≡ xs ++ merged more ys
alone_first xs more [] h = nothing (xs ++ more) ∙ ap (λ zs. xs ++ zs) (sym (nothing more))
alone_first [] more (y ∷ ys) h = refl
alone_first (x ∷ xs) more (y ∷ ys) h = merged-less x (xs ++ more) y ys (less _ (first _ _ h)) ∙ ap (λ zs. x ∷ zs) (alone_first xs more (y ∷ ys) (second _ _ h))

-- where the first list has nothing among the second's first part
alone_second : (xs ys others : List Entry) → AreApart ys xs → merged xs (ys ++ others) ≡ ys ++ merged xs others
alone_second [] ys others h = refl
alone_second (x ∷ xs) [] others h = refl
alone_second (x ∷ xs) (y ∷ ys) others h = merged-greater x xs y (ys ++ others) (back y.0 x.0 (less _ (first _ _ h))) ∙ ap (λ zs. y ∷ zs) (alone_second (x ∷ xs) ys others (second _ _ h))

pub merged-parted : (xs more ys others : List Entry) → AreApart xs others → AreApart ys more → merged (xs ++ more) (ys ++ others) ≡ merged xs ys ++ merged more others
merged-parted [] more ys others h k = alone_second more ys others k
merged-parted (x ∷ xs) more [] others h k = alone_first (x ∷ xs) more others h
merged-parted (x ∷ xs) more (y ∷ ys) others h k =
    elim (atom_cmp x.0 y.0) as (λ r. atom_cmp x.0 y.0 ≡ r → merged (x ∷ xs ++ more) (y ∷ ys ++ others) ≡ merged (x ∷ xs) (y ∷ ys) ++ merged more others) [
      | Less ↦ λ e.
          merged-less x (xs ++ more) y (ys ++ others) e
          ∙ ap (λ zs. x ∷ zs) (merged-parted xs more (y ∷ ys) others (apart_tail x xs others h) k)
          ∙ ap (λ zs. zs ++ merged more others) (sym (merged-less x xs y ys e))
      | Equal ↦ λ e.
          let rest = merged-parted xs more ys others (apart_tail x xs others h) (apart_tail y ys more k) in
          (elim (alike x.1 y.1) as (λ a. alike x.1 y.1 ≡ a → merged (x ∷ xs ++ more) (y ∷ ys ++ others) ≡ merged (x ∷ xs) (y ∷ ys) ++ merged more others) [
            | true ↦ λ a. merged-alike x (xs ++ more) y (ys ++ others) e a ∙ rest ∙ ap (λ zs. zs ++ merged more others) (sym (merged-alike x xs y ys e a))
            | false ↦ λ a. merged-different x (xs ++ more) y (ys ++ others) e a ∙ ap (λ zs. y ∷ zs) rest ∙ ap (λ zs. zs ++ merged more others) (sym (merged-different x xs y ys e a))
          ] refl)
      | Greater ↦ λ e.
          merged-greater x (xs ++ more) y (ys ++ others) e
          ∙ ap (λ zs. y ∷ zs) (merged-parted (x ∷ xs) more ys others h (apart_tail y ys more k))
          ∙ ap (λ zs. zs ++ merged more others) (sym (merged-greater x xs y ys e))
    ] refl

-- ---- which parts are apart

-- what is before a key is before what isn't less than that
before_from : (x k y : Atom) → atom_cmp x k ≡ Less → is_lt (atom_cmp y k) ≡ false → atom_cmp x y ≡ Less
before_from x k y before from =
    elim (atom_cmp y k) as (λ r. atom_cmp y k ≡ r → atom_cmp x y ≡ Less) [
      | Less ↦ λ e. absurd (true≢false (sym (ap is_lt e) ∙ from))
      | Equal ↦ λ e. alike_right atom_cmp_total y k x e ∙ before
      | Greater ↦ λ e. atom_cmp_total.trans x k y before (atom_cmp_total.antisymm k y ∙ ap ordering_reverse e)
    ] refl

all_before_from : (xs : List Entry) (k y : Atom) → AreBefore xs k → is_lt (atom_cmp y k) ≡ false → AreBefore xs y
all_before_from [] k y before from = tt
all_before_from (x ∷ xs) k y before from = both _ _ (is_less (before_from x.0 k y (less _ (first _ _ before)) from)) (all_before_from xs k y (second _ _ before) from)

-- a part is apart from what begins no sooner than what it is apart from
pub apart_from : (xs more rest : List Entry) → AreApart xs more → AreFrom rest more → AreApart xs rest
apart_from xs more [] apart from = tt
apart_from xs [] (y ∷ rest) apart from = absurd from
apart_from xs (m ∷ more) (y ∷ rest) apart from = all_before_from xs m.0 y.0 apart from

-- the parts of a rising list are apart
pub apart_rising : (xs ys : List Entry) → IsRising (xs ++ ys) → AreApart xs ys
apart_rising xs [] up = tt
apart_rising [] (y ∷ ys) up = tt
apart_rising (x ∷ xs) (y ∷ ys) up = both _ _ (is_less (below_in xs (first _ _ up))) (apart_rising xs (y ∷ ys) (second _ _ up))
  where
    below_in : (xs : List Entry) → T (below_all atom_cmp x.0 (xs ++ y ∷ ys)) → atom_cmp x.0 y.0 ≡ Less
    below_in [] below = less _ (first _ _ below)
    below_in (l ∷ xs) below = below_in xs (second _ _ below)

-- ---- a pass over the entries before a key

module _ {X : Type 0} (f : X → Entry) (k : Atom) where
  pub from_at : (xs : List X) (i : ℕ) (x : X) → i < length xs → x ≡ get_or xs i x → is_lt (atom_cmp (f x).0 k) ≡ false → IsFrom (drop i (map f xs)) k
  from_at [] i x low is from = absurd (omega arith)
  from_at (y ∷ xs) zero x low is from = subst (λ z. is_lt (atom_cmp (f z).0 k) ≡ false) is from
  from_at (y ∷ xs) (suc i) x low is from = from_at xs i x (omega arith) is from

  pub before_next : (xs : List X) (i : ℕ) (x : X) → i < length xs → x ≡ get_or xs i x → is_lt (atom_cmp (f x).0 k) ≡ true → AreBefore (take i (map f xs)) k → AreBefore (take (suc i) (map f xs)) k
  before_next [] i x low is at before = absurd (omega arith)
  before_next (y ∷ xs) zero x low is at before = both _ _ (subst T (sym (ap (λ z. is_lt (atom_cmp (f z).0 k)) (sym is) ∙ at)) tt) tt
  before_next (y ∷ xs) (suc i) x low is at before = both _ _ (first _ _ before) (before_next xs i x (omega arith) is at (second _ _ before))

-- ---- one chunk after the other

map-take : {X : Type 0} (f : X → Entry) (n : ℕ) (xs : List X) → map f (take n xs) ≡ take n (map f xs)
map-take f zero xs = refl
map-take f (suc n) [] = refl
map-take f (suc n) (x ∷ xs) = ap (λ zs. f x ∷ zs) (map-take f n xs)

map-drop : {X : Type 0} (f : X → Entry) (n : ℕ) (xs : List X) → map f (drop n xs) ≡ drop n (map f xs)
map-drop f zero xs = refl
map-drop f (suc n) [] = refl
map-drop f (suc n) (x ∷ xs) = map-drop f n xs

module _ {X : Type 0} (f : X → Entry) (n : ℕ) (few run rest : List X) (is_run : run ≡ take n few) (is_rest : rest ≡ drop n few) where
  few_are : map f few ≡ map f run ++ map f rest
  few_are = ap (map f) (sym (take-append-drop n few)) ∙ map-append f (take n few) (drop n few) ∙ (λ i. map f (sym is_run i) ++ map f (sym is_rest i))

  pub run_rises : IsRising (map f few) → IsRising (map f run)
  run_rises up = rising_front (map f run) (map f rest) (subst IsRising few_are up)

  pub rest_rises : IsRising (map f few) → IsRising (map f rest)
  rest_rises up = rising_back (map f run) (map f rest) (subst IsRising few_are up)

  pub next_chunk : (before after done : List Entry) (whole chunk more : List X) → whole ≡ chunk ++ more → IsRising (map f whole) → AreApart (take n (map f few)) (map f more) → AreFrom (drop n (map f few)) (map f more) → after ≡ before ++ merged (map f chunk) (map f run) → before ++ merged (map f whole) (map f few) ≡ done → after ++ merged (map f more) (map f rest) ≡ done
  next_chunk before after done whole chunk more is up apart from put was =
      let all : map f whole ≡ map f chunk ++ map f more = ap (map f) is ∙ map-append f chunk more in
      let run_apart : AreApart (map f run) (map f more) = subst (λ xs. AreApart xs (map f more)) (sym (ap (map f) is_run ∙ map-take f n few)) apart in
      let rest_from : AreFrom (map f rest) (map f more) = subst (λ xs. AreFrom xs (map f more)) (sym (ap (map f) is_rest ∙ map-drop f n few)) from in
      let chunk_apart : AreApart (map f chunk) (map f rest) = apart_from (map f chunk) (map f more) (map f rest) (apart_rising (map f chunk) (map f more) (subst IsRising all up)) rest_from in
      let parts = merged-parted (map f chunk) (map f more) (map f run) (map f rest) chunk_apart run_apart in
      ap (λ zs. zs ++ merged (map f more) (map f rest)) put
      ∙ append_assoc before (merged (map f chunk) (map f run)) (merged (map f more) (map f rest))
      ∙ ap (λ zs. before ++ zs) (sym parts ∙ (λ i. merged (sym all i) (sym few_are i)))
      ∙ was
