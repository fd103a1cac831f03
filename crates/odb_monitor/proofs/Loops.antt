-- Lists that a loop makes, one round longer.
use Rattle.std.proofs.Common.{◌≡◌, ℕ, ◌+◌, ◌++◌, ◌<◌, Bool, true, false, ◌||◌, List, [], ◌∷◌, Option, Some, None, filter_map, option_to_list, get_or, length, map, take, refl, sym, ap, ◌∙◌}
use Rattle.std.proofs.lemmas.List.{map-append}
use Rattle.std.specs.List.{cons_option, list_any}
use Rattle.odb_print.proofs.Loops.{one_more}

-- a list of the same, as far as the loop went
pub mapped_more : {A B X Y : Type 0} (f : A → B) (g : Y → B) (h : X → Y) (xs : List X) (i : ℕ) (x : X) (old new : List A) (a : A) → i < length xs → x ≡ get_or xs i x
    → new ≡ old ++ a ∷ [] → f a ≡ g (h x) → map f old ≡ map g (map h (take i xs)) → map f new ≡ map g (map h (take (i + 1) xs))
mapped_more f g h xs i x old new a inside at more same is =
    ap (map f) more ∙ map-append f old (a ∷ []) ∙ (λ k. is k ++ same k ∷ []) ∙ sym (map-append g (map h (take i xs)) (h x ∷ [])) ∙ ap (map g) (sym (map-append h (take i xs) (x ∷ []))) ∙ ap (λ ys. map g (map h ys)) (sym (one_more xs i x inside at))

pub any_more : {X : Type 0} (p : X → Bool) (xs ys : List X) → list_any p (xs ++ ys) ≡ (list_any p xs || list_any p ys)
any_more p [] ys = refl
any_more p (x ∷ xs) ys = by (p x) (any_more p xs ys)
  where
    by : (b : Bool) → list_any p (xs ++ ys) ≡ (list_any p xs || list_any p ys) → (b || list_any p (xs ++ ys)) ≡ ((b || list_any p xs) || list_any p ys)
    by true rest = refl
    by false rest = rest

one_kept : {X Y : Type 0} (g : X → Option Y) (xs : List X) (y : X) → filter_map g (xs ++ y ∷ []) ≡ filter_map g xs ++ option_to_list (g y)
one_kept {Y = Y} g [] y = by (g y)
  where
    by : (o : Option Y) → cons_option o [] ≡ option_to_list o
    by None = refl
    by (Some c) = refl
one_kept {Y = Y} g (x ∷ xs) y = by (g x) (filter_map g xs) (one_kept g xs y)
  where
    by : (o : Option Y) (cs : List Y) {ds : List Y} → ds ≡ cs ++ option_to_list (g y) → cons_option o ds ≡ cons_option o cs ++ option_to_list (g y)
    by None cs h = h
    by (Some c) cs h = ap (λ zs. c ∷ zs) h

-- what was kept, and one more
pub kept_more : {X Y Z : Type 0} (g : Y → Option Z) (h : X → Y) (xs : List X) (i : ℕ) (x : X) (old new : List Z) → i < length xs → x ≡ get_or xs i x
    → old ≡ filter_map g (map h (take i xs)) → new ≡ old ++ option_to_list (g (h x)) → new ≡ filter_map g (map h (take (i + 1) xs))
kept_more g h xs i x old new inside at is more =
    more ∙ ap (λ zs. zs ++ option_to_list (g (h x))) is ∙ sym (one_kept g (map h (take i xs)) (h x))
    ∙ ap (filter_map g) (sym (ap (map h) (one_more xs i x inside at) ∙ map-append h (take i xs) (x ∷ [])))

pub any_mapped : {X Y : Type 0} (p : Y → Bool) (f : X → Y) (xs : List X) → list_any (λ x. p (f x)) xs ≡ list_any p (map f xs)
any_mapped p f [] = refl
any_mapped p f (x ∷ xs) = ap (λ b. p (f x) || b) (any_mapped p f xs)
