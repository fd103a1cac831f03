-- The first line of a text, and the rest.
use Rattle.std.proofs.Common.{◌≡◌, ◌<◌, ◌-◌, ◌==◌, ◌&&◌, nat_lt, ℕ, suc, Bool, true, false, cond, List, [], ◌∷◌, length, take, None, Some, IfSome, refl, ap, sym, ◌∙◌, arith, slice_index}
use Rattle.std.specs.declared.option.Option.{Option}
use Rattle.std.specs.Io.BufRead.{take_through, drop_through, strip_last, DropsThrough}
use Rattle.odb_script.specs.Script.{lines_of, joined}

abbrev stripped : ℕ → List ℕ → List ℕ
stripped m xs = cond (slice_index xs m == 10) (take m xs) xs

strip_is : (x : ℕ) (xs : List ℕ) → strip_last 10 (x ∷ xs) ≡ stripped (length xs) (x ∷ xs)
strip_is x xs =
    let some : nat_lt 0 (suc (length xs)) ≡ true = grind arith in
    let last : suc (length xs) - 1 ≡ length xs = omega arith in
    ap (λ b. cond (b && (slice_index (x ∷ xs) (suc (length xs) - 1) == 10)) (take (suc (length xs) - 1) (x ∷ xs)) (x ∷ xs)) some ∙ ap (λ m. stripped m (x ∷ xs)) last

strip_more : (x y : ℕ) (ys : List ℕ) → strip_last 10 (x ∷ y ∷ ys) ≡ x ∷ strip_last 10 (y ∷ ys)
strip_more x y ys = strip_is x (y ∷ ys) ∙ by (slice_index (y ∷ ys) (length ys) == 10) ∙ ap (λ l. x ∷ l) (sym (strip_is y ys))
  where
    by : (b : Bool) → cond b (x ∷ take (length ys) (y ∷ ys)) (x ∷ y ∷ ys) ≡ x ∷ cond b (take (length ys) (y ∷ ys)) (y ∷ ys)
    by true = refl
    by false = refl

strip_longer : (x y : ℕ) (ys : List ℕ) → strip_last 10 (x ∷ take_through 10 (y ∷ ys)) ≡ x ∷ strip_last 10 (take_through 10 (y ∷ ys))
strip_longer x y ys = by (y == 10)
  where
    by : (b : Bool) → strip_last 10 (x ∷ cond b (y ∷ []) (y ∷ take_through 10 ys)) ≡ x ∷ strip_last 10 (cond b (y ∷ []) (y ∷ take_through 10 ys))
    by true = strip_more x y []
    by false = strip_more x y (take_through 10 ys)

-- a byte alone
strip_one : (x : ℕ) (b : Bool) → x == 10 ≡ b → strip_last 10 (x ∷ []) ≡ cond b [] (x ∷ [])
strip_one x true e = ap (λ b. cond b [] (x ∷ [])) e
strip_one x false e = ap (λ b. cond b [] (x ∷ [])) e

pub first_line_is : (x : ℕ) (xs : List ℕ) → lines_of (x ∷ xs) ≡ strip_last 10 (take_through 10 (x ∷ xs)) ∷ lines_of (drop_through 10 (x ∷ xs))
first_line_is x [] = by (x == 10) refl
  where
    by : (b : Bool) → x == 10 ≡ b → cond b ([] ∷ []) (joined x []) ≡ strip_last 10 (cond b (x ∷ []) (x ∷ [])) ∷ lines_of (cond b [] [])
    by true e = ap (λ l. l ∷ []) (sym (strip_one x true e))
    by false e = ap (λ l. l ∷ []) (sym (strip_one x false e))
first_line_is x (y ∷ ys) = by (x == 10) refl (first_line_is y ys)
  where
    by : (b : Bool) → x == 10 ≡ b → lines_of (y ∷ ys) ≡ strip_last 10 (take_through 10 (y ∷ ys)) ∷ lines_of (drop_through 10 (y ∷ ys))
        → cond b ([] ∷ lines_of (y ∷ ys)) (joined x (lines_of (y ∷ ys)))
        ≡ strip_last 10 (cond b (x ∷ []) (x ∷ take_through 10 (y ∷ ys))) ∷ lines_of (cond b (y ∷ ys) (drop_through 10 (y ∷ ys)))
    by true e rest = ap (λ l. l ∷ lines_of (y ∷ ys)) (sym (strip_one x true e))
    by false e rest = ap (joined x) rest ∙ ap (λ l. l ∷ lines_of (drop_through 10 (y ∷ ys))) (sym (strip_longer x y ys))

pub next_taken : (old new : Option (List ℕ)) (line : List ℕ) → 0 < length line → IfSome old (λ xs. line ≡ take_through 10 xs) → DropsThrough old new 10
    → IfSome old (λ text. (rest : List ℕ) × (new ≡ Some rest) × (lines_of text ≡ strip_last 10 line ∷ lines_of rest))
next_taken None new line some is rest = tt
next_taken (Some []) new line some is rest = let none : length line ≡ 0 = ap length is in absurd (omega (arith, some, none))
next_taken (Some (x ∷ xs)) new line some is rest = (drop_through 10 (x ∷ xs), rest, first_line_is x xs ∙ ap (λ l. strip_last 10 l ∷ lines_of (drop_through 10 (x ∷ xs))) (sym is))
