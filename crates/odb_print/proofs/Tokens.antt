-- The tokens of arrays and objects, and the order in which they are printed.
use Rattle.std.proofs.Common.{◌≡◌, ℕ, ℤ, pos, negsuc, List, [], ◌∷◌, ◌++◌, flat_map, map, refl, sym, ap, ◌∙◌, append_assoc}
use Rattle.std.specs.Fmt.{signed_decimal}
use Rattle.json.specs.Token.{Token, begin_array, end_array, number}
use Rattle.json.specs.Token as token
use Rattle.json.specs.Tree.{items_tokens}
use Rattle.serde_json.specs.Data.{Data}
use Rattle.serde_json.specs.Written.{items_outline}
use Rattle.odb_print.specs.Tokens.{tokens_of}
use Rattle.odb_schema.specs.Json.{array_of, items_of, of_integer, string}

pub integer_tokens : (z : ℤ) → tokens_of (of_integer z) ≡ number (signed_decimal z) ∷ []
integer_tokens (pos n) = refl
integer_tokens (negsuc n) = refl

-- ---- brackets

pub around : (old ts : List Token) (a z : Token) → ((old ++ a ∷ []) ++ ts) ++ z ∷ [] ≡ old ++ (a ∷ (ts ++ z ∷ []))
around old ts a z = append_assoc (old ++ a ∷ []) ts (z ∷ []) ∙ append_assoc old (a ∷ []) (ts ++ z ∷ [])

pub around_named : (old ts : List Token) (a b z : Token) → (((old ++ a ∷ []) ++ b ∷ []) ++ ts) ++ z ∷ [] ≡ old ++ (a ∷ b ∷ (ts ++ z ∷ []))
around_named old ts a b z = around (old ++ a ∷ []) ts b z ∙ append_assoc old (a ∷ []) (b ∷ (ts ++ z ∷ []))

pub around_all : (old front ts back : List Token) → ((old ++ front) ++ ts) ++ back ≡ old ++ (front ++ (ts ++ back))
around_all old front ts back = append_assoc (old ++ front) ts back ∙ append_assoc old front (ts ++ back)

-- ---- arrays

pub each_item : {X : Type 0} (f : X → Data) (xs : List X) → items_tokens (items_outline (items_of (map f xs))) ≡ flat_map (λ x. tokens_of (f x)) xs ++ end_array ∷ []
each_item f [] = refl
each_item f (x ∷ xs) = ap (λ ts. tokens_of (f x) ++ ts) (each_item f xs) ∙ sym (append_assoc (tokens_of (f x)) (flat_map (λ y. tokens_of (f y)) xs) (end_array ∷ []))

-- `[tag, [..]]`
pub tagged_tokens : {X : Type 0} (tag : List ℕ) (f : X → Data) (xs : List X)
    → tokens_of (array_of (string tag ∷ array_of (map f xs) ∷ [])) ≡ begin_array ∷ token.string tag ∷ begin_array ∷ (flat_map (λ x. tokens_of (f x)) xs ++ end_array ∷ end_array ∷ [])
tagged_tokens tag f xs =
    ap (λ ts. begin_array ∷ token.string tag ∷ begin_array ∷ (ts ++ end_array ∷ [])) (each_item f xs)
    ∙ ap (λ ts. begin_array ∷ token.string tag ∷ begin_array ∷ ts) (append_assoc (flat_map (λ x. tokens_of (f x)) xs) (end_array ∷ []) (end_array ∷ []))
