-- A code for JSON data, so that a state that holds some can be what contracts see of a type.
use Rattle.std.specs.Prelude.{◌≡◌, ℕ, ℤ, true, false, ◌==◌, ◌⊎◌, Float, List, [], ◌∷◌}
use Rattle.std.specs.Coded.{Coded, coded_ℕ, coded_ℤ, coded_list, coded×, coded⊎}
use Rattle.std.specs.Cmp.{unsigned_Decides}
use base.Stored.{coded_float, coded_via}
use mathlib.Core.Bool.{true≢false}
use mathlib.Core.Logic.{inl, inr}
use mathlib.Core.Path.{refl, sym, ap, ◌∙◌}
use Rattle.serde_json.specs.Data.{Num, unsigned, negative, float}
use Rattle.odb_schema.specs.Json.{Data, null, boolean, number, string, array, object, Items, no_items, item, Members, no_members, member}

-- a mark with a text or a number, a negative integer, or a fraction
abbrev pub Token : Type 0
Token = (ℕ × List ℕ) ⊎ (ℤ ⊎ Float)

abbrev mark : ℕ → List ℕ → Token
mark n s = inl (n, s)

abbrev number_token : Num → Token
number_token (unsigned n) = mark 3 (n ∷ [])
number_token (negative z) = inr (inl z)
number_token (float x) = inr (inr x)

-- the data's tokens, in front of others
abbrev mutual
  pub tokens : Data → List Token → List Token
  tokens null r = mark 0 [] ∷ r
  tokens (boolean false) r = mark 1 [] ∷ r
  tokens (boolean true) r = mark 2 [] ∷ r
  tokens (number n) r = number_token n ∷ r
  tokens (string s) r = mark 4 s ∷ r
  tokens (array ds) r = mark 5 [] ∷ items_tokens ds r
  tokens (object ms) r = mark 6 [] ∷ members_tokens ms r

  pub items_tokens : Items → List Token → List Token
  items_tokens no_items r = mark 7 [] ∷ r
  items_tokens (item d ds) r = tokens d (items_tokens ds r)

  pub members_tokens : Members → List Token → List Token
  members_tokens no_members r = mark 7 [] ∷ r
  members_tokens (member k d ms) r = mark 8 k ∷ tokens d (members_tokens ms r)

-- ---- the tokens say the data

abbrev tag : List Token → ℕ
tag [] = 11
tag (inl m ∷ r) = m.0
tag (inr (inl z) ∷ r) = 9
tag (inr (inr x) ∷ r) = 10

abbrev tail : List Token → List Token
tail [] = []
tail (t ∷ r) = r

abbrev content : List Token → List ℕ
content [] = []
content (inl m ∷ r) = m.1
content (inr n ∷ r) = []

abbrev first_number : List ℕ → ℕ
first_number [] = 0
first_number (n ∷ ns) = n

abbrev integer_in : ℤ → List Token → ℤ
integer_in z [] = z
integer_in z (inl m ∷ r) = z
integer_in z (inr (inl y) ∷ r) = y
integer_in z (inr (inr x) ∷ r) = z

abbrev fraction_in : Float → List Token → Float
fraction_in x [] = x
fraction_in x (inl m ∷ r) = x
fraction_in x (inr (inl z) ∷ r) = x
fraction_in x (inr (inr w) ∷ r) = w

wrong : {A : Type 0} (a b : ℕ) → (a == b) ≡ false → a ≡ b → A
wrong a b e h = absurd (true≢false (sym ((unsigned_Decides a a).1 refl) ∙ ap (λ n. a == n) h ∙ e))

-- no data begins as a list of items ends
starts : (d : Data) (r : List Token) → (tag (tokens d r) == 7) ≡ false
starts null r = refl
starts (boolean false) r = refl
starts (boolean true) r = refl
starts (number (unsigned n)) r = refl
starts (number (negative z)) r = refl
starts (number (float x)) r = refl
starts (string s) r = refl
starts (array ds) r = refl
starts (object ms) r = refl

apart : {A : Type 0} (d : Data) (r q : List Token) → tokens d r ≡ mark 7 [] ∷ q → A
apart d r q e = wrong (tag (tokens d r)) 7 (starts d r) (ap tag e)

abbrev Same : (D : Type 0) → D → D → List Token → List Token → Type 0
Same D d e r q = (d ≡ e) × (r ≡ q)

-- data with the same tokens are the same, and so is what stands after them
mutual
  pub tokens_are : (d e : Data) (r q : List Token) → tokens d r ≡ tokens e q → Same Data d e r q
  tokens_are null null r q h = (refl, ap tail h)
  tokens_are null (boolean false) r q h = wrong 0 1 refl (ap tag h)
  tokens_are null (boolean true) r q h = wrong 0 2 refl (ap tag h)
  tokens_are null (number (unsigned m)) r q h = wrong 0 3 refl (ap tag h)
  tokens_are null (number (negative y)) r q h = wrong 0 9 refl (ap tag h)
  tokens_are null (number (float w)) r q h = wrong 0 10 refl (ap tag h)
  tokens_are null (string t) r q h = wrong 0 4 refl (ap tag h)
  tokens_are null (array es) r q h = wrong 0 5 refl (ap tag h)
  tokens_are null (object ns) r q h = wrong 0 6 refl (ap tag h)
  tokens_are (boolean false) null r q h = wrong 1 0 refl (ap tag h)
  tokens_are (boolean false) (boolean false) r q h = (refl, ap tail h)
  tokens_are (boolean false) (boolean true) r q h = wrong 1 2 refl (ap tag h)
  tokens_are (boolean false) (number (unsigned m)) r q h = wrong 1 3 refl (ap tag h)
  tokens_are (boolean false) (number (negative y)) r q h = wrong 1 9 refl (ap tag h)
  tokens_are (boolean false) (number (float w)) r q h = wrong 1 10 refl (ap tag h)
  tokens_are (boolean false) (string t) r q h = wrong 1 4 refl (ap tag h)
  tokens_are (boolean false) (array es) r q h = wrong 1 5 refl (ap tag h)
  tokens_are (boolean false) (object ns) r q h = wrong 1 6 refl (ap tag h)
  tokens_are (boolean true) null r q h = wrong 2 0 refl (ap tag h)
  tokens_are (boolean true) (boolean false) r q h = wrong 2 1 refl (ap tag h)
  tokens_are (boolean true) (boolean true) r q h = (refl, ap tail h)
  tokens_are (boolean true) (number (unsigned m)) r q h = wrong 2 3 refl (ap tag h)
  tokens_are (boolean true) (number (negative y)) r q h = wrong 2 9 refl (ap tag h)
  tokens_are (boolean true) (number (float w)) r q h = wrong 2 10 refl (ap tag h)
  tokens_are (boolean true) (string t) r q h = wrong 2 4 refl (ap tag h)
  tokens_are (boolean true) (array es) r q h = wrong 2 5 refl (ap tag h)
  tokens_are (boolean true) (object ns) r q h = wrong 2 6 refl (ap tag h)
  tokens_are (number (unsigned n)) null r q h = wrong 3 0 refl (ap tag h)
  tokens_are (number (unsigned n)) (boolean false) r q h = wrong 3 1 refl (ap tag h)
  tokens_are (number (unsigned n)) (boolean true) r q h = wrong 3 2 refl (ap tag h)
  tokens_are (number (unsigned n)) (number (unsigned m)) r q h = (ap (λ s. number (unsigned (first_number (content s)))) h, ap tail h)
  tokens_are (number (unsigned n)) (number (negative y)) r q h = wrong 3 9 refl (ap tag h)
  tokens_are (number (unsigned n)) (number (float w)) r q h = wrong 3 10 refl (ap tag h)
  tokens_are (number (unsigned n)) (string t) r q h = wrong 3 4 refl (ap tag h)
  tokens_are (number (unsigned n)) (array es) r q h = wrong 3 5 refl (ap tag h)
  tokens_are (number (unsigned n)) (object ns) r q h = wrong 3 6 refl (ap tag h)
  tokens_are (number (negative z)) null r q h = wrong 9 0 refl (ap tag h)
  tokens_are (number (negative z)) (boolean false) r q h = wrong 9 1 refl (ap tag h)
  tokens_are (number (negative z)) (boolean true) r q h = wrong 9 2 refl (ap tag h)
  tokens_are (number (negative z)) (number (unsigned m)) r q h = wrong 9 3 refl (ap tag h)
  tokens_are (number (negative z)) (number (negative y)) r q h = (ap (λ s. number (negative (integer_in z s))) h, ap tail h)
  tokens_are (number (negative z)) (number (float w)) r q h = wrong 9 10 refl (ap tag h)
  tokens_are (number (negative z)) (string t) r q h = wrong 9 4 refl (ap tag h)
  tokens_are (number (negative z)) (array es) r q h = wrong 9 5 refl (ap tag h)
  tokens_are (number (negative z)) (object ns) r q h = wrong 9 6 refl (ap tag h)
  tokens_are (number (float x)) null r q h = wrong 10 0 refl (ap tag h)
  tokens_are (number (float x)) (boolean false) r q h = wrong 10 1 refl (ap tag h)
  tokens_are (number (float x)) (boolean true) r q h = wrong 10 2 refl (ap tag h)
  tokens_are (number (float x)) (number (unsigned m)) r q h = wrong 10 3 refl (ap tag h)
  tokens_are (number (float x)) (number (negative y)) r q h = wrong 10 9 refl (ap tag h)
  tokens_are (number (float x)) (number (float w)) r q h = (ap (λ s. number (float (fraction_in x s))) h, ap tail h)
  tokens_are (number (float x)) (string t) r q h = wrong 10 4 refl (ap tag h)
  tokens_are (number (float x)) (array es) r q h = wrong 10 5 refl (ap tag h)
  tokens_are (number (float x)) (object ns) r q h = wrong 10 6 refl (ap tag h)
  tokens_are (string s) null r q h = wrong 4 0 refl (ap tag h)
  tokens_are (string s) (boolean false) r q h = wrong 4 1 refl (ap tag h)
  tokens_are (string s) (boolean true) r q h = wrong 4 2 refl (ap tag h)
  tokens_are (string s) (number (unsigned m)) r q h = wrong 4 3 refl (ap tag h)
  tokens_are (string s) (number (negative y)) r q h = wrong 4 9 refl (ap tag h)
  tokens_are (string s) (number (float w)) r q h = wrong 4 10 refl (ap tag h)
  tokens_are (string s) (string t) r q h = (ap (λ s. string (content s)) h, ap tail h)
  tokens_are (string s) (array es) r q h = wrong 4 5 refl (ap tag h)
  tokens_are (string s) (object ns) r q h = wrong 4 6 refl (ap tag h)
  tokens_are (array ds) null r q h = wrong 5 0 refl (ap tag h)
  tokens_are (array ds) (boolean false) r q h = wrong 5 1 refl (ap tag h)
  tokens_are (array ds) (boolean true) r q h = wrong 5 2 refl (ap tag h)
  tokens_are (array ds) (number (unsigned m)) r q h = wrong 5 3 refl (ap tag h)
  tokens_are (array ds) (number (negative y)) r q h = wrong 5 9 refl (ap tag h)
  tokens_are (array ds) (number (float w)) r q h = wrong 5 10 refl (ap tag h)
  tokens_are (array ds) (string t) r q h = wrong 5 4 refl (ap tag h)
  tokens_are (array ds) (array es) r q h = (let p : Same Items ds es r q = items_are ds es r q (ap tail h) in (ap array p.0, p.1))
  tokens_are (array ds) (object ns) r q h = wrong 5 6 refl (ap tag h)
  tokens_are (object ms) null r q h = wrong 6 0 refl (ap tag h)
  tokens_are (object ms) (boolean false) r q h = wrong 6 1 refl (ap tag h)
  tokens_are (object ms) (boolean true) r q h = wrong 6 2 refl (ap tag h)
  tokens_are (object ms) (number (unsigned m)) r q h = wrong 6 3 refl (ap tag h)
  tokens_are (object ms) (number (negative y)) r q h = wrong 6 9 refl (ap tag h)
  tokens_are (object ms) (number (float w)) r q h = wrong 6 10 refl (ap tag h)
  tokens_are (object ms) (string t) r q h = wrong 6 4 refl (ap tag h)
  tokens_are (object ms) (array es) r q h = wrong 6 5 refl (ap tag h)
  tokens_are (object ms) (object ns) r q h = (let p : Same Members ms ns r q = members_are ms ns r q (ap tail h) in (ap object p.0, p.1))

  items_are : (ds es : Items) (r q : List Token) → items_tokens ds r ≡ items_tokens es q → Same Items ds es r q
  items_are no_items no_items r q h = (refl, ap tail h)
  items_are no_items (item e es) r q h = apart e (items_tokens es q) r (sym h)
  items_are (item d ds) no_items r q h = apart d (items_tokens ds r) q h
  items_are (item d ds) (item e es) r q h =
      let p : Same Data d e (items_tokens ds r) (items_tokens es q) = tokens_are d e (items_tokens ds r) (items_tokens es q) h in
      let s : Same Items ds es r q = items_are ds es r q p.1 in
      (λ i. item (p.0 i) (s.0 i), s.1)

  pub members_are : (ms ns : Members) (r q : List Token) → members_tokens ms r ≡ members_tokens ns q → Same Members ms ns r q
  members_are no_members no_members r q h = (refl, ap tail h)
  members_are no_members (member l e ns) r q h = wrong 7 8 refl (ap tag h)
  members_are (member k d ms) no_members r q h = wrong 8 7 refl (ap tag h)
  members_are (member k d ms) (member l e ns) r q h =
      let p : Same Data d e (members_tokens ms r) (members_tokens ns q) = tokens_are d e (members_tokens ms r) (members_tokens ns q) (ap tail h) in
      let s : Same Members ms ns r q = members_are ms ns r q p.1 in
      (λ i. member (ap content h i) (p.0 i) (s.0 i), s.1)

abbrev pub token_code : Coded Token
token_code = coded⊎ (coded× coded_ℕ (coded_list coded_ℕ)) (coded⊎ coded_ℤ coded_float)

abbrev pub data_code : Coded Data
data_code = coded_via (coded_list token_code) (λ d. tokens d []) (λ d e h. (tokens_are d e [] [] h).0)

abbrev pub members_code : Coded Members
members_code = coded_via (coded_list token_code) (λ ms. members_tokens ms []) (λ ms ns h. (members_are ms ns [] [] h).0)
