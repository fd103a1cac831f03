-- Readings of lists from the front, one element after another.
use Rattle.std.specs.Prelude.{◌≡◌, ◌<◌, ℕ, suc, Bool, true, false, not, ◌&&◌, ◌||◌, List, [], ◌∷◌, ◌++◌, drop, get_or, length, map, string_bytes, String, Result, Ok, Err}
use Rattle.std.specs.declared.alloc.Global.{Global}
use Rattle.std.specs.List.{list_any}
use mathlib.Core.Path.{refl, sym, ap, ◌∙◌}
use Rattle.std.proofs.lemmas.List.{append-nil, append_assoc}
use Rattle.odb_atoms.specs.First.{each, ◌>>=◌}
use Rattle.odb_atoms.specs.First.{demand, ◌>>◌}
use Rattle.odb_atoms.specs.Text.{same_text}
use Rattle.std.proofs.Math.Seq.{drop-cons}
use mathlib.Core.Bool.{true≢false}
use Rattle.serde_json.proofs.Views.{Entry}
use Rattle.serde_json.specs.View.{items_view, members_view, view}
use Rattle.serde_json.specs.declared.value.Value.{Value}
use Rattle.odb_atoms.proofs.Lists.{any-map}
use Rattle.odb_schema.specs.Json.{Data, items_list, members_list}
use Rattle.odb_schema.specs.Schema.{Column}
use Rattle.odb_schema.specs.SchemaText.{SchemaFault, bad_index, distinct_names, is_indexable, read_string}

abbrev next : {A B E : Type 0} → Result A E → (A → Result B E) → Result B E
next = ◌>>=◌

-- a reading of a rest, after what was read in front of it
abbrev pub after : {B E : Type 0} → List B → Result (List B) E → Result (List B) E
after done r = next r (λ ys. Ok (done ++ ys))

pub at_start : {B E : Type 0} (r : Result (List B) E) → r ≡ after [] r
at_start (Ok ys) = refl
at_start (Err e) = refl

pub moved : {B E : Type 0} (done : List B) (y : B) (r : Result (List B) E) → after done (next r (λ ys. Ok (y ∷ ys))) ≡ after (done ++ y ∷ []) r
moved done y (Ok ys) = ap Ok (sym (append_assoc done (y ∷ []) ys))
moved done y (Err e) = refl

pub at_end : {B E : Type 0} (whole : Result (List B) E) (done : List B) → whole ≡ after done (Ok []) → whole ≡ Ok done
at_end whole done e = e ∙ ap Ok (append-nil done)

module _ {A B E : Type 0} (f : A → Result B E) where
  -- one more
  pub each_more : (whole : Result (List B) E) (done : List B) (x : A) (xs : List A) (y : B) → whole ≡ after done (each f (x ∷ xs)) → f x ≡ Ok y → whole ≡ after (done ++ y ∷ []) (each f xs)
  each_more whole done x xs y e is = e ∙ ap (λ r. after done (next r (λ y. next (each f xs) (λ ys. Ok (y ∷ ys))))) is ∙ moved done y (each f xs)

  -- one with a fault
  pub each_fault : (whole : Result (List B) E) (done : List B) (x : A) (xs : List A) (g : E) → whole ≡ after done (each f (x ∷ xs)) → f x ≡ Err g → whole ≡ Err g
  each_fault whole done x xs g e is = e ∙ ap (λ r. after done (next r (λ y. next (each f xs) (λ ys. Ok (y ∷ ys))))) is

-- ---- those in front, the last first

abbrev pub turned : {A : Type 0} → List A → List A → List A
turned seen [] = seen
turned seen (x ∷ xs) = turned (x ∷ seen) xs

pub turned-push : {A : Type 0} (seen xs : List A) (y : A) → turned seen (xs ++ y ∷ []) ≡ y ∷ turned seen xs
turned-push seen [] y = refl
turned-push seen (x ∷ xs) y = turned-push (x ∷ seen) xs y

shifted : (a b c : Bool) → ((a || b) || c) ≡ (b || (a || c))
shifted true true c = refl
shifted true false c = refl
shifted false true c = refl
shifted false false c = refl

pub any-turned : {A : Type 0} (p : A → Bool) (seen xs : List A) → list_any p (turned seen xs) ≡ (list_any p seen || list_any p xs)
any-turned p seen [] = or_false (list_any p seen)
  where
    or_false : (b : Bool) → b ≡ (b || false)
    or_false true = refl
    or_false false = refl
any-turned p seen (x ∷ xs) = any-turned p (x ∷ seen) xs ∙ shifted (p x) (list_any p seen) (list_any p xs)

-- ---- the names of an index

abbrev behind : {A B E : Type 0} → Result A E → Result B E → Result B E
behind = ◌>>◌

abbrev texts : List (String Global) → List (List ℕ)
texts = map string_bytes

-- a name is among those in front
abbrev pub IsAmong : List ℕ → List (String Global) → Bool
IsAmong name names = list_any (λ other. same_text name (string_bytes other)) names

seen-among : (name : List ℕ) (names : List (String Global)) → list_any (same_text name) (turned [] (texts names)) ≡ IsAmong name names
seen-among name names = any-turned (same_text name) [] (texts names) ∙ any-map (same_text name) string_bytes names

module _ (cs : List Column) (whole : Result (List (List ℕ)) SchemaFault) (front : List (String Global)) (d : Data) (ds : List Data) where
  -- the names from the next on
  abbrev Stands : Type 0
  Stands = whole ≡ after (texts front) (distinct_names cs (turned [] (texts front)) (d ∷ ds))

  abbrev test : List ℕ → Bool
  test name = is_indexable cs name && not (list_any (same_text name) (turned [] (texts front)))

  abbrev later : List ℕ → Bool → Result (List (List ℕ)) SchemaFault
  later name b = behind (demand b bad_index) (next (distinct_names cs (name ∷ turned [] (texts front)) ds) (λ names. Ok (name ∷ names)))

  read_name : (name : List ℕ) (b : Bool) → Stands → read_string d ≡ Ok name → (is_indexable cs name && not (IsAmong name front)) ≡ b → whole ≡ after (texts front) (later name b)
  read_name name b e is h =
      e ∙ ap (λ r. after (texts front) (next r (λ name. later name (test name)))) is
      ∙ ap (λ b. after (texts front) (later name (is_indexable cs name && not b))) (seen-among name front)
      ∙ ap (λ b. after (texts front) (later name b)) h

  pub names_fault : (f : SchemaFault) → Stands → read_string d ≡ Err f → whole ≡ Err f
  names_fault f e is = e ∙ ap (λ r. after (texts front) (next r (λ name. later name (test name)))) is

  pub names_refused : (name : List ℕ) → Stands → read_string d ≡ Ok name → (is_indexable cs name && not (IsAmong name front)) ≡ false → whole ≡ Err bad_index
  names_refused name e is h = read_name name false e is h

  pub names_more : (name : List ℕ) → Stands → read_string d ≡ Ok name → (is_indexable cs name && not (IsAmong name front)) ≡ true → whole ≡ after (texts front ++ name ∷ []) (distinct_names cs (turned [] (texts front ++ name ∷ [])) ds)
  names_more name e is h =
      read_name name true e is h
      ∙ moved (texts front) name (distinct_names cs (name ∷ turned [] (texts front)) ds)
      ∙ ap (λ seen. after (texts front ++ name ∷ []) (distinct_names cs seen ds)) (sym (turned-push [] (texts front) name))

-- ---- lists of JSON

-- the next of an array
pub next_item : (vs : List Value) (i : ℕ) (v : Value) → i < length vs → v ≡ get_or vs i v → items_list (items_view (drop i vs)) ≡ view v ∷ items_list (items_view (drop (suc i) vs))
next_item vs i v low at = ap (λ l. items_list (items_view l)) (drop-cons vs i v low ∙ ap (λ w. w ∷ drop (suc i) vs) (sym at))

pub members_length : (es : List Entry) → length (members_list (members_view es)) ≡ length es
members_length [] = refl
members_length (e ∷ es) = ap suc (members_length es)

pub or_first : (a b : Bool) → a ≡ true → a ≡ (a || b)
or_first true b e = refl
or_first false b e = e ∙ absurd (true≢false (sym e))

pub or_second : (a b : Bool) → a ≡ false → b ≡ (a || b)
or_second true b e = absurd (true≢false e)
or_second false b e = refl
