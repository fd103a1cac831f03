-- Entries of texts ascend as their keys do.
use Rattle.std.specs.Prelude.{◌≡◌, ℕ, ◌&&◌, T, List, [], ◌∷◌, map}
use mathlib.Core.Path.{refl, sym, ap, subst, ◌∙◌}
use Rattle.std.specs.FinMap.Entries.{below_all, is_sorted}
use Rattle.std.specs.Ordering.{is_lt}
use Rattle.odb_atoms.specs.Text.{text_cmp}

abbrev pub keys_of : {K X : Type 0} → List (K × X) → List K
keys_of es = map (λ e. e.0) es

abbrev pub bare : List ℕ → List ℕ × Unit {0}
bare k = (k, tt)

below_keys : {X : Type 0} (k : List ℕ) (es : List (List ℕ × X)) → below_all text_cmp k (map bare (keys_of es)) ≡ below_all text_cmp k es
below_keys k [] = refl
below_keys k (e ∷ es) = ap (λ b. is_lt (text_cmp k e.0) && b) (below_keys k es)

pub sorted_keys : {X : Type 0} (es : List (List ℕ × X)) → is_sorted text_cmp (map bare (keys_of es)) ≡ is_sorted text_cmp es
sorted_keys [] = refl
sorted_keys (e ∷ es) = λ i. below_keys e.0 es i && sorted_keys es i

pub same_sorted : {X Y : Type 0} (es : List (List ℕ × X)) (fs : List (List ℕ × Y)) → keys_of es ≡ keys_of fs → T (is_sorted text_cmp es) → T (is_sorted text_cmp fs)
same_sorted es fs same h = subst T (sym (sorted_keys es) ∙ ap (λ ks. is_sorted text_cmp (map bare ks)) same ∙ sorted_keys fs) h

-- an entry of a name and what stands beside it
abbrev pub beside : {A X : Type 0} → (A → List ℕ) → (A → X) → A → List ℕ × X
beside name w x = (name x, w x)

pub keys_beside : {A X : Type 0} (name : A → List ℕ) (w : A → X) (xs : List A) → keys_of (map (beside name w) xs) ≡ map name xs
keys_beside name w [] = refl
keys_beside name w (x ∷ xs) = ap (λ ks. name x ∷ ks) (keys_beside name w xs)
