-- The text of an array, item by item.
use Rattle.std.proofs.Common.{◌≡◌, ℕ, true, ◌+◌, ◌<◌, List, [], ◌∷◌, ◌++◌, get_or, length, take, refl, sym, ap, ◌∙◌, append_assoc}
use Rattle.std.proofs.lemmas.List.{append-nil, take_more}
use Rattle.serde_json.specs.Written.{compact_text, items_text}
use Rattle.odb_schema.specs.Json.{Data, array_of, items_of}
use Rattle.odb_queue.specs.Represented.Results.{item_texts, later_texts}

later-end : (ds : List Data) → items_text true (items_of ds) ≡ later_texts ds ++ 93 ∷ []
later-end [] = refl
later-end (d ∷ ds) = ap (λ t. 44 ∷ (compact_text d ++ t)) (later-end ds) ∙ ap (λ t. 44 ∷ t) (sym (append_assoc (compact_text d) (later_texts ds) (93 ∷ [])))

pub array_text : (ds : List Data) → compact_text (array_of ds) ≡ 91 ∷ (item_texts ds ++ 93 ∷ [])
array_text [] = refl
array_text (d ∷ ds) = ap (λ t. 91 ∷ (compact_text d ++ t)) (later-end ds) ∙ ap (λ t. 91 ∷ t) (sym (append_assoc (compact_text d) (later_texts ds) (93 ∷ [])))

-- in its brackets
pub around_items : (old : List ℕ) (ds : List Data) → ((old ++ 91 ∷ []) ++ item_texts ds) ++ 93 ∷ [] ≡ old ++ compact_text (array_of ds)
around_items old ds =
    append_assoc (old ++ 91 ∷ []) (item_texts ds) (93 ∷ []) ∙ append_assoc old (91 ∷ []) (item_texts ds ++ 93 ∷ []) ∙ ap (λ t. old ++ t) (sym (array_text ds))

later_texts-append : (ds es : List Data) → later_texts (ds ++ es) ≡ later_texts ds ++ later_texts es
later_texts-append [] es = refl
later_texts-append (d ∷ ds) es = ap (λ t. (44 ∷ compact_text d) ++ t) (later_texts-append ds es) ∙ sym (append_assoc (44 ∷ compact_text d) (later_texts ds) (later_texts es))

-- what was added, and one more
pub later_more : (ds : List Data) (i : ℕ) (d : Data) (first old new : List ℕ) → i < length ds → d ≡ get_or ds i d
    → old ≡ first ++ later_texts (take i ds) → new ≡ (old ++ 44 ∷ []) ++ compact_text d → new ≡ first ++ later_texts (take (i + 1) ds)
later_more ds i d first old new inside at is more =
    let one : take (i + 1) ds ≡ take i ds ++ d ∷ [] = take_more ds i d inside ∙ ap (λ e. take i ds ++ e ∷ []) (sym at) in
    more ∙ append_assoc old (44 ∷ []) (compact_text d) ∙ ap (λ t. t ++ 44 ∷ compact_text d) is ∙ append_assoc first (later_texts (take i ds)) (44 ∷ compact_text d)
    ∙ ap (λ t. first ++ t) (ap (λ t. later_texts (take i ds) ++ t) (sym (append-nil (44 ∷ compact_text d))) ∙ sym (later_texts-append (take i ds) (d ∷ [])) ∙ ap later_texts (sym one))
