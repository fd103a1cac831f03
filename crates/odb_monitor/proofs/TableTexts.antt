-- The tokens of a table's rows.
use Rattle.std.proofs.Common.{◌≡◌, ℕ, ◌==◌, false, List, [], ◌∷◌, ◌++◌, flat_map, length, map, refl, sym, ap, ◌∙◌, append_assoc}
use mathlib.Core.Bool.{true≢false}
use Rattle.json.specs.Token.{begin_object, end_object, key}
use Rattle.json.specs.Tree.{members_tokens}
use Rattle.serde_json.specs.Written.{members_outline}
use Rattle.odb_atoms.specs.Uuid.{Uuid, uuid_text}
use Rattle.odb_monitor.specs.Represented.Layout.{Layout, row_tokens}
use Rattle.odb_print.specs.Tokens.{member_tokens, tokens_of}
use Rattle.odb_monitor.specs.Update.{row_update, row_updates, table_update}
use Rattle.odb_monitor.specs.View.{Change}

module _ (l : Layout) where
  pub each_row : (es : List (Uuid × Change)) → members_tokens (members_outline (row_updates l.notation l.first l.columns es)) ≡ flat_map (row_tokens l) es ++ end_object ∷ []
  each_row [] = refl
  each_row (e ∷ es) =
      let one = tokens_of (row_update l.notation l.first l.columns e.1) in
      ap (λ ts. key (uuid_text e.0) ∷ (one ++ ts)) (each_row es) ∙ ap (λ ts. key (uuid_text e.0) ∷ ts) (sym (append_assoc one (flat_map (row_tokens l) es) (end_object ∷ [])))

  -- a table with rows
  pub table_tokens : {X : Type 0} (f : X → Uuid × Change) (name : List ℕ) (xs : List X) → (length xs == 0) ≡ false
      → member_tokens name (table_update l.notation l.first l.columns (map f xs)) ≡ key name ∷ begin_object ∷ (flat_map (row_tokens l) (map f xs) ++ end_object ∷ [])
  table_tokens f name [] some = absurd (true≢false some)
  table_tokens f name (x ∷ xs) some = ap (λ ts. key name ∷ begin_object ∷ ts) (each_row (map f (x ∷ xs)))
