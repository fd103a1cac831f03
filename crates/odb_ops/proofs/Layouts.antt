-- Rows as they are printed: their columns by ascending name.
use Rattle.std.proofs.Common.{◌≡◌, ℕ, List, [], ◌∷◌, ◌++◌, codes, flat_map, map as map_list, zip, refl, sym, ap, ◌∙◌, append_assoc}
use Rattle.std.proofs.lemmas.Map.Lookups.{exact_bytes}
use Rattle.std.specs.Ordering.{match_ordering}
use Rattle.std.specs.declared.cmp.Ordering.{Ordering}
use Rattle.std.specs.declared.cmp.Ordering.TheVariants.{Less, Equal, Greater}
use Rattle.json.specs.Token.{Token, begin_array, begin_object, end_array, end_object, key}
use Rattle.json.specs.Tree.{members_tokens}
use Rattle.serde_json.specs.Data.{put}
use Rattle.serde_json.specs.Written.{members_outline}
use Rattle.odb_atoms.specs.Row.{Row, Selector, cell}
use Rattle.odb_atoms.specs.Text.{text_cmp}
use Rattle.odb_atoms.specs.Uuid.{Uuid}
use Rattle.odb_atoms.specs.Value.{Value}
use Rattle.odb_ops.specs.Execution.{rows_result, write_cells}
use Rattle.odb_ops.specs.Represented.Layout.{by_name, cell_tokens, content, placed, row_tokens}
use Rattle.odb_print.proofs.Tokens.{around_all, each_item}
use Rattle.odb_print.specs.Tokens.{tokens_of}
use Rattle.odb_schema.specs.Json.{Data, Members, member, members_of, no_members, object}
use Rattle.odb_schema.specs.Notation.{write_value}
use Rattle.odb_schema.specs.Schema.{Column, selector_name}

module _ (cs : List Column) (f : Selector → Data) where
  -- the columns' data as members, in the order of the list
  abbrev named : List Selector → Members
  named [] = no_members
  named (c ∷ columns) = member (selector_name cs c) (f c) (named columns)

  put_placed : (c : Selector) (ds : List Selector) → put (selector_name cs c) (f c) (named ds) ≡ named (placed cs c ds)
  put_placed c [] = refl
  put_placed c (d ∷ ds) = by (text_cmp (selector_name cs c) (selector_name cs d)) refl (put_placed c ds)
    where
      by : (o : Ordering) → text_cmp (selector_name cs c) (selector_name cs d) ≡ o → put (selector_name cs c) (f c) (named ds) ≡ named (placed cs c ds)
          → match_ordering o (member (selector_name cs c) (f c) (named (d ∷ ds))) (member (selector_name cs d) (f c) (named ds)) (member (selector_name cs d) (f d) (put (selector_name cs c) (f c) (named ds)))
          ≡ named (match_ordering o (c ∷ d ∷ ds) (c ∷ ds) (d ∷ placed cs c ds))
      by Less e rest = refl
      by Equal e rest = ap (λ n. member n (f c) (named ds)) (sym (exact_bytes (selector_name cs c) (selector_name cs d) e))
      by Greater e rest = ap (member (selector_name cs d) (f d)) rest

  in_order : (columns : List Selector) → members_of (map_list (λ c. let m : List ℕ × Data = (selector_name cs c, f c) in m) columns) ≡ named (by_name cs columns)
  in_order [] = refl
  in_order (c ∷ columns) = ap (put (selector_name cs c) (f c)) (in_order columns) ∙ put_placed c (by_name cs columns)

  named_tokens : (columns : List Selector) → members_tokens (members_outline (named columns)) ≡ flat_map (λ c. key (selector_name cs c) ∷ tokens_of (f c)) columns ++ end_object ∷ []
  named_tokens [] = refl
  named_tokens (c ∷ columns) =
      ap (λ ts. key (selector_name cs c) ∷ (tokens_of (f c) ++ ts)) (named_tokens columns)
      ∙ ap (λ ts. key (selector_name cs c) ∷ ts) (sym (append_assoc (tokens_of (f c)) (flat_map (λ d. key (selector_name cs d) ∷ tokens_of (f d)) columns) (end_object ∷ [])))

module _ (cs : List Column) where
  with_values : (columns : List Selector) (e : Uuid × Row)
      → map_list (λ p. let m : List ℕ × Data = (selector_name cs p.0, write_value p.1) in m) (zip columns (content columns e))
      ≡ map_list (λ c. let m : List ℕ × Data = (selector_name cs c, write_value (cell e.0 e.1 c)) in m) columns
  with_values [] e = refl
  with_values (c ∷ columns) e = ap (λ ms. (selector_name cs c, write_value (cell e.0 e.1 c)) ∷ ms) (with_values columns e)

  -- a row
  pub row_is : (columns : List Selector) (e : Uuid × Row) → row_tokens cs columns (content columns e) ≡ begin_object ∷ (flat_map (cell_tokens cs e) (by_name cs columns) ++ end_object ∷ [])
  row_is columns e =
      ap (λ ms. tokens_of (object (members_of ms))) (with_values columns e)
      ∙ ap (λ ms. tokens_of (object ms)) (in_order cs (λ c. write_value (cell e.0 e.1 c)) columns)
      ∙ ap (λ ts. begin_object ∷ ts) (named_tokens cs (λ c. write_value (cell e.0 e.1 c)) (by_name cs columns))

  -- all rows
  pub rows_are : (columns : List Selector) (rows : List (List Value))
      → tokens_of (rows_result cs columns rows) ≡ begin_object ∷ key (codes "rows") ∷ begin_array ∷ (flat_map (row_tokens cs columns) rows ++ end_array ∷ end_object ∷ [])
  rows_are columns rows =
      ap (λ ts. begin_object ∷ key (codes "rows") ∷ begin_array ∷ (ts ++ end_object ∷ [])) (each_item (write_cells cs columns) rows)
      ∙ ap (λ ts. begin_object ∷ key (codes "rows") ∷ begin_array ∷ ts) (append_assoc (flat_map (row_tokens cs columns) rows) (end_array ∷ []) (end_object ∷ []))

-- in its brackets
pub around_rows : (old ts : List Token) (b k a y z : Token) → (((((old ++ b ∷ []) ++ k ∷ []) ++ a ∷ []) ++ ts) ++ y ∷ []) ++ z ∷ [] ≡ old ++ (b ∷ k ∷ a ∷ (ts ++ y ∷ z ∷ []))
around_rows old ts b k a y z =
    append_assoc ((((old ++ b ∷ []) ++ k ∷ []) ++ a ∷ []) ++ ts) (y ∷ []) (z ∷ [])
    ∙ ap (λ front. (front ++ ts) ++ (y ∷ z ∷ [])) (append_assoc (old ++ b ∷ []) (k ∷ []) (a ∷ []) ∙ append_assoc old (b ∷ []) (k ∷ a ∷ []))
    ∙ around_all old (b ∷ k ∷ a ∷ []) ts (y ∷ z ∷ [])
