-- The columns of an array of names, one after another.
use Rattle.std.specs.Prelude.{◌≡◌, true, false, Bool, not, List, [], ◌∷◌, ◌++◌, map, Result, Ok, Err}
use Rattle.std.specs.List.{list_any}
use mathlib.Core.Path.{sym, ap, ◌∙◌}
use Rattle.odb_atoms.proofs.Lists.{any-map}
use Rattle.odb_atoms.specs.Error.{Error, syntax_error}
use Rattle.odb_atoms.specs.First.{demand, ◌>>=◌, ◌>>◌}
use Rattle.odb_atoms.specs.Row.{Selector, same_selector}
use Rattle.odb_cond.specs.Represented.Clause.{selector_of}
use Rattle.odb_cond.specs.declared.clause.Selector as code
use Rattle.odb_json.specs.ConditionNotation.{read_selector}
use Rattle.odb_json.specs.Operation.{distinct_columns}
use Rattle.odb_schema.proofs.Eachs.{after, any-turned, moved, turned, turned-push}
use Rattle.odb_schema.specs.Json.{Data}
use Rattle.odb_schema.specs.Schema.{Column}

abbrev selectors : List code.Selector → List Selector
selectors = map selector_of

-- a column is among those in front
abbrev pub IsAmong : Selector → List code.Selector → Bool
IsAmong column front = list_any (λ other. same_selector column (selector_of other)) front

seen-among : (column : Selector) (front : List code.Selector) → list_any (same_selector column) (turned [] (selectors front)) ≡ IsAmong column front
seen-among column front = any-turned (same_selector column) [] (selectors front) ∙ any-map (same_selector column) selector_of front

abbrev next : {A B : Type 0} → Result A Error → (A → Result B Error) → Result B Error
next = ◌>>=◌

abbrev behind : {A B : Type 0} → Result A Error → Result B Error → Result B Error
behind = ◌>>◌

module _ (cs : List Column) (whole : Result (List Selector) Error) (front : List code.Selector) (d : Data) (ds : List Data) where
  -- the columns from the next on
  abbrev Stands : Type 0
  Stands = whole ≡ after (selectors front) (distinct_columns cs (turned [] (selectors front)) (d ∷ ds))

  abbrev later : Selector → Bool → Result (List Selector) Error
  later column b = behind (demand (not b) syntax_error) (next (distinct_columns cs (column ∷ turned [] (selectors front)) ds) (λ columns. Ok (column ∷ columns)))

  abbrev test : Selector → Bool
  test column = list_any (same_selector column) (turned [] (selectors front))

  read_column : (column : Selector) (b : Bool) → Stands → read_selector cs d ≡ Ok column → IsAmong column front ≡ b → whole ≡ after (selectors front) (later column b)
  read_column column b e is h =
      e ∙ ap (λ r. after (selectors front) (next r (λ column. later column (test column)))) is
      ∙ ap (λ b. after (selectors front) (later column b)) (seen-among column front ∙ h)

  pub columns_fault : (f : Error) → Stands → read_selector cs d ≡ Err f → whole ≡ Err f
  columns_fault f e is = e ∙ ap (λ r. after (selectors front) (next r (λ column. later column (test column)))) is

  pub columns_repeated : (column : Selector) → Stands → read_selector cs d ≡ Ok column → IsAmong column front ≡ true → whole ≡ Err syntax_error
  columns_repeated column e is h = read_column column true e is h

  pub columns_more : (column : Selector) → Stands → read_selector cs d ≡ Ok column → IsAmong column front ≡ false → whole ≡ after (selectors front ++ column ∷ []) (distinct_columns cs (turned [] (selectors front ++ column ∷ [])) ds)
  columns_more column e is h =
      read_column column false e is h
      ∙ moved (selectors front) column (distinct_columns cs (column ∷ turned [] (selectors front)) ds)
      ∙ ap (λ seen. after (selectors front ++ column ∷ []) (distinct_columns cs seen ds)) (sym (turned-push [] (selectors front) column))
