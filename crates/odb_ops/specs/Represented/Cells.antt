-- Selected columns of rows, and sets of them.
use Rattle.std.specs.Prelude.{◌≡◌, Bool, cond, List, [], ◌∷◌, find, unwrap_or, map as map_list, option_to_list, option_map, Vec}
use Rattle.std.specs.BTreeSet.{BTreeSet}
use Rattle.std.specs.Borrow.{Bor}
use Rattle.std.specs.Cmp.Lexicographic.{slice_cmp}
use Rattle.std.specs.List.{list_any}
use Rattle.std.specs.Ordering.{is_eq}
use Rattle.std.specs.declared.alloc.Global.{Global}
use Rattle.odb_atoms.specs.FinMap as map
use Rattle.odb_atoms.specs.Row.{Selector, same_selector}
use Rattle.odb_atoms.specs.ColType.{default_of}
use Rattle.odb_atoms.specs.Uuid.{Uuid}
use Rattle.odb_atoms.specs.Value.{Value, same_values}
use Rattle.odb_atoms.specs.Members.{value_cmp}
use Rattle.odb_ops.specs.Execution.{project}
use Rattle.odb_schema.specs.Schema.{Column, selector_type}
use Rattle.odb_tables.specs.Database.{Table}

-- the columns of the row of an identifier, if there is one
abbrev pub cells_at : List Selector → Table → Uuid → List (List Value)
cells_at columns table u = option_to_list (option_map (project columns u) (map.get table u))

-- one of the contents is this one
abbrev pub content_in : BTreeSet (Bor (List Value)) → List Value → Bool
content_in set q = list_any (λ k. is_eq (slice_cmp value_cmp q k.now)) set.keys

-- the contents of these rows
abbrev pub IsSetOf : BTreeSet (Bor (List Value)) → List (List Value) → Type 0
IsSetOf set rows = (q : List Value) → content_in set q ≡ list_any (same_values q) rows

-- one of the contents, which are lent by their values, is this one
abbrev pub lent_in : BTreeSet (Vec (Bor Value) Global) → Vec (Bor Value) Global → Bool
lent_in set q = list_any (λ k. is_eq (slice_cmp value_cmp (map_list (λ v. v.now) q.items) (map_list (λ v. v.now) k.items))) set.keys

-- the contents of these rows, lent by their values
abbrev pub IsLentSetOf : BTreeSet (Vec (Bor Value) Global) → List (List Value) → Type 0
IsLentSetOf set rows = (q : Vec (Bor Value) Global) → lent_in set q ≡ list_any (same_values (map_list (λ v. v.now) q.items)) rows

-- the row, unless it is among these
abbrev pub given_once : List (List Value) → List Value → List (List Value)
given_once rows row = cond (list_any (same_values row) rows) [] (row ∷ [])

-- the value given for the column, or its default
abbrev pub value_in : List Column → List (Selector × Value) → Selector → Value
value_in cs given c = unwrap_or (option_map (λ e. e.1) (find (λ e. same_selector e.0 c) given)) (default_of (selector_type cs c))
