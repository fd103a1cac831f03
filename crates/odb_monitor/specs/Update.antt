-- Table updates as JSON (RFC 7047, section 4.1.6; ovsdb-server(7), update2). [P 9.3]
use Rattle.std.specs.Prelude.{ℕ, Bool, if◌then◌else◌, List, [], ◌∷◌, map, Option, Some, None, option_map, codes}
use Rattle.serde_json.specs.Data.{Data, null, object, Members, no_members, member}
use Rattle.odb_atoms.specs.ColType.{default_of}
use Rattle.odb_atoms.specs.Difference.{difference}
use Rattle.odb_atoms.specs.Uuid.{Uuid, uuid_text}
use Rattle.odb_atoms.specs.Value.{Value, same_value}
use Rattle.odb_schema.specs.Notation.{write_value}
use Rattle.odb_request.specs.Request.{Column, Shape, Notation, update, update2, column_names, table_names}
use Rattle.odb_monitor.specs.View.{Cells, Change, comes_in, goes_out, differs, Delta}

-- the names in order, each with its data where it has some
abbrev pub members : List (List ℕ) → List (Option Data) → Members
members [] ds = no_members
members (n ∷ ns) [] = no_members
members (n ∷ ns) (None ∷ ds) = members ns ds
members (n ∷ ns) (Some d ∷ ds) = member n d (members ns ds)

abbrev pub one : List ℕ → Data → Data
one name d = object (member name d no_members)

-- every column
abbrev pub all_cells : Cells → List (Option Value)
all_cells vs = map (λ v. Some v) vs

-- the columns that aren't equal to their default
abbrev pub set_cells : List Column → Cells → List (Option Value)
set_cells [] vs = []
set_cells (c ∷ cs) [] = []
set_cells (c ∷ cs) (v ∷ vs) = (if same_value v (default_of c.type) then None else Some v) ∷ set_cells cs vs

-- the old values of the columns that differ
abbrev pub old_cells : Cells → Cells → List (Option Value)
old_cells [] ws = []
old_cells (v ∷ vs) [] = []
old_cells (v ∷ vs) (w ∷ ws) = (if same_value v w then None else Some v) ∷ old_cells vs ws

-- the differences of the columns that differ
abbrev pub differences : List Column → Cells → Cells → List (Option Value)
differences [] vs ws = []
differences (c ∷ cs) [] ws = []
differences (c ∷ cs) (v ∷ vs) [] = []
differences (c ∷ cs) (v ∷ vs) (w ∷ ws) = (if same_value v w then None else Some (difference v w c.type)) ∷ differences cs vs ws

abbrev pub row_object : List Column → List (Option Value) → Data
row_object cs vs = object (members (column_names cs) (map (option_map write_value) vs))

abbrev pub row_update : Notation → Bool → List Column → Change → Data
row_update update first cs (comes_in new) = one (codes "new") (row_object cs (all_cells new))
row_update update first cs (goes_out old) = one (codes "old") (row_object cs (all_cells old))
row_update update first cs (differs old new) = object (member (codes "new") (row_object cs (all_cells new)) (member (codes "old") (row_object cs (old_cells old new)) no_members))
row_update update2 first cs (comes_in new) = one (if first then codes "initial" else codes "insert") (row_object cs (set_cells cs new))
row_update update2 first cs (goes_out old) = one (codes "delete") null
row_update update2 first cs (differs old new) = one (codes "modify") (row_object cs (differences cs old new))

abbrev pub row_updates : Notation → Bool → List Column → List (Uuid × Change) → Members
row_updates n first cs [] = no_members
row_updates n first cs (e ∷ es) = member (uuid_text e.0) (row_update n first cs e.1) (row_updates n first cs es)

-- a table without changed rows is left out
abbrev pub table_update : Notation → Bool → List Column → List (Uuid × Change) → Option Data
table_update n first cs [] = None
table_update n first cs (e ∷ es) = Some (object (row_updates n first cs (e ∷ es)))

abbrev pub table_parts : Notation → Bool → List Shape → Delta → List (Option Data)
table_parts n first [] D = []
table_parts n first (s ∷ ss) [] = []
table_parts n first (s ∷ ss) (t ∷ D) = table_update n first s.columns t.entries ∷ table_parts n first ss D

abbrev pub table_updates : Notation → Bool → List Shape → Delta → Data
table_updates n first ss D = object (members (table_names ss) (table_parts n first ss D))
