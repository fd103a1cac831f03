-- Which references the types of columns make (RFC 7047, clause 3.2, `refTable` and `refType`).
use Rattle.std.specs.Prelude.{ℕ, Bool, false, not, ◌&&◌, ◌||◌, unwrap_or, Option, option_map}
use Rattle.std.specs.List.{list_any}
use Rattle.odb_atoms.specs.Atom.{Atom}
use Rattle.odb_atoms.specs.ColType.{Base, ColType, value_base}
use Rattle.odb_schema.specs.Schema.{Schema}
use Rattle.odb_integrity.specs.Settlement.{RowId, is_weak, referent, same_row}

abbrev pub is_strong : Base → Bool
is_strong b = unwrap_or (option_map (λ r. not r.weak) b.reference) false

-- a pair of a weak reference and a strong one: it goes whole where the weak one is stale
abbrev pub is_mixed : ColType → Bool
is_mixed t = (is_weak t.key && is_strong (value_base t)) || (is_weak (value_base t) && is_strong t.key)

-- a column of the schema is of such a type
abbrev pub has_type : (ColType → Bool) → Schema → Bool
has_type p s = list_any (λ t. list_any (λ c. p c.type) t.columns) s.tables

-- the atom names the row, where atoms of its kind refer to this table
abbrev pub names : Option ℕ → RowId → Atom → Bool
names t x a = unwrap_or (option_map (same_row x) (referent t a)) false
