-- The entries of a value: the elements of a set, which have no value, and the pairs of a map.
use Rattle.std.specs.Prelude.{◌≡◌, ◌≤◌, Bool, true, false, cond, T, List, [], ◌∷◌, ◌++◌, length, map, take, Option, Some, None}
use Rattle.std.specs.FinMap.Entries.{by_order, find, is_sorted}
use Rattle.std.specs.List.{list_all}
use Rattle.std.specs.Ordering.{is_lt}
use Rattle.odb_atoms.specs.Atom.{Atom, atom_cmp, same_atom}

-- a key, and the value that a map has there
abbrev pub Entry : Type 0
Entry = Atom × Option Atom

-- there is none, or the first one's key is greater than this one
abbrev pub is_after : List Entry → Atom → Bool
is_after [] k = true
is_after (e ∷ es) k = is_lt (atom_cmp k e.0)

-- the keys strictly rise
abbrev pub IsRising : List Entry → Type 0
IsRising es = T (is_sorted atom_cmp es)

-- each key is less than this one
abbrev pub AreBefore : List Entry → Atom → Type 0
AreBefore es k = T (list_all (λ e. is_lt (atom_cmp e.0 k)) es)

-- the keys of the first list are less than that of each of the second, which rises
abbrev pub AreApart : List Entry → List Entry → Type 0
AreApart xs [] = Unit {0}
AreApart xs (y ∷ ys) = AreBefore xs y.0

-- there is none, or the first one's key isn't less than this one
abbrev pub IsFrom : List Entry → Atom → Type 0
IsFrom [] k = Unit {0}
IsFrom (e ∷ es) k = is_lt (atom_cmp e.0 k) ≡ false

-- there is none, or the second list has one, and the first one's key isn't less than that one's
abbrev pub AreFrom : List Entry → List Entry → Type 0
AreFrom [] ys = Unit {0}
AreFrom (x ∷ xs) [] = ⊥
AreFrom (x ∷ xs) (y ∷ ys) = is_lt (atom_cmp x.0 y.0) ≡ false

-- there is a first one, and its key is less than this one
abbrev pub IsFirstBefore : List Entry → Atom → Type 0
IsFirstBefore es k = AreBefore (take 1 es) k × (1 ≤ length es)

-- a run of the entries at the front, whose keys are less than this one, is appended to the list, and these are left
pub record CopiesRun (k : Atom) (entries left before after : List Entry) : Type 0 where
  pub run : List Entry
  pub front : entries ≡ run ++ left
  pub less : AreBefore run k
  pub appended : after ≡ before ++ run

-- what stands at a key, if there is an entry
abbrev pub entry_at : List Entry → Atom → Option (Option Atom)
entry_at es k = find atom_cmp k es

-- the same value, or none
abbrev pub alike : Option Atom → Option Atom → Bool
alike None None = true
alike None (Some b) = false
alike (Some a) None = false
alike (Some a) (Some b) = same_atom a b

abbrev pub is_alike : Option (Option Atom) → Option Atom → Bool
is_alike None v = false
is_alike (Some u) v = alike u v

-- the entry is among them
abbrev pub has_entry : List Entry → Entry → Bool
has_entry es e = is_alike (entry_at es e.0) e.1

-- of what two lists have at a key: what one alone has; nothing where both have the same; and where they differ the second's
abbrev pub changed_value : Option (Option Atom) → Option (Option Atom) → Option (Option Atom)
changed_value None y = y
changed_value (Some a) None = Some a
changed_value (Some a) (Some b) = cond (alike a b) None (Some b)

-- at each key stands what the two make of it
abbrev pub IsChange : List Entry → List Entry → List Entry → Type 0
IsChange old new change = (k : Atom) → entry_at change k ≡ changed_value (entry_at old k) (entry_at new k)

abbrev pub keys_of : List Entry → List Atom
keys_of = map (λ e. e.0)

-- an entry and those after it, against a second list; `rest` says what becomes of those after it
abbrev pub against : Entry → List Entry → (List Entry → List Entry) → List Entry → List Entry
against x xs rest [] = x ∷ xs
against x xs rest (y ∷ ys) = by_order (atom_cmp x.0 y.0) (x ∷ rest (y ∷ ys)) (cond (alike x.1 y.1) (rest ys) (y ∷ rest ys)) (y ∷ against x xs rest ys)

-- the entries by which two rising lists differ, in their order
abbrev pub merged : List Entry → List Entry → List Entry
merged [] ys = ys
merged (x ∷ xs) ys = against x xs (merged xs) ys
