-- What a hasher makes of the values in some columns, one after the other.
use Rattle.std.proofs.Common.{◌≡◌, List, map, refl, ap}
use Rattle.std.specs.declared.hash.DefaultHasher.{DefaultHasher}
use Rattle.odb_atoms.specs.FinMap as finite
use Rattle.odb_atoms.specs.Represented.Atom.{atom_of}
use Rattle.odb_atoms.specs.Represented.Value as shown
use Rattle.odb_atoms.specs.Represented.Value.{pair_of}
use Rattle.odb_atoms.specs.declared.atom.Atom as code
use Rattle.odb_atoms.specs.declared.value.Entries.TheVariants as entries
use Rattle.odb_atoms.specs.Value.{Value, map_of, set_of}
use Rattle.odb_tables.specs.Represented.Digest.{after_atoms, after_pairs, after_value}
use Rattle.odb_tables.proofs.Twins.{nothing_in}

pub fed_elements : (h : DefaultHasher) (elements : List code.Atom) (v : Value) → shown.Lists (entries.Set elements) v → after_atoms h (map atom_of elements) ≡ after_value h v
fed_elements h elements (set_of s) listed = ap (after_atoms h) listed
fed_elements h elements (map_of m) listed = absurd listed

pub fed_entries : (h : DefaultHasher) (pairs : List (code.Atom × code.Atom)) (v : Value) → shown.Lists (entries.Map pairs) v → after_pairs h (map pair_of pairs) ≡ after_value h v
fed_entries h pairs (set_of s) listed = absurd listed
fed_entries h pairs (map_of m) listed = ap (after_pairs h) listed

pub fed_nothing : (h : DefaultHasher) → after_value h nothing_in ≡ h
unfolding finite.keys finite.empty
fed_nothing h = refl
