-- What leads from what rows were to what they are.
use Rattle.std.proofs.Common.{◌≡◌, List, [], ◌∷◌, ◌++◌, option_to_list, Option, Some, None, option_and_then, refl, sym, ap, ◌∙◌}
use Rattle.std.specs.List.{IsDistinct, cons_option}
use Rattle.std.specs.Map.{keys_of}
use Rattle.std.specs.Ordering.{eq_by_cmp}
use Rattle.odb_atoms.specs.FinMap as map
use Rattle.odb_atoms.specs.Row.{Row}
use Rattle.odb_atoms.specs.Uuid.{Uuid, uuid_cmp}
use Rattle.odb_atoms.proofs.Atoms.{uuid_cmp_total, uuid_cmp-IsAntisymmetric}
use Rattle.odb_atoms.proofs.FinMaps.{get-combine, same_map}
use Rattle.odb_tables.specs.Change.{change, changed_row}
use Rattle.odb_tables.specs.Database.{Table}
use Rattle.odb_tables.proofs.KeyedMaps.{get-from_entries}
use Rattle.odb_tables.proofs.Leading.{Entry, Sides, change_of, changes_of, find-changes, unchanged}
use Rattle.odb_recent.specs.Undo.{Olds, old_or, undone_by}

abbrev pub OldEntry : Type 0
OldEntry = Uuid × Option Row

module _ (t : Table) where
  -- what a row became that was this
  abbrev pub became : Uuid → Option Row → Option Sides
  became q o = changed_row o (map.get t q)

  pub became-more : (cs : List Entry) (e : OldEntry) (es : List OldEntry) → (cs ++ option_to_list (change_of became e)) ++ changes_of became es ≡ cs ++ changes_of became (e ∷ es)
  became-more [] e es = by (change_of became e) (changes_of became es)
    where
      by : (o : Option Entry) (ds : List Entry) → option_to_list o ++ ds ≡ cons_option o ds
      by None ds = refl
      by (Some c) ds = refl
  became-more (c ∷ cs) e es = ap (λ ds. c ∷ ds) (became-more cs e es)

  from_old : (r : Option Row) (o : Option (Option Row)) → option_and_then (λ x. changed_row x r) o ≡ changed_row (old_or r o) r
  from_old r None = sym (unchanged r)
  from_old r (Some x) = refl

  pub became-change : (m : Olds) (es : List OldEntry) → IsDistinct (eq_by_cmp uuid_cmp) (keys_of es) → map.from_entries es ≡ m → map.from_entries (changes_of became es) ≡ change (undone_by t m) t
  became-change m es h is =
      same_map uuid_cmp_total uuid_cmp-IsAntisymmetric _ _
      (λ q. get-from_entries (changes_of became es) q ∙ find-changes became es q h
      ∙ ap (option_and_then (became q)) (sym (get-from_entries es q) ∙ ap (λ (n : Olds). map.get n q) is)
      ∙ from_old (map.get t q) (map.get m q)
      ∙ ap (λ r. changed_row r (map.get t q)) (sym (get-combine uuid_cmp_total uuid_cmp-IsAntisymmetric old_or refl t m q))
      ∙ sym (get-combine uuid_cmp_total uuid_cmp-IsAntisymmetric changed_row refl (undone_by t m) t q))
