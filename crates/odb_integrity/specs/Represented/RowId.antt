-- Row ids of the code: the order of tables, and in each of identifiers.
use Rattle.std.specs.Coded.{Coded, coded×, coded_ℕ}
use Rattle.std.specs.declared.cmp.Ordering.{Ordering}
use Rattle.std.specs.Ordering.{eq_by_cmp, nat_cmp, on, then_cmp}
use Rattle.std.specs.Cmp.{IsEquivalence, IsPartialEquivalence, IsPartialOrder, IsTotalOrder, eq_by_cmp_equiv, nat_cmp_total, on_total, partial_equiv_from_equiv, po, then_total}
use Rattle.std.specs.BTreeSet.{BTreeSet, contains}
use Rattle.std.specs.Prelude.{Bool, ◌||◌, Some, refl}
use Rattle.odb_schema.specs.Schema.{Schema, is_root_at}
use Rattle.odb_atoms.specs.Uuid.{uuid_code}
use Rattle.odb_integrity.specs.Settlement.{RowId}

abbrev pub row_id_code : Coded RowId
row_id_code = coded× coded_ℕ uuid_code

-- by the table's place, and then by the identifier's number
abbrev pub row_id_cmp : RowId → RowId → Ordering
row_id_cmp = then_cmp (on (λ x. x.0) nat_cmp) (on (λ x. x.1.number) nat_cmp)

pub row_ids_total : IsTotalOrder row_id_cmp
row_ids_total = then_total (on_total (λ x. x.0) nat_cmp_total) (on_total (λ x. x.1.number) nat_cmp_total)

pub row_ids_partial : IsPartialOrder (eq_by_cmp row_id_cmp) (λ x y. Some (row_id_cmp x y))
row_ids_partial = po row_ids_total (λ _ _. refl)

pub row_ids_equivalent : IsEquivalence (eq_by_cmp row_id_cmp)
row_ids_equivalent = eq_by_cmp_equiv row_ids_total

pub row_ids_partially_equivalent : IsPartialEquivalence (eq_by_cmp row_id_cmp)
row_ids_partially_equivalent = partial_equiv_from_equiv row_ids_equivalent

-- of a root table, or one of the rows
abbrev pub supports : Schema → BTreeSet RowId → RowId → Bool
supports s referred x = is_root_at s x.0 || contains row_id_cmp referred x
