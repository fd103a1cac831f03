use Rattle.std.proofs.Common.{◌≡◌, ℕ, false, take}
use Rattle.std.specs.Prelude.{nat_eq}
use Rattle.std.specs.List.{list_any}
use Rattle.odb_tables.specs.Represented.ChangedColumns.{IsWithin, may_change}
use Rattle.odb_tables.proofs.changed_columns.ChangedColumns.add_each.Given as goal

abbrev pub invariant-loop-place : goal.invariant-loop-place
invariant-loop-place l = record {
  within : IsWithin l.initial.self l.self;
  added : (p : ℕ) → may_change l.self p ≡ false → list_any (nat_eq p) (take l.place-index l.places) ≡ false;
}
