-- Codes of schemas and of their parts, so that they can be what contracts see of a type.
use Rattle.std.specs.Prelude.{◌≡◌, ℕ, ℤ, Bool, cond, ◌==◌, List, Option, refl}
use Rattle.std.specs.Coded.{Coded, code_by, coded×, coded_ℕ, coded_ℤ, coded_bool, coded_list, coded_option}
use Rattle.odb_atoms.specs.FinSet as set
use Rattle.odb_atoms.specs.Atom.{Kind, atom_code, booleans, integers, rank, strings, uuids}
use Rattle.odb_atoms.specs.ColType.{Base, ColType, Reference}
use Rattle.odb_atoms.specs.Value.{Atoms}
use Rattle.odb_schema.specs.Schema.{Column, Schema, TableSchema}

abbrev pub kind_at : ℕ → Kind
kind_at n = cond (n == 0) integers (cond (n == 1) booleans (cond (n == 2) strings uuids))

pub kind_at-rank : (k : Kind) → kind_at (rank k) ≡ k
kind_at-rank integers = refl
kind_at-rank booleans = refl
kind_at-rank strings = refl
kind_at-rank uuids = refl

abbrev pub kind_code : Coded Kind
kind_code = code_by ℕ coded_ℕ rank kind_at kind_at-rank

abbrev pub text_code : Coded (List ℕ)
text_code = coded_list coded_ℕ

abbrev pub reference_code : Coded Reference
reference_code = code_by (List ℕ × Bool) (coded× text_code coded_bool) (λ r. (r.table, r.weak)) (λ p. record { table = p.0; weak = p.1 }) (λ _. refl)

abbrev Bounds : Type 0
Bounds = Option ℤ × Option ℤ

abbrev bounds_code : Coded Bounds
bounds_code = coded× (coded_option coded_ℤ) (coded_option coded_ℤ)

abbrev base_code : Coded Base
base_code =
    code_by (Kind × (Option Atoms × (Bounds × (Bounds × Option Reference))))
    (coded× kind_code (coded× (coded_option (set.code atom_code)) (coded× bounds_code (coded× bounds_code (coded_option reference_code)))))
    (λ b. (b.kind, (b.enum, ((b.min_integer, b.max_integer), ((b.min_length, b.max_length), b.reference)))))
    (λ p. record { kind = p.0; enum = p.1.0; min_integer = p.1.1.0.0; max_integer = p.1.1.0.1; min_length = p.1.1.1.0.0; max_length = p.1.1.1.0.1; reference = p.1.1.1.1 })
    (λ _. refl)

abbrev pub type_code : Coded ColType
type_code =
    code_by (Base × (Option Base × (ℕ × Option ℕ)))
    (coded× base_code (coded× (coded_option base_code) (coded× coded_ℕ (coded_option coded_ℕ))))
    (λ t. (t.key, (t.value, (t.min, t.max))))
    (λ p. record { key = p.0; value = p.1.0; min = p.1.1.0; max = p.1.1.1 })
    (λ _. refl)

abbrev pub column_code : Coded Column
column_code =
    code_by (List ℕ × (ColType × (Bool × Bool)))
    (coded× text_code (coded× type_code (coded× coded_bool coded_bool)))
    (λ c. (c.name, (c.type, (c.ephemeral, c.mutable))))
    (λ p. record { name = p.0; type = p.1.0; ephemeral = p.1.1.0; mutable = p.1.1.1 })
    (λ _. refl)

abbrev pub table_code : Coded TableSchema
table_code =
    code_by (List ℕ × (List Column × (Option ℕ × (Bool × List (List (List ℕ))))))
    (coded× text_code (coded× (coded_list column_code) (coded× (coded_option coded_ℕ) (coded× coded_bool (coded_list (coded_list text_code))))))
    (λ t. (t.name, (t.columns, (t.max_rows, (t.is_root, t.indexes)))))
    (λ p. record { name = p.0; columns = p.1.0; max_rows = p.1.1.0; is_root = p.1.1.1.0; indexes = p.1.1.1.1 })
    (λ _. refl)

abbrev pub schema_code : Coded Schema
schema_code =
    code_by (List ℕ × (List ℕ × (Option (List ℕ) × List TableSchema)))
    (coded× text_code (coded× text_code (coded× (coded_option text_code) (coded_list table_code))))
    (λ s. (s.name, (s.version, (s.cksum, s.tables))))
    (λ p. record { name = p.0; version = p.1.0; cksum = p.1.1.0; tables = p.1.1.1 })
    (λ _. refl)
