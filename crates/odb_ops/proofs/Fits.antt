-- Rows of which each value is of its column's kind, and mutations of them.
use Rattle.std.proofs.Common.{◌≡◌, ℕ, zero, suc, ◌==◌, arith, true, List, [], ◌∷◌, length, slice_get, unwrap_or, Result, Ok, Err, sym, ap, subst, ◌∙◌, refl}
use Rattle.std.proofs.lemmas.Bool.{false≢true}
use Rattle.std.proofs.lemmas.Bool.Decides.{nat_tests}
use Rattle.odb_atoms.specs.FinMap as map
use Rattle.odb_atoms.specs.FinSet as set
use Rattle.odb_atoms.specs.ColType.{has_kind}
use Rattle.odb_atoms.specs.Error.{Error}
use Rattle.odb_atoms.specs.First.{◌>>=◌}
use Rattle.odb_atoms.specs.Row.{Row, cell, declared}
use Rattle.odb_atoms.specs.Uuid.{zero_uuid}
use Rattle.odb_atoms.specs.Value.{Value, set_of}
use Rattle.odb_atoms.proofs.Lists.{both}
use Rattle.odb_mutate.specs.Mutation.{Mutation, mutate}
use Rattle.odb_ops.specs.Execution.{mutated}
use Rattle.odb_ops.specs.Represented.Parts.{with_value}
use Rattle.odb_ops.proofs.Typed.{mutated_fits}
use Rattle.odb_schema.specs.Schema.{Column, column_type}
use Rattle.odb_schema.proofs.Holds.{Holds, in_read}
use Rattle.odb_tables.specs.Typed.{fits}
use Rattle.odb_tables.proofs.TypedDatabases.{AreOfKind}

nothing_of_kind : has_kind (column_type [] 0) (set_of set.empty) ≡ true
unfolding map.empty map.keys
nothing_of_kind = refl

-- what stands in a column is of its kind
at_place : (cs : List Column) (vs : List Value) (i : ℕ) → (length vs == length cs) ≡ true → AreOfKind cs vs → has_kind (column_type cs i) (unwrap_or (slice_get vs i) (set_of set.empty)) ≡ true
at_place [] [] i long fit = nothing_of_kind
at_place [] (v ∷ vs) i long fit = absurd (false≢true (sym (grind (arith, nat_tests)) ∙ long))
at_place (c ∷ cs) [] i long fit = absurd (false≢true (sym (grind (arith, nat_tests)) ∙ long))
at_place (c ∷ cs) (v ∷ vs) zero long fit = (both (has_kind c.type v) _ fit).0
at_place (c ∷ cs) (v ∷ vs) (suc i) long fit = at_place cs vs i (grind (arith, nat_tests)) (both (has_kind c.type v) _ fit).1

pub cell_has_kind : (cs : List Column) (r : Row) (i : ℕ) → fits cs r ≡ true → has_kind (column_type cs i) (cell zero_uuid r (declared i)) ≡ true
cell_has_kind cs r i fit =
    let parts : ((length r.columns == length cs) ≡ true) × AreOfKind cs r.columns = both (length r.columns == length cs) _ fit in
    at_place cs r.columns i parts.0 parts.1

-- a row that was mutated fits as it did
pub mutated_fit : (cs : List Column) (ms : List Mutation) (r new : Row) → fits cs r ≡ true → mutated cs ms r ≡ Ok new → fits cs new ≡ true
mutated_fit cs ms r new fit e = in_read Error (λ q. fits cs q ≡ true) new (subst (Holds (λ q. fits cs q ≡ true)) e (mutated_fits cs ms r fit))

-- one mutation, and then the others
pub mutated_more : (cs : List Column) (m : Mutation) (ms : List Mutation) (r new : Row) → mutated cs (m ∷ []) r ≡ Ok new → mutated cs (m ∷ ms) r ≡ mutated cs ms new
mutated_more cs m ms r new e = by (mutate m.mutator m.value (column_type cs m.column) (cell zero_uuid r (declared m.column))) e
  where
    by : (v : Result Value Error) → ◌>>=◌ v (λ w. Ok (with_value m.column w r)) ≡ Ok new → ◌>>=◌ v (λ w. mutated cs ms (with_value m.column w r)) ≡ mutated cs ms new
    by (Ok v) e = let same : with_value m.column v r ≡ new = cc in ap (mutated cs ms) same
    by (Err x) e = let no : ⊥ = cc in absurd no

-- the first of them has a fault
pub mutated_fault : (cs : List Column) (m : Mutation) (ms : List Mutation) (r : Row) (x : Error) → mutated cs (m ∷ []) r ≡ Err x → mutated cs (m ∷ ms) r ≡ Err x
mutated_fault cs m ms r x e = by (mutate m.mutator m.value (column_type cs m.column) (cell zero_uuid r (declared m.column))) e
  where
    by : (v : Result Value Error) → ◌>>=◌ v (λ w. Ok (with_value m.column w r)) ≡ Err x → ◌>>=◌ v (λ w. mutated cs ms (with_value m.column w r)) ≡ Err x
    by (Ok v) e = let no : ⊥ = cc in absurd no
    by (Err y) e = e
