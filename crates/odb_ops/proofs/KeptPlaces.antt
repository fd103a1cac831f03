-- What an update or mutations leave of a row: all columns that they don't name.
use Rattle.std.proofs.Common.{◌≡◌, ◌≢◌, ℕ, zero, suc, Bool, true, false, ◌||◌, List, [], ◌∷◌, map, slice_get, slice_set, Option, Some, None, Result, Ok, Err, is_some, option_and_then, refl, sym, ap, ◌∙◌}
use Rattle.std.specs.Prelude.{nat_eq}
use Rattle.std.specs.Result.{result_ok}
use Rattle.std.proofs.lemmas.Bool.{eqb-false}
use Rattle.odb_atoms.specs.ColType.{ColType}
use Rattle.odb_atoms.specs.Error.{Error}
use Rattle.odb_atoms.specs.First.{◌>>=◌}
use Rattle.odb_atoms.specs.Row.{Row, cell, declared}
use Rattle.odb_atoms.specs.Uuid.{zero_uuid}
use Rattle.odb_atoms.specs.Value.{Value}
use Rattle.odb_mutate.specs.Mutation.{Mutation, mutate}
use Rattle.odb_ops.specs.Execution.{mutated, replaced}
use Rattle.odb_ops.specs.Represented.Parts.{with_value}
use Rattle.odb_schema.specs.Schema.{Column, column_type}
use Rattle.odb_tables.specs.Draft.{IsSameBut}

both_off : (a b : Bool) → (a || b) ≡ false → (a ≡ false) × (b ≡ false)
both_off true b e = let no : ⊥ = cc in absurd no
both_off false b e = (refl, e)

set_elsewhere : (vs : List Value) (i p : ℕ) (v : Value) → p ≢ i → slice_get (slice_set vs i v) p ≡ slice_get vs p
set_elsewhere [] i p v other = refl
set_elsewhere (x ∷ vs) zero zero v other = absurd (other refl)
set_elsewhere (x ∷ vs) zero (suc p) v other = refl
set_elsewhere (x ∷ vs) (suc i) zero v other = refl
set_elsewhere (x ∷ vs) (suc i) (suc p) v other = set_elsewhere vs i p v (λ e. other (ap suc e))

pub replaced_keeps : (es : List (ℕ × Value)) (r : Row) → IsSameBut (map (λ e. e.0) es) r (replaced es r)
replaced_keeps [] r p off = refl
replaced_keeps (e ∷ es) r p off =
    let parts = both_off (nat_eq p e.0) _ off in
    replaced_keeps es r p parts.1 ∙ sym (set_elsewhere (replaced es r).columns e.0 p e.1 (eqb-false p e.0 parts.0))

pub mutated_keeps : (cs : List Column) (ms : List Mutation) (r q : Row) → mutated cs ms r ≡ Ok q → IsSameBut (map (λ m. m.column) ms) r q
mutated_keeps cs [] r q is p off = ap (λ (x : Result Row Error). option_and_then (λ (y : Row). slice_get y.columns p) (result_ok x)) is
mutated_keeps cs (m ∷ ms) r q is p off =
    let parts = both_off (nat_eq p m.column) _ off in
    by (mutate m.mutator m.value (column_type cs m.column) (cell zero_uuid r (declared m.column)))
    (λ v made. sym (set_elsewhere r.columns m.column p v (eqb-false p m.column parts.0)) ∙ mutated_keeps cs ms (with_value m.column v r) q made p parts.1) is
  where
    by : (made : Result Value Error) → ((v : Value) → mutated cs ms (with_value m.column v r) ≡ Ok q → slice_get r.columns p ≡ slice_get q.columns p)
        → ◌>>=◌ made (λ v. mutated cs ms (with_value m.column v r)) ≡ Ok q → slice_get r.columns p ≡ slice_get q.columns p
    by (Ok v) rest e = rest v e
    by (Err x) rest e = let no : ⊥ = cc in absurd no
