-- Operations keep databases of their schema.
use Rattle.std.specs.Prelude.{◌≡◌, ℕ, Bool, true, false, cond, not, ◌&&◌, ◌==◌, List, [], ◌∷◌, length, map as map_list, is_none, ⊤, slice_set, unwrap_or, Option, Some, None, option_and_then, Result, Ok, Err}
use Rattle.std.specs.List.{enumerate_from}
use Rattle.std.specs.Result.{result_ok}
use Rattle.std.specs.Ordering.{eq_by_cmp}
use Rattle.std.proofs.lemmas.Option.{none-some, same_Some}
use Rattle.std.proofs.lemmas.List.{length-map}
use Rattle.std.proofs.lemmas.List.FromFn.{length-enumerate_from}
use Rattle.std.specs.Cmp.{unsigned_Decides}
use mathlib.Core.Path.{refl, sym, ap, subst, ◌∙◌}
use Rattle.odb_atoms.specs.FinMap as map
use Rattle.odb_atoms.specs.ColType.{AdmitFault, admits, has_kind, wrong_kind}
use Rattle.odb_atoms.specs.Error.{Error, constraint_violation, duplicate_uuid, duplicate_uuid_name, resources_exhausted}
use Rattle.odb_atoms.specs.First.{demand}
use Rattle.odb_atoms.specs.Row.{Row, Selector, cell}
use Rattle.odb_atoms.specs.Uuid.{Uuid, uuid_cmp, zero_uuid}
use Rattle.odb_atoms.specs.Value.{Value, within_limit}
use Rattle.odb_atoms.proofs.Atoms.{uuid_cmp-IsAntisymmetric}
use Rattle.odb_atoms.proofs.FinMaps.{get-insert, get-map_entries, get-retain_keys}
use Rattle.odb_atoms.proofs.Lists.{both}
use Rattle.odb_cond.specs.Condition.{Clause, holds_all}
use Rattle.odb_json.specs.Operation.{Op, read_op}
use Rattle.odb_json.proofs.Suited.{op_suits}
use Rattle.odb_json.specs.Suited.{IsFor, are_of_kind}
use Rattle.odb_mutate.specs.Mutation.{Mutation, mutate, result_of}
use Rattle.odb_ops.specs.Execution as model
use Rattle.odb_ops.specs.Execution.{Context, Draft, Ran, Stop}
use Rattle.odb_schema.proofs.Holds.{Holds, in_read, none_read, passed_holds, read_in, tested_holds, then_holds, with_holds}
use Rattle.odb_schema.specs.Json.{Data}
use Rattle.odb_schema.specs.Notation.{Names}
use Rattle.odb_schema.specs.Schema.{Column, Schema, column_type, columns_at}
use Rattle.odb_tables.specs.Database.{Table, table_at}
use Rattle.odb_tables.specs.Represented.Key.{uuid_cmp_total}
use Rattle.odb_tables.specs.Typed.{IsTyped, fits}
use Rattle.odb_tables.proofs.TypedDatabases.{AllFit, AreOfKind, fits_with, typed_with}

abbrev Fits : List Column → Row → Type 0
Fits cs r = fits cs r ≡ true

-- ---- tables

rows_with : (cs : List Column) (table : Table) (u : Uuid) (r : Row) → AllFit cs table → Fits cs r → AllFit cs (map.insert table u r)
rows_with cs table u r h g q p e = by (eq_by_cmp uuid_cmp q u) (sym (get-insert uuid_cmp_total table u r q) ∙ e)
  where
    by : (b : Bool) → cond b (Some r) (map.get table q) ≡ Some p → Fits cs p
    by true e = subst (Fits cs) (same_Some r p e) g
    by false e = h q p e

rows_changed : (cs : List Column) (clauses : List Clause) (f : Row → Row) (table : Table) → AllFit cs table → ((r : Row) → Fits cs r → Fits cs (f r)) → AllFit cs (model.on_matching clauses f table)
rows_changed cs clauses f table h g q p e = by (map.get table q) refl (sym (get-map_entries uuid_cmp_total uuid_cmp-IsAntisymmetric (λ u r. Some (cond (holds_all clauses u r) (f r) r)) table q) ∙ e)
  where
    either : (b : Bool) (r : Row) → Fits cs r → Fits cs (cond b (f r) r)
    either true r k = g r k
    either false r k = k

    by : (o : Option Row) → map.get table q ≡ o → option_and_then (λ r. Some (cond (holds_all clauses q r) (f r) r)) o ≡ Some p → Fits cs p
    by None there e = absurd (none-some p e)
    by (Some r) there e = subst (Fits cs) (same_Some _ p e) (either (holds_all clauses q r) r (h q r there))

rows_left : (cs : List Column) (table : Table) (keep : Uuid → Bool) → AllFit cs table → AllFit cs (map.retain_keys table keep)
rows_left cs table keep h q p e = by (keep q) (sym (get-retain_keys table keep q (λ x t. ap keep (sym (uuid_cmp-IsAntisymmetric q x t)))) ∙ e)
  where
    by : (b : Bool) → cond b (map.get table q) None ≡ Some p → Fits cs p
    by true e = h q p e
    by false e = absurd (none-some p e)

-- ---- insert

of_kind : (b : Bool) (o : Option AdmitFault) → is_none (cond (not b) (Some wrong_kind) o) ≡ true → b ≡ true
of_kind true o e = refl
of_kind false o e = e

admitted_kinds : (cs : List Column) (vs : List Value) → model.all_admit cs vs ≡ true → AreOfKind cs vs
admitted_kinds [] [] e = refl
admitted_kinds [] (v ∷ vs) e = refl
admitted_kinds (c ∷ cs) [] e = refl
admitted_kinds (c ∷ cs) (v ∷ vs) e =
    let parts : (admits c.type v ≡ true) × (model.all_admit cs vs ≡ true) = both (admits c.type v) _ e in
    λ i. of_kind (has_kind c.type v) _ parts.0 i && admitted_kinds cs vs parts.1 i

same_length : (cs : List Column) (f : ℕ × Column → Value) → (length (map_list f (enumerate_from 0 cs)) == length cs) ≡ true
same_length cs f = (unsigned_Decides _ _).1 (length-map (enumerate_from 0 cs) f ∙ length-enumerate_from 0 cs)

new_fits : (cs : List Column) (given : List (ℕ × Value)) → model.all_admit cs (model.new_row cs given).columns ≡ true → Fits cs (model.new_row cs given)
new_fits cs given e = λ i. same_length cs (model.value_for given) i && admitted_kinds cs (model.new_row cs given).columns e i

-- ---- update and mutate

replaced_fits : (cs : List Column) (given : List (ℕ × Value)) (r : Row) → are_of_kind cs given ≡ true → Fits cs r → Fits cs (model.replaced given r)
replaced_fits cs [] r h g = g
replaced_fits cs (e ∷ es) r h g =
    let parts : (has_kind (column_type cs e.0) e.1 ≡ true) × (are_of_kind cs es ≡ true) = both (has_kind (column_type cs e.0) e.1) _ h in
    fits_with cs (model.replaced es r) e.0 e.1 (replaced_fits cs es r parts.1 g) parts.0

mutate_kind : (cs : List Column) (m : Mutation) (v : Value) → Holds (λ w. has_kind (column_type cs m.column) w ≡ true) (mutate m.mutator m.value (column_type cs m.column) v)
mutate_kind cs m v =
    then_holds P (result_of m.mutator v m.value) _ (λ new.
    tested_holds P (demand (within_limit new) resources_exhausted) _
    (passed_holds P (admits (column_type cs m.column) new) constraint_violation _ (λ e. read_in Error P new (of_kind (has_kind (column_type cs m.column) new) _ e))))
  where
    P : Value → Type 0
    P w = has_kind (column_type cs m.column) w ≡ true

pub mutated_fits : (cs : List Column) (ms : List Mutation) (r : Row) → Fits cs r → Holds (Fits cs) (model.mutated cs ms r)
mutated_fits cs [] r h = read_in Error (Fits cs) r h
mutated_fits cs (m ∷ ms) r h =
    with_holds (λ w. has_kind (column_type cs m.column) w ≡ true) (Fits cs) (mutate m.mutator m.value (column_type cs m.column) (cell zero_uuid r (Selector.declared m.column))) _
    (mutate_kind cs m (cell zero_uuid r (Selector.declared m.column)))
    (λ v g. mutated_fits cs ms (record r { columns = slice_set r.columns m.column v }) (fits_with cs r m.column v h g))

or_same : (cs : List Column) (r : Row) (q : Result Row Error) → Fits cs r → Holds (Fits cs) q → Fits cs (unwrap_or (result_ok q) r)
unfolding Holds
or_same cs r (Ok p) h g = g
or_same cs r (Err e) h g = h

-- ---- the ten operations

abbrev KeepsTyped : Schema → Result (Draft × Data) Stop → Type 0
KeepsTyped s = Holds (λ p. IsTyped s p.0.db)

goes_on : (s : Schema) (b : Bool) (d : Draft) (stop : Stop) → IsTyped s d.db → KeepsTyped s (model.go_on b d stop)
goes_on s true d stop h = read_in Stop (λ p. IsTyped s p.0.db) (d, model.empty_result) h
goes_on s false d stop h = none_read (λ p. IsTyped s p.0.db) stop

pub or_stop_holds : {A : Type 0} (P : A → Type 0) (r : Result A Error) → Holds P r → Holds P (model.or_stop r)
unfolding Holds
or_stop_holds P (Ok x) h = h
or_stop_holds P (Err e) h = tt

or_fault_holds : {A : Type 0} (P : A → Type 0) (o : Option Error) (x : A) → P x → Holds P (model.or_fault o x)
unfolding Holds
or_fault_holds P None x h = h
or_fault_holds P (Some e) x h = tt

inserted_typed : (s : Schema) (d : Draft) (u : Uuid) (t : ℕ) (given : List (ℕ × Value)) (name : Option (List ℕ)) → IsTyped s d.db → Holds (λ p. IsTyped s p.0.db) (model.inserted s d u t given name)
inserted_typed s d u t given name h =
    let row : Row = model.new_row (columns_at s t) given in
    tested_holds (λ p. IsTyped s p.0.db) (demand (not (model.takes_name d name)) duplicate_uuid_name) _
    (tested_holds (λ p. IsTyped s p.0.db) (demand (not (model.has_used d t u)) duplicate_uuid) _
    (passed_holds (λ p. IsTyped s p.0.db) (model.all_admit (columns_at s t) row.columns) constraint_violation _ (λ e.
    read_in Error (λ p. IsTyped s p.0.db) _ (typed_with s d.db t (map.insert (table_at d.db t) u row) h (rows_with (columns_at s t) (table_at d.db t) u row (h.1 t) (new_fits (columns_at s t) given e))))))

pub perform_typed : (s : Schema) (c : Context) (u : Uuid) (d : Draft) (o : Op) → IsFor s o → IsTyped s d.db → KeepsTyped s (model.perform s c u d o)
unfolding model.perform
perform_typed s c u d (Op.insert t given name own) suits h = or_stop_holds (λ p. IsTyped s p.0.db) (model.inserted s d (unwrap_or own u) t given name) (inserted_typed s d (unwrap_or own u) t given name h)
perform_typed s c u d (Op.select t clauses columns) suits h = read_in Stop (λ p. IsTyped s p.0.db) _ h
perform_typed s c u d (Op.update t clauses given) suits h =
    read_in Stop (λ p. IsTyped s p.0.db) _ (typed_with s d.db t _ h (rows_changed (columns_at s t) clauses (model.replaced given) (table_at d.db t) (h.1 t) (λ r g. replaced_fits (columns_at s t) given r suits.1 g)))
perform_typed s c u d (Op.mutate t clauses ms) suits h =
    or_fault_holds (λ p. IsTyped s p.0.db) (model.first_fault (model.faults (columns_at s t) ms (model.found d t clauses))) _
    (typed_with s d.db t _ h (rows_changed (columns_at s t) clauses (model.mutated_or_same (columns_at s t) ms) (table_at d.db t) (h.1 t) (λ r g. or_same (columns_at s t) r (model.mutated (columns_at s t) ms r) g (mutated_fits (columns_at s t) ms r g))))
perform_typed s c u d (Op.delete t clauses) suits h =
    read_in Stop (λ p. IsTyped s p.0.db) _ (typed_with s d.db t _ h (rows_left (columns_at s t) (table_at d.db t) (λ q. not (map.contains_key (model.found d t clauses) q)) (h.1 t)))
perform_typed s c u d (Op.wait t clauses columns until rows timeout) suits h = goes_on s _ d _ h
perform_typed s c u d (Op.commit durable) suits h = goes_on s (not durable) d _ h
perform_typed s c u d Op.abort suits h = none_read (λ p. IsTyped s p.0.db) _
perform_typed s c u d Op.comment suits h = read_in Stop (λ p. IsTyped s p.0.db) _ h
perform_typed s c u d (Op.assert lock) suits h = goes_on s (c.owns lock) d _ h

-- ---- lists of operations

-- what went through is of the schema
abbrev pub EndsTyped : Schema → Ran → Type 0
EndsTyped s (model.finished d results) = IsTyped s d.db
EndsTyped s (model.failed results) = ⊤
EndsTyped s (model.waiting moment) = ⊤

read_typed : (s : Schema) (c : Context) (names : Names) (u : Uuid) (d : Draft) (op : Data) → IsTyped s d.db → KeepsTyped s (model.read_and_perform s c names u d op)
read_typed s c names u d op h =
    with_holds (IsFor s) (λ p. IsTyped s p.0.db) (model.or_stop (read_op s names op)) _ (or_stop_holds (IsFor s) (read_op s names op) (op_suits s names op)) (λ o suits. perform_typed s c u d o suits h)

with_result_typed : (s : Schema) (result : Data) (r : Ran) → EndsTyped s r → EndsTyped s (model.with_result result r)
with_result_typed s result (model.finished d results) h = h
with_result_typed s result (model.failed results) h = h
with_result_typed s result (model.waiting moment) h = h

stopped_typed : (s : Schema) (stop : Stop) (later : ℕ) → EndsTyped s (model.stopped stop later)
stopped_typed s (model.fails e) later = tt
stopped_typed s (model.must_wait moment) later = tt

run_from_typed : (s : Schema) (c : Context) (names : Names) (fresh : List Uuid) (d : Draft) (ops : List Data) → IsTyped s d.db → EndsTyped s (model.run_from s c names fresh d ops)
run_from_typed s c names fresh d [] h = h
run_from_typed s c names fresh d (op ∷ ops) h =
    by (model.read_and_perform s c names (model.first_fresh fresh) d op) (read_typed s c names (model.first_fresh fresh) d op h) (λ e g. run_from_typed s c names (model.fresh_after op fresh) e ops g)
  where
    by : (r : Result (Draft × Data) Stop) → KeepsTyped s r → ((e : Draft) → IsTyped s e.db → EndsTyped s (model.run_from s c names (model.fresh_after op fresh) e ops))
        → EndsTyped s (elim r as (λ _. Ran) [ Ok p ↦ model.with_result p.1 (model.run_from s c names (model.fresh_after op fresh) p.0 ops) | Err stop ↦ model.stopped stop (length ops) ])
    by (Ok p) g rest = with_result_typed s p.1 _ (rest p.0 (in_read Stop (λ p. IsTyped s p.0.db) p g))
    by (Err stop) g rest = stopped_typed s stop (length ops)

pub run_typed : (s : Schema) (c : Context) (d : Draft) (ops : List Data) → IsTyped s d.db → EndsTyped s (model.run s c d ops)
unfolding model.run
run_typed s c d ops h = run_from_typed s c (model.names_of ops c.fresh) c.fresh d ops h
