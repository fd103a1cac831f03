-- Inserts whose name is taken first.
use Rattle.std.proofs.Common.{◌≡◌, ℕ, Bool, true, false, not, List, [], ◌∷◌, ◌++◌, codes, unwrap_or, option_map, Option, Some, None, Result, Ok, Err, refl, sym, ap, subst, ◌∙◌}
use Rattle.odb_atoms.specs.FinMap as map
use Rattle.odb_atoms.specs.Error.{Error, constraint_violation, duplicate_uuid, duplicate_uuid_name}
use Rattle.odb_atoms.specs.First.{demand, ◌>>◌}
use Rattle.odb_atoms.specs.Uuid.{Uuid}
use Rattle.odb_atoms.specs.Value.{Value}
use Rattle.odb_json.specs.Represented.Fault.{Reads}
use Rattle.odb_json.specs.declared.fault.OpFault.{OpFault}
use Rattle.odb_json.specs.declared.fault.OpFault.TheVariants.{Memory, Failed}
use Rattle.odb_ops.specs.Execution as model
use Rattle.odb_ops.specs.Execution.{all_admit, has_used, inserted, name_list, new_row, takes_name}
use Rattle.odb_ops.specs.Represented.Draft.{begun, naming}
use Rattle.odb_ops.specs.Represented.Parts.{AreTaken, claimed, insert_row, with_rows}
use Rattle.odb_ops.proofs.Bindings.{one_taken}
use Rattle.odb_schema.specs.Json.{Data, object_of}
use Rattle.odb_schema.specs.Notation.{Names, write_uuid}
use Rattle.odb_schema.specs.Schema.{Schema, columns_at}
use Rattle.odb_tables.specs.Database.{table_at}
use Rattle.odb_tables.specs.Draft.{Draft}

pub unwrap_or-map : {A B : Type 0} (f : A → B) (o : Option A) (x : A) → unwrap_or (option_map f o) (f x) ≡ f (unwrap_or o x)
unwrap_or-map f None x = refl
unwrap_or-map f (Some y) x = refl

-- the draft of the tables as one of the operations
abbrev pub renamed : List (List ℕ) → Result (Draft × Data) Error → Result (model.Draft × Data) Error
renamed named (Ok p) = Ok (naming named p.0, p.1)
renamed named (Err e) = Err e

pub reads_renamed : {A : Type 0} (named : List (List ℕ)) (view : A → Draft × Data) (result : Result A OpFault) (r : Result (Draft × Data) Error)
    → Reads view result r → Reads (λ a. (naming named (view a).0, (view a).1)) result (renamed named r)
reads_renamed named view (Ok a) r e = ap (renamed named) e
reads_renamed named view (Err Memory) r e = tt
reads_renamed named view (Err (Failed x)) r e = ap (renamed named) e

-- after tests of which the first has passed
two_tests : (named : List (List ℕ)) (used admitted : Bool) (p : Draft × Data)
    → ◌>>◌ (demand (not used) duplicate_uuid) (◌>>◌ (demand admitted constraint_violation) (Ok (naming named p.0, p.1)))
    ≡ renamed named (◌>>◌ (demand (not used) duplicate_uuid) (◌>>◌ (demand admitted constraint_violation) (Ok p)))
two_tests named true admitted p = refl
two_tests named false false p = refl
two_tests named false true p = refl

module _ (s : Schema) (d : Draft) (named : List (List ℕ)) (u : Uuid) (t : ℕ) (given : List (ℕ × Value)) (name : Option (List ℕ)) where
  -- where the name isn't taken
  pub inserted_is : takes_name (naming named d) name ≡ false → inserted s (naming named d) u t given name ≡ renamed (name_list name ++ named) (insert_row (columns_at s t) t u given d)
  inserted_is free =
      let row = new_row (columns_at s t) given in
      let p : Draft × Data = (with_rows t (map.insert (table_at d.now t) u row) d, object_of ((codes "uuid", write_uuid u) ∷ [])) in
      let named_after = name_list name ++ named in
      ap (λ b. ◌>>◌ (demand (not b) duplicate_uuid_name) (◌>>◌ (demand (not (has_used (naming named d) t u)) duplicate_uuid) (◌>>◌ (demand (all_admit (columns_at s t) row.columns) constraint_violation) (Ok (naming named_after p.0, p.1))))) free
      ∙ two_tests named_after (has_used (begun d) t u) (all_admit (columns_at s t) row.columns) p

-- a name that was claimed was free, and is taken
pub claimed_free : (taken new : Names) (named : List (List ℕ)) (name : Option (List ℕ)) (u : Uuid) (d : Draft) → AreTaken taken named → claimed name u taken ≡ Ok new → (takes_name (naming named d) name ≡ false) × AreTaken new (name_list name ++ named)
claimed_free taken new named None u d h e = let same : taken ≡ new = cc in (refl, subst (λ m. AreTaken m named) same h)
claimed_free taken new named (Some name) u d h e = by (map.contains_key taken name) (h name) e
  where
    by : (b : Bool) → b ≡ takes_name (naming named d) (Some name) → ◌>>◌ (demand (not b) duplicate_uuid_name) (Ok (map.insert taken name u)) ≡ Ok new → (takes_name (naming named d) (Some name) ≡ false) × AreTaken new (name ∷ named)
    by false is e = let same : map.insert taken name u ≡ new = cc in (sym is, subst (λ m. AreTaken m (name ∷ named)) same (one_taken taken named name u h))
    by true is e = let no : ⊥ = cc in absurd no
