-- The inserts of a `transact`.
use Rattle.std.proofs.Common.{◌≡◌, ℕ, Bool, true, false, not, ◌&&◌, if◌then◌else◌, List, Option, Some, unwrap_or, is_some, codes, bytes_eq, count_by, refl, sym, ap, ◌∙◌}
use Rattle.serde_json.specs.Data.{Data}
use Rattle.odb_json.specs.Operation.{is_insert}
use Rattle.odb_wire.specs.Message.{is_null, is_notification, method_of, id_of}
use Rattle.odb_rpc.specs.Message.{inserts_of, operations_of}

-- `inserts_of`, of its parts
abbrev count_if : Option (List ℕ) → Bool → List Data → ℕ
count_if method none operations =
    if (is_some method && not none) && bytes_eq (unwrap_or method (codes "")) (codes "transact")
    then count_by is_insert operations
    else 0

true_from_not : (b : Bool) → false ≡ not b → b ≡ true
true_from_not true e = refl
true_from_not false e = cc

count_found : (m : List ℕ) (none : Bool) (operations : List Data) → false ≡ none → bytes_eq m (codes "transact") ≡ true → count_if (Some m) none operations ≡ count_by is_insert operations
count_found m none operations isnt is = rw (← isnt, is) refl

-- a `transact` with an id
pub inserts_found : (d : Data) (m : List ℕ) → false ≡ is_notification d → Some m ≡ method_of d → false ≡ not (bytes_eq m (codes "transact")) → inserts_of d ≡ count_by is_insert (operations_of d)
inserts_found d m isnt method is =
    let parts : inserts_of d ≡ count_if (method_of d) (is_null (id_of d)) (operations_of d) = refl in
    let none : false ≡ is_null (id_of d) = isnt ∙ ap (λ o. is_some o && is_null (id_of d)) (sym method) in
    parts ∙ ap (λ o. count_if o (is_null (id_of d)) (operations_of d)) (sym method) ∙ count_found m (is_null (id_of d)) (operations_of d) none (true_from_not _ is)
