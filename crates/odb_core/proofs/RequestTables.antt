-- The requests that are read of a monitor are of tables of the schema.
use Rattle.std.proofs.Common.{◌≡◌, ◌<◌, ℕ, Bool, true, false, cond, List, [], ◌∷◌, length, codes, Option, None, Some, Result, Ok, Err, refl, sym, subst}
use Rattle.std.specs.Prelude.{ok_or}
use Rattle.std.specs.List.{position}
use Rattle.std.proofs.lemmas.List.Quantifiers.{position-Some}
use Rattle.std.proofs.lemmas.Option.{none-some}
use Rattle.odb_atoms.specs.Error.{Error, syntax_error, unknown_table}
use Rattle.odb_atoms.specs.First.{each}
use Rattle.odb_request.specs.Request.{Notation, Request}
use Rattle.odb_request.specs.Requests.{are_named, known_members, no_other, read_monitored, read_request, read_requests, read_select, read_where_of, request_object, requests_in}
use Rattle.odb_schema.proofs.Holds.{Holds, in_read, none_read, read_in, tested_holds, then_holds, with_holds}
use Rattle.odb_schema.specs.Json.{Data, as_object, get_member, members_list}
use Rattle.odb_schema.specs.Schema.{Schema, columns_at, table_place}
use Rattle.odb_sessions.specs.Started.{AreOfTables}
use Rattle.odb_tables.specs.Database.{Db}

position-inside : {A : Type 0} (p : A → Bool) (xs : List A) (i : ℕ) → position p xs ≡ Some i → i < length xs
position-inside p [] i e = absurd (none-some i e)
position-inside p (x ∷ xs) i e = (position-Some p (x ∷ xs) i x e).0

-- a database with the schema's tables
module _ (s : Schema) (db : Db) (are : length db ≡ length s.tables) where
  found : (o : Option ℕ) → ((t : ℕ) → o ≡ Some t → t < length s.tables) → Holds (λ p. p < length db) (ok_or o unknown_table)
  found None h = none_read (λ p. p < length db) unknown_table
  found (Some t) h = read_in Error (λ p. p < length db) t (subst (λ n. t < n) (sym are) (h t refl))

  module _ (n : Notation) where
    one_of : (e : List ℕ × Data) → Holds (λ (q : Request). q.place < length db) (read_request s n e)
    one_of e =
        with_holds (λ p. p < length db) (λ (q : Request). q.place < length db) (ok_or (table_place s e.0) unknown_table) _ (found (table_place s e.0) (λ t i. position-inside _ s.tables t i)) (λ place inside.
        then_holds (λ (q : Request). q.place < length db) (request_object e.1) _ (λ ms.
        then_holds (λ (q : Request). q.place < length db) (read_monitored (columns_at s place) (get_member (codes "columns") ms)) _ (λ columns.
        then_holds (λ (q : Request). q.place < length db) (read_where_of n (columns_at s place) ms) _ (λ filter.
        then_holds (λ (q : Request). q.place < length db) (read_select (get_member (codes "select") ms)) _ (λ select.
        tested_holds (λ (q : Request). q.place < length db) (no_other (known_members n) ms) _
        (read_in Error (λ (q : Request). q.place < length db) (record { shape = record { name = e.0; columns = columns }; place = place; select = select; filter = filter }) inside))))))

    all_of : (ms : List (List ℕ × Data)) → Holds (AreOfTables db) (each (read_request s n) ms)
    all_of [] = read_in Error (AreOfTables db) [] tt
    all_of (m ∷ ms) =
        with_holds (λ (q : Request). q.place < length db) (AreOfTables db) (read_request s n m) _ (one_of m) (λ q first.
        with_holds (AreOfTables db) (AreOfTables db) (each (read_request s n) ms) _ (all_of ms) (λ qs rest.
        read_in Error (AreOfTables db) (q ∷ qs) (first, rest)))

    named : (qs : List Request) (b : Bool) → AreOfTables db qs → Holds (AreOfTables db) (let r : Result (List Request) Error = cond b (Ok qs) (Err syntax_error) in r)
    named qs true of = read_in Error (AreOfTables db) qs of
    named qs false of = none_read (AreOfTables db) syntax_error

    reads_of : (d : Data) → Holds (AreOfTables db) (read_requests s n d)
    reads_of d =
        with_holds (AreOfTables db) (AreOfTables db) (requests_in s n d) _
        (then_holds (AreOfTables db) (ok_or (as_object d) syntax_error) _ (λ ms. all_of (members_list ms)))
        (λ qs of. named qs (are_named qs) of)

    pub of_tables : (d : Data) (qs : List Request) → read_requests s n d ≡ Ok qs → AreOfTables db qs
    of_tables d qs e = in_read Error (AreOfTables db) qs (subst (Holds (AreOfTables db)) e (reads_of d))
