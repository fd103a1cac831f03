-- The limits that are too large to compute, each by a lemma that names its number: lock names, sessions, messages, schema files. And that of a message at a few bytes. [P 7.1, 14]
use Rattle.std.specs.Prelude.{◌≡◌, ℕ, ◌==◌, List, [], ◌∷◌, length, take, codes, true, false, Some, None, Ok, Err}
use mathlib.Core.Path.{refl}
use Rattle.odb_examples.proofs.Examples.{parsed}
use Rattle.odb_examples.proofs.Transcripts.{shows}
use Rattle.odb_atoms.specs.FinMap.{get, len, insert}
use Rattle.odb_locks.specs.Locks.{Locks, lock, steal, too_many_names}
use Rattle.odb_service.specs.Run.{opened, step, too_many}
use Rattle.odb_service.specs.Service.{Service}
use Rattle.odb_service.specs.World.{World}
use Rattle.odb_wire.specs.Stream.{front_of, closed_at, outside, incomplete, too_long, whole, goes_on, fault_too_long, max_message, messages}
use Rattle.odb_schema.specs.SchemaText.{schema_of_text, too_large, max_file}
use Rattle.odb_service.specs.Service.{max_rows}

-- ---- a lock's name, with 65,536 names claimed, and with one fewer

pub lock_of_the_last_name : (l : Locks) (s : ℕ) (name : List ℕ) → get l name ≡ None → len l ≡ 65535
    → lock l s name ≡ Ok (insert l name (record { claims = record { session = s; stolen = false } ∷ []; robbed = [] }), [], true)
lock_of_the_last_name l s name none many = rw (none, many) refl

pub lock_of_one_name_more : (l : Locks) (s : ℕ) (name : List ℕ) → get l name ≡ None → len l ≡ 65536 → lock l s name ≡ Err too_many_names
lock_of_one_name_more l s name none many = rw (none, many) refl

pub steal_of_the_last_name : (l : Locks) (s : ℕ) (name : List ℕ) → get l name ≡ None → len l ≡ 65535
    → steal l s name ≡ Ok (insert l name (record { claims = record { session = s; stolen = true } ∷ []; robbed = [] }), [], true)
steal_of_the_last_name l s name none many = rw (none, many) refl

pub steal_of_one_name_more : (l : Locks) (s : ℕ) (name : List ℕ) → get l name ≡ None → len l ≡ 65536 → steal l s name ≡ Err too_many_names
steal_of_one_name_more l s name none many = rw (none, many) refl

-- a name that has a claim is no name more
pub lock_of_a_claimed_name : (l : Locks) (s t : ℕ) (name : List ℕ) → get l name ≡ Some (record { claims = record { session = t; stolen = false } ∷ []; robbed = [] }) → (t == s) ≡ false → len l ≡ 65536
    → lock l s name ≡ Ok (insert l name (record { claims = record { session = t; stolen = false } ∷ record { session = s; stolen = false } ∷ []; robbed = [] }), [], false)
lock_of_a_claimed_name l s t name some apart many = rw (some, apart) refl

-- ---- an object of so many bytes

pub message_too_long : (cs : List ℕ) → closed_at outside 0 (take max_message (123 ∷ cs)) ≡ None → length (123 ∷ cs) ≡ 16777216 → front_of max_message (123 ∷ cs) ≡ too_long
unfolding max_message
message_too_long cs unclosed long = rw (unclosed, long) refl

pub message_not_yet_too_long : (cs : List ℕ) → closed_at outside 0 (take max_message (123 ∷ cs)) ≡ None → length (123 ∷ cs) ≡ 16777215 → front_of max_message (123 ∷ cs) ≡ incomplete
unfolding max_message
message_not_yet_too_long cs unclosed long = rw (unclosed, long) refl

-- only so many bytes are looked at
pub message_limit : max_message ≡ 16777216
unfolding max_message
message_limit = refl

-- ---- the same at a limit of a few bytes

pub object_of_the_limit : front_of 2 (codes "{} {}") ≡ whole (codes "{}")
object_of_the_limit = refl

pub object_of_one_byte_more : front_of 1 (codes "{} {}") ≡ too_long
object_of_one_byte_more = refl

pub object_that_goes_on_below_the_limit : front_of 3 (codes "{ ") ≡ incomplete
object_that_goes_on_below_the_limit = refl

pub object_that_goes_on_at_the_limit : front_of 2 (codes "{ ") ≡ too_long
object_that_goes_on_at_the_limit = refl

pub object_where_no_byte_is_allowed : front_of 0 (codes "{") ≡ too_long
object_where_no_byte_is_allowed = refl

pub blanks_where_no_byte_is_allowed : messages 0 (codes "  ") ≡ ([], goes_on)
blanks_where_no_byte_is_allowed = refl

-- each message is counted by itself, and the blanks between them aren't
pub two_messages_within_the_limit : messages 13 (codes "{\"result\":1} {\"result\":10}") ≡ (parsed (codes "{\"result\":1}") ∷ parsed (codes "{\"result\":10}") ∷ [], goes_on)
unfolding shows
two_messages_within_the_limit = refl

pub the_second_message_past_the_limit : messages 12 (codes "{\"result\":1} {\"result\":10}") ≡ (parsed (codes "{\"result\":1}") ∷ [], fault_too_long)
unfolding shows
the_second_message_past_the_limit = refl

-- ---- a schema's file

pub file_too_large : (text : List ℕ) → length text ≡ 16777217 → schema_of_text text ≡ Err too_large
file_too_large text long = rw long refl

pub file_limit : max_file ≡ 16777216
file_limit = refl

-- ---- a session, with 4,096 open, and with one fewer

pub open_of_the_last_session : (h : Service) (w : World) (s : ℕ) → len w.sessions ≡ 4095 → get w.sessions s ≡ None
    → step h (opened s) w ≡ Ok (record w { sessions = insert w.sessions s (record { queue = []; monitors = [] }) }, [])
open_of_the_last_session h w s many none = rw (many, none) refl

pub open_of_one_session_more : (h : Service) (w : World) (s : ℕ) → len w.sessions ≡ 4096 → step h (opened s) w ≡ Err too_many
open_of_one_session_more h w s many = rw many refl

-- A database has a million rows at most
pub rows_of_a_database : max_rows ≡ 1000000
rows_of_a_database = refl
