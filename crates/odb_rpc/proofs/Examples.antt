-- What `monitor_cond_since` asks, and its texts, computed.
use Rattle.std.specs.Prelude.{◌≡◌, true, [], ◌∷◌, codes, Some}
use mathlib.Core.Path.{refl}
use Rattle.json.specs.Print.{escape_byte}
use Rattle.serde_json.specs.Written.{compact_text}
use Rattle.odb_atoms.proofs.Examples.{values_compute}
use Rattle.odb_atoms.specs.Error.{syntax_error}
use Rattle.odb_atoms.specs.Uuid.{uuid_from}
use Rattle.odb_schema.specs.Json.{Data, no_members, null, object, string}
use Rattle.odb_request.specs.Request.{update2}
use Rattle.odb_rpc.specs.Message.{failed, fault, monitor, of_monitor_since, reply, unknown_database}
use Rattle.odb_rpc.specs.Since.{since_result, update3}

none : Data
none = object no_members

a_commit_is_named : of_monitor_since (codes "net") null (string (codes "net") ∷ null ∷ none ∷ string (codes "00000000-0000-0007-0000-000000000003") ∷ []) ≡ monitor null update2 null none (Some (uuid_from 129127208515966861315))
unfolding values_compute none
a_commit_is_named = refl

a_shorter_text_is_none : of_monitor_since (codes "net") null (string (codes "net") ∷ null ∷ none ∷ string (codes "3") ∷ []) ≡ fault null (failed syntax_error)
unfolding values_compute none
a_shorter_text_is_none = refl

nothing_is_left_out : of_monitor_since (codes "net") null (string (codes "net") ∷ null ∷ none ∷ []) ≡ fault null (failed syntax_error)
nothing_is_left_out = refl

kinds_come_before_the_database : of_monitor_since (codes "net") null (string (codes "other") ∷ null ∷ none ∷ null ∷ []) ≡ fault null (failed syntax_error)
unfolding values_compute none
kinds_come_before_the_database = refl

of_another_database : of_monitor_since (codes "net") null (string (codes "other") ∷ null ∷ none ∷ string (codes "00000000-0000-0000-0000-000000000000") ∷ []) ≡ fault null unknown_database
unfolding values_compute none
of_another_database = refl

-- ---- texts

a_reply : compact_text (reply (string (codes "1")) (since_result true (uuid_from 2) none)) ≡ codes "{\"error\":null,\"id\":\"1\",\"result\":[true,\"00000000-0000-0000-0000-000000000002\",{}]}"
unfolding values_compute none escape_byte
a_reply = refl

a_notification : compact_text (update3 (string (codes "m")) (uuid_from 3) none) ≡ codes "{\"id\":null,\"method\":\"update3\",\"params\":[\"m\",\"00000000-0000-0000-0000-000000000003\",{}]}"
unfolding values_compute none escape_byte
a_notification = refl
