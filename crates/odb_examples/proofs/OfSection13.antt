-- Transcripts of section 13 of docs/PROTOCOL.md. Made by `tests/examples` from transcripts/: no hand writes here.
use Rattle.std.specs.Prelude.{◌∷◌, [], codes, refl}
use Rattle.odb_examples.proofs.TestSchemas.{net}
use Rattle.odb_examples.proofs.Transcripts.{Plays, shows}

-- A fault of the stream releases the locks of its session
pub a_fault_of_the_stream_releases_the_locks_of_its_session : Plays net (
    codes "> A lock 1 [\"L\"]"
    ∷ codes "< A reply 1 {\"locked\":true}"
    ∷ codes "> B lock 1 [\"L\"]"
    ∷ codes "< B reply 1 {\"locked\":false}"
    ∷ codes "> A {\"method\":\"echo\",\"params\":[],\"id\":1} {\"a\":1}{\"method\":\"echo\",\"params\":[],\"id\":2}"
    ∷ codes "< A reply 1 []"
    ∷ codes "< A !fault 3"
    ∷ codes "< B locked [\"L\"]"
    ∷ [])
unfolding shows
a_fault_of_the_stream_releases_the_locks_of_its_session = refl

-- A waiting transaction of a closed session is not tried again
pub a_waiting_transaction_of_a_closed_session_is_not_tried_again : Plays net (
    codes "> A transact 1 {\"op\":\"wait\",\"table\":\"Bridge\",\"where\":[],\"columns\":[\"name\"],\"until\":\"!=\",\"rows\":[]},{\"op\":\"insert\",\"table\":\"Bridge\",\"row\":{\"name\":\"q\"}}"
    ∷ codes "> !close A"
    ∷ codes "> B transact 1 {\"op\":\"insert\",\"table\":\"Bridge\",\"row\":{\"name\":\"b\"}}"
    ∷ codes "< B reply 1 [{\"uuid\":[\"uuid\",\"U2\"]}]"
    ∷ codes "> !open A"
    ∷ codes "> A transact 1 {\"op\":\"select\",\"table\":\"Bridge\",\"where\":[],\"columns\":[\"name\"]}"
    ∷ codes "< A reply 1 [{\"rows\":[{\"name\":\"b\"}]}]"
    ∷ [])
unfolding shows
a_waiting_transaction_of_a_closed_session_is_not_tried_again = refl

-- The claims of a closed session go, and those after it are told; so do its waiting transactions and its queue
pub the_claims_of_a_closed_session_go_and_those_after_it_are_told_so_do_its_waiting_transactions_and_its_queue : Plays net (
    codes "> A lock 1 [\"M\"]"
    ∷ codes "< A reply 1 {\"locked\":true}"
    ∷ codes "> A steal 2 [\"K\"]"
    ∷ codes "< A reply 2 {\"locked\":true}"
    ∷ codes "> B lock 1 [\"L\"]"
    ∷ codes "< B reply 1 {\"locked\":true}"
    ∷ codes "> A lock 3 [\"L\"]"
    ∷ codes "< A reply 3 {\"locked\":false}"
    ∷ codes "> C lock 1 [\"M\"]"
    ∷ codes "< C reply 1 {\"locked\":false}"
    ∷ codes "> C lock 2 [\"K\"]"
    ∷ codes "< C reply 2 {\"locked\":false}"
    ∷ codes "> B lock 2 [\"M\"]"
    ∷ codes "< B reply 2 {\"locked\":false}"
    ∷ codes "> C lock 3 [\"L\"]"
    ∷ codes "< C reply 3 {\"locked\":false}"
    ∷ codes "> A transact 4 {\"op\":\"wait\",\"table\":\"Bridge\",\"where\":[],\"columns\":[\"name\"],\"until\":\"!=\",\"rows\":[]},{\"op\":\"insert\",\"table\":\"Bridge\",\"row\":{\"name\":\"q\"}}"
    ∷ codes "> !hold A"
    ∷ codes "> A echo 5 []"
    ∷ codes "> !close A"
    ∷ codes "< C locked [\"K\"]"
    ∷ codes "< C locked [\"M\"]"
    ∷ codes "> !open A"
    ∷ codes "> !take A"
    ∷ codes "> B unlock 3 [\"L\"]"
    ∷ codes "< B reply 3 {}"
    ∷ codes "< C locked [\"L\"]"
    ∷ codes "> B transact 4 {\"op\":\"insert\",\"table\":\"Bridge\",\"row\":{\"name\":\"b\"}}"
    ∷ codes "< B reply 4 [{\"uuid\":[\"uuid\",\"U2\"]}]"
    ∷ codes "> A transact 1 {\"op\":\"select\",\"table\":\"Bridge\",\"where\":[],\"columns\":[\"name\"]}"
    ∷ codes "< A reply 1 [{\"rows\":[{\"name\":\"b\"}]}]"
    ∷ codes "> A lock 2 [\"K\"]"
    ∷ codes "< A reply 2 {\"locked\":false}"
    ∷ [])
unfolding shows
the_claims_of_a_closed_session_go_and_those_after_it_are_told_so_do_its_waiting_transactions_and_its_queue = refl
