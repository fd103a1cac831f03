-- Transcripts of section 11 of docs/PROTOCOL.md. Made by `tests/examples` from transcripts/: no hand writes here.
use Rattle.std.specs.Prelude.{◌∷◌, [], codes, refl}
use Rattle.odb_examples.proofs.TestSchemas.{net}
use Rattle.odb_examples.proofs.Transcripts.{Plays, shows}

-- A claim that waits goes with its session
pub a_claim_that_waits_goes_with_its_session : Plays net (
    codes "> A lock 1 [\"L\"]"
    ∷ codes "< A reply 1 {\"locked\":true}"
    ∷ codes "> B lock 1 [\"L\"]"
    ∷ codes "< B reply 1 {\"locked\":false}"
    ∷ codes "> C lock 1 [\"L\"]"
    ∷ codes "< C reply 1 {\"locked\":false}"
    ∷ codes "> !close B"
    ∷ codes "> A unlock 2 [\"L\"]"
    ∷ codes "< A reply 2 {}"
    ∷ codes "< C locked [\"L\"]"
    ∷ [])
unfolding shows
a_claim_that_waits_goes_with_its_session = refl

-- A lock that its owner asks for again
pub a_lock_that_its_owner_asks_for_again : Plays net (
    codes "> A lock 1 [\"L\"]"
    ∷ codes "< A reply 1 {\"locked\":true}"
    ∷ codes "> A lock 2 [\"L\"]"
    ∷ codes "< A error 2 syntax error"
    ∷ codes "> A steal 3 [\"L\"]"
    ∷ codes "< A error 3 syntax error"
    ∷ codes "> B lock 4 [\"L\"]"
    ∷ codes "< B reply 4 {\"locked\":false}"
    ∷ codes "> B steal 5 [\"L\"]"
    ∷ codes "< B error 5 syntax error"
    ∷ codes "> A unlock 6 [\"L\"]"
    ∷ codes "< A reply 6 {}"
    ∷ codes "< B locked [\"L\"]"
    ∷ codes "> A lock 7 [\"L\"]"
    ∷ codes "< A reply 7 {\"locked\":false}"
    ∷ [])
unfolding shows
a_lock_that_its_owner_asks_for_again = refl

-- A lock that nobody owns is free for another while a robbed session has to unlock
pub a_lock_that_nobody_owns_is_free_for_another_while_a_robbed_session_has_to_unlock : Plays net (
    codes "> A steal 1 [\"L\"]"
    ∷ codes "< A reply 1 {\"locked\":true}"
    ∷ codes "> B steal 1 [\"L\"]"
    ∷ codes "< A stolen [\"L\"]"
    ∷ codes "< B reply 1 {\"locked\":true}"
    ∷ codes "> B unlock 2 [\"L\"]"
    ∷ codes "< B reply 2 {}"
    ∷ codes "> A transact 2 {\"op\":\"assert\",\"lock\":\"L\"}"
    ∷ codes "< A reply 2 [{\"error\":\"not owner\"}]"
    ∷ codes "> A lock 3 [\"L\"]"
    ∷ codes "< A error 3 syntax error"
    ∷ codes "> C lock 1 [\"L\"]"
    ∷ codes "< C reply 1 {\"locked\":true}"
    ∷ codes "> A unlock 4 [\"L\"]"
    ∷ codes "< A reply 4 {}"
    ∷ codes "> A lock 5 [\"L\"]"
    ∷ codes "< A reply 5 {\"locked\":false}"
    ∷ codes "> !close C"
    ∷ codes "< A locked [\"L\"]"
    ∷ codes "> A transact 6 {\"op\":\"assert\",\"lock\":\"L\"}"
    ∷ codes "< A reply 6 [{}]"
    ∷ [])
unfolding shows
a_lock_that_nobody_owns_is_free_for_another_while_a_robbed_session_has_to_unlock = refl

-- A robbed thief doesn't, and must unlock first
pub a_robbed_thief_doesnt_and_must_unlock_first : Plays net (
    codes "> A steal 1 [\"L\"]"
    ∷ codes "< A reply 1 {\"locked\":true}"
    ∷ codes "> B steal 1 [\"L\"]"
    ∷ codes "< A stolen [\"L\"]"
    ∷ codes "< B reply 1 {\"locked\":true}"
    ∷ codes "> B unlock 2 [\"L\"]"
    ∷ codes "< B reply 2 {}"
    ∷ codes "> A transact 2 {\"op\":\"assert\",\"lock\":\"L\"}"
    ∷ codes "< A reply 2 [{\"error\":\"not owner\"}]"
    ∷ codes "> A lock 3 [\"L\"]"
    ∷ codes "< A error 3 syntax error"
    ∷ codes "> A unlock 4 [\"L\"]"
    ∷ codes "< A reply 4 {}"
    ∷ codes "> A lock 5 [\"L\"]"
    ∷ codes "< A reply 5 {\"locked\":true}"
    ∷ [])
unfolding shows
a_robbed_thief_doesnt_and_must_unlock_first = refl

-- A thief is robbed while an owner by lock waits
pub a_thief_is_robbed_while_an_owner_by_lock_waits : Plays net (
    codes "> A lock 1 [\"L\"]"
    ∷ codes "< A reply 1 {\"locked\":true}"
    ∷ codes "> B steal 1 [\"L\"]"
    ∷ codes "< A stolen [\"L\"]"
    ∷ codes "< B reply 1 {\"locked\":true}"
    ∷ codes "> C steal 1 [\"L\"]"
    ∷ codes "< B stolen [\"L\"]"
    ∷ codes "< C reply 1 {\"locked\":true}"
    ∷ codes "> A steal 2 [\"L\"]"
    ∷ codes "< A error 2 syntax error"
    ∷ codes "> B lock 2 [\"L\"]"
    ∷ codes "< B error 2 syntax error"
    ∷ codes "> B steal 3 [\"L\"]"
    ∷ codes "< B error 3 syntax error"
    ∷ codes "> C unlock 2 [\"L\"]"
    ∷ codes "< A locked [\"L\"]"
    ∷ codes "< C reply 2 {}"
    ∷ codes "> B unlock 4 [\"L\"]"
    ∷ codes "< B reply 4 {}"
    ∷ codes "> B unlock 5 [\"L\"]"
    ∷ codes "< B error 5 syntax error"
    ∷ codes "> B lock 6 [\"L\"]"
    ∷ codes "< B reply 6 {\"locked\":false}"
    ∷ codes "> B transact 7 {\"op\":\"assert\",\"lock\":\"L\"}"
    ∷ codes "< B reply 7 [{\"error\":\"not owner\"}]"
    ∷ codes "> A transact 3 {\"op\":\"assert\",\"lock\":\"L\"}"
    ∷ codes "< A reply 3 [{}]"
    ∷ codes "> A unlock 4 [\"L\"]"
    ∷ codes "< A reply 4 {}"
    ∷ codes "< B locked [\"L\"]"
    ∷ codes "> B transact 8 {\"op\":\"assert\",\"lock\":\"L\"}"
    ∷ codes "< B reply 8 [{}]"
    ∷ [])
unfolding shows
a_thief_is_robbed_while_an_owner_by_lock_waits = refl

-- An owner by lock gets its lock back from a thief
pub an_owner_by_lock_gets_its_lock_back_from_a_thief : Plays net (
    codes "> A lock 1 [\"L\"]"
    ∷ codes "< A reply 1 {\"locked\":true}"
    ∷ codes "> B lock 1 [\"L\"]"
    ∷ codes "< B reply 1 {\"locked\":false}"
    ∷ codes "> C steal 1 [\"L\"]"
    ∷ codes "< A stolen [\"L\"]"
    ∷ codes "< C reply 1 {\"locked\":true}"
    ∷ codes "> C unlock 2 [\"L\"]"
    ∷ codes "< A locked [\"L\"]"
    ∷ codes "< C reply 2 {}"
    ∷ codes "> B transact 2 {\"op\":\"assert\",\"lock\":\"L\"}"
    ∷ codes "< B reply 2 [{\"error\":\"not owner\"}]"
    ∷ codes "> B lock 3 [\"L\"]"
    ∷ codes "< B error 3 syntax error"
    ∷ [])
unfolding shows
an_owner_by_lock_gets_its_lock_back_from_a_thief = refl

-- An owner of two locks closes, and one session is next for both
pub an_owner_of_two_locks_closes_and_one_session_is_next_for_both : Plays net (
    codes "> A lock 1 [\"M\"]"
    ∷ codes "< A reply 1 {\"locked\":true}"
    ∷ codes "> A lock 2 [\"K\"]"
    ∷ codes "< A reply 2 {\"locked\":true}"
    ∷ codes "> C lock 1 [\"M\"]"
    ∷ codes "< C reply 1 {\"locked\":false}"
    ∷ codes "> C lock 2 [\"K\"]"
    ∷ codes "< C reply 2 {\"locked\":false}"
    ∷ codes "> !close A"
    ∷ codes "< C locked [\"K\"]"
    ∷ codes "< C locked [\"M\"]"
    ∷ codes "> C echo 3 []"
    ∷ codes "< C reply 3 []"
    ∷ [])
unfolding shows
an_owner_of_two_locks_closes_and_one_session_is_next_for_both = refl

-- Those that own now are told in the order of names
pub those_that_own_now_are_told_in_the_order_of_names : Plays net (
    codes "> A lock 1 [\"M\"]"
    ∷ codes "< A reply 1 {\"locked\":true}"
    ∷ codes "> A lock 2 [\"K\"]"
    ∷ codes "< A reply 2 {\"locked\":true}"
    ∷ codes "> C lock 1 [\"M\"]"
    ∷ codes "< C reply 1 {\"locked\":false}"
    ∷ codes "> B lock 1 [\"M\"]"
    ∷ codes "< B reply 1 {\"locked\":false}"
    ∷ codes "> B lock 2 [\"K\"]"
    ∷ codes "< B reply 2 {\"locked\":false}"
    ∷ codes "> C lock 2 [\"K\"]"
    ∷ codes "< C reply 2 {\"locked\":false}"
    ∷ codes "> B unlock 3 [\"K\"]"
    ∷ codes "< B reply 3 {}"
    ∷ codes "> !hold C"
    ∷ codes "> !close A"
    ∷ codes "> !take C"
    ∷ codes "< C locked [\"K\"]"
    ∷ codes "< C locked [\"M\"]"
    ∷ codes "> C unlock 3 [\"M\"]"
    ∷ codes "< B locked [\"M\"]"
    ∷ codes "< C reply 3 {}"
    ∷ [])
unfolding shows
those_that_own_now_are_told_in_the_order_of_names = refl
