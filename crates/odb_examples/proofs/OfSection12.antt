-- Transcripts of section 12 of docs/PROTOCOL.md. Made by `tools/examples` from transcripts/: no hand writes here.
use Rattle.std.specs.Prelude.{◌∷◌, [], codes, refl}
use Rattle.odb_examples.proofs.TestSchemas.{net, settlement}
use Rattle.odb_examples.proofs.Transcripts.{Plays, shows}

-- A deadline counts from the arrival, and no moment is before an earlier one
pub a_deadline_counts_from_the_arrival_and_no_moment_is_before_an_earlier_one : Plays net (
    codes "> !tick 5"
    ∷ codes "> A transact 7 {\"op\":\"wait\",\"table\":\"Bridge\",\"where\":[],\"columns\":[\"name\"],\"until\":\"!=\",\"rows\":[],\"timeout\":10}"
    ∷ codes "> !tick 14"
    ∷ codes "> B echo 1 []"
    ∷ codes "< B reply 1 []"
    ∷ codes "> !tick 15"
    ∷ codes "< A reply 7 [{\"error\":\"timed out\"}]"
    ∷ codes "> B echo 2 []"
    ∷ codes "< B reply 2 []"
    ∷ codes "> !tick 3"
    ∷ codes "> A transact 8 {\"op\":\"wait\",\"table\":\"Bridge\",\"where\":[],\"columns\":[\"name\"],\"until\":\"!=\",\"rows\":[],\"timeout\":10}"
    ∷ codes "> !tick 24"
    ∷ codes "> B echo 3 []"
    ∷ codes "< B reply 3 []"
    ∷ codes "> !tick 25"
    ∷ codes "< A reply 8 [{\"error\":\"timed out\"}]"
    ∷ codes "> B echo 4 []"
    ∷ codes "< B reply 4 []"
    ∷ codes "> A transact 9 {\"op\":\"wait\",\"table\":\"Bridge\",\"where\":[],\"columns\":[\"name\"],\"until\":\"!=\",\"rows\":[],\"timeout\":0}"
    ∷ codes "< A reply 9 [{\"error\":\"timed out\"}]"
    ∷ codes "> A transact 10 {\"op\":\"wait\",\"table\":\"Bridge\",\"where\":[],\"columns\":[\"name\"],\"until\":\"!=\",\"rows\":[],\"timeout\":5},{\"op\":\"comment\",\"comment\":\"x\"}"
    ∷ codes "> !tick 29"
    ∷ codes "> B echo 5 []"
    ∷ codes "< B reply 5 []"
    ∷ codes "> !tick 30"
    ∷ codes "< A reply 10 [{\"error\":\"timed out\"},null]"
    ∷ [])
unfolding shows
a_deadline_counts_from_the_arrival_and_no_moment_is_before_an_earlier_one = refl

-- A deadline passes
pub a_deadline_passes : Plays net (
    codes "> A transact 7 {\"op\":\"wait\",\"table\":\"Bridge\",\"where\":[],\"columns\":[\"name\"],\"until\":\"!=\",\"rows\":[],\"timeout\":10}"
    ∷ codes "> !tick 9"
    ∷ codes "> !tick 10"
    ∷ codes "< A reply 7 [{\"error\":\"timed out\"}]"
    ∷ [])
unfolding shows
a_deadline_passes = refl

-- The last moment is a deadline, and one past it is none
pub the_last_moment_is_a_deadline_and_one_past_it_is_none : Plays net (
    codes "> !tick 9223372036854775808"
    ∷ codes "> A transact 1 {\"op\":\"wait\",\"table\":\"Bridge\",\"where\":[],\"columns\":[\"name\"],\"until\":\"!=\",\"rows\":[],\"timeout\":9223372036854775807}"
    ∷ codes "> A transact 2 {\"op\":\"wait\",\"table\":\"Bridge\",\"where\":[],\"columns\":[\"name\"],\"until\":\"!=\",\"rows\":[],\"timeout\":9}"
    ∷ codes "> !tick 9223372036854775809"
    ∷ codes "> C transact 1 {\"op\":\"wait\",\"table\":\"Bridge\",\"where\":[],\"columns\":[\"name\"],\"until\":\"!=\",\"rows\":[],\"timeout\":9223372036854775807}"
    ∷ codes "> !tick 18446744073709551614"
    ∷ codes "< A reply 2 [{\"error\":\"timed out\"}]"
    ∷ codes "> C echo 2 []"
    ∷ codes "< C reply 2 []"
    ∷ codes "> !tick 18446744073709551615"
    ∷ codes "< A reply 1 [{\"error\":\"timed out\"}]"
    ∷ codes "> !tick 5"
    ∷ codes "> C echo 3 []"
    ∷ codes "< C reply 3 []"
    ∷ [])
unfolding shows
the_last_moment_is_a_deadline_and_one_past_it_is_none = refl

-- A commit wakes a waiting transaction
pub a_commit_wakes_a_waiting_transaction : Plays net (
    codes "> A transact 7 {\"op\":\"wait\",\"table\":\"Bridge\",\"where\":[],\"columns\":[\"name\"],\"until\":\"!=\",\"rows\":[]}"
    ∷ codes "> B transact 1 {\"op\":\"insert\",\"table\":\"Bridge\",\"row\":{\"name\":\"b\"}}"
    ∷ codes "< A reply 7 [{}]"
    ∷ codes "< B reply 1 [{\"uuid\":[\"uuid\",\"U1\"]}]"
    ∷ [])
unfolding shows
a_commit_wakes_a_waiting_transaction = refl

-- A select after a wait shows the commit that met it
pub a_select_after_a_wait_shows_the_commit_that_met_it : Plays net (
    codes "> A transact 1 {\"op\":\"wait\",\"table\":\"Bridge\",\"where\":[],\"columns\":[\"name\"],\"until\":\"!=\",\"rows\":[]},{\"op\":\"select\",\"table\":\"Bridge\",\"where\":[],\"columns\":[\"name\",\"_version\"]}"
    ∷ codes "> B transact 1 {\"op\":\"insert\",\"table\":\"Bridge\",\"row\":{\"name\":\"b\"}}"
    ∷ codes "< A reply 1 [{},{\"rows\":[{\"_version\":[\"uuid\",\"V1\"],\"name\":\"b\"}]}]"
    ∷ codes "< B reply 1 [{\"uuid\":[\"uuid\",\"U1\"]}]"
    ∷ codes "> B transact 2 {\"op\":\"insert\",\"table\":\"Bridge\",\"row\":{\"name\":\"c\"}}"
    ∷ codes "< B reply 2 [{\"uuid\":[\"uuid\",\"U2\"]}]"
    ∷ codes "> B transact 3 {\"op\":\"select\",\"table\":\"Bridge\",\"where\":[[\"name\",\"==\",\"c\"]],\"columns\":[\"_version\"]}"
    ∷ codes "< B reply 3 [{\"rows\":[{\"_version\":[\"uuid\",\"V2\"]}]}]"
    ∷ [])
unfolding shows
a_select_after_a_wait_shows_the_commit_that_met_it = refl

-- A session is told of all commits before the replies to what they woke
pub a_session_is_told_of_all_commits_before_the_replies_to_what_they_woke : Plays net (
    codes "> A monitor 1 [\"net\",\"m\",{\"Bridge\":{\"columns\":[\"name\"]}}]"
    ∷ codes "< A reply 1 {}"
    ∷ codes "> A transact 2 {\"op\":\"wait\",\"table\":\"Bridge\",\"where\":[[\"name\",\"==\",\"c\"]],\"columns\":[\"name\"],\"until\":\"==\",\"rows\":[{\"name\":\"c\"}]}"
    ∷ codes "> A transact 3 {\"op\":\"wait\",\"table\":\"Bridge\",\"where\":[],\"columns\":[\"name\"],\"until\":\"!=\",\"rows\":[]},{\"op\":\"insert\",\"table\":\"Bridge\",\"row\":{\"name\":\"c\"}}"
    ∷ codes "> A transact 4 {\"op\":\"wait\",\"table\":\"Bridge\",\"where\":[],\"columns\":[\"name\"],\"until\":\"!=\",\"rows\":[]}"
    ∷ codes "> A transact 5 {\"op\":\"insert\",\"table\":\"Bridge\",\"row\":{\"name\":\"x\"}}"
    ∷ codes "< A update [\"m\",{\"Bridge\":{\"U1\":{\"new\":{\"name\":\"c\"}},\"U2\":{\"new\":{\"name\":\"x\"}}}}]"
    ∷ codes "< A reply 5 [{\"uuid\":[\"uuid\",\"U2\"]}]"
    ∷ codes "< A reply 3 [{},{\"uuid\":[\"uuid\",\"U1\"]}]"
    ∷ codes "< A reply 2 [{}]"
    ∷ codes "< A reply 4 [{}]"
    ∷ [])
unfolding shows
a_session_is_told_of_all_commits_before_the_replies_to_what_they_woke = refl

-- A transaction that fails when it is tried again leaves nothing but its reply
pub a_transaction_that_fails_when_it_is_tried_again_leaves_nothing_but_its_reply : Plays net (
    codes "> A transact 1 {\"op\":\"wait\",\"table\":\"Bridge\",\"where\":[],\"columns\":[\"name\"],\"until\":\"!=\",\"rows\":[]},{\"op\":\"insert\",\"table\":\"Bridge\",\"row\":{\"name\":\"b\"}}"
    ∷ codes "> C transact 1 {\"op\":\"wait\",\"table\":\"Bridge\",\"where\":[],\"columns\":[\"name\"],\"until\":\"==\",\"rows\":[{\"name\":\"b\"},{\"name\":\"c\"}]}"
    ∷ codes "> B transact 1 {\"op\":\"insert\",\"table\":\"Bridge\",\"row\":{\"name\":\"b\"}}"
    ∷ codes "< A reply 1 [{},{\"uuid\":[\"uuid\",\"U1\"]},{\"error\":\"constraint violation\"}]"
    ∷ codes "< B reply 1 [{\"uuid\":[\"uuid\",\"U2\"]}]"
    ∷ codes "> B transact 2 {\"op\":\"insert\",\"table\":\"Bridge\",\"row\":{\"name\":\"c\"}}"
    ∷ codes "< B reply 2 [{\"uuid\":[\"uuid\",\"U3\"]}]"
    ∷ codes "< C reply 1 [{}]"
    ∷ codes "> B transact 3 {\"op\":\"select\",\"table\":\"Bridge\",\"where\":[[\"name\",\"==\",\"c\"]],\"columns\":[\"_version\"]}"
    ∷ codes "< B reply 3 [{\"rows\":[{\"_version\":[\"uuid\",\"V2\"]}]}]"
    ∷ [])
unfolding shows
a_transaction_that_fails_when_it_is_tried_again_leaves_nothing_but_its_reply = refl

-- A transaction that waited and only reads may change the database
pub a_transaction_that_waited_and_only_reads_may_change_the_database : Plays settlement (
    codes "> B transact 1 {\"op\":\"insert\",\"table\":\"H\",\"row\":{\"wk\":[\"map\",[[[\"named-uuid\",\"w\"],[\"named-uuid\",\"b\"]]]]}},{\"op\":\"insert\",\"table\":\"N\",\"row\":{},\"uuid-name\":\"b\"},{\"op\":\"insert\",\"table\":\"W\",\"row\":{},\"uuid-name\":\"w\"}"
    ∷ codes "< B reply 1 [{\"uuid\":[\"uuid\",\"U1\"]},{\"uuid\":[\"uuid\",\"U2\"]},{\"uuid\":[\"uuid\",\"U3\"]}]"
    ∷ codes "> A transact 1 {\"op\":\"wait\",\"table\":\"W\",\"where\":[],\"columns\":[\"k\"],\"until\":\"==\",\"rows\":[]},{\"op\":\"select\",\"table\":\"N\",\"where\":[],\"columns\":[\"v\"]}"
    ∷ codes "> B transact 2 {\"op\":\"delete\",\"table\":\"W\",\"where\":[]}"
    ∷ codes "< A reply 1 [{},{\"rows\":[{\"v\":0}]}]"
    ∷ codes "< B reply 2 [{\"count\":1}]"
    ∷ codes "> B transact 3 {\"op\":\"select\",\"table\":\"N\",\"where\":[],\"columns\":[\"v\"]}"
    ∷ codes "< B reply 3 [{\"rows\":[]}]"
    ∷ codes "> B transact 4 {\"op\":\"insert\",\"table\":\"W\",\"row\":{}}"
    ∷ codes "< B reply 4 [{\"uuid\":[\"uuid\",\"U4\"]}]"
    ∷ codes "> B transact 5 {\"op\":\"select\",\"table\":\"W\",\"where\":[],\"columns\":[\"_version\"]}"
    ∷ codes "< B reply 5 [{\"rows\":[{\"_version\":[\"uuid\",\"V4\"]}]}]"
    ∷ [])
unfolding shows
a_transaction_that_waited_and_only_reads_may_change_the_database = refl

-- A transaction that waits inserts under the identifier that a commit deletes
pub a_transaction_that_waits_inserts_under_the_identifier_that_a_commit_deletes : Plays net (
    codes "> B transact 1 {\"op\":\"insert\",\"table\":\"Bridge\",\"row\":{\"name\":\"b\"},\"uuid\":\"00000000-0000-4000-9000-000000000001\"}"
    ∷ codes "< B reply 1 [{\"uuid\":[\"uuid\",\"00000000-0000-4000-9000-000000000001\"]}]"
    ∷ codes "> A transact 1 {\"op\":\"wait\",\"table\":\"Bridge\",\"where\":[],\"columns\":[\"name\"],\"until\":\"==\",\"rows\":[]},{\"op\":\"insert\",\"table\":\"Bridge\",\"row\":{\"name\":\"c\"},\"uuid\":\"00000000-0000-4000-9000-000000000001\"}"
    ∷ codes "> B transact 2 {\"op\":\"delete\",\"table\":\"Bridge\",\"where\":[]}"
    ∷ codes "< A reply 1 [{},{\"uuid\":[\"uuid\",\"00000000-0000-4000-9000-000000000001\"]}]"
    ∷ codes "< B reply 2 [{\"count\":1}]"
    ∷ codes "> B transact 3 {\"op\":\"select\",\"table\":\"Bridge\",\"where\":[],\"columns\":[\"_uuid\",\"_version\",\"name\"]}"
    ∷ codes "< B reply 3 [{\"rows\":[{\"_uuid\":[\"uuid\",\"00000000-0000-4000-9000-000000000001\"],\"_version\":[\"uuid\",\"V3\"],\"name\":\"c\"}]}]"
    ∷ codes "> A transact 2 {\"op\":\"wait\",\"table\":\"Bridge\",\"where\":[],\"columns\":[\"name\"],\"until\":\"==\",\"rows\":[{\"name\":\"d\"}]},{\"op\":\"insert\",\"table\":\"Bridge\",\"row\":{\"name\":\"e\"},\"uuid\":\"00000000-0000-4000-9000-000000000001\"}"
    ∷ codes "> C transact 1 {\"op\":\"wait\",\"table\":\"Bridge\",\"where\":[],\"columns\":[\"name\"],\"until\":\"==\",\"rows\":[]},{\"op\":\"delete\",\"table\":\"Bridge\",\"where\":[]},{\"op\":\"insert\",\"table\":\"Bridge\",\"row\":{\"name\":\"f\"},\"uuid\":[\"uuid\",\"00000000-0000-4000-9000-000000000001\"]}"
    ∷ codes "> B transact 4 {\"op\":\"update\",\"table\":\"Bridge\",\"where\":[],\"row\":{\"name\":\"d\"}}"
    ∷ codes "< A reply 2 [{},{\"error\":\"duplicate uuid\"}]"
    ∷ codes "< B reply 4 [{\"count\":1}]"
    ∷ codes "> B transact 5 {\"op\":\"delete\",\"table\":\"Bridge\",\"where\":[]}"
    ∷ codes "< B reply 5 [{\"count\":1}]"
    ∷ codes "< C reply 1 [{},{\"count\":0},{\"uuid\":[\"uuid\",\"00000000-0000-4000-9000-000000000001\"]}]"
    ∷ [])
unfolding shows
a_transaction_that_waits_inserts_under_the_identifier_that_a_commit_deletes = refl

-- A wait that is met ends beside one that waits on
pub a_wait_that_is_met_ends_beside_one_that_waits_on : Plays net (
    codes "> A transact 1 {\"op\":\"wait\",\"table\":\"Bridge\",\"where\":[[\"name\",\"==\",\"c\"]],\"columns\":[\"name\"],\"until\":\"==\",\"rows\":[{\"name\":\"c\"}]}"
    ∷ codes "> A transact 2 {\"op\":\"wait\",\"table\":\"Bridge\",\"where\":[[\"name\",\"==\",\"b\"]],\"columns\":[\"name\"],\"until\":\"==\",\"rows\":[{\"name\":\"b\"}]}"
    ∷ codes "> B transact 1 {\"op\":\"insert\",\"table\":\"Bridge\",\"row\":{\"name\":\"b\"}}"
    ∷ codes "< A reply 2 [{}]"
    ∷ codes "< B reply 1 [{\"uuid\":[\"uuid\",\"U1\"]}]"
    ∷ codes "> B transact 2 {\"op\":\"insert\",\"table\":\"Bridge\",\"row\":{\"name\":\"c\"}}"
    ∷ codes "< A reply 1 [{}]"
    ∷ codes "< B reply 2 [{\"uuid\":[\"uuid\",\"U2\"]}]"
    ∷ [])
unfolding shows
a_wait_that_is_met_ends_beside_one_that_waits_on = refl

-- After each commit the earliest is tried first
pub after_each_commit_the_earliest_is_tried_first : Plays net (
    codes "> A transact 2 {\"op\":\"wait\",\"table\":\"Bridge\",\"where\":[[\"name\",\"==\",\"c\"]],\"columns\":[\"name\"],\"until\":\"==\",\"rows\":[{\"name\":\"c\"}]}"
    ∷ codes "> A transact 3 {\"op\":\"wait\",\"table\":\"Bridge\",\"where\":[],\"columns\":[\"name\"],\"until\":\"!=\",\"rows\":[]},{\"op\":\"insert\",\"table\":\"Bridge\",\"row\":{\"name\":\"c\"}}"
    ∷ codes "> A transact 4 {\"op\":\"wait\",\"table\":\"Bridge\",\"where\":[],\"columns\":[\"name\"],\"until\":\"!=\",\"rows\":[]}"
    ∷ codes "> A transact 5 {\"op\":\"insert\",\"table\":\"Bridge\",\"row\":{\"name\":\"x\"}}"
    ∷ codes "< A reply 5 [{\"uuid\":[\"uuid\",\"U2\"]}]"
    ∷ codes "< A reply 3 [{},{\"uuid\":[\"uuid\",\"U1\"]}]"
    ∷ codes "< A reply 2 [{}]"
    ∷ codes "< A reply 4 [{}]"
    ∷ [])
unfolding shows
after_each_commit_the_earliest_is_tried_first = refl

-- Locks are looked at when a transaction is tried
pub locks_are_looked_at_when_a_transaction_is_tried : Plays net (
    codes "> A transact 1 {\"op\":\"wait\",\"table\":\"Bridge\",\"where\":[],\"columns\":[\"name\"],\"until\":\"!=\",\"rows\":[]},{\"op\":\"assert\",\"lock\":\"L\"}"
    ∷ codes "> A lock 2 [\"L\"]"
    ∷ codes "< A reply 2 {\"locked\":true}"
    ∷ codes "> B transact 1 {\"op\":\"insert\",\"table\":\"Bridge\",\"row\":{\"name\":\"b\"}}"
    ∷ codes "< A reply 1 [{},{}]"
    ∷ codes "< B reply 1 [{\"uuid\":[\"uuid\",\"U1\"]}]"
    ∷ [])
unfolding shows
locks_are_looked_at_when_a_transaction_is_tried = refl

-- The commit of the first that waits lets the second go on
pub the_commit_of_the_first_that_waits_lets_the_second_go_on : Plays net (
    codes "> A transact 1 {\"op\":\"wait\",\"table\":\"Bridge\",\"where\":[],\"columns\":[\"name\"],\"until\":\"!=\",\"rows\":[]},{\"op\":\"insert\",\"table\":\"Bridge\",\"row\":{\"name\":\"c\"}}"
    ∷ codes "> C transact 1 {\"op\":\"wait\",\"table\":\"Bridge\",\"where\":[[\"name\",\"==\",\"c\"]],\"columns\":[\"name\"],\"until\":\"==\",\"rows\":[{\"name\":\"c\"}]}"
    ∷ codes "> B transact 1 {\"op\":\"insert\",\"table\":\"Bridge\",\"row\":{\"name\":\"b\"}}"
    ∷ codes "< A reply 1 [{},{\"uuid\":[\"uuid\",\"U1\"]}]"
    ∷ codes "< B reply 1 [{\"uuid\":[\"uuid\",\"U2\"]}]"
    ∷ codes "< C reply 1 [{}]"
    ∷ [])
unfolding shows
the_commit_of_the_first_that_waits_lets_the_second_go_on = refl

-- The commit of the second that waits lets the first go on
pub the_commit_of_the_second_that_waits_lets_the_first_go_on : Plays net (
    codes "> C transact 1 {\"op\":\"wait\",\"table\":\"Bridge\",\"where\":[[\"name\",\"==\",\"c\"]],\"columns\":[\"name\"],\"until\":\"==\",\"rows\":[{\"name\":\"c\"}]}"
    ∷ codes "> A transact 1 {\"op\":\"wait\",\"table\":\"Bridge\",\"where\":[],\"columns\":[\"name\"],\"until\":\"!=\",\"rows\":[]},{\"op\":\"insert\",\"table\":\"Bridge\",\"row\":{\"name\":\"c\"}}"
    ∷ codes "> B transact 1 {\"op\":\"insert\",\"table\":\"Bridge\",\"row\":{\"name\":\"b\"}}"
    ∷ codes "< A reply 1 [{},{\"uuid\":[\"uuid\",\"U1\"]}]"
    ∷ codes "< B reply 1 [{\"uuid\":[\"uuid\",\"U2\"]}]"
    ∷ codes "< C reply 1 [{}]"
    ∷ [])
unfolding shows
the_commit_of_the_second_that_waits_lets_the_first_go_on = refl

-- The deadline is that of the wait that fails now
pub the_deadline_is_that_of_the_wait_that_fails_now : Plays net (
    codes "> A transact 1 {\"op\":\"wait\",\"table\":\"Bridge\",\"where\":[],\"columns\":[\"name\"],\"until\":\"!=\",\"rows\":[],\"timeout\":10},{\"op\":\"wait\",\"table\":\"Port\",\"where\":[],\"columns\":[\"name\"],\"until\":\"!=\",\"rows\":[],\"timeout\":20}"
    ∷ codes "> B transact 1 {\"op\":\"insert\",\"table\":\"Bridge\",\"row\":{\"name\":\"b\"}}"
    ∷ codes "< B reply 1 [{\"uuid\":[\"uuid\",\"U1\"]}]"
    ∷ codes "> !tick 10"
    ∷ codes "> B echo 2 []"
    ∷ codes "< B reply 2 []"
    ∷ codes "> !tick 19"
    ∷ codes "> B echo 3 []"
    ∷ codes "< B reply 3 []"
    ∷ codes "> !tick 20"
    ∷ codes "< A reply 1 [{},{\"error\":\"timed out\"}]"
    ∷ [])
unfolding shows
the_deadline_is_that_of_the_wait_that_fails_now = refl

-- The first that wakes may put the next to sleep again
pub the_first_that_wakes_may_put_the_next_to_sleep_again : Plays net (
    codes "> A transact 1 {\"op\":\"wait\",\"table\":\"Bridge\",\"where\":[],\"columns\":[\"name\"],\"until\":\"!=\",\"rows\":[]},{\"op\":\"delete\",\"table\":\"Bridge\",\"where\":[]}"
    ∷ codes "> C transact 1 {\"op\":\"wait\",\"table\":\"Bridge\",\"where\":[],\"columns\":[\"name\"],\"until\":\"!=\",\"rows\":[]},{\"op\":\"delete\",\"table\":\"Bridge\",\"where\":[]}"
    ∷ codes "> B transact 1 {\"op\":\"insert\",\"table\":\"Bridge\",\"row\":{\"name\":\"b\"}}"
    ∷ codes "< A reply 1 [{},{\"count\":1}]"
    ∷ codes "< B reply 1 [{\"uuid\":[\"uuid\",\"U1\"]}]"
    ∷ codes "> !take C"
    ∷ [])
unfolding shows
the_first_that_wakes_may_put_the_next_to_sleep_again = refl

-- Those that wait again keep their places
pub those_that_wait_again_keep_their_places : Plays net (
    codes "> A transact 1 {\"op\":\"wait\",\"table\":\"Bridge\",\"where\":[[\"name\",\"==\",\"c\"]],\"columns\":[\"name\"],\"until\":\"==\",\"rows\":[{\"name\":\"c\"}]}"
    ∷ codes "> A transact 2 {\"op\":\"wait\",\"table\":\"Bridge\",\"where\":[[\"name\",\"==\",\"c\"]],\"columns\":[\"name\"],\"until\":\"==\",\"rows\":[{\"name\":\"c\"}]}"
    ∷ codes "> B transact 1 {\"op\":\"insert\",\"table\":\"Bridge\",\"row\":{\"name\":\"b\"}}"
    ∷ codes "< B reply 1 [{\"uuid\":[\"uuid\",\"U1\"]}]"
    ∷ codes "> B transact 2 {\"op\":\"insert\",\"table\":\"Bridge\",\"row\":{\"name\":\"c\"}}"
    ∷ codes "< A reply 1 [{}]"
    ∷ codes "< A reply 2 [{}]"
    ∷ codes "< B reply 2 [{\"uuid\":[\"uuid\",\"U2\"]}]"
    ∷ [])
unfolding shows
those_that_wait_again_keep_their_places = refl

-- Three that wait, of which the third wakes the second, and that the first
pub three_that_wait_of_which_the_third_wakes_the_second_and_that_the_first : Plays net (
    codes "> A transact 1 {\"op\":\"wait\",\"table\":\"Bridge\",\"where\":[[\"name\",\"==\",\"d\"]],\"columns\":[\"name\"],\"until\":\"==\",\"rows\":[{\"name\":\"d\"}]}"
    ∷ codes "> B transact 1 {\"op\":\"wait\",\"table\":\"Bridge\",\"where\":[[\"name\",\"==\",\"c\"]],\"columns\":[\"name\"],\"until\":\"==\",\"rows\":[{\"name\":\"c\"}]},{\"op\":\"insert\",\"table\":\"Bridge\",\"row\":{\"name\":\"d\"}}"
    ∷ codes "> C transact 1 {\"op\":\"wait\",\"table\":\"Bridge\",\"where\":[[\"name\",\"==\",\"b\"]],\"columns\":[\"name\"],\"until\":\"==\",\"rows\":[{\"name\":\"b\"}]},{\"op\":\"insert\",\"table\":\"Bridge\",\"row\":{\"name\":\"c\"}}"
    ∷ codes "> A transact 2 {\"op\":\"insert\",\"table\":\"Bridge\",\"row\":{\"name\":\"b\"}}"
    ∷ codes "< A reply 2 [{\"uuid\":[\"uuid\",\"U3\"]}]"
    ∷ codes "< A reply 1 [{}]"
    ∷ codes "< B reply 1 [{},{\"uuid\":[\"uuid\",\"U1\"]}]"
    ∷ codes "< C reply 1 [{},{\"uuid\":[\"uuid\",\"U2\"]}]"
    ∷ [])
unfolding shows
three_that_wait_of_which_the_third_wakes_the_second_and_that_the_first = refl

-- A commit before the deadline wakes, and does not end, what waits
pub a_commit_before_the_deadline_wakes_and_does_not_end_what_waits : Plays net (
    codes "> A transact 1 {\"op\":\"wait\",\"table\":\"Port\",\"where\":[],\"columns\":[\"name\"],\"until\":\"!=\",\"rows\":[],\"timeout\":5}"
    ∷ codes "> !tick 4"
    ∷ codes "> B transact 1 {\"op\":\"insert\",\"table\":\"Bridge\",\"row\":{\"name\":\"x\"}}"
    ∷ codes "< B reply 1 [{\"uuid\":[\"uuid\",\"U1\"]}]"
    ∷ codes "> C echo 1 []"
    ∷ codes "< C reply 1 []"
    ∷ codes "> !tick 5"
    ∷ codes "< A reply 1 [{\"error\":\"timed out\"}]"
    ∷ [])
unfolding shows
a_commit_before_the_deadline_wakes_and_does_not_end_what_waits = refl

-- Those that are due end in the order of arrival
pub those_that_are_due_end_in_the_order_of_arrival : Plays net (
    codes "> A transact 1 {\"op\":\"wait\",\"table\":\"Bridge\",\"where\":[],\"columns\":[\"name\"],\"until\":\"!=\",\"rows\":[],\"timeout\":10}"
    ∷ codes "> A transact 2 {\"op\":\"wait\",\"table\":\"Bridge\",\"where\":[],\"columns\":[\"name\"],\"until\":\"!=\",\"rows\":[],\"timeout\":5}"
    ∷ codes "> A transact 3 {\"op\":\"wait\",\"table\":\"Bridge\",\"where\":[],\"columns\":[\"name\"],\"until\":\"!=\",\"rows\":[]}"
    ∷ codes "> A transact 4 {\"op\":\"wait\",\"table\":\"Bridge\",\"where\":[],\"columns\":[\"name\"],\"until\":\"!=\",\"rows\":[],\"timeout\":10}"
    ∷ codes "> !tick 7"
    ∷ codes "< A reply 2 [{\"error\":\"timed out\"}]"
    ∷ codes "> !tick 10"
    ∷ codes "< A reply 1 [{\"error\":\"timed out\"}]"
    ∷ codes "< A reply 4 [{\"error\":\"timed out\"}]"
    ∷ [])
unfolding shows
those_that_are_due_end_in_the_order_of_arrival = refl

-- A cancel ends the earliest one of its session with that id
pub a_cancel_ends_the_earliest_one_of_its_session_with_that_id : Plays net (
    codes "> B transact 7 {\"op\":\"wait\",\"table\":\"Bridge\",\"where\":[],\"columns\":[\"name\"],\"until\":\"!=\",\"rows\":[]}"
    ∷ codes "> A transact 7 {\"op\":\"wait\",\"table\":\"Bridge\",\"where\":[],\"columns\":[\"name\"],\"until\":\"!=\",\"rows\":[]}"
    ∷ codes "> A transact 7 {\"op\":\"wait\",\"table\":\"Bridge\",\"where\":[[\"name\",\"==\",\"b\"]],\"columns\":[\"name\"],\"until\":\"==\",\"rows\":[{\"name\":\"b\"}]}"
    ∷ codes "> A {\"method\":\"cancel\",\"params\":[\"7\"],\"id\":null}"
    ∷ codes "> A {\"method\":\"cancel\",\"params\":[7,7],\"id\":null}"
    ∷ codes "> A cancel 5 [7]"
    ∷ codes "< A error 5 unknown method"
    ∷ codes "> A {\"method\":\"cancel\",\"params\":[7]}"
    ∷ codes "< A error 7 canceled"
    ∷ codes "> C transact 1 {\"op\":\"insert\",\"table\":\"Bridge\",\"row\":{\"name\":\"a\"}}"
    ∷ codes "< B reply 7 [{}]"
    ∷ codes "< C reply 1 [{\"uuid\":[\"uuid\",\"U1\"]}]"
    ∷ codes "> C transact 2 {\"op\":\"insert\",\"table\":\"Bridge\",\"row\":{\"name\":\"b\"}}"
    ∷ codes "< A reply 7 [{}]"
    ∷ codes "< C reply 2 [{\"uuid\":[\"uuid\",\"U2\"]}]"
    ∷ codes "> A {\"method\":\"cancel\",\"params\":[7],\"id\":null}"
    ∷ [])
unfolding shows
a_cancel_ends_the_earliest_one_of_its_session_with_that_id = refl

-- A waiting transaction is canceled
pub a_waiting_transaction_is_canceled : Plays net (
    codes "> A transact 7 {\"op\":\"wait\",\"table\":\"Bridge\",\"where\":[],\"columns\":[\"name\"],\"until\":\"!=\",\"rows\":[]}"
    ∷ codes "> A {\"method\":\"cancel\",\"params\":[7],\"id\":null}"
    ∷ codes "< A error 7 canceled"
    ∷ [])
unfolding shows
a_waiting_transaction_is_canceled = refl

-- Two requests of one id
pub two_requests_of_one_id : Plays net (
    codes "> A transact 1 {\"op\":\"wait\",\"table\":\"Bridge\",\"where\":[],\"columns\":[\"name\"],\"until\":\"!=\",\"rows\":[]}"
    ∷ codes "> A transact 1 {\"op\":\"comment\",\"comment\":\"x\"}"
    ∷ codes "< A reply 1 [{}]"
    ∷ codes "> A echo 1 []"
    ∷ codes "< A reply 1 []"
    ∷ codes "> B transact 1 {\"op\":\"insert\",\"table\":\"Bridge\",\"row\":{\"name\":\"b\"}}"
    ∷ codes "< A reply 1 [{}]"
    ∷ codes "< B reply 1 [{\"uuid\":[\"uuid\",\"U1\"]}]"
    ∷ [])
unfolding shows
two_requests_of_one_id = refl
