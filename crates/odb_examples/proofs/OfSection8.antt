-- Transcripts of section 8 of docs/PROTOCOL.md. Made by `tools/examples` from transcripts/: no hand writes here.
use Rattle.std.specs.Prelude.{◌∷◌, [], codes, refl}
use Rattle.odb_examples.proofs.TestSchemas.{empty, net}
use Rattle.odb_examples.proofs.Transcripts.{Plays, shows}

-- The databases are listed
pub the_databases_are_listed : Plays net (
    codes "> A list_dbs 0 []"
    ∷ codes "< A reply 0 [\"net\"]"
    ∷ [])
unfolding shows
the_databases_are_listed = refl

-- A left-out number comes before the method, and hides the id that holds it
pub a_left_out_number_comes_before_the_method_and_hides_the_id_that_holds_it : Plays net (
    codes "> A {\"method\":\"zzz\",\"params\":[],\"id\":1,\"more\":[0.5]}"
    ∷ codes "< A {\"error\":{\"error\":\"syntax error\"},\"id\":1,\"result\":null}"
    ∷ codes "> A {\"method\":\"echo\",\"params\":[],\"id\":[1.5]}"
    ∷ codes "< A {\"error\":{\"error\":\"syntax error\"},\"id\":null,\"result\":null}"
    ∷ codes "> A {\"method\":\"echo\",\"params\":[1.5],\"params\":[],\"id\":2}"
    ∷ codes "< A {\"error\":null,\"id\":2,\"result\":[]}"
    ∷ [])
unfolding shows
a_left_out_number_comes_before_the_method_and_hides_the_id_that_holds_it = refl

-- A number that is left out is in no id
pub a_number_that_is_left_out_is_in_no_id : Plays net (
    codes "> A transact [] {\"op\":\"wait\",\"table\":\"Bridge\",\"where\":[],\"columns\":[\"name\"],\"until\":\"!=\",\"rows\":[]}"
    ∷ codes "> A {\"method\":\"cancel\",\"params\":[[1.5]],\"id\":null}"
    ∷ codes "> A {\"method\":\"cancel\",\"params\":[[]],\"id\":null}"
    ∷ codes "< A error [] canceled"
    ∷ [])
unfolding shows
a_number_that_is_left_out_is_in_no_id = refl

-- A request whose params are no array
pub a_request_whose_params_are_no_array : Plays net (
    codes "> A echo 1 {\"a\":1}"
    ∷ codes "< A error 1 syntax error"
    ∷ codes "> A echo 2 []"
    ∷ codes "< A reply 2 []"
    ∷ [])
unfolding shows
a_request_whose_params_are_no_array = refl

-- A request without params
pub a_request_without_params : Plays net (
    codes "> A {\"method\":\"list_dbs\",\"id\":1}"
    ∷ codes "< A error 1 syntax error"
    ∷ codes "> A echo 2 []"
    ∷ codes "< A reply 2 []"
    ∷ [])
unfolding shows
a_request_without_params = refl

-- Calls are answered in order
pub calls_are_answered_in_order : Plays empty (
    codes "> A {\"method\":\"list_dbs\",\"params\":[],\"id\":0}{\"method\":\"get_schema\",\"params\":[\"empty\"],\"id\":1}{\"method\":\"echo\",\"params\":[2,\"x\"],\"id\":\"e\"}{\"method\":\"get_schema\",\"params\":[\"_Server\"],\"id\":2}{\"method\":\"convert\",\"params\":[],\"id\":3}{\"method\":\"echo\",\"params\":[1.5],\"id\":4}"
    ∷ codes "< A reply 0 [\"empty\"]"
    ∷ codes "< A reply 1 {\"name\":\"empty\",\"tables\":{},\"version\":\"1.0.0\"}"
    ∷ codes "< A reply \"e\" [2,\"x\"]"
    ∷ codes "< A error 2 unknown database"
    ∷ codes "< A error 3 unknown method"
    ∷ codes "< A error 4 syntax error"
    ∷ [])
unfolding shows
calls_are_answered_in_order = refl

-- Ids are equal where their texts are
pub ids_are_equal_where_their_texts_are : Plays net (
    codes "> A {\"method\":\"transact\",\"params\":[\"net\",{\"op\":\"wait\",\"table\":\"Bridge\",\"where\":[],\"columns\":[\"name\"],\"until\":\"!=\",\"rows\":[]}],\"id\":{\"a\":1,\"b\":2}}"
    ∷ codes "> A {\"method\":\"cancel\",\"params\":[{\"b\":2,\"a\":1}]}"
    ∷ codes "< A error {\"a\":1,\"b\":2} canceled"
    ∷ [])
unfolding shows
ids_are_equal_where_their_texts_are = refl

-- Left-out numbers, and the ids of replies
pub left_out_numbers_and_the_ids_of_replies : Plays net (
    codes "> A zzz 1 [1.5]"
    ∷ codes "< A error 1 syntax error"
    ∷ codes "> A echo 2 1.5"
    ∷ codes "< A error 2 syntax error"
    ∷ codes "> A echo 3 [9223372036854775807]"
    ∷ codes "< A reply 3 [9223372036854775807]"
    ∷ codes "> A echo 4 [9223372036854775808]"
    ∷ codes "< A error 4 syntax error"
    ∷ codes "> A echo 5 [-9223372036854775808]"
    ∷ codes "< A reply 5 [-9223372036854775808]"
    ∷ codes "> A echo 6 [-9223372036854775809]"
    ∷ codes "< A error 6 syntax error"
    ∷ codes "> A echo 7 [-0]"
    ∷ codes "< A error 7 syntax error"
    ∷ codes "> A echo 8 [1e2]"
    ∷ codes "< A error 8 syntax error"
    ∷ codes "> A echo 1.5 []"
    ∷ codes "< A error null syntax error"
    ∷ codes "> A {\"method\":\"echo\",\"params\":[],\"id\":[{\"k\":[2.0]}]}"
    ∷ codes "< A error null syntax error"
    ∷ codes "> A {\"method\":\"echo\",\"params\":[],\"id\":{\"b\":1,\"a\":\"x\"}}"
    ∷ codes "< A reply {\"a\":\"x\",\"b\":1} []"
    ∷ codes "> A echo false []"
    ∷ codes "< A reply false []"
    ∷ codes "> A echo \"q\" [{\"b\":1,\"a\":null}]"
    ∷ codes "< A reply \"q\" [{\"a\":null,\"b\":1}]"
    ∷ codes "> A {\"method\":\"echo\",\"params\":[],\"id\":9,\"more\":[{\"k\":0.5}]}"
    ∷ codes "< A error 9 syntax error"
    ∷ codes "> A {\"method\":\"zzz\",\"id\":10}"
    ∷ codes "< A error 10 unknown method"
    ∷ [])
unfolding shows
left_out_numbers_and_the_ids_of_replies = refl

-- Locks whose names are none
pub locks_whose_names_are_none : Plays net (
    codes "> A lock 1 []"
    ∷ codes "< A error 1 syntax error"
    ∷ codes "> A lock 2 [\"L\",\"M\"]"
    ∷ codes "< A error 2 syntax error"
    ∷ codes "> A lock 3 [\"1L\"]"
    ∷ codes "< A error 3 syntax error"
    ∷ codes "> A lock 4 [5]"
    ∷ codes "< A error 4 syntax error"
    ∷ codes "> A steal 5 [\"\"]"
    ∷ codes "< A error 5 syntax error"
    ∷ codes "> A unlock 6 [\"1L\"]"
    ∷ codes "< A error 6 syntax error"
    ∷ codes "> A unlock 7 [\"L\"]"
    ∷ codes "< A error 7 syntax error"
    ∷ [])
unfolding shows
locks_whose_names_are_none = refl

-- Numbers that are no integers of 64 bits
pub numbers_that_are_no_integers_of_64_bits : Plays net (
    codes "> A echo 1 [1.5]"
    ∷ codes "< A error 1 syntax error"
    ∷ codes "> A echo 2 [1e2]"
    ∷ codes "< A error 2 syntax error"
    ∷ codes "> A echo 3 [9223372036854775808]"
    ∷ codes "< A error 3 syntax error"
    ∷ codes "> A echo 4 [1e400]"
    ∷ codes "< A !fault 3"
    ∷ codes "> A transact 5 {\"op\":\"select\",\"table\":\"Port\",\"where\":[[\"tag\",\"==\",1e0]]}"
    ∷ codes "< A !gone"
    ∷ codes "> A transact 6 {\"op\":\"wait\",\"table\":\"Port\",\"where\":[],\"until\":\"==\",\"rows\":[],\"timeout\":1.5}"
    ∷ codes "< A !gone"
    ∷ [])
unfolding shows
numbers_that_are_no_integers_of_64_bits = refl

-- The methods that need no database
pub the_methods_that_need_no_database : Plays net (
    codes "> A list_dbs 1 []"
    ∷ codes "< A reply 1 [\"net\"]"
    ∷ codes "> A list_dbs 2 [5]"
    ∷ codes "< A error 2 syntax error"
    ∷ codes "> A echo 3 [1,{\"b\":null,\"a\":[]},\"x\"]"
    ∷ codes "< A reply 3 [1,{\"a\":[],\"b\":null},\"x\"]"
    ∷ codes "> A echo \"text\" []"
    ∷ codes "< A reply \"text\" []"
    ∷ codes "> A echo [1,{\"z\":0,\"a\":0}] []"
    ∷ codes "< A reply [1,{\"a\":0,\"z\":0}] []"
    ∷ codes "> A frob 4 []"
    ∷ codes "< A error 4 unknown method"
    ∷ codes "> A convert 5 [\"net\",null]"
    ∷ codes "< A error 5 unknown method"
    ∷ codes "> A set_db_change_aware 6 [true]"
    ∷ codes "< A error 6 unknown method"
    ∷ codes "> A get_server_id 7 []"
    ∷ codes "< A error 7 unknown method"
    ∷ [])
unfolding shows
the_methods_that_need_no_database = refl

-- The params of each method
pub the_params_of_each_method : Plays net (
    codes "> A list_dbs 0 [1]"
    ∷ codes "< A error 0 syntax error"
    ∷ codes "> A list_dbs 1 {}"
    ∷ codes "< A error 1 syntax error"
    ∷ codes "> A get_schema 2 []"
    ∷ codes "< A error 2 syntax error"
    ∷ codes "> A get_schema 3 [1]"
    ∷ codes "< A error 3 syntax error"
    ∷ codes "> A get_schema 4 [\"x\"]"
    ∷ codes "< A error 4 unknown database"
    ∷ codes "> A get_schema 5 [\"net\",1]"
    ∷ codes "< A error 5 syntax error"
    ∷ codes "> A {\"method\":\"transact\",\"params\":[],\"id\":6}"
    ∷ codes "< A error 6 syntax error"
    ∷ codes "> A {\"method\":\"transact\",\"params\":[5],\"id\":7}"
    ∷ codes "< A error 7 syntax error"
    ∷ codes "> A {\"method\":\"transact\",\"params\":[\"x\",5],\"id\":8}"
    ∷ codes "< A error 8 unknown database"
    ∷ codes "> A {\"method\":\"transact\",\"params\":{\"0\":\"net\"},\"id\":9}"
    ∷ codes "< A error 9 syntax error"
    ∷ codes "> A lock 23 []"
    ∷ codes "< A error 23 syntax error"
    ∷ codes "> A lock 24 [1]"
    ∷ codes "< A error 24 syntax error"
    ∷ codes "> A lock 25 [\"1a\"]"
    ∷ codes "< A error 25 syntax error"
    ∷ codes "> A lock 26 [\"a-b\"]"
    ∷ codes "< A error 26 syntax error"
    ∷ codes "> A lock 27 [\"\"]"
    ∷ codes "< A error 27 syntax error"
    ∷ codes "> A lock 28 [\"L\",\"M\"]"
    ∷ codes "< A error 28 syntax error"
    ∷ codes "> A steal 29 [\"a b\"]"
    ∷ codes "< A error 29 syntax error"
    ∷ codes "> A unlock 30 [\"L\"]"
    ∷ codes "< A error 30 syntax error"
    ∷ codes "> A unlock 31 [5]"
    ∷ codes "< A error 31 syntax error"
    ∷ codes "> A unlock 32 []"
    ∷ codes "< A error 32 syntax error"
    ∷ codes "> A echo 33 {}"
    ∷ codes "< A error 33 syntax error"
    ∷ codes "> A echo 34 null"
    ∷ codes "< A error 34 syntax error"
    ∷ codes "> A {\"method\":\"echo\",\"id\":90}"
    ∷ codes "< A error 90 syntax error"
    ∷ codes "> A transact 91"
    ∷ codes "< A reply 91 []"
    ∷ codes "> A transact 92 5"
    ∷ codes "< A reply 92 [{\"error\":\"syntax error\"}]"
    ∷ codes "> A lock 93 [\"_a9\"]"
    ∷ codes "< A reply 93 {\"locked\":true}"
    ∷ codes "> A unlock 94 [\"_a9\"]"
    ∷ codes "< A reply 94 {}"
    ∷ [])
unfolding shows
the_params_of_each_method = refl

-- The params of the methods of monitors
pub the_params_of_the_methods_of_monitors : Plays net (
    codes "> A monitor 10 [\"x\",\"m\"]"
    ∷ codes "< A error 10 syntax error"
    ∷ codes "> A monitor 11 [\"x\",\"m\",[]]"
    ∷ codes "< A error 11 syntax error"
    ∷ codes "> A monitor 12 [1,\"m\",{}]"
    ∷ codes "< A error 12 syntax error"
    ∷ codes "> A monitor 13 [\"x\",\"m\",{\"Nope\":1}]"
    ∷ codes "< A error 13 unknown database"
    ∷ codes "> A monitor 14 [\"x\",\"m\",{},1]"
    ∷ codes "< A error 14 syntax error"
    ∷ codes "> A monitor_cond 15 [\"_Server\",\"m\",{}]"
    ∷ codes "< A error 15 unknown database"
    ∷ codes "> A monitor_cond 16 [\"x\",null,null]"
    ∷ codes "< A error 16 syntax error"
    ∷ codes "> A monitor_cond_change 17 [\"a\",\"b\"]"
    ∷ codes "< A error 17 syntax error"
    ∷ codes "> A monitor_cond_change 18 [\"a\",\"b\",[]]"
    ∷ codes "< A error 18 syntax error"
    ∷ codes "> A monitor_cond_change 19 [\"a\",\"b\",{\"Nope\":1}]"
    ∷ codes "< A error 19 unknown monitor"
    ∷ codes "> A monitor_cancel 20 []"
    ∷ codes "< A error 20 syntax error"
    ∷ codes "> A monitor_cancel 21 [\"a\",\"b\"]"
    ∷ codes "< A error 21 syntax error"
    ∷ codes "> A monitor_cancel 22 [null]"
    ∷ codes "< A error 22 unknown monitor"
    ∷ [])
unfolding shows
the_params_of_the_methods_of_monitors = refl

-- Unknown methods
pub unknown_methods : Plays net (
    codes "> A zzz 0 5"
    ∷ codes "< A error 0 unknown method"
    ∷ codes "> A cancel 1 [1]"
    ∷ codes "< A error 1 unknown method"
    ∷ codes "> A monitor_since 2 [\"net\",\"m\",{},\"x\"]"
    ∷ codes "< A error 2 unknown method"
    ∷ codes "> A set_db_change_aware 3 [true]"
    ∷ codes "< A error 3 unknown method"
    ∷ codes "> A get_server_id 4 []"
    ∷ codes "< A error 4 unknown method"
    ∷ codes "> A convert 5 [\"net\",{}]"
    ∷ codes "< A error 5 unknown method"
    ∷ codes "> A ECHO 6 []"
    ∷ codes "< A error 6 unknown method"
    ∷ codes "> A {\"method\":\"\",\"params\":[],\"id\":7}"
    ∷ codes "< A error 7 unknown method"
    ∷ [])
unfolding shows
unknown_methods = refl

-- What isn't served is refused
pub what_isnt_served_is_refused : Plays net (
    codes "> A convert 1 []"
    ∷ codes "< A error 1 unknown method"
    ∷ codes "> A get_schema 2 [\"_Server\"]"
    ∷ codes "< A error 2 unknown database"
    ∷ codes "> A echo 3 [1.5]"
    ∷ codes "< A error 3 syntax error"
    ∷ codes "> A get_server_id 5 []"
    ∷ codes "< A error 5 unknown method"
    ∷ [])
unfolding shows
what_isnt_served_is_refused = refl
