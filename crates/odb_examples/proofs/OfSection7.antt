-- Transcripts of section 7 of docs/PROTOCOL.md. Made by `tests/examples` from transcripts/: no hand writes here.
use Rattle.std.specs.Prelude.{◌++◌, ◌∷◌, [], codes, refl}
use Rattle.odb_examples.proofs.TestSchemas.{net}
use Rattle.odb_examples.proofs.Transcripts.{Plays, shows}

-- A brace in a string doesn't end a message, and a message may come in pieces
pub a_brace_in_a_string_doesnt_end_a_message_and_a_message_may_come_in_pieces : Plays net (
    codes "> A {\"method\":\"echo\",\"params\":[\"}\"],\"i"
    ∷ codes "> A d\":4}"
    ∷ codes "< A reply 4 [\"}\"]"
    ∷ [])
unfolding shows
a_brace_in_a_string_doesnt_end_a_message_and_a_message_may_come_in_pieces = refl

-- A byte that is no UTF-8
pub a_byte_that_is_no_utf_8 : Plays net (
    (codes "> A echo 1 [\"" ++ 255 ∷ codes "\"]")
    ∷ codes "< A !fault 3"
    ∷ [])
unfolding shows
a_byte_that_is_no_utf_8 = refl

-- A message comes byte by byte
pub a_message_comes_byte_by_byte : Plays net (
    codes "> A {"
    ∷ codes "> A \""
    ∷ codes "> A m"
    ∷ codes "> A e"
    ∷ codes "> A t"
    ∷ codes "> A h"
    ∷ codes "> A o"
    ∷ codes "> A d"
    ∷ codes "> A \""
    ∷ codes "> A :"
    ∷ codes "> A \""
    ∷ codes "> A e"
    ∷ codes "> A c"
    ∷ codes "> A h"
    ∷ codes "> A o"
    ∷ codes "> A \""
    ∷ codes "> A ,"
    ∷ codes "> A \""
    ∷ codes "> A p"
    ∷ codes "> A a"
    ∷ codes "> A r"
    ∷ codes "> A a"
    ∷ codes "> A m"
    ∷ codes "> A s"
    ∷ codes "> A \""
    ∷ codes "> A :"
    ∷ codes "> A ["
    ∷ codes "> A \""
    ∷ codes "> A }"
    ∷ codes "> A \""
    ∷ codes "> A ]"
    ∷ codes "> A ,"
    ∷ codes "> A \""
    ∷ codes "> A i"
    ∷ codes "> A d"
    ∷ codes "> A \""
    ∷ codes "> A :"
    ∷ codes "> A 4"
    ∷ codes "> A }"
    ∷ codes "< A reply 4 [\"}\"]"
    ∷ [])
unfolding shows
a_message_comes_byte_by_byte = refl

-- A number past the range
pub a_number_past_the_range : Plays net (
    codes "> A echo 1 [1e400]"
    ∷ codes "< A !fault 3"
    ∷ [])
unfolding shows
a_number_past_the_range = refl

-- A session whose stream has a fault is gone
pub a_session_whose_stream_has_a_fault_is_gone : Plays net (
    codes "> A [1]"
    ∷ codes "< A !fault 3"
    ∷ codes "> A x"
    ∷ codes "< A !gone"
    ∷ codes "> !close A"
    ∷ codes "< A !gone"
    ∷ [])
unfolding shows
a_session_whose_stream_has_a_fault_is_gone = refl

-- Braces and quotes in strings
pub braces_and_quotes_in_strings : Plays net (
    codes "> A {\"method\":\"echo\",\"params\":[\"{\\\"\",\"\\\\\",\"}\"],\"id\":1}{\"method\":\"ec"
    ∷ codes "< A reply 1 [\"{\\\"\",\"\\\\\",\"}\"]"
    ∷ codes "> A ho\",\"params\":[],\"id\":2}"
    ∷ codes "< A reply 2 []"
    ∷ [])
unfolding shows
braces_and_quotes_in_strings = refl

-- Bytes that are no JSON
pub bytes_that_are_no_json : Plays net (
    codes "> A {\"method\":\"echo\","
    ∷ codes "> A frob"
    ∷ codes "> A echo 1 []"
    ∷ codes "> A }"
    ∷ codes "< A !fault 3"
    ∷ [])
unfolding shows
bytes_that_are_no_json = refl

-- Messages in front of a fault are served
pub messages_in_front_of_a_fault_are_served : Plays net (
    codes "> A {\"method\":\"echo\",\"params\":[],\"id\":1}}"
    ∷ codes "< A reply 1 []"
    ∷ codes "< A !fault 3"
    ∷ codes "> A {\"method\":\"echo\",\"params\":[],\"id\":2}"
    ∷ codes "< A !gone"
    ∷ [])
unfolding shows
messages_in_front_of_a_fault_are_served = refl

-- Nesting of 127
pub nesting_of_127 : Plays net (
    codes "> A echo 1 [[[[[[[[[[[[[[[[[[[[[[[[[[[[[[[[[[[[[[[[[[[[[[[[[[[[[[[[[[[[[[[[[[[[[[[[[[[[[[[[[[[[[[[[[[[[[[[[[[[[[[[[[[[[[[[[[[[[[[[[[[[[[[]]]]]]]]]]]]]]]]]]]]]]]]]]]]]]]]]]]]]]]]]]]]]]]]]]]]]]]]]]]]]]]]]]]]]]]]]]]]]]]]]]]]]]]]]]]]]]]]]]]]]]]]]]]]]]]]]]]]]]]]]]]]]]"
    ∷ codes "< A reply 1 [[[[[[[[[[[[[[[[[[[[[[[[[[[[[[[[[[[[[[[[[[[[[[[[[[[[[[[[[[[[[[[[[[[[[[[[[[[[[[[[[[[[[[[[[[[[[[[[[[[[[[[[[[[[[[[[[[[[[[[[[[[[[[]]]]]]]]]]]]]]]]]]]]]]]]]]]]]]]]]]]]]]]]]]]]]]]]]]]]]]]]]]]]]]]]]]]]]]]]]]]]]]]]]]]]]]]]]]]]]]]]]]]]]]]]]]]]]]]]]]]]]]]]]]]]]]"
    ∷ [])
unfolding shows
nesting_of_127 = refl

-- Nesting of 128
pub nesting_of_128 : Plays net (
    codes "> A echo 1 [[[[[[[[[[[[[[[[[[[[[[[[[[[[[[[[[[[[[[[[[[[[[[[[[[[[[[[[[[[[[[[[[[[[[[[[[[[[[[[[[[[[[[[[[[[[[[[[[[[[[[[[[[[[[[[[[[[[[[[[[[[[[[[]]]]]]]]]]]]]]]]]]]]]]]]]]]]]]]]]]]]]]]]]]]]]]]]]]]]]]]]]]]]]]]]]]]]]]]]]]]]]]]]]]]]]]]]]]]]]]]]]]]]]]]]]]]]]]]]]]]]]]]]]]]]]]]"
    ∷ codes "< A !fault 3"
    ∷ [])
unfolding shows
nesting_of_128 = refl

-- No comma stands between objects
pub no_comma_stands_between_objects : Plays net (
    codes "> A {\"method\":\"echo\",\"params\":[],\"id\":1} \t\r{\"method\":\"echo\",\"params\":[],\"id\":2},{\"method\":\"echo\",\"params\":[],\"id\":3}"
    ∷ codes "< A reply 1 []"
    ∷ codes "< A reply 2 []"
    ∷ codes "< A !fault 3"
    ∷ [])
unfolding shows
no_comma_stands_between_objects = refl

-- No form feed stands between objects
pub no_form_feed_stands_between_objects : Plays net (
    (codes "> A {\"method\":\"echo\",\"params\":[],\"id\":1}" ++ 12 ∷ codes "{\"method\":\"echo\",\"params\":[],\"id\":2}")
    ∷ codes "< A reply 1 []"
    ∷ codes "< A !fault 3"
    ∷ [])
unfolding shows
no_form_feed_stands_between_objects = refl

-- Only objects are messages
pub only_objects_are_messages : Plays net (
    codes "> A [1]"
    ∷ codes "< A !fault 3"
    ∷ [])
unfolding shows
only_objects_are_messages = refl

-- What hasn't ended prints nothing
pub what_hasnt_ended_prints_nothing : Plays net (
    codes "> A {\"meth"
    ∷ codes "> !close A"
    ∷ [])
unfolding shows
what_hasnt_ended_prints_nothing = refl

-- A message that is neither request nor response
pub a_message_that_is_neither_request_nor_response : Plays net (
    codes "> A {\"frob\":1}"
    ∷ codes "< A !fault 3"
    ∷ codes "> A echo 1 []"
    ∷ codes "< A !gone"
    ∷ [])
unfolding shows
a_message_that_is_neither_request_nor_response = refl

-- A method that is no string
pub a_method_that_is_no_string : Plays net (
    codes "> A \t{\"result\":1} {\"error\":null}\t"
    ∷ codes "> A {\"method\":1,\"result\":2}"
    ∷ codes "< A !fault 3"
    ∷ [])
unfolding shows
a_method_that_is_no_string = refl

-- A response that nobody asked for
pub a_response_that_nobody_asked_for : Plays net (
    codes "> A {\"id\":9,\"result\":[],\"error\":null}"
    ∷ codes "> A echo 1 []"
    ∷ codes "< A reply 1 []"
    ∷ [])
unfolding shows
a_response_that_nobody_asked_for = refl

-- An object without members
pub an_object_without_members : Plays net (
    codes "> A {}"
    ∷ codes "< A !fault 3"
    ∷ [])
unfolding shows
an_object_without_members = refl

-- Messages that ask for nothing
pub messages_that_ask_for_nothing : Plays net (
    codes "> A {\"method\":\"echo\",\"params\":[1]}"
    ∷ codes "> A {\"method\":\"echo\",\"params\":[1],\"id\":null}"
    ∷ codes "> A transact null {\"op\":\"insert\",\"table\":\"Bridge\",\"row\":{\"name\":\"b\"}}"
    ∷ codes "> A echo 1 []"
    ∷ codes "< A reply 1 []"
    ∷ [])
unfolding shows
messages_that_ask_for_nothing = refl

-- Notifications and responses are answered nothing
pub notifications_and_responses_are_answered_nothing : Plays net (
    codes "> A {\"method\":\"echo\",\"params\":[]}"
    ∷ codes "> A {\"method\":\"echo\",\"params\":[],\"id\":null}"
    ∷ codes "> A {\"method\":\"zzz\",\"params\":[1.5],\"id\":null}"
    ∷ codes "> A {\"result\":1}"
    ∷ codes "> A {\"error\":1,\"id\":3}"
    ∷ codes "> A transact null {\"op\":\"insert\",\"table\":\"Bridge\",\"row\":{\"name\":\"q\"}}"
    ∷ codes "> A {\"method\":\"cancel\",\"params\":5,\"id\":null}"
    ∷ codes "> A {\"method\":\"cancel\",\"id\":null}"
    ∷ codes "> A {\"method\":\"cancel\",\"params\":[],\"id\":null}"
    ∷ codes "> A {\"method\":\"cancel\",\"params\":[7,8],\"id\":null}"
    ∷ codes "> A {\"method\":\"cancel\",\"params\":[7]}"
    ∷ codes "> A transact 1 {\"op\":\"select\",\"table\":\"Bridge\",\"where\":[]}"
    ∷ codes "< A reply 1 [{\"rows\":[]}]"
    ∷ [])
unfolding shows
notifications_and_responses_are_answered_nothing = refl

-- Of a repeated key the last counts
pub of_a_repeated_key_the_last_counts : Plays net (
    codes "> A {\"method\":\"echo\",\"method\":\"list_dbs\",\"params\":[],\"id\":1}"
    ∷ codes "< A reply 1 [\"net\"]"
    ∷ [])
unfolding shows
of_a_repeated_key_the_last_counts = refl

-- Strings are printed with the fewest escapes
pub strings_are_printed_with_the_fewest_escapes : Plays net (
    (codes "> A echo \"\\u0041\" [\"" ++ 195 ∷ 169 ∷ codes "\\u00e9\\/\"]")
    ∷ (codes "< A reply \"A\" [\"" ++ 195 ∷ 169 ∷ 195 ∷ 169 ∷ codes "/\"]")
    ∷ [])
unfolding shows
strings_are_printed_with_the_fewest_escapes = refl
