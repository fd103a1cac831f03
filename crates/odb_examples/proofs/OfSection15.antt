-- Transcripts of section 15 of docs/PROTOCOL.md. Made by `tests/examples` from transcripts/: no hand writes here.
use Rattle.std.specs.Prelude.{◌∷◌, [], codes, refl}
use Rattle.odb_examples.proofs.TestSchemas.{net}
use Rattle.odb_examples.proofs.Transcripts.{Plays, shows}

-- A closed session is gone, and its name is free
pub a_closed_session_is_gone_and_its_name_is_free : Plays net (
    codes "> !close A"
    ∷ codes "> !close A"
    ∷ codes "< A !gone"
    ∷ codes "> !hold A"
    ∷ codes "< A !gone"
    ∷ codes "> !take A"
    ∷ codes "< A !gone"
    ∷ codes "> A x"
    ∷ codes "< A !gone"
    ∷ codes "> !open B"
    ∷ codes "< B !open"
    ∷ codes "> !hold B"
    ∷ codes "> B echo 1 []"
    ∷ codes "> B ["
    ∷ codes "< B !fault 3"
    ∷ codes "> !take B"
    ∷ codes "< B !gone"
    ∷ codes "> !open B"
    ∷ codes "> B echo 2 []"
    ∷ codes "< B reply 2 []"
    ∷ codes "> !hold C"
    ∷ codes "> !hold C"
    ∷ codes "> C echo 3 []"
    ∷ codes "> !close C"
    ∷ codes "> !open C"
    ∷ codes "> C echo 4 []"
    ∷ codes "< C reply 4 []"
    ∷ [])
unfolding shows
a_closed_session_is_gone_and_its_name_is_free = refl

-- A session that is opened again is the last in the order of opening
pub a_session_that_is_opened_again_is_the_last_in_the_order_of_opening : Plays net (
    codes "> !close A"
    ∷ codes "> !open A"
    ∷ codes "> B lock 1 [\"K\"]"
    ∷ codes "< B reply 1 {\"locked\":true}"
    ∷ codes "> B lock 2 [\"M\"]"
    ∷ codes "< B reply 2 {\"locked\":true}"
    ∷ codes "> A lock 1 [\"K\"]"
    ∷ codes "< A reply 1 {\"locked\":false}"
    ∷ codes "> C lock 1 [\"M\"]"
    ∷ codes "< C reply 1 {\"locked\":false}"
    ∷ codes "> !close B"
    ∷ codes "< C locked [\"M\"]"
    ∷ codes "< A locked [\"K\"]"
    ∷ [])
unfolding shows
a_session_that_is_opened_again_is_the_last_in_the_order_of_opening = refl

-- An insert with an identifier of its own counts too
pub an_insert_with_an_identifier_of_its_own_counts_too : Plays net (
    codes "> A transact 1 {\"op\":\"insert\",\"table\":\"Bridge\",\"row\":{\"name\":\"a\"},\"uuid\":\"00000000-0000-4000-9000-000000000001\"},{\"op\":\"insert\",\"table\":\"Bridge\",\"row\":{\"name\":\"b\"}}"
    ∷ codes "< A reply 1 [{\"uuid\":[\"uuid\",\"00000000-0000-4000-9000-000000000001\"]},{\"uuid\":[\"uuid\",\"U2\"]}]"
    ∷ codes "> A transact 2 {\"op\":\"insert\",\"table\":\"Bridge\",\"row\":{\"name\":\"c\"},\"uuid\":\"U4\"},{\"op\":\"insert\",\"table\":\"Bridge\",\"row\":{\"name\":\"d\"}}"
    ∷ codes "< A reply 2 [{\"uuid\":[\"uuid\",\"U4\"]},{\"error\":\"duplicate uuid\"}]"
    ∷ codes "> A transact 3 {\"op\":\"insert\",\"table\":\"Bridge\",\"row\":{\"name\":\"c\"},\"uuid\":\"U6\"}"
    ∷ codes "< A reply 3 [{\"uuid\":[\"uuid\",\"U6\"]}]"
    ∷ codes "> A transact 4 {\"op\":\"insert\",\"table\":\"Bridge\",\"row\":{\"name\":\"e\"}}"
    ∷ codes "< A reply 4 [{\"error\":\"duplicate uuid\"}]"
    ∷ codes "> A transact 5 {\"op\":\"insert\",\"table\":\"Bridge\",\"row\":{\"name\":\"e\"},\"uuid\":\"x\"}"
    ∷ codes "< A reply 5 [{\"error\":\"syntax error\"}]"
    ∷ codes "> A transact 6 {\"op\":\"insert\",\"table\":\"Bridge\",\"row\":{\"name\":\"e\"}}"
    ∷ codes "< A reply 6 [{\"uuid\":[\"uuid\",\"U8\"]}]"
    ∷ [])
unfolding shows
an_insert_with_an_identifier_of_its_own_counts_too = refl

-- Each insert that is read has an identifier, whatever becomes of it
pub each_insert_that_is_read_has_an_identifier_whatever_becomes_of_it : Plays net (
    codes "> A transact 1 {\"op\":\"insert\",\"table\":\"Bridge\",\"row\":{\"name\":\"x\"}},{\"op\":\"insert\",\"k\":1.5}"
    ∷ codes "< A error 1 syntax error"
    ∷ codes "> A {\"method\":\"transact\",\"params\":[\"x\",{\"op\":\"insert\",\"table\":\"Bridge\",\"row\":{\"name\":\"x\"}}],\"id\":2}"
    ∷ codes "< A error 2 unknown database"
    ∷ codes "> A {\"method\":\"transact\",\"params\":[{\"op\":\"insert\",\"table\":\"Bridge\",\"row\":{\"name\":\"x\"}}],\"id\":3}"
    ∷ codes "< A error 3 syntax error"
    ∷ codes "> A {\"method\":\"transact\",\"params\":[5,{\"op\":\"insert\"},[{\"op\":\"insert\"}],{\"op\":\"x\",\"op\":\"insert\"}],\"id\":4}"
    ∷ codes "< A error 4 syntax error"
    ∷ codes "> A transact null {\"op\":\"insert\"}"
    ∷ codes "> A echo 6 [\"net\",{\"op\":\"insert\"}]"
    ∷ codes "< A reply 6 [\"net\",{\"op\":\"insert\"}]"
    ∷ codes "> A {\"method\":\"transact\",\"params\":{\"a\":\"net\",\"b\":{\"op\":\"insert\"}},\"id\":7}"
    ∷ codes "< A error 7 syntax error"
    ∷ codes "> A transact 8 {\"op\":\"abort\"},{\"op\":\"insert\"}"
    ∷ codes "< A reply 8 [{\"error\":\"aborted\"},null]"
    ∷ codes "> A transact 9 {\"op\":\"insert\",\"table\":\"Bridge\",\"row\":{\"name\":\"y\"}}"
    ∷ codes "< A reply 9 [{\"uuid\":[\"uuid\",\"U7\"]}]"
    ∷ [])
unfolding shows
each_insert_that_is_read_has_an_identifier_whatever_becomes_of_it = refl

-- Moments have 20 digits at most, with zeros in front or without
pub moments_have_20_digits_at_most_with_zeros_in_front_or_without : Plays net (
    codes "> !tick 0"
    ∷ codes "> !tick 18446744073709551615"
    ∷ codes "> !tick 00000000000000000001"
    ∷ codes "> !close D"
    ∷ codes "< D !gone"
    ∷ [])
unfolding shows
moments_have_20_digits_at_most_with_zeros_in_front_or_without = refl

-- Names of sessions have 16 letters and digits at most
pub names_of_sessions_have_16_letters_and_digits_at_most : Plays net (
    codes "> !open a"
    ∷ codes "> !open a"
    ∷ codes "< a !open"
    ∷ codes "> !open ABCDEFGHIJKLMNOP"
    ∷ codes "> ABCDEFGHIJKLMNOP {\"method\":\"echo\",\"params\":[],\"id\":1}"
    ∷ codes "< ABCDEFGHIJKLMNOP reply 1 []"
    ∷ codes "> !close a"
    ∷ codes "> a x"
    ∷ codes "< a !gone"
    ∷ codes "> !close a"
    ∷ codes "< a !gone"
    ∷ [])
unfolding shows
names_of_sessions_have_16_letters_and_digits_at_most = refl

-- Names that are not open are gone
pub names_that_are_not_open_are_gone : Plays net (
    codes "> !hold D"
    ∷ codes "< D !gone"
    ∷ codes "> !take D"
    ∷ codes "< D !gone"
    ∷ codes "> !open D"
    ∷ codes "> !hold D"
    ∷ codes "> !close D"
    ∷ codes "> !take D"
    ∷ codes "< D !gone"
    ∷ [])
unfolding shows
names_that_are_not_open_are_gone = refl

-- Sessions are taken in the order of opening
pub sessions_are_taken_in_the_order_of_opening : Plays net (
    codes "> !close A"
    ∷ codes "> !open A"
    ∷ codes "> !hold A"
    ∷ codes "> !hold B"
    ∷ codes "> !hold C"
    ∷ codes "> A monitor 1 [\"net\",\"m\",{\"Bridge\":{\"columns\":[\"name\"]}}]"
    ∷ codes "> B monitor 1 [\"net\",\"m\",{\"Bridge\":{\"columns\":[\"name\"]}}]"
    ∷ codes "> C monitor 1 [\"net\",\"m\",{\"Bridge\":{\"columns\":[\"name\"]}}]"
    ∷ codes "> !take A"
    ∷ codes "< A reply 1 {}"
    ∷ codes "> !take B"
    ∷ codes "< B reply 1 {}"
    ∷ codes "> !take C"
    ∷ codes "< C reply 1 {}"
    ∷ codes "> C transact 2 {\"op\":\"insert\",\"table\":\"Bridge\",\"row\":{\"name\":\"x\"}}"
    ∷ codes "< B update [\"m\",{\"Bridge\":{\"U1\":{\"new\":{\"name\":\"x\"}}}}]"
    ∷ codes "< C update [\"m\",{\"Bridge\":{\"U1\":{\"new\":{\"name\":\"x\"}}}}]"
    ∷ codes "< C reply 2 [{\"uuid\":[\"uuid\",\"U1\"]}]"
    ∷ codes "< A update [\"m\",{\"Bridge\":{\"U1\":{\"new\":{\"name\":\"x\"}}}}]"
    ∷ [])
unfolding shows
sessions_are_taken_in_the_order_of_opening = refl
