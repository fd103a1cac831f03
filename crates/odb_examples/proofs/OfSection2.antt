-- Transcripts of section 2 of docs/PROTOCOL.md. Made by `tests/examples` from transcripts/: no hand writes here.
use Rattle.std.specs.Prelude.{◌++◌, ◌∷◌, [], codes, refl}
use Rattle.odb_examples.proofs.TestSchemas.{kinds, net, operations, settlement}
use Rattle.odb_examples.proofs.Transcripts.{Plays, shows}

-- A map is read from the front, key before value
pub a_map_is_read_from_the_front_key_before_value : Plays settlement (
    codes "> A transact 1 {\"op\":\"insert\",\"table\":\"H\",\"row\":{\"wk\":[\"map\",[[[\"uuid\",\"V9\"],[\"uuid\",\"V9\"]],[[\"uuid\",\"V9\"],[\"named-uuid\",\"q\"]]]]}}"
    ∷ codes "< A reply 1 [{\"error\":\"syntax error\"}]"
    ∷ codes "> A transact 2 {\"op\":\"insert\",\"table\":\"H\",\"row\":{\"wk\":[\"map\",[[[\"named-uuid\",\"q\"],5]]]}}"
    ∷ codes "< A reply 2 [{\"error\":\"unknown uuid-name\"}]"
    ∷ codes "> A transact 3 {\"op\":\"insert\",\"table\":\"H\",\"row\":{\"wk\":[\"map\",[[[\"uuid\",\"V9\"],[\"named-uuid\",\"q\"]],[[\"uuid\",\"V9\"],5]]]}}"
    ∷ codes "< A reply 3 [{\"error\":\"unknown uuid-name\"}]"
    ∷ codes "> A transact 4 {\"op\":\"insert\",\"table\":\"H\",\"row\":{\"wk\":[\"map\",[[[\"named-uuid\",\"q\"],[\"named-uuid\",\"q\"],1]]]}}"
    ∷ codes "< A reply 4 [{\"error\":\"syntax error\"}]"
    ∷ [])
unfolding shows
a_map_is_read_from_the_front_key_before_value = refl

-- A pair of one member
pub a_pair_of_one_member : Plays operations (
    codes "> A transact 1 {\"op\":\"select\",\"table\":\"A\",\"where\":[[\"m\",\"==\",[\"map\",[[\"a\"]]]]]}"
    ∷ codes "< A reply 1 [{\"error\":\"syntax error\"}]"
    ∷ [])
unfolding shows
a_pair_of_one_member = refl

-- Notations of identifiers
pub notations_of_identifiers : Plays operations (
    codes "> A transact 1 {\"op\":\"insert\",\"table\":\"A\",\"row\":{\"u\":[\"uuid\",\"0000000A-0000-0000-0000-00000000000f\"]}}"
    ∷ codes "< A reply 1 [{\"uuid\":[\"uuid\",\"U1\"]}]"
    ∷ codes "> A transact 2 {\"op\":\"insert\",\"table\":\"A\",\"row\":{\"u\":[\"uuid\",\"0000000A0000000000000000000000000f\"]}}"
    ∷ codes "< A reply 2 [{\"error\":\"syntax error\"}]"
    ∷ codes "> A transact 3 {\"op\":\"insert\",\"table\":\"A\",\"row\":{\"u\":[\"uuid\",\"{0000000A-0000-0000-0000-00000000000f}\"]}}"
    ∷ codes "< A reply 3 [{\"error\":\"syntax error\"}]"
    ∷ codes "> A transact 4 {\"op\":\"insert\",\"table\":\"A\",\"row\":{\"u\":[\"uuid\",\"0000000g-0000-0000-0000-00000000000f\"]}}"
    ∷ codes "< A reply 4 [{\"error\":\"syntax error\"}]"
    ∷ codes "> A transact 5 {\"op\":\"insert\",\"table\":\"A\",\"row\":{\"u\":[\"uuid\"]}}"
    ∷ codes "< A reply 5 [{\"error\":\"syntax error\"}]"
    ∷ codes "> A transact 6 {\"op\":\"insert\",\"table\":\"A\",\"row\":{\"u\":\"0000000A-0000-0000-0000-00000000000f\"}}"
    ∷ codes "< A reply 6 [{\"error\":\"syntax error\"}]"
    ∷ codes "> A transact 7 {\"op\":\"insert\",\"table\":\"A\",\"row\":{\"u\":[\"named-uuid\",\"1a\"]}}"
    ∷ codes "< A reply 7 [{\"error\":\"syntax error\"}]"
    ∷ codes "> A transact 8 {\"op\":\"insert\",\"table\":\"A\",\"row\":{\"u\":[\"named-uuid\",\"a\"]}}"
    ∷ codes "< A reply 8 [{\"error\":\"unknown uuid-name\"}]"
    ∷ codes "> A transact 9 {\"op\":\"insert\",\"table\":\"A\",\"row\":{\"u\":[\"named-uuid\",5]}}"
    ∷ codes "< A reply 9 [{\"error\":\"syntax error\"}]"
    ∷ codes "> A transact 10 {\"op\":\"insert\",\"table\":\"A\",\"row\":{\"u\":[\"name\",\"a\"]}}"
    ∷ codes "< A reply 10 [{\"error\":\"syntax error\"}]"
    ∷ codes "> A transact 11 {\"op\":\"select\",\"table\":\"A\",\"where\":[],\"columns\":[\"u\"]}"
    ∷ codes "< A reply 11 [{\"rows\":[{\"u\":[\"uuid\",\"0000000a-0000-0000-0000-00000000000f\"]}]}]"
    ∷ codes "> A transact 12 {\"op\":\"insert\",\"table\":\"A\",\"row\":{\"u\":[\"set\",[[\"uuid\",\"0000000a-0000-0000-0000-00000000000f\"],[\"uuid\",\"0000000A-0000-0000-0000-00000000000F\"]]]}}"
    ∷ codes "< A reply 12 [{\"error\":\"syntax error\"}]"
    ∷ codes "> A transact 13 {\"op\":\"insert\",\"table\":\"A\",\"row\":{\"u\":[\"set\",[[\"uuid\",\"0000000a-0000-0000-0000-00000000000f\"],[\"uuid\",\"0000000A-0000-0000-0000-00000000000F\"],[\"named-uuid\",\"q\"]]]}}"
    ∷ codes "< A reply 13 [{\"error\":\"syntax error\"}]"
    ∷ codes "> A transact 14 {\"op\":\"insert\",\"table\":\"A\",\"row\":{\"u\":[\"set\",[[\"named-uuid\",\"q\"],5]]}}"
    ∷ codes "< A reply 14 [{\"error\":\"unknown uuid-name\"}]"
    ∷ [])
unfolding shows
notations_of_identifiers = refl

-- The first fault of a value is its error
pub the_first_fault_of_a_value_is_its_error : Plays kinds (
    codes "> A transact 1 {\"op\":\"insert\",\"table\":\"T\",\"row\":{\"us\":[\"set\",[[\"named-uuid\",\"a\"],[\"named-uuid\",\"a\"],[\"named-uuid\",\"b\"]]]}},{\"op\":\"insert\",\"table\":\"T\",\"row\":{},\"uuid-name\":\"a\"}"
    ∷ codes "< A reply 1 [{\"error\":\"syntax error\"},null]"
    ∷ codes "> A transact 2 {\"op\":\"insert\",\"table\":\"T\",\"row\":{\"us\":[\"set\",[[\"named-uuid\",\"b\"],[\"named-uuid\",\"a\"],[\"named-uuid\",\"a\"]]]}},{\"op\":\"insert\",\"table\":\"T\",\"row\":{},\"uuid-name\":\"a\"}"
    ∷ codes "< A reply 2 [{\"error\":\"unknown uuid-name\"},null]"
    ∷ codes "> A transact 3 {\"op\":\"insert\",\"table\":\"T\",\"row\":{\"us\":[\"set\",[[\"named-uuid\",\"b\"],1]]}},{\"op\":\"insert\",\"table\":\"T\",\"row\":{},\"uuid-name\":\"a\"}"
    ∷ codes "< A reply 3 [{\"error\":\"unknown uuid-name\"},null]"
    ∷ codes "> A transact 4 {\"op\":\"insert\",\"table\":\"T\",\"row\":{\"mu\":[\"map\",[[\"k\",[\"named-uuid\",\"a\"]],[\"k\",[\"named-uuid\",\"b\"]]]]}},{\"op\":\"insert\",\"table\":\"T\",\"row\":{},\"uuid-name\":\"a\"}"
    ∷ codes "< A reply 4 [{\"error\":\"syntax error\"},null]"
    ∷ codes "> A transact 5 {\"op\":\"insert\",\"table\":\"T\",\"row\":{\"mu\":[\"map\",[[\"k\",[\"named-uuid\",\"b\"]],[\"k\",[\"named-uuid\",\"a\"]]]]}},{\"op\":\"insert\",\"table\":\"T\",\"row\":{},\"uuid-name\":\"a\"}"
    ∷ codes "< A reply 5 [{\"error\":\"unknown uuid-name\"},null]"
    ∷ codes "> A transact 6 {\"op\":\"insert\",\"table\":\"T\",\"row\":{\"mu\":[\"map\",[[\"k\",[\"named-uuid\",\"b\"]],1]]}},{\"op\":\"insert\",\"table\":\"T\",\"row\":{},\"uuid-name\":\"a\"}"
    ∷ codes "< A reply 6 [{\"error\":\"unknown uuid-name\"},null]"
    ∷ codes "> A transact 7 {\"op\":\"insert\",\"table\":\"T\",\"row\":{\"us\":[\"set\",[[\"named-uuid\",\"a\"]]]}},{\"op\":\"insert\",\"table\":\"T\",\"row\":{},\"uuid-name\":\"a\"}"
    ∷ codes "< A reply 7 [{\"uuid\":[\"uuid\",\"U13\"]},{\"uuid\":[\"uuid\",\"U14\"]}]"
    ∷ codes "> A transact 8 {\"op\":\"select\",\"table\":\"T\",\"where\":[[\"us\",\"==\",[\"uuid\",\"U14\"]]],\"columns\":[\"us\"]}"
    ∷ codes "< A reply 8 [{\"rows\":[{\"us\":[\"uuid\",\"U14\"]}]}]"
    ∷ [])
unfolding shows
the_first_fault_of_a_value_is_its_error = refl

-- Values in other notations
pub values_in_other_notations : Plays kinds (
    codes "> A transact 1 {\"op\":\"insert\",\"table\":\"T\",\"row\":{\"is\":[\"set\",[\"a\"]]}}"
    ∷ codes "< A reply 1 [{\"error\":\"syntax error\"}]"
    ∷ codes "> A transact 2 {\"op\":\"insert\",\"table\":\"T\",\"row\":{\"is\":[\"map\",[]]}}"
    ∷ codes "< A reply 2 [{\"error\":\"syntax error\"}]"
    ∷ codes "> A transact 3 {\"op\":\"insert\",\"table\":\"T\",\"row\":{\"is\":null}}"
    ∷ codes "< A reply 3 [{\"error\":\"syntax error\"}]"
    ∷ codes "> A transact 4 {\"op\":\"insert\",\"table\":\"T\",\"row\":{\"is\":{}}}"
    ∷ codes "< A reply 4 [{\"error\":\"syntax error\"}]"
    ∷ codes "> A transact 5 {\"op\":\"insert\",\"table\":\"T\",\"row\":{\"ss\":1}}"
    ∷ codes "< A reply 5 [{\"error\":\"syntax error\"}]"
    ∷ codes "> A transact 6 {\"op\":\"insert\",\"table\":\"T\",\"row\":{\"bs\":0}}"
    ∷ codes "< A reply 6 [{\"error\":\"syntax error\"}]"
    ∷ codes "> A transact 7 {\"op\":\"insert\",\"table\":\"T\",\"row\":{\"bs\":\"true\"}}"
    ∷ codes "< A reply 7 [{\"error\":\"syntax error\"}]"
    ∷ codes "> A transact 8 {\"op\":\"insert\",\"table\":\"T\",\"row\":{\"mi\":[\"map\",[[1,1]]]}}"
    ∷ codes "< A reply 8 [{\"error\":\"syntax error\"}]"
    ∷ codes "> A transact 9 {\"op\":\"insert\",\"table\":\"T\",\"row\":{\"mi\":\"a\"}}"
    ∷ codes "< A reply 9 [{\"error\":\"syntax error\"}]"
    ∷ codes "> A transact 10 {\"op\":\"insert\",\"table\":\"T\",\"row\":{\"us\":[\"uuid\",7]}}"
    ∷ codes "< A reply 10 [{\"error\":\"syntax error\"}]"
    ∷ codes "> A transact 11 {\"op\":\"insert\",\"table\":\"T\",\"row\":{\"us\":[\"uuid\",\"7\"]}}"
    ∷ codes "< A reply 11 [{\"error\":\"syntax error\"}]"
    ∷ codes "> A transact 12 {\"op\":\"insert\",\"table\":\"T\",\"row\":{\"us\":[\"uuid\",\"550E8400-E29B-41D4-A716-446655440000\"]}}"
    ∷ codes "< A reply 12 [{\"uuid\":[\"uuid\",\"U12\"]}]"
    ∷ codes "> A transact 13 {\"op\":\"select\",\"table\":\"T\",\"where\":[],\"columns\":[\"us\"]}"
    ∷ codes "< A reply 13 [{\"rows\":[{\"us\":[\"uuid\",\"550e8400-e29b-41d4-a716-446655440000\"]}]}]"
    ∷ [])
unfolding shows
values_in_other_notations = refl

-- Maps of an inserted row
pub maps_of_an_inserted_row : Plays operations (
    codes "> A transact 1 {\"op\":\"insert\",\"table\":\"A\",\"row\":{\"m\":[\"map\",[]]}}"
    ∷ codes "< A reply 1 [{\"uuid\":[\"uuid\",\"U1\"]}]"
    ∷ codes "> A transact 2 {\"op\":\"insert\",\"table\":\"A\",\"row\":{\"m\":[\"map\",[[\"a\",1],[\"a\",2]]]}}"
    ∷ codes "< A reply 2 [{\"error\":\"syntax error\"}]"
    ∷ codes "> A transact 3 {\"op\":\"insert\",\"table\":\"A\",\"row\":{\"m\":[\"map\",[[\"a\"]]]}}"
    ∷ codes "< A reply 3 [{\"error\":\"syntax error\"}]"
    ∷ codes "> A transact 4 {\"op\":\"insert\",\"table\":\"A\",\"row\":{\"m\":[\"map\",[[\"a\",1,2]]]}}"
    ∷ codes "< A reply 4 [{\"error\":\"syntax error\"}]"
    ∷ codes "> A transact 5 {\"op\":\"insert\",\"table\":\"A\",\"row\":{\"m\":[\"map\",[[\"a\",\"b\"]]]}}"
    ∷ codes "< A reply 5 [{\"error\":\"syntax error\"}]"
    ∷ codes "> A transact 6 {\"op\":\"insert\",\"table\":\"A\",\"row\":{\"m\":[\"set\",[]]}}"
    ∷ codes "< A reply 6 [{\"error\":\"syntax error\"}]"
    ∷ codes "> A transact 7 {\"op\":\"insert\",\"table\":\"A\",\"row\":{\"m\":{\"a\":1}}}"
    ∷ codes "< A reply 7 [{\"error\":\"syntax error\"}]"
    ∷ codes "> A transact 8 {\"op\":\"insert\",\"table\":\"A\",\"row\":{\"m\":[\"map\",{\"a\":1}]}}"
    ∷ codes "< A reply 8 [{\"error\":\"syntax error\"}]"
    ∷ codes "> A transact 9 {\"op\":\"insert\",\"table\":\"A\",\"row\":{\"m\":[\"a\",1]}}"
    ∷ codes "< A reply 9 [{\"error\":\"syntax error\"}]"
    ∷ codes "> A transact 10 {\"op\":\"insert\",\"table\":\"A\",\"row\":{\"m\":[\"map\",[[\"b\",1],[\"\",2],[\"B\",3]]]}}"
    ∷ codes "< A reply 10 [{\"uuid\":[\"uuid\",\"U10\"]}]"
    ∷ codes "> A transact 11 {\"op\":\"select\",\"table\":\"A\",\"where\":[[\"m\",\"!=\",[\"map\",[]]]],\"columns\":[\"m\"]}"
    ∷ codes "< A reply 11 [{\"rows\":[{\"m\":[\"map\",[[\"\",2],[\"B\",3],[\"b\",1]]]}]}]"
    ∷ [])
unfolding shows
maps_of_an_inserted_row = refl

-- Scalars of an inserted row
pub scalars_of_an_inserted_row : Plays operations (
    codes "> A transact 1 {\"op\":\"insert\",\"table\":\"A\",\"row\":{\"i\":9223372036854775807}}"
    ∷ codes "< A reply 1 [{\"uuid\":[\"uuid\",\"U1\"]}]"
    ∷ codes "> A transact 2 {\"op\":\"insert\",\"table\":\"A\",\"row\":{\"i\":9223372036854775808}}"
    ∷ codes "< A error 2 syntax error"
    ∷ codes "> A transact 3 {\"op\":\"insert\",\"table\":\"A\",\"row\":{\"i\":-9223372036854775808}}"
    ∷ codes "< A reply 3 [{\"uuid\":[\"uuid\",\"U3\"]}]"
    ∷ codes "> A transact 4 {\"op\":\"insert\",\"table\":\"A\",\"row\":{\"i\":-9223372036854775809}}"
    ∷ codes "< A error 4 syntax error"
    ∷ codes "> A transact 5 {\"op\":\"insert\",\"table\":\"A\",\"row\":{\"i\":-0}}"
    ∷ codes "< A error 5 syntax error"
    ∷ codes "> A transact 6 {\"op\":\"insert\",\"table\":\"A\",\"row\":{\"i\":1e3}}"
    ∷ codes "< A error 6 syntax error"
    ∷ codes "> A transact 7 {\"op\":\"insert\",\"table\":\"A\",\"row\":{\"i\":1.0}}"
    ∷ codes "< A error 7 syntax error"
    ∷ codes "> A transact 8 {\"op\":\"insert\",\"table\":\"A\",\"row\":{\"i\":0}}"
    ∷ codes "< A reply 8 [{\"uuid\":[\"uuid\",\"U8\"]}]"
    ∷ codes "> A transact 9 {\"op\":\"insert\",\"table\":\"A\",\"row\":{\"i\":[\"set\",[4]]}}"
    ∷ codes "< A reply 9 [{\"uuid\":[\"uuid\",\"U9\"]}]"
    ∷ codes "> A transact 10 {\"op\":\"insert\",\"table\":\"A\",\"row\":{\"i\":[\"set\",[]]}}"
    ∷ codes "< A reply 10 [{\"error\":\"constraint violation\"}]"
    ∷ codes "> A transact 11 {\"op\":\"insert\",\"table\":\"A\",\"row\":{\"i\":[\"set\",[1,2]]}}"
    ∷ codes "< A reply 11 [{\"error\":\"constraint violation\"}]"
    ∷ codes "> A transact 12 {\"op\":\"insert\",\"table\":\"A\",\"row\":{\"i\":[\"set\",[1,\"a\"]]}}"
    ∷ codes "< A reply 12 [{\"error\":\"syntax error\"}]"
    ∷ codes "> A transact 13 {\"op\":\"insert\",\"table\":\"A\",\"row\":{\"i\":[\"map\",[]]}}"
    ∷ codes "< A reply 13 [{\"error\":\"syntax error\"}]"
    ∷ codes "> A transact 14 {\"op\":\"insert\",\"table\":\"A\",\"row\":{\"i\":\"1\"}}"
    ∷ codes "< A reply 14 [{\"error\":\"syntax error\"}]"
    ∷ codes "> A transact 15 {\"op\":\"insert\",\"table\":\"A\",\"row\":{\"i\":true}}"
    ∷ codes "< A reply 15 [{\"error\":\"syntax error\"}]"
    ∷ codes "> A transact 16 {\"op\":\"insert\",\"table\":\"A\",\"row\":{\"i\":null}}"
    ∷ codes "< A reply 16 [{\"error\":\"syntax error\"}]"
    ∷ codes "> A transact 17 {\"op\":\"insert\",\"table\":\"A\",\"row\":{\"b\":0}}"
    ∷ codes "< A reply 17 [{\"error\":\"syntax error\"}]"
    ∷ codes "> A transact 18 {\"op\":\"insert\",\"table\":\"A\",\"row\":{\"t\":\"z\"}}"
    ∷ codes "< A reply 18 [{\"error\":\"constraint violation\"}]"
    ∷ codes "> A transact 19 {\"op\":\"insert\",\"table\":\"A\",\"row\":{\"t\":\"\\u0000\"}}"
    ∷ codes "< A reply 19 [{\"error\":\"syntax error\"}]"
    ∷ codes "> A transact 20 {\"op\":\"insert\",\"table\":\"A\",\"row\":{\"t\":\"x\\u0000\"}}"
    ∷ codes "< A reply 20 [{\"error\":\"syntax error\"}]"
    ∷ codes "> A transact 21 {\"op\":\"insert\",\"table\":\"A\",\"row\":{\"t\":[\"set\",[\"x\"]]}}"
    ∷ codes "< A reply 21 [{\"uuid\":[\"uuid\",\"U21\"]}]"
    ∷ [])
unfolding shows
scalars_of_an_inserted_row = refl

-- Sets of an inserted row
pub sets_of_an_inserted_row : Plays operations (
    codes "> A transact 1 {\"op\":\"insert\",\"table\":\"A\",\"row\":{\"s\":[\"set\",[]]}}"
    ∷ codes "< A reply 1 [{\"uuid\":[\"uuid\",\"U1\"]}]"
    ∷ codes "> A transact 2 {\"op\":\"insert\",\"table\":\"A\",\"row\":{\"s\":[\"set\",[1,2,3,4]]}}"
    ∷ codes "< A reply 2 [{\"error\":\"constraint violation\"}]"
    ∷ codes "> A transact 3 {\"op\":\"insert\",\"table\":\"A\",\"row\":{\"s\":[\"set\",[10]]}}"
    ∷ codes "< A reply 3 [{\"error\":\"constraint violation\"}]"
    ∷ codes "> A transact 4 {\"op\":\"insert\",\"table\":\"A\",\"row\":{\"s\":10}}"
    ∷ codes "< A reply 4 [{\"error\":\"constraint violation\"}]"
    ∷ codes "> A transact 5 {\"op\":\"insert\",\"table\":\"A\",\"row\":{\"s\":[\"set\",[1,1]]}}"
    ∷ codes "< A reply 5 [{\"error\":\"syntax error\"}]"
    ∷ codes "> A transact 6 {\"op\":\"insert\",\"table\":\"A\",\"row\":{\"s\":[\"set\",1]}}"
    ∷ codes "< A reply 6 [{\"error\":\"syntax error\"}]"
    ∷ codes "> A transact 7 {\"op\":\"insert\",\"table\":\"A\",\"row\":{\"s\":[\"set\"]}}"
    ∷ codes "< A reply 7 [{\"error\":\"syntax error\"}]"
    ∷ codes "> A transact 8 {\"op\":\"insert\",\"table\":\"A\",\"row\":{\"s\":[\"set\",[1],2]}}"
    ∷ codes "< A reply 8 [{\"error\":\"syntax error\"}]"
    ∷ codes "> A transact 9 {\"op\":\"insert\",\"table\":\"A\",\"row\":{\"s\":[1,2]}}"
    ∷ codes "< A reply 9 [{\"error\":\"syntax error\"}]"
    ∷ codes "> A transact 10 {\"op\":\"insert\",\"table\":\"A\",\"row\":{\"s\":[\"set\",[[\"set\",[1]]]]}}"
    ∷ codes "< A reply 10 [{\"error\":\"syntax error\"}]"
    ∷ codes "> A transact 11 {\"op\":\"insert\",\"table\":\"A\",\"row\":{\"o\":[\"set\",[]]}}"
    ∷ codes "< A reply 11 [{\"uuid\":[\"uuid\",\"U11\"]}]"
    ∷ codes "> A transact 12 {\"op\":\"insert\",\"table\":\"A\",\"row\":{\"o\":[\"set\",[1,2]]}}"
    ∷ codes "< A reply 12 [{\"error\":\"constraint violation\"}]"
    ∷ codes "> A transact 13 {\"op\":\"insert\",\"table\":\"A\",\"row\":{\"o\":5}}"
    ∷ codes "< A reply 13 [{\"uuid\":[\"uuid\",\"U13\"]}]"
    ∷ [])
unfolding shows
sets_of_an_inserted_row = refl

-- Values of another kind
pub values_of_another_kind : Plays net (
    codes "> A transact 1 {\"op\":\"insert\",\"table\":\"Bridge\",\"row\":{\"name\":5}}"
    ∷ codes "< A reply 1 [{\"error\":\"syntax error\"}]"
    ∷ codes "> A transact 2 {\"op\":\"insert\",\"table\":\"Bridge\",\"row\":{\"name\":[\"set\",[]]}}"
    ∷ codes "< A reply 2 [{\"error\":\"constraint violation\"}]"
    ∷ codes "> A transact 3 {\"op\":\"insert\",\"table\":\"Bridge\",\"row\":{\"name\":[\"set\",[\"b\",\"b\"]]}}"
    ∷ codes "< A reply 3 [{\"error\":\"syntax error\"}]"
    ∷ codes "> A transact 4 {\"op\":\"insert\",\"table\":\"Port\",\"row\":{\"tag\":[\"set\",[1,2]]}}"
    ∷ codes "< A reply 4 [{\"error\":\"constraint violation\"}]"
    ∷ codes "> A transact 5 {\"op\":\"insert\",\"table\":\"Port\",\"row\":{\"tag\":4096}}"
    ∷ codes "< A reply 5 [{\"error\":\"constraint violation\"}]"
    ∷ codes "> A transact 6 {\"op\":\"insert\",\"table\":\"Port\",\"row\":{\"opts\":[\"map\",[[\"a\",\"b\"],[\"a\",\"c\"]]]}}"
    ∷ codes "< A reply 6 [{\"error\":\"syntax error\"}]"
    ∷ codes "> A transact 7 {\"op\":\"insert\",\"table\":\"Port\",\"row\":{\"opts\":[\"set\",[]]}}"
    ∷ codes "< A reply 7 [{\"error\":\"syntax error\"}]"
    ∷ codes "> A transact 8 {\"op\":\"insert\",\"table\":\"Port\",\"row\":{\"opts\":{\"a\":\"b\"}}}"
    ∷ codes "< A reply 8 [{\"error\":\"syntax error\"}]"
    ∷ codes "> A transact 9 {\"op\":\"insert\",\"table\":\"Port\",\"row\":{\"peer\":[\"uuid\",\"x\"]}}"
    ∷ codes "< A reply 9 [{\"error\":\"syntax error\"}]"
    ∷ codes "> A transact 10 {\"op\":\"insert\",\"table\":\"Port\",\"row\":{\"peer\":[\"uuid\",\"00000000-0000-4000-8000-00000000000A\"]}}"
    ∷ codes "< A reply 10 [{\"uuid\":[\"uuid\",\"U10\"]}]"
    ∷ codes "> A transact 11 {\"op\":\"insert\",\"table\":\"Bridge\",\"row\":{\"name\":\"b\\u0000c\"}}"
    ∷ codes "< A reply 11 [{\"error\":\"syntax error\"}]"
    ∷ codes "> A transact 12 {\"op\":\"insert\",\"table\":\"Bridge\",\"row\":{\"name\":[\"set\",[\"b\",\"c\"]]}}"
    ∷ codes "< A reply 12 [{\"error\":\"constraint violation\"}]"
    ∷ codes "> A transact 13 {\"op\":\"insert\",\"table\":\"Port\",\"row\":{\"tag\":[\"set\",[1,1]]}}"
    ∷ codes "< A reply 13 [{\"error\":\"syntax error\"}]"
    ∷ [])
unfolding shows
values_of_another_kind = refl

-- Values that a type admits, and others
pub values_that_a_type_admits_and_others : Plays kinds (
    (codes "> A transact 1 {\"op\":\"insert\",\"table\":\"T\",\"row\":{\"few\":[\"set\",[3,4]],\"short\":\"" ++ 195 ∷ 169 ∷ 226 ∷ 130 ∷ 172 ∷ codes "\"}}")
    ∷ codes "< A reply 1 [{\"uuid\":[\"uuid\",\"U1\"]}]"
    ∷ codes "> A transact 2 {\"op\":\"insert\",\"table\":\"T\",\"row\":{\"few\":[\"set\",[7,8,9]]}}"
    ∷ codes "< A reply 2 [{\"error\":\"constraint violation\"}]"
    ∷ codes "> A transact 3 {\"op\":\"insert\",\"table\":\"T\",\"row\":{\"few\":6}}"
    ∷ codes "< A reply 3 [{\"error\":\"constraint violation\"}]"
    ∷ codes "> A transact 4 {\"op\":\"insert\",\"table\":\"T\",\"row\":{\"few\":\"6\"}}"
    ∷ codes "< A reply 4 [{\"error\":\"syntax error\"}]"
    ∷ (codes "> A transact 5 {\"op\":\"insert\",\"table\":\"T\",\"row\":{\"short\":\"" ++ 195 ∷ 169 ∷ 226 ∷ 130 ∷ 172 ∷ codes "x\"}}")
    ∷ codes "< A reply 5 [{\"error\":\"constraint violation\"}]"
    ∷ codes "> A transact 6 {\"op\":\"update\",\"table\":\"T\",\"where\":[],\"row\":{\"tag\":4095}},{\"op\":\"mutate\",\"table\":\"T\",\"where\":[],\"mutations\":[[\"tag\",\"+=\",1]]}"
    ∷ codes "< A reply 6 [{\"count\":1},{\"error\":\"constraint violation\"}]"
    ∷ codes "> A transact 7 {\"op\":\"select\",\"table\":\"T\",\"where\":[[\"i\",\"==\",[\"set\",[]]]]}"
    ∷ codes "< A reply 7 [{\"error\":\"syntax error\"}]"
    ∷ codes "> A transact 8 {\"op\":\"select\",\"table\":\"T\",\"where\":[[\"i\",\"==\",[\"set\",[1,2]]]]}"
    ∷ codes "< A reply 8 [{\"error\":\"syntax error\"}]"
    ∷ (codes "> A transact 9 {\"op\":\"select\",\"table\":\"T\",\"where\":[[\"short\",\"==\",\"" ++ 195 ∷ 169 ∷ 226 ∷ 130 ∷ 172 ∷ codes "\"],[\"i\",\"==\",[\"set\",[0]]]],\"columns\":[\"few\",\"short\",\"tag\"]}")
    ∷ (codes "< A reply 9 [{\"rows\":[{\"few\":[\"set\",[3,4]],\"short\":\"" ++ 195 ∷ 169 ∷ 226 ∷ 130 ∷ 172 ∷ codes "\",\"tag\":0}]}]")
    ∷ [])
unfolding shows
values_that_a_type_admits_and_others = refl

-- Sets and maps are printed in order
pub sets_and_maps_are_printed_in_order : Plays kinds (
    codes "> A transact 1 {\"op\":\"insert\",\"table\":\"T\",\"row\":{\"is\":[\"set\",[7]],\"bs\":[\"set\",[true,false]],\"ss\":[\"set\",[\"b\",\"a\"]],\"mi\":[\"map\",[[\"b\",2],[\"a\",1]]]}},{\"op\":\"select\",\"table\":\"T\",\"where\":[],\"columns\":[\"bs\",\"is\",\"mi\",\"ss\"]}"
    ∷ codes "< A reply 1 [{\"uuid\":[\"uuid\",\"U1\"]},{\"rows\":[{\"bs\":[\"set\",[false,true]],\"is\":7,\"mi\":[\"map\",[[\"a\",1],[\"b\",2]]],\"ss\":[\"set\",[\"a\",\"b\"]]}]}]"
    ∷ codes "> A transact 2 {\"op\":\"update\",\"table\":\"T\",\"where\":[],\"row\":{\"is\":[\"set\",[9223372036854775807,-9223372036854775808]],\"bs\":[\"set\",[]],\"ss\":[\"set\",[]],\"mi\":[\"map\",[]]}},{\"op\":\"select\",\"table\":\"T\",\"where\":[],\"columns\":[\"bs\",\"is\",\"mi\",\"ss\"]}"
    ∷ codes "< A reply 2 [{\"count\":1},{\"rows\":[{\"bs\":[\"set\",[]],\"is\":[\"set\",[-9223372036854775808,9223372036854775807]],\"mi\":[\"map\",[]],\"ss\":[\"set\",[]]}]}]"
    ∷ [])
unfolding shows
sets_and_maps_are_printed_in_order = refl

-- Strings of values keep their characters
pub strings_of_values_keep_their_characters : Plays kinds (
    codes "> A transact 1 {\"op\":\"insert\",\"table\":\"T\",\"row\":{\"s\":\"\\\"\\\\\\/\\b\\f\\n\\r\\t\",\"ss\":[\"set\",[\"\\u0001\\u001f\",\"\\u0041\",\"\"]]}},{\"op\":\"select\",\"table\":\"T\",\"where\":[],\"columns\":[\"s\",\"ss\"]}"
    ∷ codes "< A reply 1 [{\"uuid\":[\"uuid\",\"U1\"]},{\"rows\":[{\"s\":\"\\\"\\\\/\\b\\f\\n\\r\\t\",\"ss\":[\"set\",[\"\",\"\\u0001\\u001f\",\"A\"]]}]}]"
    ∷ [])
unfolding shows
strings_of_values_keep_their_characters = refl
