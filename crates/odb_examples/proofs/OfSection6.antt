-- Transcripts of section 6 of docs/PROTOCOL.md. Made by `tests/examples` from transcripts/: no hand writes here.
use Rattle.std.specs.Prelude.{◌∷◌, [], codes, refl}
use Rattle.odb_examples.proofs.TestSchemas.{choices, net, operations, ring, settlement}
use Rattle.odb_examples.proofs.Transcripts.{Plays, shows}

-- A broken constraint stops the transaction
pub a_broken_constraint_stops_the_transaction : Plays net (
    codes "> B transact 1 {\"op\":\"insert\",\"table\":\"Bridge\",\"row\":{\"name\":\"br0\",\"ports\":[\"named-uuid\",\"p\"]}},{\"op\":\"insert\",\"table\":\"Port\",\"row\":{\"name\":\"p1\"},\"uuid-name\":\"p\"}"
    ∷ codes "< B reply 1 [{\"uuid\":[\"uuid\",\"U1\"]},{\"uuid\":[\"uuid\",\"U2\"]}]"
    ∷ codes "> A transact 1 {\"op\":\"update\",\"table\":\"Port\",\"where\":[],\"row\":{\"tag\":4096}},{\"op\":\"comment\",\"comment\":\"x\"}"
    ∷ codes "< A reply 1 [{\"error\":\"constraint violation\"},null]"
    ∷ codes "> A transact 2 {\"op\":\"update\",\"table\":\"Port\",\"where\":[],\"row\":{\"tag\":4095}},{\"op\":\"comment\",\"comment\":\"x\"}"
    ∷ codes "< A reply 2 [{\"count\":1},{}]"
    ∷ [])
unfolding shows
a_broken_constraint_stops_the_transaction = refl

-- An abort stops the transaction
pub an_abort_stops_the_transaction : Plays net (
    codes "> A transact 1 {\"op\":\"comment\",\"comment\":\"x\"},{\"op\":\"abort\"},{\"op\":\"comment\",\"comment\":\"y\"}"
    ∷ codes "< A reply 1 [{},{\"error\":\"aborted\"},null]"
    ∷ [])
unfolding shows
an_abort_stops_the_transaction = refl

-- Nothing remains of a transaction that failed
pub nothing_remains_of_a_transaction_that_failed : Plays operations (
    codes "> A transact 1 {\"op\":\"insert\",\"table\":\"B\",\"row\":{\"n\":1}},{\"op\":\"abort\"}"
    ∷ codes "< A reply 1 [{\"uuid\":[\"uuid\",\"U1\"]},{\"error\":\"aborted\"}]"
    ∷ codes "> A transact 2 {\"op\":\"select\",\"table\":\"B\",\"where\":[],\"columns\":[\"n\"]}"
    ∷ codes "< A reply 2 [{\"rows\":[]}]"
    ∷ codes "> A transact 3 {\"op\":\"insert\",\"table\":\"B\",\"row\":{\"n\":1}}"
    ∷ codes "< A reply 3 [{\"uuid\":[\"uuid\",\"U2\"]}]"
    ∷ codes "> A transact 4 {\"op\":\"update\",\"table\":\"B\",\"where\":[],\"row\":{\"n\":2}},{\"op\":\"select\",\"table\":\"B\",\"where\":[],\"columns\":[\"_version\"]},{\"op\":\"delete\",\"table\":\"B\",\"where\":[]},{\"op\":\"select\",\"table\":\"B\",\"where\":[],\"columns\":[\"n\"]},{\"op\":\"zap\"},{\"op\":\"abort\"}"
    ∷ codes "< A reply 4 [{\"count\":1},{\"rows\":[{\"_version\":[\"uuid\",\"V1\"]}]},{\"count\":1},{\"rows\":[]},{\"error\":\"unknown operation\"},null]"
    ∷ codes "> A transact 5 {\"op\":\"update\",\"table\":\"B\",\"where\":[],\"row\":{\"n\":2}},{\"op\":\"update\",\"table\":\"B\",\"where\":[],\"row\":{\"n\":1}},{\"op\":\"select\",\"table\":\"B\",\"where\":[],\"columns\":[\"_version\"]}"
    ∷ codes "< A reply 5 [{\"count\":1},{\"count\":1},{\"rows\":[{\"_version\":[\"uuid\",\"V1\"]}]}]"
    ∷ codes "> A transact 6 {\"op\":\"insert\",\"table\":\"B\",\"row\":{\"n\":9}},{\"op\":\"delete\",\"table\":\"B\",\"where\":[[\"n\",\"==\",9]]}"
    ∷ codes "< A reply 6 [{\"uuid\":[\"uuid\",\"U3\"]},{\"count\":1}]"
    ∷ codes "> A transact 7 {\"op\":\"insert\",\"table\":\"B\",\"row\":{\"n\":3}},{\"op\":\"select\",\"table\":\"B\",\"where\":[[\"n\",\"==\",3]],\"columns\":[\"_version\"]}"
    ∷ codes "< A reply 7 [{\"uuid\":[\"uuid\",\"U4\"]},{\"rows\":[{\"_version\":[\"uuid\",\"V0\"]}]}]"
    ∷ codes "> A transact 8 {\"op\":\"select\",\"table\":\"B\",\"where\":[],\"columns\":[\"_version\",\"n\"]}"
    ∷ codes "< A reply 8 [{\"rows\":[{\"_version\":[\"uuid\",\"V1\"],\"n\":1},{\"_version\":[\"uuid\",\"V2\"],\"n\":3}]}]"
    ∷ codes "> A transact 9 {\"op\":\"delete\",\"table\":\"B\",\"where\":[[\"n\",\"==\",1]]}"
    ∷ codes "< A reply 9 [{\"count\":1}]"
    ∷ codes "> A transact 10 {\"op\":\"update\",\"table\":\"B\",\"where\":[],\"row\":{\"n\":4}}"
    ∷ codes "< A reply 10 [{\"count\":1}]"
    ∷ codes "> A transact 11 {\"op\":\"select\",\"table\":\"B\",\"where\":[],\"columns\":[\"_version\"]}"
    ∷ codes "< A reply 11 [{\"rows\":[{\"_version\":[\"uuid\",\"V4\"]}]}]"
    ∷ [])
unfolding shows
nothing_remains_of_a_transaction_that_failed = refl

-- Results before a fault, and after it
pub results_before_a_fault_and_after_it : Plays net (
    codes "> A transact 1 {\"op\":\"insert\",\"table\":\"Bridge\",\"row\":{\"name\":\"b\"}},{\"op\":\"select\",\"table\":\"Bridge\",\"where\":[],\"columns\":[\"name\"]},{\"op\":\"select\",\"table\":\"Frob\",\"where\":[]},{\"op\":\"comment\",\"comment\":\"x\"},{\"op\":\"frob\"}"
    ∷ codes "< A reply 1 [{\"uuid\":[\"uuid\",\"U1\"]},{\"rows\":[{\"name\":\"b\"}]},{\"error\":\"unknown table\"},null,null]"
    ∷ codes "> A transact 2 {\"op\":\"select\",\"table\":\"Bridge\",\"where\":[]}"
    ∷ codes "< A reply 2 [{\"rows\":[]}]"
    ∷ [])
unfolding shows
results_before_a_fault_and_after_it = refl

-- A name may be used before its insert
pub a_name_may_be_used_before_its_insert : Plays net (
    codes "> B transact 1 {\"op\":\"insert\",\"table\":\"Bridge\",\"row\":{\"name\":\"br0\",\"ports\":[\"named-uuid\",\"p\"]}},{\"op\":\"insert\",\"table\":\"Port\",\"row\":{\"name\":\"p1\"},\"uuid-name\":\"p\"}"
    ∷ codes "< B reply 1 [{\"uuid\":[\"uuid\",\"U1\"]},{\"uuid\":[\"uuid\",\"U2\"]}]"
    ∷ codes "> A transact 1 {\"op\":\"select\",\"table\":\"Bridge\",\"where\":[[\"name\",\"==\",\"br0\"]],\"columns\":[\"ports\"]}"
    ∷ codes "< A reply 1 [{\"rows\":[{\"ports\":[\"uuid\",\"U2\"]}]}]"
    ∷ [])
unfolding shows
a_name_may_be_used_before_its_insert = refl

-- A name stands for the identifier that its insert has of its own
pub a_name_stands_for_the_identifier_that_its_insert_has_of_its_own : Plays net (
    codes "> A transact 1 {\"op\":\"insert\",\"table\":\"Bridge\",\"row\":{\"name\":\"b\",\"ports\":[\"named-uuid\",\"p\"]}},{\"op\":\"insert\",\"table\":\"Port\",\"row\":{\"name\":\"p\"},\"uuid-name\":\"p\",\"uuid\":\"00000000-0000-4000-9000-000000000001\"},{\"op\":\"select\",\"table\":\"Port\",\"where\":[[\"_uuid\",\"==\",[\"named-uuid\",\"p\"]]],\"columns\":[\"_uuid\"]}"
    ∷ codes "< A reply 1 [{\"uuid\":[\"uuid\",\"U1\"]},{\"uuid\":[\"uuid\",\"00000000-0000-4000-9000-000000000001\"]},{\"rows\":[{\"_uuid\":[\"uuid\",\"00000000-0000-4000-9000-000000000001\"]}]}]"
    ∷ codes "> A transact 2 {\"op\":\"select\",\"table\":\"Bridge\",\"where\":[],\"columns\":[\"ports\"]}"
    ∷ codes "< A reply 2 [{\"rows\":[{\"ports\":[\"uuid\",\"00000000-0000-4000-9000-000000000001\"]}]}]"
    ∷ codes "> A transact 3 {\"op\":\"insert\",\"table\":\"Bridge\",\"row\":{\"name\":\"c\"},\"uuid-name\":\"c\",\"uuid\":\"00000000-0000-4000-9000-00000000000c\"},{\"op\":\"insert\",\"table\":\"Bridge\",\"row\":{\"name\":\"d\"},\"uuid-name\":\"c\",\"uuid\":\"00000000-0000-4000-9000-00000000000c\"}"
    ∷ codes "< A reply 3 [{\"uuid\":[\"uuid\",\"00000000-0000-4000-9000-00000000000c\"]},{\"error\":\"duplicate uuid-name\"}]"
    ∷ codes "> A transact 4 {\"op\":\"insert\",\"table\":\"Bridge\",\"row\":{\"name\":\"c\"},\"uuid-name\":\"c\",\"uuid\":\"00000000-0000-4000-9000-00000000000c\"},{\"op\":\"insert\",\"table\":\"Bridge\",\"row\":{\"name\":\"d\"},\"uuid-name\":\"d\",\"uuid\":\"00000000-0000-4000-9000-00000000000c\"}"
    ∷ codes "< A reply 4 [{\"uuid\":[\"uuid\",\"00000000-0000-4000-9000-00000000000c\"]},{\"error\":\"duplicate uuid\"}]"
    ∷ codes "> A transact 5 {\"op\":\"insert\",\"table\":\"Bridge\",\"row\":{\"name\":\"d\",\"ports\":[\"named-uuid\",\"d\"]}},{\"op\":\"select\",\"table\":\"Bridge\",\"where\":[[\"name\",\"==\",\"d\"]],\"columns\":[\"ports\"]},{\"op\":\"insert\",\"table\":\"Bridge\",\"row\":{\"name\":\"e\"},\"uuid-name\":\"d\",\"uuid\":\"00000000-0000-4000-9000-00000000000d\"},{\"op\":\"insert\",\"table\":\"Bridge\",\"row\":{\"name\":\"f\"},\"uuid-name\":\"d\",\"uuid\":\"00000000-0000-4000-9000-00000000000e\"}"
    ∷ codes "< A reply 5 [{\"uuid\":[\"uuid\",\"U7\"]},{\"rows\":[{\"ports\":[\"uuid\",\"00000000-0000-4000-9000-00000000000d\"]}]},{\"uuid\":[\"uuid\",\"00000000-0000-4000-9000-00000000000d\"]},{\"error\":\"duplicate uuid-name\"}]"
    ∷ [])
unfolding shows
a_name_stands_for_the_identifier_that_its_insert_has_of_its_own = refl

-- A transaction that is tried again keeps its identifiers
pub a_transaction_that_is_tried_again_keeps_its_identifiers : Plays net (
    codes "> A transact 1 {\"op\":\"wait\",\"table\":\"Bridge\",\"where\":[],\"columns\":[\"name\"],\"until\":\"!=\",\"rows\":[]},{\"op\":\"insert\",\"table\":\"Bridge\",\"row\":{\"name\":\"c\"}},{\"op\":\"insert\",\"table\":\"Bridge\",\"row\":{\"name\":\"d\"}}"
    ∷ codes "> B transact 1 {\"op\":\"insert\",\"table\":\"Bridge\",\"row\":{\"name\":\"b\"}}"
    ∷ codes "< A reply 1 [{},{\"uuid\":[\"uuid\",\"U1\"]},{\"uuid\":[\"uuid\",\"U2\"]}]"
    ∷ codes "< B reply 1 [{\"uuid\":[\"uuid\",\"U3\"]}]"
    ∷ [])
unfolding shows
a_transaction_that_is_tried_again_keeps_its_identifiers = refl

-- An identifier that can not be read leaves the one that was handed in
pub an_identifier_that_can_not_be_read_leaves_the_one_that_was_handed_in : Plays net (
    codes "> A transact 1 {\"op\":\"insert\",\"table\":\"Bridge\",\"row\":{\"name\":\"b\",\"ports\":[\"named-uuid\",\"p\"]}},{\"op\":\"select\",\"table\":\"Bridge\",\"where\":[],\"columns\":[\"ports\"]},{\"op\":\"insert\",\"table\":\"Port\",\"row\":{\"name\":\"p\"},\"uuid-name\":\"p\",\"uuid\":\"x\"}"
    ∷ codes "< A reply 1 [{\"uuid\":[\"uuid\",\"U1\"]},{\"rows\":[{\"ports\":[\"uuid\",\"U2\"]}]},{\"error\":\"syntax error\"}]"
    ∷ codes "> A transact 2 {\"op\":\"insert\",\"table\":\"Bridge\",\"row\":{\"name\":\"b\",\"ports\":[\"named-uuid\",\"p\"]}},{\"op\":\"select\",\"table\":\"Bridge\",\"where\":[],\"columns\":[\"ports\"]},{\"op\":\"insert\",\"table\":\"Port\",\"row\":{\"zz\":1},\"uuid-name\":\"p\",\"uuid\":[\"uuid\",\"00000000-0000-4000-9000-000000000001\"]}"
    ∷ codes "< A reply 2 [{\"uuid\":[\"uuid\",\"U3\"]},{\"rows\":[{\"ports\":[\"uuid\",\"00000000-0000-4000-9000-000000000001\"]}]},{\"error\":\"unknown column\"}]"
    ∷ codes "> A transact 3 {\"op\":\"insert\",\"table\":\"Bridge\",\"row\":{\"name\":\"b\",\"ports\":[\"named-uuid\",\"p\"]}},{\"op\":\"select\",\"table\":\"Bridge\",\"where\":[],\"columns\":[\"ports\"]},{\"op\":\"insert\",\"table\":\"Port\",\"row\":{\"name\":\"p\"},\"uuid-name\":\"p\",\"uuid\":[\"named-uuid\",\"p\"]}"
    ∷ codes "< A reply 3 [{\"uuid\":[\"uuid\",\"U5\"]},{\"rows\":[{\"ports\":[\"uuid\",\"U6\"]}]},{\"error\":\"syntax error\"}]"
    ∷ [])
unfolding shows
an_identifier_that_can_not_be_read_leaves_the_one_that_was_handed_in = refl

-- Names of inserts that refer to each other, that repeat and that stand for nothing
pub names_of_inserts_that_refer_to_each_other_that_repeat_and_that_stand_for_nothing : Plays operations (
    codes "> A transact 1 {\"op\":\"insert\",\"table\":\"A\",\"row\":{},\"uuid-name\":\"a\"},{\"op\":\"insert\",\"table\":\"A\",\"row\":{},\"uuid-name\":\"a\"}"
    ∷ codes "< A reply 1 [{\"uuid\":[\"uuid\",\"U1\"]},{\"error\":\"duplicate uuid-name\"}]"
    ∷ codes "> A transact 2 {\"op\":\"insert\",\"table\":\"A\",\"row\":{\"u\":[\"named-uuid\",\"a\"]},\"uuid-name\":\"b\"},{\"op\":\"insert\",\"table\":\"A\",\"row\":{\"u\":[\"named-uuid\",\"b\"]},\"uuid-name\":\"a\"},{\"op\":\"select\",\"table\":\"A\",\"where\":[[\"u\",\"!=\",[\"uuid\",\"V0\"]]],\"columns\":[\"_uuid\",\"u\"]}"
    ∷ codes "< A reply 2 [{\"uuid\":[\"uuid\",\"U3\"]},{\"uuid\":[\"uuid\",\"U4\"]},{\"rows\":[{\"_uuid\":[\"uuid\",\"U3\"],\"u\":[\"uuid\",\"U4\"]},{\"_uuid\":[\"uuid\",\"U4\"],\"u\":[\"uuid\",\"U3\"]}]}]"
    ∷ codes "> A transact 3 {\"op\":\"insert\",\"table\":\"A\",\"row\":{\"zz\":1},\"uuid-name\":\"c\"},{\"op\":\"insert\",\"table\":\"A\",\"row\":{}}"
    ∷ codes "< A reply 3 [{\"error\":\"unknown column\"},null]"
    ∷ codes "> A transact 4 {\"op\":\"select\",\"table\":\"A\",\"where\":[[\"u\",\"==\",[\"named-uuid\",\"d\"]]],\"columns\":[\"i\"]},{\"op\":\"insert\",\"table\":\"Q\",\"row\":5,\"uuid-name\":\"d\"}"
    ∷ codes "< A reply 4 [{\"rows\":[]},{\"error\":\"unknown table\"}]"
    ∷ codes "> A transact 5 {\"op\":\"select\",\"table\":\"A\",\"where\":[[\"u\",\"==\",[\"named-uuid\",\"a\"]]]}"
    ∷ codes "< A reply 5 [{\"error\":\"unknown uuid-name\"}]"
    ∷ [])
unfolding shows
names_of_inserts_that_refer_to_each_other_that_repeat_and_that_stand_for_nothing = refl

-- Names stand for rows in both directions
pub names_stand_for_rows_in_both_directions : Plays ring (
    codes "> A transact 1 {\"op\":\"insert\",\"table\":\"N\",\"row\":{\"next\":[\"named-uuid\",\"row1\"],\"back\":[\"named-uuid\",\"row19\"]},\"uuid-name\":\"row0\"},{\"op\":\"insert\",\"table\":\"N\",\"row\":{\"next\":[\"named-uuid\",\"row2\"],\"back\":[\"named-uuid\",\"row0\"]},\"uuid-name\":\"row1\"},{\"op\":\"insert\",\"table\":\"N\",\"row\":{\"next\":[\"named-uuid\",\"row3\"],\"back\":[\"named-uuid\",\"row1\"]},\"uuid-name\":\"row2\"},{\"op\":\"insert\",\"table\":\"N\",\"row\":{\"next\":[\"named-uuid\",\"row4\"],\"back\":[\"named-uuid\",\"row2\"]},\"uuid-name\":\"row3\"},{\"op\":\"insert\",\"table\":\"N\",\"row\":{\"next\":[\"named-uuid\",\"row5\"],\"back\":[\"named-uuid\",\"row3\"]},\"uuid-name\":\"row4\"},{\"op\":\"insert\",\"table\":\"N\",\"row\":{\"next\":[\"named-uuid\",\"row6\"],\"back\":[\"named-uuid\",\"row4\"]},\"uuid-name\":\"row5\"},{\"op\":\"insert\",\"table\":\"N\",\"row\":{\"next\":[\"named-uuid\",\"row7\"],\"back\":[\"named-uuid\",\"row5\"]},\"uuid-name\":\"row6\"},{\"op\":\"insert\",\"table\":\"N\",\"row\":{\"next\":[\"named-uuid\",\"row8\"],\"back\":[\"named-uuid\",\"row6\"]},\"uuid-name\":\"row7\"},{\"op\":\"insert\",\"table\":\"N\",\"row\":{\"next\":[\"named-uuid\",\"row9\"],\"back\":[\"named-uuid\",\"row7\"]},\"uuid-name\":\"row8\"},{\"op\":\"insert\",\"table\":\"N\",\"row\":{\"next\":[\"named-uuid\",\"row10\"],\"back\":[\"named-uuid\",\"row8\"]},\"uuid-name\":\"row9\"},{\"op\":\"insert\",\"table\":\"N\",\"row\":{\"next\":[\"named-uuid\",\"row11\"],\"back\":[\"named-uuid\",\"row9\"]},\"uuid-name\":\"row10\"},{\"op\":\"insert\",\"table\":\"N\",\"row\":{\"next\":[\"named-uuid\",\"row12\"],\"back\":[\"named-uuid\",\"row10\"]},\"uuid-name\":\"row11\"},{\"op\":\"insert\",\"table\":\"N\",\"row\":{\"next\":[\"named-uuid\",\"row13\"],\"back\":[\"named-uuid\",\"row11\"]},\"uuid-name\":\"row12\"},{\"op\":\"insert\",\"table\":\"N\",\"row\":{\"next\":[\"named-uuid\",\"row14\"],\"back\":[\"named-uuid\",\"row12\"]},\"uuid-name\":\"row13\"},{\"op\":\"insert\",\"table\":\"N\",\"row\":{\"next\":[\"named-uuid\",\"row15\"],\"back\":[\"named-uuid\",\"row13\"]},\"uuid-name\":\"row14\"},{\"op\":\"insert\",\"table\":\"N\",\"row\":{\"next\":[\"named-uuid\",\"row16\"],\"back\":[\"named-uuid\",\"row14\"]},\"uuid-name\":\"row15\"},{\"op\":\"insert\",\"table\":\"N\",\"row\":{\"next\":[\"named-uuid\",\"row17\"],\"back\":[\"named-uuid\",\"row15\"]},\"uuid-name\":\"row16\"},{\"op\":\"insert\",\"table\":\"N\",\"row\":{\"next\":[\"named-uuid\",\"row18\"],\"back\":[\"named-uuid\",\"row16\"]},\"uuid-name\":\"row17\"},{\"op\":\"insert\",\"table\":\"N\",\"row\":{\"next\":[\"named-uuid\",\"row19\"],\"back\":[\"named-uuid\",\"row17\"]},\"uuid-name\":\"row18\"},{\"op\":\"insert\",\"table\":\"N\",\"row\":{\"next\":[\"named-uuid\",\"row0\"],\"back\":[\"named-uuid\",\"row18\"]},\"uuid-name\":\"row19\"}"
    ∷ codes "< A reply 1 [{\"uuid\":[\"uuid\",\"U1\"]},{\"uuid\":[\"uuid\",\"U2\"]},{\"uuid\":[\"uuid\",\"U3\"]},{\"uuid\":[\"uuid\",\"U4\"]},{\"uuid\":[\"uuid\",\"U5\"]},{\"uuid\":[\"uuid\",\"U6\"]},{\"uuid\":[\"uuid\",\"U7\"]},{\"uuid\":[\"uuid\",\"U8\"]},{\"uuid\":[\"uuid\",\"U9\"]},{\"uuid\":[\"uuid\",\"U10\"]},{\"uuid\":[\"uuid\",\"U11\"]},{\"uuid\":[\"uuid\",\"U12\"]},{\"uuid\":[\"uuid\",\"U13\"]},{\"uuid\":[\"uuid\",\"U14\"]},{\"uuid\":[\"uuid\",\"U15\"]},{\"uuid\":[\"uuid\",\"U16\"]},{\"uuid\":[\"uuid\",\"U17\"]},{\"uuid\":[\"uuid\",\"U18\"]},{\"uuid\":[\"uuid\",\"U19\"]},{\"uuid\":[\"uuid\",\"U20\"]}]"
    ∷ codes "> A transact 2 {\"op\":\"select\",\"table\":\"N\",\"where\":[],\"columns\":[\"_uuid\",\"back\",\"next\"]}"
    ∷ codes "< A reply 2 [{\"rows\":[{\"_uuid\":[\"uuid\",\"U1\"],\"back\":[\"uuid\",\"U20\"],\"next\":[\"uuid\",\"U2\"]},{\"_uuid\":[\"uuid\",\"U2\"],\"back\":[\"uuid\",\"U1\"],\"next\":[\"uuid\",\"U3\"]},{\"_uuid\":[\"uuid\",\"U3\"],\"back\":[\"uuid\",\"U2\"],\"next\":[\"uuid\",\"U4\"]},{\"_uuid\":[\"uuid\",\"U4\"],\"back\":[\"uuid\",\"U3\"],\"next\":[\"uuid\",\"U5\"]},{\"_uuid\":[\"uuid\",\"U5\"],\"back\":[\"uuid\",\"U4\"],\"next\":[\"uuid\",\"U6\"]},{\"_uuid\":[\"uuid\",\"U6\"],\"back\":[\"uuid\",\"U5\"],\"next\":[\"uuid\",\"U7\"]},{\"_uuid\":[\"uuid\",\"U7\"],\"back\":[\"uuid\",\"U6\"],\"next\":[\"uuid\",\"U8\"]},{\"_uuid\":[\"uuid\",\"U8\"],\"back\":[\"uuid\",\"U7\"],\"next\":[\"uuid\",\"U9\"]},{\"_uuid\":[\"uuid\",\"U9\"],\"back\":[\"uuid\",\"U8\"],\"next\":[\"uuid\",\"U10\"]},{\"_uuid\":[\"uuid\",\"U10\"],\"back\":[\"uuid\",\"U9\"],\"next\":[\"uuid\",\"U11\"]},{\"_uuid\":[\"uuid\",\"U11\"],\"back\":[\"uuid\",\"U10\"],\"next\":[\"uuid\",\"U12\"]},{\"_uuid\":[\"uuid\",\"U12\"],\"back\":[\"uuid\",\"U11\"],\"next\":[\"uuid\",\"U13\"]},{\"_uuid\":[\"uuid\",\"U13\"],\"back\":[\"uuid\",\"U12\"],\"next\":[\"uuid\",\"U14\"]},{\"_uuid\":[\"uuid\",\"U14\"],\"back\":[\"uuid\",\"U13\"],\"next\":[\"uuid\",\"U15\"]},{\"_uuid\":[\"uuid\",\"U15\"],\"back\":[\"uuid\",\"U14\"],\"next\":[\"uuid\",\"U16\"]},{\"_uuid\":[\"uuid\",\"U16\"],\"back\":[\"uuid\",\"U15\"],\"next\":[\"uuid\",\"U17\"]},{\"_uuid\":[\"uuid\",\"U17\"],\"back\":[\"uuid\",\"U16\"],\"next\":[\"uuid\",\"U18\"]},{\"_uuid\":[\"uuid\",\"U18\"],\"back\":[\"uuid\",\"U17\"],\"next\":[\"uuid\",\"U19\"]},{\"_uuid\":[\"uuid\",\"U19\"],\"back\":[\"uuid\",\"U18\"],\"next\":[\"uuid\",\"U20\"]},{\"_uuid\":[\"uuid\",\"U20\"],\"back\":[\"uuid\",\"U19\"],\"next\":[\"uuid\",\"U1\"]}]}]"
    ∷ [])
unfolding shows
names_stand_for_rows_in_both_directions = refl

-- Names stand for the first insert that has them
pub names_stand_for_the_first_insert_that_has_them : Plays choices (
    codes "> A transact 1 {\"op\":\"update\",\"table\":\"C\",\"where\":[[\"_uuid\",\"==\",[\"named-uuid\",\"a\"]]],\"row\":{}},{\"op\":\"insert\",\"table\":\"C\",\"row\":{},\"uuid-name\":\"a\"},{\"op\":\"update\",\"table\":\"C\",\"where\":[[\"_uuid\",\"==\",[\"named-uuid\",\"a\"]]],\"row\":{}},{\"op\":\"insert\",\"table\":\"E\",\"row\":{},\"uuid-name\":\"a\"}"
    ∷ codes "< A reply 1 [{\"count\":0},{\"uuid\":[\"uuid\",\"U1\"]},{\"count\":1},{\"error\":\"duplicate uuid-name\"}]"
    ∷ [])
unfolding shows
names_stand_for_the_first_insert_that_has_them = refl

-- Names that stand for nothing, and that are none
pub names_that_stand_for_nothing_and_that_are_none : Plays net (
    codes "> A transact 1 {\"op\":\"insert\",\"table\":\"Bridge\",\"row\":{\"name\":\"b\"},\"uuid-name\":\"x\"},{\"op\":\"insert\",\"table\":\"Bridge\",\"row\":{\"name\":\"c\"},\"uuid-name\":\"x\"}"
    ∷ codes "< A reply 1 [{\"uuid\":[\"uuid\",\"U1\"]},{\"error\":\"duplicate uuid-name\"}]"
    ∷ codes "> A transact 2 {\"op\":\"insert\",\"table\":\"Bridge\",\"row\":{\"name\":\"b\"},\"uuid-name\":\"1x\"}"
    ∷ codes "< A reply 2 [{\"error\":\"syntax error\"}]"
    ∷ codes "> A transact 3 {\"op\":\"insert\",\"table\":\"Bridge\",\"row\":{\"name\":\"b\",\"ports\":[\"named-uuid\",\"nobody\"]}}"
    ∷ codes "< A reply 3 [{\"error\":\"unknown uuid-name\"}]"
    ∷ codes "> A transact 4 {\"op\":\"select\",\"table\":\"Bridge\",\"where\":[[\"_uuid\",\"==\",[\"named-uuid\",\"nobody\"]]]}"
    ∷ codes "< A reply 4 [{\"error\":\"unknown uuid-name\"}]"
    ∷ codes "> A transact 5 {\"op\":\"insert\",\"table\":\"Bridge\",\"row\":{\"name\":\"b\"},\"uuid-name\":5}"
    ∷ codes "< A reply 5 [{\"error\":\"syntax error\"}]"
    ∷ [])
unfolding shows
names_that_stand_for_nothing_and_that_are_none = refl

-- An equal value makes no commit and no version
pub an_equal_value_makes_no_commit_and_no_version : Plays net (
    codes "> B transact 1 {\"op\":\"insert\",\"table\":\"Bridge\",\"row\":{\"name\":\"br0\",\"ports\":[\"named-uuid\",\"p\"]}},{\"op\":\"insert\",\"table\":\"Port\",\"row\":{\"name\":\"p1\"},\"uuid-name\":\"p\"}"
    ∷ codes "< B reply 1 [{\"uuid\":[\"uuid\",\"U1\"]},{\"uuid\":[\"uuid\",\"U2\"]}]"
    ∷ codes "> B transact 2 {\"op\":\"update\",\"table\":\"Bridge\",\"where\":[],\"row\":{\"name\":\"br0\"}}"
    ∷ codes "< B reply 2 [{\"count\":1}]"
    ∷ codes "> A transact 1 {\"op\":\"select\",\"table\":\"Bridge\",\"where\":[],\"columns\":[\"_version\"]}"
    ∷ codes "< A reply 1 [{\"rows\":[{\"_version\":[\"uuid\",\"V1\"]}]}]"
    ∷ codes "> B transact 3 {\"op\":\"update\",\"table\":\"Bridge\",\"where\":[],\"row\":{\"name\":\"x\"}}"
    ∷ codes "< B reply 3 [{\"count\":1}]"
    ∷ codes "> A transact 2 {\"op\":\"select\",\"table\":\"Bridge\",\"where\":[],\"columns\":[\"_version\"]},{\"op\":\"select\",\"table\":\"Port\",\"where\":[],\"columns\":[\"_version\"]}"
    ∷ codes "< A reply 2 [{\"rows\":[{\"_version\":[\"uuid\",\"V2\"]}]},{\"rows\":[{\"_version\":[\"uuid\",\"V1\"]}]}]"
    ∷ [])
unfolding shows
an_equal_value_makes_no_commit_and_no_version = refl

-- An equal value makes no commit and no version, and is not told
pub an_equal_value_makes_no_commit_and_no_version_and_is_not_told : Plays net (
    codes "> B transact 1 {\"op\":\"insert\",\"table\":\"Bridge\",\"row\":{\"name\":\"br0\",\"ports\":[\"named-uuid\",\"p\"]}},{\"op\":\"insert\",\"table\":\"Port\",\"row\":{\"name\":\"p1\"},\"uuid-name\":\"p\"}"
    ∷ codes "< B reply 1 [{\"uuid\":[\"uuid\",\"U1\"]},{\"uuid\":[\"uuid\",\"U2\"]}]"
    ∷ codes "> A monitor 1 [\"net\",\"m\",{\"Bridge\":{}}]"
    ∷ codes "< A reply 1 {\"Bridge\":{\"U1\":{\"new\":{\"_version\":[\"uuid\",\"V1\"],\"name\":\"br0\",\"ports\":[\"uuid\",\"U2\"]}}}}"
    ∷ codes "> B transact 2 {\"op\":\"update\",\"table\":\"Bridge\",\"where\":[],\"row\":{\"name\":\"br0\"}}"
    ∷ codes "< B reply 2 [{\"count\":1}]"
    ∷ codes "> B transact 3 {\"op\":\"update\",\"table\":\"Bridge\",\"where\":[],\"row\":{\"name\":\"x\"}}"
    ∷ codes "< A update [\"m\",{\"Bridge\":{\"U1\":{\"new\":{\"_version\":[\"uuid\",\"V2\"],\"name\":\"x\",\"ports\":[\"uuid\",\"U2\"]},\"old\":{\"_version\":[\"uuid\",\"V1\"],\"name\":\"br0\"}}}}]"
    ∷ codes "< B reply 3 [{\"count\":1}]"
    ∷ [])
unfolding shows
an_equal_value_makes_no_commit_and_no_version_and_is_not_told = refl

-- Rows are inserted, settled and stamped
pub rows_are_inserted_settled_and_stamped : Plays net (
    codes "> A transact 1 {\"op\":\"insert\",\"table\":\"Bridge\",\"row\":{\"name\":\"br0\",\"ports\":[\"named-uuid\",\"p\"]}},{\"op\":\"insert\",\"table\":\"Port\",\"row\":{\"name\":\"p1\"},\"uuid-name\":\"p\"}"
    ∷ codes "< A reply 1 [{\"uuid\":[\"uuid\",\"U1\"]},{\"uuid\":[\"uuid\",\"U2\"]}]"
    ∷ codes "> A transact 2 {\"op\":\"select\",\"table\":\"Bridge\",\"where\":[[\"name\",\"==\",\"br0\"]],\"columns\":[\"ports\"]}"
    ∷ codes "< A reply 2 [{\"rows\":[{\"ports\":[\"uuid\",\"U2\"]}]}]"
    ∷ codes "> A transact 3 {\"op\":\"update\",\"table\":\"Port\",\"where\":[],\"row\":{\"tag\":4096}},{\"op\":\"comment\",\"comment\":\"x\"}"
    ∷ codes "< A reply 3 [{\"error\":\"constraint violation\"},null]"
    ∷ codes "> A transact 4 {\"op\":\"update\",\"table\":\"Port\",\"where\":[],\"row\":{\"tag\":4095}},{\"op\":\"comment\",\"comment\":\"x\"}"
    ∷ codes "< A reply 4 [{\"count\":1},{}]"
    ∷ codes "> A transact 5 {\"op\":\"update\",\"table\":\"Port\",\"where\":[],\"row\":{\"tag\":4095}}"
    ∷ codes "< A reply 5 [{\"count\":1}]"
    ∷ codes "> A transact 6 {\"op\":\"select\",\"table\":\"Port\",\"where\":[[\"_uuid\",\"==\",[\"uuid\",\"U2\"]]],\"columns\":[\"tag\",\"_version\"]}"
    ∷ codes "< A reply 6 [{\"rows\":[{\"_version\":[\"uuid\",\"V2\"],\"tag\":4095}]}]"
    ∷ codes "> A transact 7 {\"op\":\"insert\",\"table\":\"Bridge\",\"row\":{\"name\":\"b\"}},{\"op\":\"insert\",\"table\":\"Bridge\",\"row\":{\"name\":\"b\"}}"
    ∷ codes "< A reply 7 [{\"uuid\":[\"uuid\",\"U3\"]},{\"uuid\":[\"uuid\",\"U4\"]},{\"error\":\"constraint violation\"}]"
    ∷ codes "> A transact 8 {\"op\":\"insert\",\"table\":\"Bridge\",\"row\":{\"name\":\"c\",\"ports\":[\"uuid\",\"V0\"]}}"
    ∷ codes "< A reply 8 [{\"uuid\":[\"uuid\",\"U5\"]},{\"error\":\"referential integrity violation\"}]"
    ∷ codes "> A transact 10 {\"op\":\"delete\",\"table\":\"Bridge\",\"where\":[]},{\"op\":\"select\",\"table\":\"Port\",\"where\":[],\"columns\":[\"name\"]}"
    ∷ codes "< A reply 10 [{\"count\":1},{\"rows\":[{\"name\":\"p1\"}]}]"
    ∷ codes "> A transact 11 {\"op\":\"select\",\"table\":\"Port\",\"where\":[]}"
    ∷ codes "< A reply 11 [{\"rows\":[]}]"
    ∷ [])
unfolding shows
rows_are_inserted_settled_and_stamped = refl

-- Rows whose weak references went have the new version
pub rows_whose_weak_references_went_have_the_new_version : Plays settlement (
    codes "> A transact 1 {\"op\":\"insert\",\"table\":\"H\",\"row\":{\"need\":[\"named-uuid\",\"w\"],\"x\":1}},{\"op\":\"insert\",\"table\":\"H\",\"row\":{\"x\":2}},{\"op\":\"insert\",\"table\":\"W\",\"row\":{},\"uuid-name\":\"w\"}"
    ∷ codes "< A reply 1 [{\"uuid\":[\"uuid\",\"U1\"]},{\"uuid\":[\"uuid\",\"U2\"]},{\"uuid\":[\"uuid\",\"U3\"]}]"
    ∷ codes "> A transact 2 {\"op\":\"delete\",\"table\":\"W\",\"where\":[]}"
    ∷ codes "< A reply 2 [{\"count\":1}]"
    ∷ codes "> A transact 3 {\"op\":\"select\",\"table\":\"H\",\"where\":[],\"columns\":[\"_version\",\"x\"]}"
    ∷ codes "< A reply 3 [{\"rows\":[{\"_version\":[\"uuid\",\"V2\"],\"x\":1},{\"_version\":[\"uuid\",\"V1\"],\"x\":2}]}]"
    ∷ [])
unfolding shows
rows_whose_weak_references_went_have_the_new_version = refl

-- The version of a row within its transaction
pub the_version_of_a_row_within_its_transaction : Plays net (
    codes "> A transact 1 {\"op\":\"insert\",\"table\":\"Bridge\",\"row\":{\"name\":\"b\"}},{\"op\":\"select\",\"table\":\"Bridge\",\"where\":[],\"columns\":[\"_version\"]}"
    ∷ codes "< A reply 1 [{\"uuid\":[\"uuid\",\"U1\"]},{\"rows\":[{\"_version\":[\"uuid\",\"V0\"]}]}]"
    ∷ codes "> A transact 2 {\"op\":\"update\",\"table\":\"Bridge\",\"where\":[],\"row\":{\"name\":\"c\"}},{\"op\":\"select\",\"table\":\"Bridge\",\"where\":[],\"columns\":[\"_version\"]}"
    ∷ codes "< A reply 2 [{\"count\":1},{\"rows\":[{\"_version\":[\"uuid\",\"V1\"]}]}]"
    ∷ codes "> A transact 3 {\"op\":\"select\",\"table\":\"Bridge\",\"where\":[],\"columns\":[\"_version\"]}"
    ∷ codes "< A reply 3 [{\"rows\":[{\"_version\":[\"uuid\",\"V2\"]}]}]"
    ∷ [])
unfolding shows
the_version_of_a_row_within_its_transaction = refl
