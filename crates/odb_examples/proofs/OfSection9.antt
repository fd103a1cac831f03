-- Transcripts of section 9 of docs/PROTOCOL.md. Made by `tools/examples` from transcripts/: no hand writes here.
use Rattle.std.specs.Prelude.{◌∷◌, [], codes, refl}
use Rattle.odb_examples.proofs.TestSchemas.{caps, net}
use Rattle.odb_examples.proofs.Transcripts.{Plays, shows}

-- A filter orders an optional integer
pub a_filter_orders_an_optional_integer : Plays net (
    codes "> B transact 1 {\"op\":\"insert\",\"table\":\"Bridge\",\"row\":{\"name\":\"br0\",\"ports\":[\"named-uuid\",\"p\"]}},{\"op\":\"insert\",\"table\":\"Port\",\"row\":{\"name\":\"p1\"},\"uuid-name\":\"p\"}"
    ∷ codes "< B reply 1 [{\"uuid\":[\"uuid\",\"U1\"]},{\"uuid\":[\"uuid\",\"U2\"]}]"
    ∷ codes "> A monitor_cond 1 [\"net\",\"m\",{\"Port\":{\"columns\":[\"name\"],\"where\":[[\"tag\",\"<\",6]]}}]"
    ∷ codes "< A reply 1 {}"
    ∷ codes "> B transact 2 {\"op\":\"update\",\"table\":\"Port\",\"where\":[],\"row\":{\"tag\":5}}"
    ∷ codes "< A update2 [\"m\",{\"Port\":{\"U2\":{\"insert\":{\"name\":\"p1\"}}}}]"
    ∷ codes "< B reply 2 [{\"count\":1}]"
    ∷ codes "> B transact 3 {\"op\":\"update\",\"table\":\"Port\",\"where\":[],\"row\":{\"tag\":6}}"
    ∷ codes "< A update2 [\"m\",{\"Port\":{\"U2\":{\"delete\":null}}}]"
    ∷ codes "< B reply 3 [{\"count\":1}]"
    ∷ codes "> B transact 4 {\"op\":\"update\",\"table\":\"Port\",\"where\":[],\"row\":{\"tag\":[\"set\",[]]}}"
    ∷ codes "< B reply 4 [{\"count\":1}]"
    ∷ codes "> A monitor_cond_change 2 [\"m\",\"m\",{\"Port\":[{\"where\":[[\"tag\",\">\",[\"set\",[]]]]}]}]"
    ∷ codes "< A error 2 syntax error"
    ∷ codes "> A monitor_cond_change 3 [\"m\",\"m\",{\"Port\":[{\"where\":[[\"tag\",\">=\",6]]}]}]"
    ∷ codes "< A reply 3 {}"
    ∷ codes "> B transact 5 {\"op\":\"update\",\"table\":\"Port\",\"where\":[],\"row\":{\"tag\":7}}"
    ∷ codes "< A update2 [\"m\",{\"Port\":{\"U2\":{\"insert\":{\"name\":\"p1\"}}}}]"
    ∷ codes "< B reply 5 [{\"count\":1}]"
    ∷ codes "> A monitor_cond 4 [\"net\",\"n\",{\"Port\":{\"columns\":[\"name\"],\"where\":[[\"tag\",\"<\",[\"set\",[6,7]]]]}}]"
    ∷ codes "< A error 4 syntax error"
    ∷ codes "> A monitor_cond 5 [\"net\",\"n\",{\"Port\":{\"columns\":[\"tag\"],\"where\":[[\"tag\",\"<=\",6],[\"tag\",\">\",6]]}}]"
    ∷ codes "< A reply 5 {\"Port\":{\"U2\":{\"initial\":{\"tag\":7}}}}"
    ∷ [])
unfolding shows
a_filter_orders_an_optional_integer = refl

-- An empty filter selects all, false nothing, and one member is enough
pub an_empty_filter_selects_all_false_nothing_and_one_member_is_enough : Plays net (
    codes "> B transact 1 {\"op\":\"insert\",\"table\":\"Bridge\",\"row\":{\"name\":\"br0\",\"ports\":[\"named-uuid\",\"p\"]}},{\"op\":\"insert\",\"table\":\"Port\",\"row\":{\"name\":\"p1\",\"tag\":5},\"uuid-name\":\"p\"}"
    ∷ codes "< B reply 1 [{\"uuid\":[\"uuid\",\"U1\"]},{\"uuid\":[\"uuid\",\"U2\"]}]"
    ∷ codes "> A monitor_cond 1 [\"net\",\"a\",{\"Port\":{\"columns\":[\"name\"],\"where\":[]}}]"
    ∷ codes "< A reply 1 {\"Port\":{\"U2\":{\"initial\":{\"name\":\"p1\"}}}}"
    ∷ codes "> A monitor_cond 2 [\"net\",\"b\",{\"Port\":{\"columns\":[\"name\"],\"where\":[false]}}]"
    ∷ codes "< A reply 2 {}"
    ∷ codes "> A monitor_cond 3 [\"net\",\"c\",{\"Port\":{\"columns\":[\"name\"],\"where\":[[\"tag\",\"==\",6],[\"name\",\"==\",\"p1\"]]}}]"
    ∷ codes "< A reply 3 {\"Port\":{\"U2\":{\"initial\":{\"name\":\"p1\"}}}}"
    ∷ [])
unfolding shows
an_empty_filter_selects_all_false_nothing_and_one_member_is_enough = refl

-- Ids of monitors may be any JSON
pub ids_of_monitors_may_be_any_json : Plays net (
    codes "> A monitor 1 [\"net\",{\"b\":1,\"a\":2},{\"Bridge\":{\"columns\":[\"name\"]}}]"
    ∷ codes "< A reply 1 {}"
    ∷ codes "> A monitor 2 [\"net\",{\"a\":2,\"b\":1},{}]"
    ∷ codes "< A error 2 syntax error"
    ∷ codes "> A monitor 3 [\"net\",null,{}]"
    ∷ codes "< A reply 3 {}"
    ∷ codes "> A monitor 4 [\"net\",1,{}]"
    ∷ codes "< A reply 4 {}"
    ∷ codes "> A monitor 5 [\"net\",\"1\",{}]"
    ∷ codes "< A reply 5 {}"
    ∷ codes "> A monitor 6 [\"net\",[1],{}]"
    ∷ codes "< A reply 6 {}"
    ∷ codes "> A monitor_cancel 7 [null]"
    ∷ codes "< A reply 7 {}"
    ∷ codes "> A monitor 8 [\"net\",null,{}]"
    ∷ codes "< A reply 8 {}"
    ∷ codes "> B transact 1 {\"op\":\"insert\",\"table\":\"Bridge\",\"row\":{\"name\":\"x\"}}"
    ∷ codes "< A update [{\"a\":2,\"b\":1},{\"Bridge\":{\"U1\":{\"new\":{\"name\":\"x\"}}}}]"
    ∷ codes "< B reply 1 [{\"uuid\":[\"uuid\",\"U1\"]}]"
    ∷ codes "> A monitor_cancel 9 [{\"b\":1,\"a\":2}]"
    ∷ codes "< A reply 9 {}"
    ∷ codes "> A monitor_cancel 10 [{\"b\":1,\"a\":2}]"
    ∷ codes "< A error 10 unknown monitor"
    ∷ codes "> B transact 2 {\"op\":\"insert\",\"table\":\"Bridge\",\"row\":{\"name\":\"y\"}}"
    ∷ codes "< B reply 2 [{\"uuid\":[\"uuid\",\"U2\"]}]"
    ∷ [])
unfolding shows
ids_of_monitors_may_be_any_json = refl

-- Requests of monitors are tested in order
pub requests_of_monitors_are_tested_in_order : Plays net (
    codes "> A monitor 50 [\"net\",\"m\",{}]"
    ∷ codes "< A reply 50 {}"
    ∷ codes "> A monitor 0 [\"net\",\"m\",{\"Nope\":{}}]"
    ∷ codes "< A error 0 syntax error"
    ∷ codes "> A monitor 1 [\"net\",\"n\",{\"Zzz\":{},\"Nope\":5}]"
    ∷ codes "< A error 1 unknown table"
    ∷ codes "> A monitor 2 [\"net\",\"n\",{\"Port\":{\"columns\":[\"zzz\"]},\"Bridge\":{\"x\":1}}]"
    ∷ codes "< A error 2 syntax error"
    ∷ codes "> A monitor 3 [\"net\",\"n\",{\"Port\":5,\"Bridge\":{\"columns\":[\"zzz\"]}}]"
    ∷ codes "< A error 3 unknown column"
    ∷ codes "> A monitor 4 [\"net\",\"n\",{\"Bridge\":{\"columns\":[\"zzz\",\"name\",\"name\"]}}]"
    ∷ codes "< A error 4 unknown column"
    ∷ codes "> A monitor 5 [\"net\",\"n\",{\"Bridge\":{\"columns\":[\"name\",\"name\",\"zzz\"]}}]"
    ∷ codes "< A error 5 syntax error"
    ∷ codes "> A monitor 6 [\"net\",\"n\",{\"Bridge\":{\"columns\":[\"zzz\"],\"select\":5}}]"
    ∷ codes "< A error 6 unknown column"
    ∷ codes "> A monitor_cond 7 [\"net\",\"n\",{\"Bridge\":{\"select\":5,\"where\":[[\"zzz\",\"==\",1]]}}]"
    ∷ codes "< A error 7 unknown column"
    ∷ codes "> A monitor_cond 8 [\"net\",\"n\",{\"Bridge\":{\"columns\":5,\"where\":[[\"zzz\",\"==\",1]]}}]"
    ∷ codes "< A error 8 syntax error"
    ∷ codes "> A monitor 9 [\"net\",\"n\",{\"Bridge\":{\"where\":[]}}]"
    ∷ codes "< A error 9 syntax error"
    ∷ codes "> A monitor 10 [\"net\",\"n\",{\"Bridge\":{\"where\":[[\"zzz\",\"==\",1]]}}]"
    ∷ codes "< A error 10 syntax error"
    ∷ codes "> A monitor 11 [\"net\",\"n\",{\"Bridge\":{\"where\":[],\"select\":{\"x\":true}}}]"
    ∷ codes "< A error 11 syntax error"
    ∷ codes "> A monitor 12 [\"net\",\"n\",{\"Bridge\":[]}]"
    ∷ codes "< A error 12 syntax error"
    ∷ codes "> A monitor 13 [\"net\",\"n\",{\"Bridge\":[{},{}]}]"
    ∷ codes "< A error 13 syntax error"
    ∷ codes "> A monitor 14 [\"net\",\"n\",{\"Bridge\":[[{}]]}]"
    ∷ codes "< A error 14 syntax error"
    ∷ codes "> A monitor 15 [\"net\",\"n\",{\"Bridge\":null}]"
    ∷ codes "< A error 15 syntax error"
    ∷ codes "> A monitor 16 [\"net\",\"n\",{\"Nope\":[]}]"
    ∷ codes "< A error 16 unknown table"
    ∷ codes "> A monitor 17 [\"net\",\"n\",{\"Bridge\":{\"select\":{\"initial\":1}}}]"
    ∷ codes "< A error 17 syntax error"
    ∷ codes "> A monitor 18 [\"net\",\"n\",{\"Bridge\":{\"select\":null}}]"
    ∷ codes "< A error 18 syntax error"
    ∷ codes "> A monitor 19 [\"net\",\"n\",{\"Bridge\":{\"columns\":null}}]"
    ∷ codes "< A error 19 syntax error"
    ∷ codes "> A monitor 20 [\"net\",\"n\",{\"Bridge\":{\"columns\":[1]}}]"
    ∷ codes "< A error 20 syntax error"
    ∷ codes "> A monitor_cond 21 [\"net\",\"n\",{\"Bridge\":{\"where\":true}}]"
    ∷ codes "< A error 21 syntax error"
    ∷ codes "> A monitor_cond 22 [\"net\",\"n\",{\"Bridge\":{\"where\":[1]}}]"
    ∷ codes "< A error 22 syntax error"
    ∷ codes "> A monitor_cond 23 [\"net\",\"n\",{\"Bridge\":{\"where\":[[\"name\",\"<\",\"a\"]]}}]"
    ∷ codes "< A error 23 syntax error"
    ∷ codes "> A monitor_cond 24 [\"net\",\"n\",{\"Bridge\":{\"where\":[[\"_uuid\",\"==\",[\"named-uuid\",\"x\"]]]}}]"
    ∷ codes "< A error 24 syntax error"
    ∷ codes "> A monitor_cond 25 [\"net\",\"n\",{\"Port\":{\"where\":[[\"tag\",\"==\",[\"set\",[1,1]]]]}}]"
    ∷ codes "< A error 25 syntax error"
    ∷ codes "> A monitor_cond 26 [\"net\",\"n\",{\"Port\":{\"where\":[[\"tag\",\"==\",5,6]]}}]"
    ∷ codes "< A error 26 syntax error"
    ∷ codes "> A monitor_cond 27 [\"net\",\"n\",{\"Port\":{\"where\":[true,[\"zzz\",\"==\",5]]}}]"
    ∷ codes "< A error 27 unknown column"
    ∷ [])
unfolding shows
requests_of_monitors_are_tested_in_order = refl

-- A row comes in and goes out by a column that isn't monitored
pub a_row_comes_in_and_goes_out_by_a_column_that_isnt_monitored : Plays net (
    codes "> B transact 1 {\"op\":\"insert\",\"table\":\"Bridge\",\"row\":{\"name\":\"br0\",\"ports\":[\"named-uuid\",\"p\"]}},{\"op\":\"insert\",\"table\":\"Port\",\"row\":{\"name\":\"p1\"},\"uuid-name\":\"p\"}"
    ∷ codes "< B reply 1 [{\"uuid\":[\"uuid\",\"U1\"]},{\"uuid\":[\"uuid\",\"U2\"]}]"
    ∷ codes "> A monitor_cond 1 [\"net\",\"m\",{\"Port\":[{\"columns\":[\"name\"],\"where\":[[\"tag\",\"==\",5]]}]}]"
    ∷ codes "< A reply 1 {}"
    ∷ codes "> B transact 2 {\"op\":\"update\",\"table\":\"Port\",\"where\":[],\"row\":{\"tag\":5}}"
    ∷ codes "< A update2 [\"m\",{\"Port\":{\"U2\":{\"insert\":{\"name\":\"p1\"}}}}]"
    ∷ codes "< B reply 2 [{\"count\":1}]"
    ∷ codes "> B transact 3 {\"op\":\"update\",\"table\":\"Port\",\"where\":[],\"row\":{\"tag\":6}}"
    ∷ codes "< A update2 [\"m\",{\"Port\":{\"U2\":{\"delete\":null}}}]"
    ∷ codes "< B reply 3 [{\"count\":1}]"
    ∷ [])
unfolding shows
a_row_comes_in_and_goes_out_by_a_column_that_isnt_monitored = refl

-- A monitor may have no columns, and those of every row
pub a_monitor_may_have_no_columns_and_those_of_every_row : Plays net (
    codes "> B transact 1 {\"op\":\"insert\",\"table\":\"Bridge\",\"row\":{\"name\":\"br0\",\"ports\":[\"named-uuid\",\"p\"]}},{\"op\":\"insert\",\"table\":\"Port\",\"row\":{\"name\":\"p1\"},\"uuid-name\":\"p\"}"
    ∷ codes "< B reply 1 [{\"uuid\":[\"uuid\",\"U1\"]},{\"uuid\":[\"uuid\",\"U2\"]}]"
    ∷ codes "> A monitor_cond 1 [\"net\",\"m\",{\"Bridge\":{\"columns\":[],\"where\":[[\"name\",\"==\",\"x\"]]},\"Port\":{\"columns\":[\"_uuid\",\"_version\",\"opts\"]}}]"
    ∷ codes "< A reply 1 {\"Port\":{\"U2\":{\"initial\":{\"_uuid\":[\"uuid\",\"U2\"],\"_version\":[\"uuid\",\"V1\"]}}}}"
    ∷ codes "> B transact 2 {\"op\":\"update\",\"table\":\"Bridge\",\"where\":[],\"row\":{\"name\":\"x\"}}"
    ∷ codes "< A update2 [\"m\",{\"Bridge\":{\"U1\":{\"insert\":{}}}}]"
    ∷ codes "< B reply 2 [{\"count\":1}]"
    ∷ codes "> B transact 3 {\"op\":\"update\",\"table\":\"Port\",\"where\":[],\"row\":{\"tag\":1}}"
    ∷ codes "< A update2 [\"m\",{\"Port\":{\"U2\":{\"modify\":{\"_version\":[\"uuid\",\"V3\"]}}}}]"
    ∷ codes "< B reply 3 [{\"count\":1}]"
    ∷ codes "> B transact 4 {\"op\":\"update\",\"table\":\"Bridge\",\"where\":[],\"row\":{\"name\":\"y\"}}"
    ∷ codes "< A update2 [\"m\",{\"Bridge\":{\"U1\":{\"delete\":null}}}]"
    ∷ codes "< B reply 4 [{\"count\":1}]"
    ∷ [])
unfolding shows
a_monitor_may_have_no_columns_and_those_of_every_row = refl

-- Names with capitals come first
pub names_with_capitals_come_first : Plays caps (
    codes "> B transact 1 {\"op\":\"insert\",\"table\":\"Port\",\"row\":{\"name\":\"p\",\"Zed\":1}}"
    ∷ codes "< B reply 1 [{\"uuid\":[\"uuid\",\"U1\"]}]"
    ∷ codes "> A monitor 1 [\"net\",\"m\",{\"bridge\":{},\"Port\":{}}]"
    ∷ codes "< A reply 1 {\"Port\":{\"U1\":{\"new\":{\"Zed\":1,\"_version\":[\"uuid\",\"V1\"],\"name\":\"p\"}}}}"
    ∷ codes "> B transact 2 {\"op\":\"insert\",\"table\":\"bridge\",\"row\":{}}"
    ∷ codes "< A update [\"m\",{\"bridge\":{\"U2\":{\"new\":{\"_version\":[\"uuid\",\"V2\"],\"a\":0}}}}]"
    ∷ codes "< B reply 2 [{\"uuid\":[\"uuid\",\"U2\"]}]"
    ∷ [])
unfolding shows
names_with_capitals_come_first = refl

-- Rows that settlement deletes are told too
pub rows_that_settlement_deletes_are_told_too : Plays net (
    codes "> B transact 1 {\"op\":\"insert\",\"table\":\"Bridge\",\"row\":{\"name\":\"br0\",\"ports\":[\"named-uuid\",\"p\"]}},{\"op\":\"insert\",\"table\":\"Port\",\"row\":{\"name\":\"p1\"},\"uuid-name\":\"p\"}"
    ∷ codes "< B reply 1 [{\"uuid\":[\"uuid\",\"U1\"]},{\"uuid\":[\"uuid\",\"U2\"]}]"
    ∷ codes "> A monitor_cond 1 [\"net\",\"m\",{\"Bridge\":[{\"columns\":[\"name\"]}],\"Port\":[{\"columns\":[\"name\"]}]}]"
    ∷ codes "< A reply 1 {\"Bridge\":{\"U1\":{\"initial\":{\"name\":\"br0\"}}},\"Port\":{\"U2\":{\"initial\":{\"name\":\"p1\"}}}}"
    ∷ codes "> A transact 2 {\"op\":\"delete\",\"table\":\"Bridge\",\"where\":[]}"
    ∷ codes "< A update2 [\"m\",{\"Bridge\":{\"U1\":{\"delete\":null}},\"Port\":{\"U2\":{\"delete\":null}}}]"
    ∷ codes "< A reply 2 [{\"count\":1}]"
    ∷ [])
unfolding shows
rows_that_settlement_deletes_are_told_too = refl

-- Tables, columns and identifiers are told in order
pub tables_columns_and_identifiers_are_told_in_order : Plays net (
    codes "> B transact 1 {\"op\":\"insert\",\"table\":\"Bridge\",\"row\":{\"name\":\"br0\",\"ports\":[\"named-uuid\",\"p\"]}},{\"op\":\"insert\",\"table\":\"Port\",\"row\":{\"name\":\"p1\"},\"uuid-name\":\"p\"}"
    ∷ codes "< B reply 1 [{\"uuid\":[\"uuid\",\"U1\"]},{\"uuid\":[\"uuid\",\"U2\"]}]"
    ∷ codes "> A monitor 1 [\"net\",\"m\",{\"Port\":{\"columns\":[\"tag\",\"name\",\"_version\",\"_uuid\"]},\"Bridge\":[{\"columns\":[]}]}]"
    ∷ codes "< A reply 1 {\"Bridge\":{\"U1\":{\"new\":{}}},\"Port\":{\"U2\":{\"new\":{\"_uuid\":[\"uuid\",\"U2\"],\"_version\":[\"uuid\",\"V1\"],\"name\":\"p1\",\"tag\":[\"set\",[]]}}}}"
    ∷ codes "> B transact 2 {\"op\":\"update\",\"table\":\"Port\",\"where\":[],\"row\":{\"tag\":7}}"
    ∷ codes "< A update [\"m\",{\"Port\":{\"U2\":{\"new\":{\"_uuid\":[\"uuid\",\"U2\"],\"_version\":[\"uuid\",\"V2\"],\"name\":\"p1\",\"tag\":7},\"old\":{\"_version\":[\"uuid\",\"V1\"],\"tag\":[\"set\",[]]}}}}]"
    ∷ codes "< B reply 2 [{\"count\":1}]"
    ∷ codes "> B transact 3 {\"op\":\"update\",\"table\":\"Bridge\",\"where\":[],\"row\":{\"name\":\"x\"}}"
    ∷ codes "< B reply 3 [{\"count\":1}]"
    ∷ codes "> B transact 4 {\"op\":\"delete\",\"table\":\"Bridge\",\"where\":[]}"
    ∷ codes "< A update [\"m\",{\"Bridge\":{\"U1\":{\"old\":{}}},\"Port\":{\"U2\":{\"old\":{\"_uuid\":[\"uuid\",\"U2\"],\"_version\":[\"uuid\",\"V2\"],\"name\":\"p1\",\"tag\":7}}}}]"
    ∷ codes "< B reply 4 [{\"count\":1}]"
    ∷ [])
unfolding shows
tables_columns_and_identifiers_are_told_in_order = refl

-- Two tables are told in one message
pub two_tables_are_told_in_one_message : Plays net (
    codes "> A monitor_cond 1 [\"net\",\"m\",{\"Bridge\":{\"columns\":[\"name\"],\"where\":[[\"name\",\"==\",\"a\"],false,[\"name\",\"==\",\"b\"]]},\"Port\":{\"columns\":[\"name\"],\"where\":[true]}}]"
    ∷ codes "< A reply 1 {}"
    ∷ codes "> B transact 1 {\"op\":\"insert\",\"table\":\"Bridge\",\"row\":{\"name\":\"a\",\"ports\":[\"named-uuid\",\"p\"]}},{\"op\":\"insert\",\"table\":\"Bridge\",\"row\":{\"name\":\"c\"}},{\"op\":\"insert\",\"table\":\"Port\",\"row\":{\"name\":\"x\"},\"uuid-name\":\"p\"}"
    ∷ codes "< A update2 [\"m\",{\"Bridge\":{\"U1\":{\"insert\":{\"name\":\"a\"}}},\"Port\":{\"U3\":{\"insert\":{\"name\":\"x\"}}}}]"
    ∷ codes "< B reply 1 [{\"uuid\":[\"uuid\",\"U1\"]},{\"uuid\":[\"uuid\",\"U2\"]},{\"uuid\":[\"uuid\",\"U3\"]}]"
    ∷ codes "> !hold A"
    ∷ codes "> B transact 2 {\"op\":\"update\",\"table\":\"Bridge\",\"where\":[[\"name\",\"==\",\"c\"]],\"row\":{\"name\":\"b\"}},{\"op\":\"update\",\"table\":\"Bridge\",\"where\":[[\"name\",\"==\",\"a\"]],\"row\":{\"name\":\"d\"}}"
    ∷ codes "< B reply 2 [{\"count\":1},{\"count\":1}]"
    ∷ codes "> A monitor_cond_change 2 [\"m\",\"m\",{\"Bridge\":[{\"where\":[[\"name\",\"!=\",\"b\"]]}],\"Port\":[{\"where\":[false]}]}]"
    ∷ codes "> !take A"
    ∷ codes "< A update2 [\"m\",{\"Bridge\":{\"U1\":{\"modify\":{\"name\":\"d\"}}},\"Port\":{\"U3\":{\"delete\":null}}}]"
    ∷ codes "< A reply 2 {}"
    ∷ [])
unfolding shows
two_tables_are_told_in_one_message = refl

-- Without columns all but the identifier are told
pub without_columns_all_but_the_identifier_are_told : Plays net (
    codes "> B transact 1 {\"op\":\"insert\",\"table\":\"Bridge\",\"row\":{\"name\":\"br0\",\"ports\":[\"named-uuid\",\"p\"]}},{\"op\":\"insert\",\"table\":\"Port\",\"row\":{\"name\":\"p1\"},\"uuid-name\":\"p\"}"
    ∷ codes "< B reply 1 [{\"uuid\":[\"uuid\",\"U1\"]},{\"uuid\":[\"uuid\",\"U2\"]}]"
    ∷ codes "> A monitor_cond 1 [\"net\",\"m\",{\"Port\":{}}]"
    ∷ codes "< A reply 1 {\"Port\":{\"U2\":{\"initial\":{\"_version\":[\"uuid\",\"V1\"],\"name\":\"p1\"}}}}"
    ∷ codes "> B transact 2 {\"op\":\"mutate\",\"table\":\"Port\",\"where\":[],\"mutations\":[[\"opts\",\"insert\",[\"map\",[[\"b\",\"2\"],[\"a\",\"1\"]]]]]}"
    ∷ codes "< A update2 [\"m\",{\"Port\":{\"U2\":{\"modify\":{\"_version\":[\"uuid\",\"V2\"],\"opts\":[\"map\",[[\"a\",\"1\"],[\"b\",\"2\"]]]}}}}]"
    ∷ codes "< B reply 2 [{\"count\":1}]"
    ∷ codes "> B transact 3 {\"op\":\"update\",\"table\":\"Port\",\"where\":[],\"row\":{\"opts\":[\"map\",[[\"a\",\"9\"],[\"c\",\"3\"]]],\"name\":\"\"}}"
    ∷ codes "< A update2 [\"m\",{\"Port\":{\"U2\":{\"modify\":{\"_version\":[\"uuid\",\"V3\"],\"name\":\"\",\"opts\":[\"map\",[[\"a\",\"9\"],[\"b\",\"2\"],[\"c\",\"3\"]]]}}}}]"
    ∷ codes "< B reply 3 [{\"count\":1}]"
    ∷ [])
unfolding shows
without_columns_all_but_the_identifier_are_told = refl

-- Each kind is switched off alone
pub each_kind_is_switched_off_alone : Plays net (
    codes "> B transact 1 {\"op\":\"insert\",\"table\":\"Bridge\",\"row\":{\"name\":\"a\"}}"
    ∷ codes "< B reply 1 [{\"uuid\":[\"uuid\",\"U1\"]}]"
    ∷ codes "> A monitor 0 [\"net\",\"itorini\",{\"Bridge\":{\"columns\":[\"name\"],\"select\":{\"initial\":false}}}]"
    ∷ codes "< A reply 0 {}"
    ∷ codes "> A monitor 1 [\"net\",\"itorins\",{\"Bridge\":{\"columns\":[\"name\"],\"select\":{\"insert\":false}}}]"
    ∷ codes "< A reply 1 {\"Bridge\":{\"U1\":{\"new\":{\"name\":\"a\"}}}}"
    ∷ codes "> A monitor 2 [\"net\",\"itordel\",{\"Bridge\":{\"columns\":[\"name\"],\"select\":{\"delete\":false}}}]"
    ∷ codes "< A reply 2 {\"Bridge\":{\"U1\":{\"new\":{\"name\":\"a\"}}}}"
    ∷ codes "> A monitor 3 [\"net\",\"itormod\",{\"Bridge\":{\"columns\":[\"name\"],\"select\":{\"modify\":false}}}]"
    ∷ codes "< A reply 3 {\"Bridge\":{\"U1\":{\"new\":{\"name\":\"a\"}}}}"
    ∷ codes "> A monitor_cond 4 [\"net\",\"condini\",{\"Bridge\":{\"columns\":[\"name\"],\"select\":{\"initial\":false}}}]"
    ∷ codes "< A reply 4 {}"
    ∷ codes "> A monitor_cond 5 [\"net\",\"condins\",{\"Bridge\":{\"columns\":[\"name\"],\"select\":{\"insert\":false}}}]"
    ∷ codes "< A reply 5 {\"Bridge\":{\"U1\":{\"initial\":{\"name\":\"a\"}}}}"
    ∷ codes "> A monitor_cond 6 [\"net\",\"conddel\",{\"Bridge\":{\"columns\":[\"name\"],\"select\":{\"delete\":false}}}]"
    ∷ codes "< A reply 6 {\"Bridge\":{\"U1\":{\"initial\":{\"name\":\"a\"}}}}"
    ∷ codes "> A monitor_cond 7 [\"net\",\"condmod\",{\"Bridge\":{\"columns\":[\"name\"],\"select\":{\"modify\":false}}}]"
    ∷ codes "< A reply 7 {\"Bridge\":{\"U1\":{\"initial\":{\"name\":\"a\"}}}}"
    ∷ codes "> B transact 2 {\"op\":\"insert\",\"table\":\"Bridge\",\"row\":{\"name\":\"b\"}}"
    ∷ codes "< A update [\"itorini\",{\"Bridge\":{\"U2\":{\"new\":{\"name\":\"b\"}}}}]"
    ∷ codes "< A update [\"itordel\",{\"Bridge\":{\"U2\":{\"new\":{\"name\":\"b\"}}}}]"
    ∷ codes "< A update [\"itormod\",{\"Bridge\":{\"U2\":{\"new\":{\"name\":\"b\"}}}}]"
    ∷ codes "< A update2 [\"condini\",{\"Bridge\":{\"U2\":{\"insert\":{\"name\":\"b\"}}}}]"
    ∷ codes "< A update2 [\"conddel\",{\"Bridge\":{\"U2\":{\"insert\":{\"name\":\"b\"}}}}]"
    ∷ codes "< A update2 [\"condmod\",{\"Bridge\":{\"U2\":{\"insert\":{\"name\":\"b\"}}}}]"
    ∷ codes "< B reply 2 [{\"uuid\":[\"uuid\",\"U2\"]}]"
    ∷ codes "> B transact 3 {\"op\":\"update\",\"table\":\"Bridge\",\"where\":[[\"name\",\"==\",\"a\"]],\"row\":{\"name\":\"c\"}}"
    ∷ codes "< A update [\"itorini\",{\"Bridge\":{\"U1\":{\"new\":{\"name\":\"c\"},\"old\":{\"name\":\"a\"}}}}]"
    ∷ codes "< A update [\"itorins\",{\"Bridge\":{\"U1\":{\"new\":{\"name\":\"c\"},\"old\":{\"name\":\"a\"}}}}]"
    ∷ codes "< A update [\"itordel\",{\"Bridge\":{\"U1\":{\"new\":{\"name\":\"c\"},\"old\":{\"name\":\"a\"}}}}]"
    ∷ codes "< A update2 [\"condini\",{\"Bridge\":{\"U1\":{\"modify\":{\"name\":\"c\"}}}}]"
    ∷ codes "< A update2 [\"condins\",{\"Bridge\":{\"U1\":{\"modify\":{\"name\":\"c\"}}}}]"
    ∷ codes "< A update2 [\"conddel\",{\"Bridge\":{\"U1\":{\"modify\":{\"name\":\"c\"}}}}]"
    ∷ codes "< B reply 3 [{\"count\":1}]"
    ∷ codes "> B transact 4 {\"op\":\"delete\",\"table\":\"Bridge\",\"where\":[[\"name\",\"==\",\"c\"]]}"
    ∷ codes "< A update [\"itorini\",{\"Bridge\":{\"U1\":{\"old\":{\"name\":\"c\"}}}}]"
    ∷ codes "< A update [\"itorins\",{\"Bridge\":{\"U1\":{\"old\":{\"name\":\"c\"}}}}]"
    ∷ codes "< A update [\"itormod\",{\"Bridge\":{\"U1\":{\"old\":{\"name\":\"c\"}}}}]"
    ∷ codes "< A update2 [\"condini\",{\"Bridge\":{\"U1\":{\"delete\":null}}}]"
    ∷ codes "< A update2 [\"condins\",{\"Bridge\":{\"U1\":{\"delete\":null}}}]"
    ∷ codes "< A update2 [\"condmod\",{\"Bridge\":{\"U1\":{\"delete\":null}}}]"
    ∷ codes "< B reply 4 [{\"count\":1}]"
    ∷ [])
unfolding shows
each_kind_is_switched_off_alone = refl

-- Switched-off kinds aren't sent
pub switched_off_kinds_arent_sent : Plays net (
    codes "> B transact 1 {\"op\":\"insert\",\"table\":\"Bridge\",\"row\":{\"name\":\"br0\",\"ports\":[\"named-uuid\",\"p\"]}},{\"op\":\"insert\",\"table\":\"Port\",\"row\":{\"name\":\"p1\"},\"uuid-name\":\"p\"}"
    ∷ codes "< B reply 1 [{\"uuid\":[\"uuid\",\"U1\"]},{\"uuid\":[\"uuid\",\"U2\"]}]"
    ∷ codes "> A monitor_cond 1 [\"net\",\"m\",{\"Port\":{\"columns\":[\"name\",\"tag\"],\"select\":{\"initial\":false,\"modify\":false}}}]"
    ∷ codes "< A reply 1 {}"
    ∷ codes "> B transact 2 {\"op\":\"update\",\"table\":\"Port\",\"where\":[],\"row\":{\"tag\":7}}"
    ∷ codes "< B reply 2 [{\"count\":1}]"
    ∷ codes "> B transact 3 {\"op\":\"delete\",\"table\":\"Bridge\",\"where\":[]}"
    ∷ codes "< A update2 [\"m\",{\"Port\":{\"U2\":{\"delete\":null}}}]"
    ∷ codes "< B reply 3 [{\"count\":1}]"
    ∷ [])
unfolding shows
switched_off_kinds_arent_sent = refl

-- What is left of a message is told
pub what_is_left_of_a_message_is_told : Plays net (
    codes "> B transact 1 {\"op\":\"insert\",\"table\":\"Bridge\",\"row\":{\"name\":\"a\"}}"
    ∷ codes "< B reply 1 [{\"uuid\":[\"uuid\",\"U1\"]}]"
    ∷ codes "> A monitor_cond 1 [\"net\",\"m\",{\"Bridge\":{\"columns\":[\"name\"],\"select\":{\"delete\":false,\"insert\":false}}}]"
    ∷ codes "< A reply 1 {\"Bridge\":{\"U1\":{\"initial\":{\"name\":\"a\"}}}}"
    ∷ codes "> !hold A"
    ∷ codes "> B transact 2 {\"op\":\"insert\",\"table\":\"Bridge\",\"row\":{\"name\":\"b\"}}"
    ∷ codes "< B reply 2 [{\"uuid\":[\"uuid\",\"U2\"]}]"
    ∷ codes "> B transact 3 {\"op\":\"update\",\"table\":\"Bridge\",\"where\":[[\"name\",\"==\",\"a\"]],\"row\":{\"name\":\"c\"}}"
    ∷ codes "< B reply 3 [{\"count\":1}]"
    ∷ codes "> !take A"
    ∷ codes "< A update2 [\"m\",{\"Bridge\":{\"U1\":{\"modify\":{\"name\":\"c\"}}}}]"
    ∷ codes "> !hold A"
    ∷ codes "> B transact 4 {\"op\":\"delete\",\"table\":\"Bridge\",\"where\":[[\"name\",\"==\",\"c\"]]}"
    ∷ codes "< B reply 4 [{\"count\":1}]"
    ∷ codes "> B transact 5 {\"op\":\"update\",\"table\":\"Bridge\",\"where\":[],\"row\":{\"name\":\"d\"}}"
    ∷ codes "< B reply 5 [{\"count\":1}]"
    ∷ codes "> A monitor_cond_change 2 [\"m\",\"n\",{\"Bridge\":[{\"where\":[false]}]}]"
    ∷ codes "> !take A"
    ∷ codes "< A reply 2 {}"
    ∷ codes "> A monitor_cond_change 3 [\"n\",\"n\",{\"Bridge\":[{}]}]"
    ∷ codes "< A reply 3 {}"
    ∷ codes "> B transact 6 {\"op\":\"update\",\"table\":\"Bridge\",\"where\":[],\"row\":{\"name\":\"e\"}}"
    ∷ codes "< A update2 [\"n\",{\"Bridge\":{\"U2\":{\"modify\":{\"name\":\"e\"}}}}]"
    ∷ codes "< B reply 6 [{\"count\":1}]"
    ∷ [])
unfolding shows
what_is_left_of_a_message_is_told = refl

-- What was switched off counts as told
pub what_was_switched_off_counts_as_told : Plays net (
    codes "> A monitor_cond 1 [\"net\",\"m\",{\"Bridge\":{\"columns\":[\"name\"],\"select\":{\"insert\":false}}}]"
    ∷ codes "< A reply 1 {}"
    ∷ codes "> B transact 1 {\"op\":\"insert\",\"table\":\"Bridge\",\"row\":{\"name\":\"b\"}}"
    ∷ codes "< B reply 1 [{\"uuid\":[\"uuid\",\"U1\"]}]"
    ∷ codes "> B transact 2 {\"op\":\"update\",\"table\":\"Bridge\",\"where\":[],\"row\":{\"name\":\"x\"}}"
    ∷ codes "< A update2 [\"m\",{\"Bridge\":{\"U1\":{\"modify\":{\"name\":\"x\"}}}}]"
    ∷ codes "< B reply 2 [{\"count\":1}]"
    ∷ [])
unfolding shows
what_was_switched_off_counts_as_told = refl

-- A change names a table that is monitored, and then one that isn't
pub a_change_names_a_table_that_is_monitored_and_then_one_that_is_not : Plays net (
    codes "> A monitor_cond 1 [\"net\",\"m\",{\"Bridge\":{\"columns\":[\"name\"]}}]"
    ∷ codes "< A reply 1 {}"
    ∷ codes "> A monitor_cond_change 2 [\"m\",\"n\",{\"Bridge\":[{\"where\":[[\"name\",\"==\",\"b\"]]}],\"Port\":[{\"where\":[]}]}]"
    ∷ codes "< A error 2 syntax error"
    ∷ [])
unfolding shows
a_change_names_a_table_that_is_monitored_and_then_one_that_is_not = refl

-- A plain monitor has no conditions to change
pub a_plain_monitor_has_no_conditions_to_change : Plays net (
    codes "> B transact 1 {\"op\":\"insert\",\"table\":\"Bridge\",\"row\":{\"name\":\"br0\",\"ports\":[\"named-uuid\",\"p\"]}},{\"op\":\"insert\",\"table\":\"Port\",\"row\":{\"name\":\"p1\"},\"uuid-name\":\"p\"}"
    ∷ codes "< B reply 1 [{\"uuid\":[\"uuid\",\"U1\"]},{\"uuid\":[\"uuid\",\"U2\"]}]"
    ∷ codes "> A monitor 1 [\"net\",\"m\",{\"Port\":{\"columns\":[\"name\"]}}]"
    ∷ codes "< A reply 1 {\"Port\":{\"U2\":{\"new\":{\"name\":\"p1\"}}}}"
    ∷ codes "> A monitor_cond_change 2 [\"m\",\"n\",{}]"
    ∷ codes "< A error 2 unknown monitor"
    ∷ [])
unfolding shows
a_plain_monitor_has_no_conditions_to_change = refl

-- Changes and then a cancel, while nobody takes
pub changes_and_then_a_cancel_while_nobody_takes : Plays net (
    codes "> B transact 1 {\"op\":\"insert\",\"table\":\"Bridge\",\"row\":{\"name\":\"x\"}}"
    ∷ codes "< B reply 1 [{\"uuid\":[\"uuid\",\"U1\"]}]"
    ∷ codes "> A monitor_cond 1 [\"net\",\"a\",{\"Bridge\":{\"columns\":[\"name\"],\"where\":[false]}}]"
    ∷ codes "< A reply 1 {}"
    ∷ codes "> !hold A"
    ∷ codes "> A monitor_cond_change 2 [\"a\",\"b\",{\"Bridge\":[{}]}]"
    ∷ codes "> A monitor_cond_change 3 [\"b\",\"b\",{\"Bridge\":[{\"where\":[[\"name\",\"!=\",\"x\"]]}]}]"
    ∷ codes "> A monitor_cancel 4 [\"a\"]"
    ∷ codes "> A monitor_cancel 5 [\"b\"]"
    ∷ codes "> B transact 2 {\"op\":\"insert\",\"table\":\"Bridge\",\"row\":{\"name\":\"y\"}}"
    ∷ codes "< B reply 2 [{\"uuid\":[\"uuid\",\"U2\"]}]"
    ∷ codes "> A monitor_cond 6 [\"net\",\"b\",{\"Bridge\":{\"columns\":[\"name\"],\"where\":[[\"name\",\"==\",\"y\"]]}}]"
    ∷ codes "> A transact 7 {\"op\":\"insert\",\"table\":\"Bridge\",\"row\":{\"name\":\"z\"}}"
    ∷ codes "> !take A"
    ∷ codes "< A update2 [\"a\",{\"Bridge\":{\"U1\":{\"insert\":{\"name\":\"x\"}},\"U2\":{\"insert\":{\"name\":\"y\"}},\"U3\":{\"insert\":{\"name\":\"z\"}}}}]"
    ∷ codes "< A reply 2 {}"
    ∷ codes "< A update2 [\"b\",{\"Bridge\":{\"U1\":{\"delete\":null}}}]"
    ∷ codes "< A reply 3 {}"
    ∷ codes "< A error 4 unknown monitor"
    ∷ codes "< A reply 5 {}"
    ∷ codes "< A reply 6 {\"Bridge\":{\"U2\":{\"initial\":{\"name\":\"y\"}}}}"
    ∷ codes "< A reply 7 [{\"uuid\":[\"uuid\",\"U3\"]}]"
    ∷ [])
unfolding shows
changes_and_then_a_cancel_while_nobody_takes = refl

-- Changes of conditions are tested in order
pub changes_of_conditions_are_tested_in_order : Plays net (
    codes "> A monitor 50 [\"net\",\"plain\",{\"Port\":{}}]"
    ∷ codes "< A reply 50 {}"
    ∷ codes "> A monitor_cond 51 [\"net\",\"m\",{\"Port\":{}}]"
    ∷ codes "< A reply 51 {}"
    ∷ codes "> A monitor_cond 52 [\"net\",\"n\",{\"Port\":{}}]"
    ∷ codes "< A reply 52 {}"
    ∷ codes "> A monitor_cond_change 1 [\"plain\",\"n\",{\"Nope\":1}]"
    ∷ codes "< A error 1 unknown monitor"
    ∷ codes "> A monitor_cond_change 2 [\"m\",\"n\",{\"Nope\":1}]"
    ∷ codes "< A error 2 syntax error"
    ∷ codes "> A monitor_cond_change 3 [\"m\",\"plain\",{}]"
    ∷ codes "< A error 3 syntax error"
    ∷ codes "> A monitor_cond_change 4 [\"m\",\"m\",{\"Bridge\":[{}],\"Zed\":[{}]}]"
    ∷ codes "< A error 4 unknown table"
    ∷ codes "> A monitor_cond_change 5 [\"m\",\"m\",{\"Bridge\":[{}],\"Port\":[{\"columns\":[\"name\"]}]}]"
    ∷ codes "< A error 5 syntax error"
    ∷ codes "> A monitor_cond_change 6 [\"m\",\"m\",{\"Bridge\":[{}]}]"
    ∷ codes "< A error 6 syntax error"
    ∷ codes "> A monitor_cond_change 7 [\"m\",\"m\",{\"Port\":[{\"select\":{}}]}]"
    ∷ codes "< A error 7 syntax error"
    ∷ codes "> A monitor_cond_change 8 [\"m\",\"m\",{\"Port\":[{\"where\":[[\"zzz\",\"==\",1]],\"select\":{}}]}]"
    ∷ codes "< A error 8 unknown column"
    ∷ codes "> A monitor_cond_change 9 [\"m\",\"m\",{\"Port\":[]}]"
    ∷ codes "< A error 9 syntax error"
    ∷ codes "> A monitor_cond_change 10 [\"m\",\"m\",{}]"
    ∷ codes "< A reply 10 {}"
    ∷ codes "> A monitor_cond_change 11 [\"m\",\"k\",{}]"
    ∷ codes "< A reply 11 {}"
    ∷ codes "> A monitor_cond_change 12 [\"m\",\"k\",{}]"
    ∷ codes "< A error 12 unknown monitor"
    ∷ codes "> A monitor_cond_change 13 [\"n\",\"m\",{\"Port\":{\"where\":[]}}]"
    ∷ codes "< A reply 13 {}"
    ∷ codes "> A monitor_cancel 14 [\"n\"]"
    ∷ codes "< A error 14 unknown monitor"
    ∷ [])
unfolding shows
changes_of_conditions_are_tested_in_order = refl

-- Tables that a change does not name keep their filters
pub tables_that_a_change_does_not_name_keep_their_filters : Plays net (
    codes "> B transact 1 {\"op\":\"insert\",\"table\":\"Bridge\",\"row\":{\"name\":\"br0\",\"ports\":[\"named-uuid\",\"p\"]}},{\"op\":\"insert\",\"table\":\"Port\",\"row\":{\"name\":\"p1\"},\"uuid-name\":\"p\"}"
    ∷ codes "< B reply 1 [{\"uuid\":[\"uuid\",\"U1\"]},{\"uuid\":[\"uuid\",\"U2\"]}]"
    ∷ codes "> A monitor_cond 1 [\"net\",\"m\",{\"Bridge\":{\"columns\":[\"name\"],\"where\":[false]},\"Port\":{\"columns\":[\"name\"],\"where\":[[\"tag\",\"==\",1]]}}]"
    ∷ codes "< A reply 1 {}"
    ∷ codes "> A monitor_cond_change 2 [\"m\",\"m\",{\"Bridge\":[{}]}]"
    ∷ codes "< A update2 [\"m\",{\"Bridge\":{\"U1\":{\"insert\":{\"name\":\"br0\"}}}}]"
    ∷ codes "< A reply 2 {}"
    ∷ codes "> B transact 2 {\"op\":\"update\",\"table\":\"Port\",\"where\":[],\"row\":{\"tag\":1}}"
    ∷ codes "< A update2 [\"m\",{\"Port\":{\"U2\":{\"insert\":{\"name\":\"p1\"}}}}]"
    ∷ codes "< B reply 2 [{\"count\":1}]"
    ∷ codes "> A monitor_cond_change 3 [\"m\",\"m\",{\"Port\":{\"where\":[[\"tag\",\"==\",2],[\"name\",\"==\",\"q\"]]}}]"
    ∷ codes "< A update2 [\"m\",{\"Port\":{\"U2\":{\"delete\":null}}}]"
    ∷ codes "< A reply 3 {}"
    ∷ codes "> B transact 3 {\"op\":\"update\",\"table\":\"Port\",\"where\":[],\"row\":{\"name\":\"q\"}}"
    ∷ codes "< A update2 [\"m\",{\"Port\":{\"U2\":{\"insert\":{\"name\":\"q\"}}}}]"
    ∷ codes "< B reply 3 [{\"count\":1}]"
    ∷ [])
unfolding shows
tables_that_a_change_does_not_name_keep_their_filters = refl

-- A cancelled monitor is brought to now once more
pub a_cancelled_monitor_is_brought_to_now_once_more : Plays net (
    codes "> B transact 1 {\"op\":\"insert\",\"table\":\"Bridge\",\"row\":{\"name\":\"br0\",\"ports\":[\"named-uuid\",\"p\"]}},{\"op\":\"insert\",\"table\":\"Port\",\"row\":{\"name\":\"p1\"},\"uuid-name\":\"p\"}"
    ∷ codes "< B reply 1 [{\"uuid\":[\"uuid\",\"U1\"]},{\"uuid\":[\"uuid\",\"U2\"]}]"
    ∷ codes "> A monitor_cond 1 [\"net\",\"m\",{\"Port\":{\"columns\":[\"name\"]}}]"
    ∷ codes "< A reply 1 {\"Port\":{\"U2\":{\"initial\":{\"name\":\"p1\"}}}}"
    ∷ codes "> !hold A"
    ∷ codes "> B transact 2 {\"op\":\"update\",\"table\":\"Port\",\"where\":[],\"row\":{\"name\":\"q\"}}"
    ∷ codes "< B reply 2 [{\"count\":1}]"
    ∷ codes "> A monitor_cancel 2 [\"m\"]"
    ∷ codes "> B transact 3 {\"op\":\"update\",\"table\":\"Port\",\"where\":[],\"row\":{\"name\":\"r\"}}"
    ∷ codes "< B reply 3 [{\"count\":1}]"
    ∷ codes "> !take A"
    ∷ codes "< A update2 [\"m\",{\"Port\":{\"U2\":{\"modify\":{\"name\":\"r\"}}}}]"
    ∷ codes "< A reply 2 {}"
    ∷ codes "> B transact 4 {\"op\":\"update\",\"table\":\"Port\",\"where\":[],\"row\":{\"name\":\"s\"}}"
    ∷ codes "< B reply 4 [{\"count\":1}]"
    ∷ [])
unfolding shows
a_cancelled_monitor_is_brought_to_now_once_more = refl

-- A monitor that is being cancelled is told of later commits until it is taken
pub a_monitor_that_is_being_cancelled_is_told_of_later_commits_until_it_is_taken : Plays net (
    codes "> A monitor_cond 1 [\"net\",\"m\",{\"Bridge\":{\"columns\":[\"name\"]}}]"
    ∷ codes "< A reply 1 {}"
    ∷ codes "> !hold A"
    ∷ codes "> B transact 1 {\"op\":\"insert\",\"table\":\"Bridge\",\"row\":{\"name\":\"b\"}}"
    ∷ codes "< B reply 1 [{\"uuid\":[\"uuid\",\"U1\"]}]"
    ∷ codes "> A monitor_cancel 2 [\"m\"]"
    ∷ codes "> A transact 3 {\"op\":\"insert\",\"table\":\"Bridge\",\"row\":{\"name\":\"c\"}}"
    ∷ codes "> A monitor_cancel 4 [\"m\"]"
    ∷ codes "> A monitor_cond_change 5 [\"m\",\"n\",{}]"
    ∷ codes "> A monitor 6 [\"net\",\"m\",{\"Port\":{}}]"
    ∷ codes "> A transact 7 {\"op\":\"insert\",\"table\":\"Bridge\",\"row\":{\"name\":\"d\"}}"
    ∷ codes "> !take A"
    ∷ codes "< A update2 [\"m\",{\"Bridge\":{\"U1\":{\"insert\":{\"name\":\"b\"}},\"U2\":{\"insert\":{\"name\":\"c\"}},\"U3\":{\"insert\":{\"name\":\"d\"}}}}]"
    ∷ codes "< A reply 2 {}"
    ∷ codes "< A reply 3 [{\"uuid\":[\"uuid\",\"U2\"]}]"
    ∷ codes "< A error 4 unknown monitor"
    ∷ codes "< A error 5 unknown monitor"
    ∷ codes "< A reply 6 {}"
    ∷ codes "< A reply 7 [{\"uuid\":[\"uuid\",\"U3\"]}]"
    ∷ codes "> B transact 2 {\"op\":\"insert\",\"table\":\"Bridge\",\"row\":{\"name\":\"e\"}}"
    ∷ codes "< B reply 2 [{\"uuid\":[\"uuid\",\"U4\"]}]"
    ∷ [])
unfolding shows
a_monitor_that_is_being_cancelled_is_told_of_later_commits_until_it_is_taken = refl

-- A monitor that isn't there can't be cancelled
pub a_monitor_that_isnt_there_cant_be_cancelled : Plays net (
    codes "> A monitor_cancel 4 [\"m\"]"
    ∷ codes "< A error 4 unknown monitor"
    ∷ [])
unfolding shows
a_monitor_that_isnt_there_cant_be_cancelled = refl

-- A new monitor of the same id begins while the old one is cancelled
pub a_new_monitor_of_the_same_id_begins_while_the_old_one_is_cancelled : Plays net (
    codes "> B transact 1 {\"op\":\"insert\",\"table\":\"Bridge\",\"row\":{\"name\":\"b\"}}"
    ∷ codes "< B reply 1 [{\"uuid\":[\"uuid\",\"U1\"]}]"
    ∷ codes "> A monitor_cond 1 [\"net\",\"m\",{\"Bridge\":{\"columns\":[\"name\"]}}]"
    ∷ codes "< A reply 1 {\"Bridge\":{\"U1\":{\"initial\":{\"name\":\"b\"}}}}"
    ∷ codes "> !hold A"
    ∷ codes "> B transact 2 {\"op\":\"insert\",\"table\":\"Bridge\",\"row\":{\"name\":\"c\"}}"
    ∷ codes "< B reply 2 [{\"uuid\":[\"uuid\",\"U2\"]}]"
    ∷ codes "> A monitor_cancel 2 [\"m\"]"
    ∷ codes "> A monitor_cond 3 [\"net\",\"m\",{\"Bridge\":{\"columns\":[\"name\"]}}]"
    ∷ codes "> B transact 3 {\"op\":\"insert\",\"table\":\"Bridge\",\"row\":{\"name\":\"d\"}}"
    ∷ codes "< B reply 3 [{\"uuid\":[\"uuid\",\"U3\"]}]"
    ∷ codes "> !take A"
    ∷ codes "< A update2 [\"m\",{\"Bridge\":{\"U2\":{\"insert\":{\"name\":\"c\"}},\"U3\":{\"insert\":{\"name\":\"d\"}}}}]"
    ∷ codes "< A reply 2 {}"
    ∷ codes "< A reply 3 {\"Bridge\":{\"U1\":{\"initial\":{\"name\":\"b\"}},\"U2\":{\"initial\":{\"name\":\"c\"}},\"U3\":{\"initial\":{\"name\":\"d\"}}}}"
    ∷ [])
unfolding shows
a_new_monitor_of_the_same_id_begins_while_the_old_one_is_cancelled = refl

-- A change of conditions without a message leaves no commit to name
pub a_change_of_conditions_without_a_message_leaves_no_commit_to_name : Plays net (
    codes "> B transact 1 {\"op\":\"insert\",\"table\":\"Bridge\",\"row\":{\"name\":\"a\"}}"
    ∷ codes "< B reply 1 [{\"uuid\":[\"uuid\",\"U1\"]}]"
    ∷ codes "> A monitor_cond_since 1 [\"net\",\"m\",{\"Bridge\":[{\"columns\":[\"name\"],\"where\":[[\"name\",\"==\",\"b\"]]}]},\"V0\"]"
    ∷ codes "< A reply 1 [false,\"V1\",{}]"
    ∷ codes "> B transact 2 {\"op\":\"delete\",\"table\":\"Bridge\",\"where\":[]}"
    ∷ codes "< B reply 2 [{\"count\":1}]"
    ∷ codes "> A monitor_cond_change 2 [\"m\",\"m\",{\"Bridge\":[{\"where\":[[\"name\",\"==\",\"a\"]]}]}]"
    ∷ codes "< A reply 2 {}"
    ∷ codes "> C monitor_cond_since 1 [\"net\",\"m\",{\"Bridge\":[{\"columns\":[\"name\"],\"where\":[[\"name\",\"==\",\"a\"]]}]},\"V1\"]"
    ∷ codes "< C reply 1 [true,\"V2\",{\"Bridge\":{\"U1\":{\"delete\":null}}}]"
    ∷ [])
unfolding shows
a_change_of_conditions_without_a_message_leaves_no_commit_to_name = refl

-- A client that names a commit is told what changed since
pub a_client_that_names_a_commit_is_told_what_changed_since : Plays net (
    codes "> B transact 1 {\"op\":\"insert\",\"table\":\"Bridge\",\"row\":{\"name\":\"br0\"}}"
    ∷ codes "< B reply 1 [{\"uuid\":[\"uuid\",\"U1\"]}]"
    ∷ codes "> B transact 2 {\"op\":\"insert\",\"table\":\"Bridge\",\"row\":{\"name\":\"br1\"}}"
    ∷ codes "< B reply 2 [{\"uuid\":[\"uuid\",\"U2\"]}]"
    ∷ codes "> A monitor_cond_since 1 [\"net\",\"m\",{\"Bridge\":[{\"columns\":[\"name\"]}]},\"V1\"]"
    ∷ codes "< A reply 1 [true,\"V2\",{\"Bridge\":{\"U2\":{\"insert\":{\"name\":\"br1\"}}}}]"
    ∷ codes "> B transact 3 {\"op\":\"update\",\"table\":\"Bridge\",\"where\":[[\"name\",\"==\",\"br1\"]],\"row\":{\"name\":\"x\"}}"
    ∷ codes "< A update3 [\"m\",\"V3\",{\"Bridge\":{\"U2\":{\"modify\":{\"name\":\"x\"}}}}]"
    ∷ codes "< B reply 3 [{\"count\":1}]"
    ∷ [])
unfolding shows
a_client_that_names_a_commit_is_told_what_changed_since = refl

-- A client that names the newest commit is told nothing
pub a_client_that_names_the_newest_commit_is_told_nothing : Plays net (
    codes "> B transact 1 {\"op\":\"insert\",\"table\":\"Bridge\",\"row\":{\"name\":\"br0\"}}"
    ∷ codes "< B reply 1 [{\"uuid\":[\"uuid\",\"U1\"]}]"
    ∷ codes "> B transact 2 {\"op\":\"insert\",\"table\":\"Bridge\",\"row\":{\"name\":\"br1\"}}"
    ∷ codes "< B reply 2 [{\"uuid\":[\"uuid\",\"U2\"]}]"
    ∷ codes "> A monitor_cond_since 1 [\"net\",\"m\",{\"Bridge\":[{\"columns\":[\"name\"]}]},\"V2\"]"
    ∷ codes "< A reply 1 [true,\"V2\",{}]"
    ∷ codes "> B transact 3 {\"op\":\"update\",\"table\":\"Bridge\",\"where\":[[\"name\",\"==\",\"br1\"]],\"row\":{\"name\":\"x\"}}"
    ∷ codes "< A update3 [\"m\",\"V3\",{\"Bridge\":{\"U2\":{\"modify\":{\"name\":\"x\"}}}}]"
    ∷ codes "< B reply 3 [{\"count\":1}]"
    ∷ [])
unfolding shows
a_client_that_names_the_newest_commit_is_told_nothing = refl

-- A commit is looked for when the reply is taken
pub a_commit_is_looked_for_when_the_reply_is_taken : Plays net (
    codes "> B transact 1 {\"op\":\"insert\",\"table\":\"Bridge\",\"row\":{\"name\":\"a\"}}"
    ∷ codes "< B reply 1 [{\"uuid\":[\"uuid\",\"U1\"]}]"
    ∷ codes "> !hold A"
    ∷ codes "> A monitor_cond_since 1 [\"net\",\"m\",{\"Bridge\":[{\"columns\":[\"name\"]}]},\"V2\"]"
    ∷ codes "> B transact 2 {\"op\":\"insert\",\"table\":\"Bridge\",\"row\":{\"name\":\"b\"}}"
    ∷ codes "< B reply 2 [{\"uuid\":[\"uuid\",\"U2\"]}]"
    ∷ codes "> B transact 3 {\"op\":\"insert\",\"table\":\"Bridge\",\"row\":{\"name\":\"c\"}}"
    ∷ codes "< B reply 3 [{\"uuid\":[\"uuid\",\"U3\"]}]"
    ∷ codes "> !take A"
    ∷ codes "< A reply 1 [true,\"V3\",{\"Bridge\":{\"U3\":{\"insert\":{\"name\":\"c\"}}}}]"
    ∷ codes "> !hold A"
    ∷ codes "> B transact 4 {\"op\":\"delete\",\"table\":\"Bridge\",\"where\":[[\"name\",\"==\",\"a\"]]}"
    ∷ codes "< B reply 4 [{\"count\":1}]"
    ∷ codes "> B transact 5 {\"op\":\"delete\",\"table\":\"Bridge\",\"where\":[[\"name\",\"==\",\"b\"]]}"
    ∷ codes "< B reply 5 [{\"count\":1}]"
    ∷ codes "> !take A"
    ∷ codes "< A update3 [\"m\",\"V5\",{\"Bridge\":{\"U1\":{\"delete\":null},\"U2\":{\"delete\":null}}}]"
    ∷ [])
unfolding shows
a_commit_is_looked_for_when_the_reply_is_taken = refl

-- A commit of another run isn't found
pub a_commit_of_another_run_isnt_found : Plays net (
    codes "> B transact 1 {\"op\":\"insert\",\"table\":\"Bridge\",\"row\":{\"name\":\"br0\"}}"
    ∷ codes "< B reply 1 [{\"uuid\":[\"uuid\",\"U1\"]}]"
    ∷ codes "> A monitor_cond_since 1 [\"net\",\"a\",{\"Bridge\":[{\"columns\":[\"name\"]}]},\"00000000-0000-0001-0000-000000000001\"]"
    ∷ codes "< A reply 1 [false,\"V1\",{\"Bridge\":{\"U1\":{\"initial\":{\"name\":\"br0\"}}}}]"
    ∷ codes "> A monitor_cond_since 2 [\"net\",\"b\",{\"Bridge\":[{\"columns\":[\"name\"]}]},\"80000000-0000-0000-0000-000000000001\"]"
    ∷ codes "< A reply 2 [false,\"V1\",{\"Bridge\":{\"U1\":{\"initial\":{\"name\":\"br0\"}}}}]"
    ∷ codes "> A monitor_cond_since 3 [\"net\",\"c\",{\"Bridge\":[{\"columns\":[\"name\"]}]},\"U1\"]"
    ∷ codes "< A reply 3 [false,\"V1\",{\"Bridge\":{\"U1\":{\"initial\":{\"name\":\"br0\"}}}}]"
    ∷ codes "> A monitor_cond_since 4 [\"net\",\"d\",{\"Bridge\":[{\"columns\":[\"name\"]}]},\"V1\"]"
    ∷ codes "< A reply 4 [true,\"V1\",{}]"
    ∷ [])
unfolding shows
a_commit_of_another_run_isnt_found = refl

-- A commit that is yet to come isn't found
pub a_commit_that_is_yet_to_come_isnt_found : Plays net (
    codes "> A monitor_cond_since 1 [\"net\",\"a\",{\"Bridge\":[{\"columns\":[\"name\"]}]},\"V1\"]"
    ∷ codes "< A reply 1 [false,\"V0\",{}]"
    ∷ codes "> B transact 1 {\"op\":\"insert\",\"table\":\"Bridge\",\"row\":{\"name\":\"br0\"}}"
    ∷ codes "< A update3 [\"a\",\"V1\",{\"Bridge\":{\"U1\":{\"insert\":{\"name\":\"br0\"}}}}]"
    ∷ codes "< B reply 1 [{\"uuid\":[\"uuid\",\"U1\"]}]"
    ∷ codes "> A monitor_cond_since 2 [\"net\",\"b\",{\"Bridge\":[{\"columns\":[\"name\"]}]},\"V2\"]"
    ∷ codes "< A reply 2 [false,\"V1\",{\"Bridge\":{\"U1\":{\"initial\":{\"name\":\"br0\"}}}}]"
    ∷ codes "> A monitor_cond_since 3 [\"net\",\"c\",{\"Bridge\":[{\"columns\":[\"name\"]}]},\"00000000-0000-0000-8000-000000000001\"]"
    ∷ codes "< A reply 3 [false,\"V1\",{\"Bridge\":{\"U1\":{\"initial\":{\"name\":\"br0\"}}}}]"
    ∷ [])
unfolding shows
a_commit_that_is_yet_to_come_isnt_found = refl

-- A condition is changed and the monitor cancelled after a client came back
pub a_condition_is_changed_and_the_monitor_cancelled_after_a_client_came_back : Plays net (
    codes "> B transact 1 {\"op\":\"insert\",\"table\":\"Bridge\",\"row\":{\"name\":\"a\"}}"
    ∷ codes "< B reply 1 [{\"uuid\":[\"uuid\",\"U1\"]}]"
    ∷ codes "> B transact 2 {\"op\":\"insert\",\"table\":\"Bridge\",\"row\":{\"name\":\"b\"}}"
    ∷ codes "< B reply 2 [{\"uuid\":[\"uuid\",\"U2\"]}]"
    ∷ codes "> A monitor_cond_since 1 [\"net\",\"m\",{\"Bridge\":[{\"columns\":[\"name\"],\"where\":[[\"name\",\"==\",\"a\"]]}]},\"V1\"]"
    ∷ codes "< A reply 1 [true,\"V2\",{}]"
    ∷ codes "> A monitor_cond_change 2 [\"m\",\"n\",{\"Bridge\":[{\"where\":[[\"name\",\"==\",\"b\"]]}]}]"
    ∷ codes "< A update3 [\"m\",\"V2\",{\"Bridge\":{\"U1\":{\"delete\":null},\"U2\":{\"insert\":{\"name\":\"b\"}}}}]"
    ∷ codes "< A reply 2 {}"
    ∷ codes "> B transact 3 {\"op\":\"update\",\"table\":\"Bridge\",\"where\":[[\"name\",\"==\",\"a\"]],\"row\":{\"name\":\"c\"}}"
    ∷ codes "< B reply 3 [{\"count\":1}]"
    ∷ codes "> B transact 4 {\"op\":\"delete\",\"table\":\"Bridge\",\"where\":[[\"name\",\"==\",\"b\"]]}"
    ∷ codes "< A update3 [\"n\",\"V4\",{\"Bridge\":{\"U2\":{\"delete\":null}}}]"
    ∷ codes "< B reply 4 [{\"count\":1}]"
    ∷ codes "> A monitor_cond_change 3 [\"n\",\"n\",{}]"
    ∷ codes "< A reply 3 {}"
    ∷ codes "> !hold A"
    ∷ codes "> A monitor_cancel 4 [\"n\"]"
    ∷ codes "> B transact 5 {\"op\":\"insert\",\"table\":\"Bridge\",\"row\":{\"name\":\"b\"}}"
    ∷ codes "< B reply 5 [{\"uuid\":[\"uuid\",\"U3\"]}]"
    ∷ codes "> !take A"
    ∷ codes "< A update3 [\"n\",\"V5\",{\"Bridge\":{\"U3\":{\"insert\":{\"name\":\"b\"}}}}]"
    ∷ codes "< A reply 4 {}"
    ∷ codes "> B transact 6 {\"op\":\"delete\",\"table\":\"Bridge\",\"where\":[[\"name\",\"==\",\"b\"]]}"
    ∷ codes "< B reply 6 [{\"count\":1}]"
    ∷ codes "> A monitor_cancel 5 [\"n\"]"
    ∷ codes "< A error 5 unknown monitor"
    ∷ [])
unfolding shows
a_condition_is_changed_and_the_monitor_cancelled_after_a_client_came_back = refl

-- Before there is a commit, the number is 0
pub before_there_is_a_commit_the_number_is_0 : Plays net (
    codes "> A monitor_cond_since 1 [\"net\",\"m\",{\"Bridge\":[{\"columns\":[\"name\"]}]},\"V0\"]"
    ∷ codes "< A reply 1 [false,\"V0\",{}]"
    ∷ codes "> A monitor_cond_since 2 [\"net\",\"n\",{},\"V0\"]"
    ∷ codes "< A reply 2 [false,\"V0\",{}]"
    ∷ codes "> B transact 1 {\"op\":\"insert\",\"table\":\"Bridge\",\"row\":{\"name\":\"br0\"}}"
    ∷ codes "< A update3 [\"m\",\"V1\",{\"Bridge\":{\"U1\":{\"insert\":{\"name\":\"br0\"}}}}]"
    ∷ codes "< B reply 1 [{\"uuid\":[\"uuid\",\"U1\"]}]"
    ∷ [])
unfolding shows
before_there_is_a_commit_the_number_is_0 = refl

-- Kinds that are switched off aren't told since a commit
pub kinds_that_are_switched_off_arent_told_since_a_commit : Plays net (
    codes "> B transact 1 {\"op\":\"insert\",\"table\":\"Bridge\",\"row\":{\"name\":\"a\"}},{\"op\":\"insert\",\"table\":\"Bridge\",\"row\":{\"name\":\"b\"}}"
    ∷ codes "< B reply 1 [{\"uuid\":[\"uuid\",\"U1\"]},{\"uuid\":[\"uuid\",\"U2\"]}]"
    ∷ codes "> B transact 2 {\"op\":\"update\",\"table\":\"Bridge\",\"where\":[[\"name\",\"==\",\"a\"]],\"row\":{\"name\":\"x\"}},{\"op\":\"delete\",\"table\":\"Bridge\",\"where\":[[\"name\",\"==\",\"b\"]]},{\"op\":\"insert\",\"table\":\"Bridge\",\"row\":{\"name\":\"c\"}}"
    ∷ codes "< B reply 2 [{\"count\":1},{\"count\":1},{\"uuid\":[\"uuid\",\"U3\"]}]"
    ∷ codes "> A monitor_cond_since 1 [\"net\",\"initial\",{\"Bridge\":[{\"columns\":[\"name\"],\"select\":{\"initial\":false}}]},\"V1\"]"
    ∷ codes "< A reply 1 [true,\"V2\",{\"Bridge\":{\"U1\":{\"modify\":{\"name\":\"x\"}},\"U2\":{\"delete\":null},\"U3\":{\"insert\":{\"name\":\"c\"}}}}]"
    ∷ codes "> A monitor_cond_since 2 [\"net\",\"insert\",{\"Bridge\":[{\"columns\":[\"name\"],\"select\":{\"insert\":false}}]},\"V1\"]"
    ∷ codes "< A reply 2 [true,\"V2\",{\"Bridge\":{\"U1\":{\"modify\":{\"name\":\"x\"}},\"U2\":{\"delete\":null}}}]"
    ∷ codes "> A monitor_cond_since 3 [\"net\",\"delete\",{\"Bridge\":[{\"columns\":[\"name\"],\"select\":{\"delete\":false}}]},\"V1\"]"
    ∷ codes "< A reply 3 [true,\"V2\",{\"Bridge\":{\"U1\":{\"modify\":{\"name\":\"x\"}},\"U3\":{\"insert\":{\"name\":\"c\"}}}}]"
    ∷ codes "> A monitor_cond_since 4 [\"net\",\"modify\",{\"Bridge\":[{\"columns\":[\"name\"],\"select\":{\"modify\":false}}]},\"V1\"]"
    ∷ codes "< A reply 4 [true,\"V2\",{\"Bridge\":{\"U2\":{\"delete\":null},\"U3\":{\"insert\":{\"name\":\"c\"}}}}]"
    ∷ codes "> A monitor_cond_since 5 [\"net\",\"none\",{\"Bridge\":[{\"columns\":[\"name\"],\"select\":{\"insert\":false,\"delete\":false,\"modify\":false}}]},\"V1\"]"
    ∷ codes "< A reply 5 [true,\"V2\",{}]"
    ∷ codes "> A monitor_cond_since 6 [\"net\",\"zero\",{\"Bridge\":[{\"columns\":[\"name\"],\"select\":{\"initial\":false}}]},\"V0\"]"
    ∷ codes "< A reply 6 [false,\"V2\",{}]"
    ∷ [])
unfolding shows
kinds_that_are_switched_off_arent_told_since_a_commit = refl

-- Rows that went and came back aren't told
pub rows_that_went_and_came_back_arent_told : Plays net (
    codes "> B transact 1 {\"op\":\"insert\",\"table\":\"Bridge\",\"row\":{\"name\":\"br0\"},\"uuid\":\"a0000000-0000-4000-8000-000000000001\"}"
    ∷ codes "< B reply 1 [{\"uuid\":[\"uuid\",\"a0000000-0000-4000-8000-000000000001\"]}]"
    ∷ codes "> B transact 2 {\"op\":\"update\",\"table\":\"Bridge\",\"where\":[],\"row\":{\"name\":\"x\"}}"
    ∷ codes "< B reply 2 [{\"count\":1}]"
    ∷ codes "> B transact 3 {\"op\":\"delete\",\"table\":\"Bridge\",\"where\":[]}"
    ∷ codes "< B reply 3 [{\"count\":1}]"
    ∷ codes "> B transact 4 {\"op\":\"insert\",\"table\":\"Bridge\",\"row\":{\"name\":\"short\"}}"
    ∷ codes "< B reply 4 [{\"uuid\":[\"uuid\",\"U2\"]}]"
    ∷ codes "> B transact 5 {\"op\":\"delete\",\"table\":\"Bridge\",\"where\":[]}"
    ∷ codes "< B reply 5 [{\"count\":1}]"
    ∷ codes "> B transact 6 {\"op\":\"insert\",\"table\":\"Bridge\",\"row\":{\"name\":\"br0\"},\"uuid\":\"a0000000-0000-4000-8000-000000000001\"}"
    ∷ codes "< B reply 6 [{\"uuid\":[\"uuid\",\"a0000000-0000-4000-8000-000000000001\"]}]"
    ∷ codes "> A monitor_cond_since 1 [\"net\",\"m\",{\"Bridge\":[{\"columns\":[\"name\"]}]},\"V1\"]"
    ∷ codes "< A reply 1 [true,\"V6\",{}]"
    ∷ codes "> A monitor_cond_since 2 [\"net\",\"n\",{\"Bridge\":[{\"columns\":[\"name\"]}]},\"V2\"]"
    ∷ codes "< A reply 2 [true,\"V6\",{\"Bridge\":{\"a0000000-0000-4000-8000-000000000001\":{\"modify\":{\"name\":\"br0\"}}}}]"
    ∷ codes "> A monitor_cond_since 3 [\"net\",\"o\",{\"Bridge\":[{\"columns\":[\"name\"]}]},\"V4\"]"
    ∷ codes "< A reply 3 [true,\"V6\",{\"Bridge\":{\"U2\":{\"delete\":null},\"a0000000-0000-4000-8000-000000000001\":{\"insert\":{\"name\":\"br0\"}}}}]"
    ∷ codes "> A monitor_cond_since 4 [\"net\",\"p\",{\"Bridge\":[{\"columns\":[\"_version\"]}]},\"V1\"]"
    ∷ codes "< A reply 4 [true,\"V6\",{\"Bridge\":{\"a0000000-0000-4000-8000-000000000001\":{\"modify\":{\"_version\":[\"uuid\",\"V6\"]}}}}]"
    ∷ [])
unfolding shows
rows_that_went_and_came_back_arent_told = refl

-- Several commits are told as one difference
pub several_commits_are_told_as_one_difference : Plays net (
    codes "> B transact 1 {\"op\":\"insert\",\"table\":\"Bridge\",\"row\":{\"name\":\"br0\",\"ports\":[\"set\",[[\"named-uuid\",\"p\"],[\"named-uuid\",\"q\"]]]}},{\"op\":\"insert\",\"table\":\"Port\",\"row\":{\"name\":\"p\",\"tag\":1,\"opts\":[\"map\",[[\"a\",\"1\"],[\"b\",\"2\"]]]},\"uuid-name\":\"p\"},{\"op\":\"insert\",\"table\":\"Port\",\"row\":{\"name\":\"q\"},\"uuid-name\":\"q\"}"
    ∷ codes "< B reply 1 [{\"uuid\":[\"uuid\",\"U1\"]},{\"uuid\":[\"uuid\",\"U2\"]},{\"uuid\":[\"uuid\",\"U3\"]}]"
    ∷ codes "> B transact 2 {\"op\":\"mutate\",\"table\":\"Port\",\"where\":[[\"name\",\"==\",\"p\"]],\"mutations\":[[\"tag\",\"+=\",1],[\"opts\",\"delete\",[\"set\",[\"a\"]]]]}"
    ∷ codes "< B reply 2 [{\"count\":1}]"
    ∷ codes "> B transact 3 {\"op\":\"mutate\",\"table\":\"Port\",\"where\":[[\"name\",\"==\",\"p\"]],\"mutations\":[[\"tag\",\"+=\",1],[\"opts\",\"insert\",[\"map\",[[\"c\",\"3\"]]]]]}"
    ∷ codes "< B reply 3 [{\"count\":1}]"
    ∷ codes "> B transact 4 {\"op\":\"mutate\",\"table\":\"Bridge\",\"where\":[],\"mutations\":[[\"ports\",\"delete\",[\"set\",[[\"uuid\",\"U3\"]]]]]},{\"op\":\"insert\",\"table\":\"Bridge\",\"row\":{\"name\":\"br1\"}}"
    ∷ codes "< B reply 4 [{\"count\":1},{\"uuid\":[\"uuid\",\"U4\"]}]"
    ∷ codes "> A monitor_cond_since 1 [\"net\",\"m\",{\"Bridge\":{\"columns\":[\"name\",\"ports\"]},\"Port\":{\"columns\":[\"name\",\"tag\",\"opts\"]}},\"V1\"]"
    ∷ codes "< A reply 1 [true,\"V4\",{\"Bridge\":{\"U1\":{\"modify\":{\"ports\":[\"uuid\",\"U3\"]}},\"U4\":{\"insert\":{\"name\":\"br1\"}}},\"Port\":{\"U2\":{\"modify\":{\"opts\":[\"map\",[[\"a\",\"1\"],[\"c\",\"3\"]]],\"tag\":3}},\"U3\":{\"delete\":null}}}]"
    ∷ [])
unfolding shows
several_commits_are_told_as_one_difference = refl

-- The requests are tested as those of monitor_cond
pub the_requests_are_tested_as_those_of_monitor_cond : Plays net (
    codes "> A monitor 1 [\"net\",\"m\",{}]"
    ∷ codes "< A reply 1 {}"
    ∷ codes "> A monitor_cond_since 2 [\"net\",\"m\",{\"Nope\":1},\"V0\"]"
    ∷ codes "< A error 2 syntax error"
    ∷ codes "> A monitor_cond_since 3 [\"net\",\"n\",{\"Bridge\":{\"columns\":[\"zzz\"]},\"Nope\":1},\"V0\"]"
    ∷ codes "< A error 3 unknown column"
    ∷ codes "> A monitor_cond_since 4 [\"net\",\"n\",{\"Bridge\":[],\"Nope\":1},\"V0\"]"
    ∷ codes "< A error 4 syntax error"
    ∷ codes "> A monitor_cond_since 5 [\"net\",\"n\",{\"Nope\":1},\"V0\"]"
    ∷ codes "< A error 5 unknown table"
    ∷ codes "> A monitor_cond_since 6 [\"net\",\"n\",{\"Bridge\":[{\"where\":[[\"name\",\"==\",[\"named-uuid\",\"x\"]]]}]},\"V0\"]"
    ∷ codes "< A error 6 syntax error"
    ∷ codes "> A monitor_cond_since 7 [\"net\",\"n\",{\"Bridge\":[{\"where\":[true]}]},\"V0\"]"
    ∷ codes "< A reply 7 [false,\"V0\",{}]"
    ∷ codes "> A monitor_cond_since 8 [\"net\",\"n\",{},\"V0\"]"
    ∷ codes "< A error 8 syntax error"
    ∷ codes "> A monitor_cond 9 [\"net\",\"n\",{}]"
    ∷ codes "< A error 9 syntax error"
    ∷ [])
unfolding shows
the_requests_are_tested_as_those_of_monitor_cond = refl

-- The zero identifier names no commit
pub the_zero_identifier_names_no_commit : Plays net (
    codes "> B transact 1 {\"op\":\"insert\",\"table\":\"Bridge\",\"row\":{\"name\":\"br0\"}}"
    ∷ codes "< B reply 1 [{\"uuid\":[\"uuid\",\"U1\"]}]"
    ∷ codes "> B transact 2 {\"op\":\"insert\",\"table\":\"Bridge\",\"row\":{\"name\":\"br1\"}}"
    ∷ codes "< B reply 2 [{\"uuid\":[\"uuid\",\"U2\"]}]"
    ∷ codes "> A monitor_cond_since 1 [\"net\",\"m\",{\"Bridge\":[{\"columns\":[\"name\"]}]},\"V0\"]"
    ∷ codes "< A reply 1 [false,\"V2\",{\"Bridge\":{\"U1\":{\"initial\":{\"name\":\"br0\"}},\"U2\":{\"initial\":{\"name\":\"br1\"}}}}]"
    ∷ codes "> B transact 3 {\"op\":\"update\",\"table\":\"Bridge\",\"where\":[[\"name\",\"==\",\"br1\"]],\"row\":{\"name\":\"x\"}}"
    ∷ codes "< A update3 [\"m\",\"V3\",{\"Bridge\":{\"U2\":{\"modify\":{\"name\":\"x\"}}}}]"
    ∷ codes "< B reply 3 [{\"count\":1}]"
    ∷ [])
unfolding shows
the_zero_identifier_names_no_commit = refl

-- Transactions that make no commit have no number
pub transactions_that_make_no_commit_have_no_number : Plays net (
    codes "> B transact 1 {\"op\":\"insert\",\"table\":\"Bridge\",\"row\":{\"name\":\"br0\"}}"
    ∷ codes "< B reply 1 [{\"uuid\":[\"uuid\",\"U1\"]}]"
    ∷ codes "> B transact 2 {\"op\":\"update\",\"table\":\"Bridge\",\"where\":[],\"row\":{\"name\":\"x\"}},{\"op\":\"abort\"}"
    ∷ codes "< B reply 2 [{\"count\":1},{\"error\":\"aborted\"}]"
    ∷ codes "> B transact 3 {\"op\":\"insert\",\"table\":\"Bridge\",\"row\":{\"name\":\"br0\"}}"
    ∷ codes "< B reply 3 [{\"uuid\":[\"uuid\",\"U2\"]},{\"error\":\"constraint violation\"}]"
    ∷ codes "> B transact 4 {\"op\":\"update\",\"table\":\"Bridge\",\"where\":[],\"row\":{\"name\":\"br0\"}}"
    ∷ codes "< B reply 4 [{\"count\":1}]"
    ∷ codes "> A monitor_cond_since 1 [\"net\",\"m\",{\"Bridge\":[{\"columns\":[\"name\"]}]},\"V1\"]"
    ∷ codes "< A reply 1 [true,\"V1\",{}]"
    ∷ codes "> B transact 5 {\"op\":\"insert\",\"table\":\"Bridge\",\"row\":{\"name\":\"br1\"}}"
    ∷ codes "< A update3 [\"m\",\"V2\",{\"Bridge\":{\"U3\":{\"insert\":{\"name\":\"br1\"}}}}]"
    ∷ codes "< B reply 5 [{\"uuid\":[\"uuid\",\"U3\"]}]"
    ∷ codes "> C monitor_cond_since 1 [\"net\",\"m\",{\"Bridge\":[{\"columns\":[\"name\"]}]},\"V1\"]"
    ∷ codes "< C reply 1 [true,\"V2\",{\"Bridge\":{\"U3\":{\"insert\":{\"name\":\"br1\"}}}}]"
    ∷ [])
unfolding shows
transactions_that_make_no_commit_have_no_number = refl

-- What changed since a commit is told under the filters of the request
pub what_changed_since_a_commit_is_told_under_the_filters_of_the_request : Plays net (
    codes "> B transact 1 {\"op\":\"insert\",\"table\":\"Bridge\",\"row\":{\"name\":\"b\",\"ports\":[\"set\",[[\"named-uuid\",\"p\"],[\"named-uuid\",\"q\"],[\"named-uuid\",\"r\"],[\"named-uuid\",\"s\"]]]}},{\"op\":\"insert\",\"table\":\"Port\",\"row\":{\"name\":\"p\",\"tag\":1},\"uuid-name\":\"p\"},{\"op\":\"insert\",\"table\":\"Port\",\"row\":{\"name\":\"q\",\"tag\":2},\"uuid-name\":\"q\"},{\"op\":\"insert\",\"table\":\"Port\",\"row\":{\"name\":\"r\",\"tag\":1},\"uuid-name\":\"r\"},{\"op\":\"insert\",\"table\":\"Port\",\"row\":{\"name\":\"s\"},\"uuid-name\":\"s\"}"
    ∷ codes "< B reply 1 [{\"uuid\":[\"uuid\",\"U1\"]},{\"uuid\":[\"uuid\",\"U2\"]},{\"uuid\":[\"uuid\",\"U3\"]},{\"uuid\":[\"uuid\",\"U4\"]},{\"uuid\":[\"uuid\",\"U5\"]}]"
    ∷ codes "> B transact 2 {\"op\":\"update\",\"table\":\"Port\",\"where\":[[\"name\",\"==\",\"p\"]],\"row\":{\"tag\":2}},{\"op\":\"update\",\"table\":\"Port\",\"where\":[[\"name\",\"==\",\"q\"]],\"row\":{\"tag\":1}},{\"op\":\"update\",\"table\":\"Port\",\"where\":[[\"name\",\"==\",\"r\"]],\"row\":{\"name\":\"t\"}},{\"op\":\"update\",\"table\":\"Port\",\"where\":[[\"name\",\"==\",\"s\"]],\"row\":{\"name\":\"u\"}}"
    ∷ codes "< B reply 2 [{\"count\":1},{\"count\":1},{\"count\":1},{\"count\":1}]"
    ∷ codes "> A monitor_cond_since 1 [\"net\",\"m\",{\"Port\":[{\"columns\":[\"name\"],\"where\":[[\"tag\",\"==\",1]]}]},\"V1\"]"
    ∷ codes "< A reply 1 [true,\"V2\",{\"Port\":{\"U2\":{\"delete\":null},\"U3\":{\"insert\":{\"name\":\"q\"}},\"U4\":{\"modify\":{\"name\":\"t\"}}}}]"
    ∷ codes "> A monitor_cond_since 2 [\"net\",\"n\",{\"Port\":[{\"columns\":[\"name\"],\"where\":[false]}]},\"V1\"]"
    ∷ codes "< A reply 2 [true,\"V2\",{}]"
    ∷ codes "> B transact 3 {\"op\":\"update\",\"table\":\"Port\",\"where\":[[\"name\",\"==\",\"u\"]],\"row\":{\"tag\":1}}"
    ∷ codes "< A update3 [\"m\",\"V3\",{\"Port\":{\"U5\":{\"insert\":{\"name\":\"u\"}}}}]"
    ∷ codes "< B reply 3 [{\"count\":1}]"
    ∷ [])
unfolding shows
what_changed_since_a_commit_is_told_under_the_filters_of_the_request = refl

-- What names a commit is a text of 36 characters
pub what_names_a_commit_is_a_text_of_36_characters : Plays net (
    codes "> A monitor_cond_since 1 [\"net\",\"m\",{},0]"
    ∷ codes "< A error 1 syntax error"
    ∷ codes "> A monitor_cond_since 2 [\"net\",\"m\",{},null]"
    ∷ codes "< A error 2 syntax error"
    ∷ codes "> A monitor_cond_since 3 [\"net\",\"m\",{},[\"uuid\",\"V0\"]]"
    ∷ codes "< A error 3 syntax error"
    ∷ codes "> A monitor_cond_since 4 [\"net\",\"m\",{},\"\"]"
    ∷ codes "< A error 4 syntax error"
    ∷ codes "> A monitor_cond_since 5 [\"net\",\"m\",{},\"00000000-0000-0000-0000-00000000000\"]"
    ∷ codes "< A error 5 syntax error"
    ∷ codes "> A monitor_cond_since 6 [\"net\",\"m\",{},\"00000000-0000-0000-0000-0000000000000\"]"
    ∷ codes "< A error 6 syntax error"
    ∷ codes "> A monitor_cond_since 7 [\"net\",\"m\",{},\"00000000-0000-0000-0000-00000000000g\"]"
    ∷ codes "< A error 7 syntax error"
    ∷ codes "> A monitor_cond_since 8 [\"net\",\"m\",{},\"000000000000-0000-0000-000000000000\"]"
    ∷ codes "< A error 8 syntax error"
    ∷ codes "> A monitor_cond_since 9 [\"net\",\"m\",{}]"
    ∷ codes "< A error 9 syntax error"
    ∷ codes "> A monitor_cond_since 10 [\"net\",\"m\",{},\"V0\",1]"
    ∷ codes "< A error 10 syntax error"
    ∷ codes "> A monitor_cond_since 11 [\"net\",\"m\",[],\"V0\"]"
    ∷ codes "< A error 11 syntax error"
    ∷ codes "> A monitor_cond_since 12 [1,\"m\",{},\"V0\"]"
    ∷ codes "< A error 12 syntax error"
    ∷ codes "> A monitor_cond_since 13 [\"x\",\"m\",{},0]"
    ∷ codes "< A error 13 syntax error"
    ∷ codes "> A monitor_cond_since 14 [\"x\",\"m\",{\"Nope\":1},\"V0\"]"
    ∷ codes "< A error 14 unknown database"
    ∷ codes "> A monitor_cond_since 15 [\"_Server\",\"m\",{},\"V0\"]"
    ∷ codes "< A error 15 unknown database"
    ∷ codes "> A monitor_cond_since 16 [\"net\",\"m\",{},\"FFFFFFFF-FFFF-FFFF-FFFF-FFFFFFFFFFFF\"]"
    ∷ codes "< A reply 16 [false,\"V0\",{}]"
    ∷ [])
unfolding shows
what_names_a_commit_is_a_text_of_36_characters = refl
