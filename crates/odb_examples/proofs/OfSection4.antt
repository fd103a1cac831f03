-- Transcripts of section 4 of docs/PROTOCOL.md. Made by `tests/examples` from transcripts/: no hand writes here.
use Rattle.std.specs.Prelude.{◌∷◌, [], codes, refl}
use Rattle.odb_examples.proofs.TestSchemas.{choices, cnt, net, operations, vsw}
use Rattle.odb_examples.proofs.Transcripts.{Plays, shows}

-- Columns that nobody writes
pub columns_that_nobody_writes : Plays net (
    codes "> A transact 1 {\"op\":\"insert\",\"table\":\"Bridge\",\"row\":{\"name\":\"b\",\"_uuid\":[\"uuid\",\"00000000-0000-4000-8000-00000000000a\"]}}"
    ∷ codes "< A reply 1 [{\"error\":\"constraint violation\"}]"
    ∷ codes "> A transact 2 {\"op\":\"insert\",\"table\":\"Bridge\",\"row\":{\"name\":\"b\",\"_version\":[\"uuid\",\"00000000-0000-4000-8000-00000000000a\"]}}"
    ∷ codes "< A reply 2 [{\"error\":\"constraint violation\"}]"
    ∷ codes "> A transact 3 {\"op\":\"update\",\"table\":\"Bridge\",\"where\":[],\"row\":{\"_uuid\":[\"uuid\",\"00000000-0000-4000-8000-00000000000a\"]}}"
    ∷ codes "< A reply 3 [{\"error\":\"constraint violation\"}]"
    ∷ codes "> A transact 4 {\"op\":\"update\",\"table\":\"Bridge\",\"where\":[],\"row\":{\"_version\":[\"uuid\",\"00000000-0000-4000-8000-00000000000a\"]}}"
    ∷ codes "< A reply 4 [{\"error\":\"constraint violation\"}]"
    ∷ codes "> A transact 5 {\"op\":\"mutate\",\"table\":\"Bridge\",\"where\":[],\"mutations\":[[\"_uuid\",\"insert\",[\"uuid\",\"00000000-0000-4000-8000-00000000000a\"]]]}"
    ∷ codes "< A reply 5 [{\"error\":\"constraint violation\"}]"
    ∷ [])
unfolding shows
columns_that_nobody_writes = refl

-- Columns that update and mutate may not write
pub columns_that_update_and_mutate_may_not_write : Plays operations (
    codes "> A transact 1 {\"op\":\"update\",\"table\":\"A\",\"where\":[],\"row\":{\"k\":1}}"
    ∷ codes "< A reply 1 [{\"error\":\"constraint violation\"}]"
    ∷ codes "> A transact 2 {\"op\":\"update\",\"table\":\"A\",\"where\":[],\"row\":{\"k\":\"a\"}}"
    ∷ codes "< A reply 2 [{\"error\":\"constraint violation\"}]"
    ∷ codes "> A transact 3 {\"op\":\"update\",\"table\":\"A\",\"where\":[],\"row\":{\"_uuid\":1}}"
    ∷ codes "< A reply 3 [{\"error\":\"constraint violation\"}]"
    ∷ codes "> A transact 4 {\"op\":\"update\",\"table\":\"A\",\"where\":[],\"row\":{\"_version\":[\"uuid\",\"V0\"]}}"
    ∷ codes "< A reply 4 [{\"error\":\"constraint violation\"}]"
    ∷ codes "> A transact 5 {\"op\":\"update\",\"table\":\"A\",\"where\":[],\"row\":{\"_uuid2\":1}}"
    ∷ codes "< A reply 5 [{\"error\":\"unknown column\"}]"
    ∷ codes "> A transact 6 {\"op\":\"update\",\"table\":\"A\",\"where\":[],\"row\":{\"i\":\"a\",\"k\":1}}"
    ∷ codes "< A reply 6 [{\"error\":\"syntax error\"}]"
    ∷ codes "> A transact 7 {\"op\":\"update\",\"table\":\"A\",\"where\":[],\"row\":{\"b\":true,\"k\":1,\"zz\":1}}"
    ∷ codes "< A reply 7 [{\"error\":\"constraint violation\"}]"
    ∷ codes "> A transact 8 {\"op\":\"mutate\",\"table\":\"A\",\"where\":[],\"mutations\":[[\"k\",\"~\",1]]}"
    ∷ codes "< A reply 8 [{\"error\":\"constraint violation\"}]"
    ∷ codes "> A transact 9 {\"op\":\"mutate\",\"table\":\"A\",\"where\":[],\"mutations\":[[\"_uuid\",\"insert\",[\"uuid\",\"V0\"]]]}"
    ∷ codes "< A reply 9 [{\"error\":\"constraint violation\"}]"
    ∷ codes "> A transact 10 {\"op\":\"mutate\",\"table\":\"A\",\"where\":[],\"mutations\":[[\"_version\",\"=\",1]]}"
    ∷ codes "< A reply 10 [{\"error\":\"constraint violation\"}]"
    ∷ codes "> A transact 11 {\"op\":\"mutate\",\"table\":\"A\",\"where\":[],\"mutations\":[[\"zz\",\"+=\",1]]}"
    ∷ codes "< A reply 11 [{\"error\":\"unknown column\"}]"
    ∷ codes "> A transact 12 {\"op\":\"mutate\",\"table\":\"A\",\"where\":[],\"mutations\":[[\"i\",\"=\",1]]}"
    ∷ codes "< A reply 12 [{\"error\":\"syntax error\"}]"
    ∷ codes "> A transact 13 {\"op\":\"update\",\"table\":\"A\",\"where\":[],\"row\":{\"i\":5}}"
    ∷ codes "< A reply 13 [{\"count\":0}]"
    ∷ codes "> A transact 14 {\"op\":\"mutate\",\"table\":\"A\",\"where\":[],\"mutations\":[[\"i\",\"/=\",0]]}"
    ∷ codes "< A reply 14 [{\"count\":0}]"
    ∷ codes "> A transact 15 {\"op\":\"mutate\",\"table\":\"A\",\"where\":[],\"mutations\":[[\"s\",\"insert\",[\"set\",[1,2,3,4]]]]}"
    ∷ codes "< A reply 15 [{\"count\":0}]"
    ∷ codes "> A transact 16 {\"op\":\"update\",\"table\":\"A\",\"where\":[]}"
    ∷ codes "< A reply 16 [{\"error\":\"syntax error\"}]"
    ∷ codes "> A transact 17 {\"op\":\"mutate\",\"table\":\"A\",\"where\":[]}"
    ∷ codes "< A reply 17 [{\"error\":\"syntax error\"}]"
    ∷ codes "> A transact 18 {\"op\":\"mutate\",\"table\":\"A\",\"where\":[],\"mutations\":{}}"
    ∷ codes "< A reply 18 [{\"error\":\"syntax error\"}]"
    ∷ [])
unfolding shows
columns_that_update_and_mutate_may_not_write = refl

-- Commits, aborts, comments, asserts and deletes
pub commits_aborts_comments_asserts_and_deletes : Plays operations (
    codes "> A transact 1 {\"op\":\"commit\"}"
    ∷ codes "< A reply 1 [{\"error\":\"syntax error\"}]"
    ∷ codes "> A transact 2 {\"op\":\"commit\",\"durable\":1}"
    ∷ codes "< A reply 2 [{\"error\":\"syntax error\"}]"
    ∷ codes "> A transact 3 {\"op\":\"commit\",\"durable\":true,\"x\":1}"
    ∷ codes "< A reply 3 [{\"error\":\"syntax error\"}]"
    ∷ codes "> A transact 4 {\"op\":\"commit\",\"durable\":true}"
    ∷ codes "< A reply 4 [{\"error\":\"not supported\"}]"
    ∷ codes "> A transact 5 {\"op\":\"commit\",\"durable\":false},{\"op\":\"abort\"},{\"op\":\"zap\"}"
    ∷ codes "< A reply 5 [{},{\"error\":\"aborted\"},null]"
    ∷ codes "> A transact 6 {\"op\":\"abort\",\"x\":1}"
    ∷ codes "< A reply 6 [{\"error\":\"syntax error\"}]"
    ∷ codes "> A transact 7 {\"op\":\"comment\"}"
    ∷ codes "< A reply 7 [{\"error\":\"syntax error\"}]"
    ∷ codes "> A transact 8 {\"op\":\"comment\",\"comment\":5}"
    ∷ codes "< A reply 8 [{\"error\":\"syntax error\"}]"
    ∷ codes "> A transact 9 {\"op\":\"comment\",\"comment\":\"\\u0000\"}"
    ∷ codes "< A reply 9 [{}]"
    ∷ codes "> A transact 10 {\"op\":\"assert\",\"lock\":\"1\"}"
    ∷ codes "< A reply 10 [{\"error\":\"syntax error\"}]"
    ∷ codes "> A transact 11 {\"op\":\"assert\",\"lock\":\"_l\"}"
    ∷ codes "< A reply 11 [{\"error\":\"not owner\"}]"
    ∷ codes "> A transact 12 {\"op\":\"assert\"}"
    ∷ codes "< A reply 12 [{\"error\":\"syntax error\"}]"
    ∷ codes "> A transact 13 {}"
    ∷ codes "< A reply 13 [{\"error\":\"syntax error\"}]"
    ∷ codes "> A transact 14 {\"op\":null}"
    ∷ codes "< A reply 14 [{\"error\":\"syntax error\"}]"
    ∷ codes "> A transact 15 {\"op\":\"Insert\",\"table\":\"Z\"}"
    ∷ codes "< A reply 15 [{\"error\":\"unknown operation\"}]"
    ∷ codes "> A transact 16 {\"op\":\"\",\"q\":1}"
    ∷ codes "< A reply 16 [{\"error\":\"unknown operation\"}]"
    ∷ codes "> A transact 17 {\"op\":\"zap\",\"op\":\"abort\"}"
    ∷ codes "< A reply 17 [{\"error\":\"aborted\"}]"
    ∷ codes "> A transact 18 {\"op\":\"delete\",\"table\":\"Z\",\"where\":[]}"
    ∷ codes "< A reply 18 [{\"error\":\"unknown table\"}]"
    ∷ codes "> A transact 19 {\"op\":\"delete\",\"table\":\"A\",\"where\":[]}"
    ∷ codes "< A reply 19 [{\"count\":0}]"
    ∷ codes "> A transact 20 {\"op\":\"delete\",\"table\":\"A\",\"where\":[],\"row\":{}}"
    ∷ codes "< A reply 20 [{\"error\":\"syntax error\"}]"
    ∷ codes "> A transact 21"
    ∷ codes "< A reply 21 []"
    ∷ [])
unfolding shows
commits_aborts_comments_asserts_and_deletes = refl

-- Inserts with an identifier of their own
pub inserts_with_an_identifier_of_their_own : Plays net (
    codes "> A transact 1 {\"op\":\"insert\",\"table\":\"Bridge\",\"row\":{\"name\":\"a\"},\"uuid\":\"00000000-0000-4000-9000-00000000000a\"}"
    ∷ codes "< A reply 1 [{\"uuid\":[\"uuid\",\"00000000-0000-4000-9000-00000000000a\"]}]"
    ∷ codes "> A transact 2 {\"op\":\"insert\",\"table\":\"Bridge\",\"row\":{\"name\":\"b\"},\"uuid\":[\"uuid\",\"00000000-0000-4000-9000-00000000000b\"]}"
    ∷ codes "< A reply 2 [{\"uuid\":[\"uuid\",\"00000000-0000-4000-9000-00000000000b\"]}]"
    ∷ codes "> A transact 3 {\"op\":\"insert\",\"table\":\"Bridge\",\"row\":{\"name\":\"c\"},\"uuid\":\"00000000-0000-4000-9000-00000000ABCD\"}"
    ∷ codes "< A reply 3 [{\"uuid\":[\"uuid\",\"00000000-0000-4000-9000-00000000abcd\"]}]"
    ∷ codes "> A transact 4 {\"op\":\"insert\",\"table\":\"Bridge\",\"row\":{\"name\":\"d\"},\"uuid\":[\"uuid\",\"FFFFFFFF-FFFF-FFFF-FFFF-FFFFFFFFFFFF\"]}"
    ∷ codes "< A reply 4 [{\"uuid\":[\"uuid\",\"ffffffff-ffff-ffff-ffff-ffffffffffff\"]}]"
    ∷ codes "> A transact 5 {\"op\":\"insert\",\"table\":\"Bridge\",\"row\":{\"name\":\"e\"},\"uuid\":\"00000000-0000-4000-9000-00000000000A\"}"
    ∷ codes "< A reply 5 [{\"error\":\"duplicate uuid\"}]"
    ∷ codes "> A transact 6 {\"op\":\"insert\",\"table\":\"Bridge\",\"row\":{\"name\":\"f\"},\"uuid\":\"V0\"}"
    ∷ codes "< A reply 6 [{\"uuid\":[\"uuid\",\"V0\"]}]"
    ∷ codes "> A transact 7 {\"op\":\"insert\",\"table\":\"Bridge\",\"row\":{\"name\":\"g\"},\"uuid\":\"x\"}"
    ∷ codes "< A reply 7 [{\"error\":\"syntax error\"}]"
    ∷ codes "> A transact 8 {\"op\":\"insert\",\"table\":\"Bridge\",\"row\":{\"name\":\"g\"},\"uuid\":\"\"}"
    ∷ codes "< A reply 8 [{\"error\":\"syntax error\"}]"
    ∷ codes "> A transact 9 {\"op\":\"insert\",\"table\":\"Bridge\",\"row\":{\"name\":\"g\"},\"uuid\":\"00000000-0000-4000-9000-00000000000\"}"
    ∷ codes "< A reply 9 [{\"error\":\"syntax error\"}]"
    ∷ codes "> A transact 10 {\"op\":\"insert\",\"table\":\"Bridge\",\"row\":{\"name\":\"g\"},\"uuid\":\"00000000-0000-4000-9000-0000000000011\"}"
    ∷ codes "< A reply 10 [{\"error\":\"syntax error\"}]"
    ∷ codes "> A transact 11 {\"op\":\"insert\",\"table\":\"Bridge\",\"row\":{\"name\":\"g\"},\"uuid\":\"00000000000040009000000000000007\"}"
    ∷ codes "< A reply 11 [{\"error\":\"syntax error\"}]"
    ∷ codes "> A transact 12 {\"op\":\"insert\",\"table\":\"Bridge\",\"row\":{\"name\":\"g\"},\"uuid\":\"{00000000-0000-4000-9000-000000000007}\"}"
    ∷ codes "< A reply 12 [{\"error\":\"syntax error\"}]"
    ∷ codes "> A transact 13 {\"op\":\"insert\",\"table\":\"Bridge\",\"row\":{\"name\":\"g\"},\"uuid\":\"00000000-0000-4000-9000-00000000000g\"}"
    ∷ codes "< A reply 13 [{\"error\":\"syntax error\"}]"
    ∷ codes "> A transact 14 {\"op\":\"insert\",\"table\":\"Bridge\",\"row\":{\"name\":\"g\"},\"uuid\":5}"
    ∷ codes "< A reply 14 [{\"error\":\"syntax error\"}]"
    ∷ codes "> A transact 15 {\"op\":\"insert\",\"table\":\"Bridge\",\"row\":{\"name\":\"g\"},\"uuid\":null}"
    ∷ codes "< A reply 15 [{\"error\":\"syntax error\"}]"
    ∷ codes "> A transact 16 {\"op\":\"insert\",\"table\":\"Bridge\",\"row\":{\"name\":\"g\"},\"uuid\":true}"
    ∷ codes "< A reply 16 [{\"error\":\"syntax error\"}]"
    ∷ codes "> A transact 17 {\"op\":\"insert\",\"table\":\"Bridge\",\"row\":{\"name\":\"g\"},\"uuid\":[\"uuid\"]}"
    ∷ codes "< A reply 17 [{\"error\":\"syntax error\"}]"
    ∷ codes "> A transact 18 {\"op\":\"insert\",\"table\":\"Bridge\",\"row\":{\"name\":\"g\"},\"uuid\":[\"uuid\",\"x\"]}"
    ∷ codes "< A reply 18 [{\"error\":\"syntax error\"}]"
    ∷ codes "> A transact 19 {\"op\":\"insert\",\"table\":\"Bridge\",\"row\":{\"name\":\"g\"},\"uuid\":[\"uuid\",5]}"
    ∷ codes "< A reply 19 [{\"error\":\"syntax error\"}]"
    ∷ codes "> A transact 20 {\"op\":\"insert\",\"table\":\"Bridge\",\"row\":{\"name\":\"g\"},\"uuid\":[\"named-uuid\",\"a\"]}"
    ∷ codes "< A reply 20 [{\"error\":\"syntax error\"}]"
    ∷ codes "> A transact 21 {\"op\":\"insert\",\"table\":\"Bridge\",\"row\":{\"name\":\"g\"},\"uuid\":[\"set\",[[\"uuid\",\"00000000-0000-4000-9000-000000000007\"]]]}"
    ∷ codes "< A reply 21 [{\"error\":\"syntax error\"}]"
    ∷ codes "> A transact 22 {\"op\":\"insert\",\"table\":\"Bridge\",\"row\":{\"name\":\"g\"},\"uuid\":{\"uuid\":\"00000000-0000-4000-9000-000000000007\"}}"
    ∷ codes "< A reply 22 [{\"error\":\"syntax error\"}]"
    ∷ codes "> A transact 23 {\"op\":\"insert\",\"table\":\"Bridge\",\"row\":{\"name\":\"g\"},\"uuid\":[]}"
    ∷ codes "< A reply 23 [{\"error\":\"syntax error\"}]"
    ∷ codes "> A transact 24 {\"op\":\"insert\",\"table\":\"Bridge\",\"row\":{\"zz\":1},\"uuid\":\"x\"}"
    ∷ codes "< A reply 24 [{\"error\":\"unknown column\"}]"
    ∷ codes "> A transact 25 {\"op\":\"insert\",\"table\":\"Q\",\"row\":{},\"uuid\":\"x\"}"
    ∷ codes "< A reply 25 [{\"error\":\"unknown table\"}]"
    ∷ codes "> A transact 26 {\"op\":\"update\",\"table\":\"Bridge\",\"where\":[],\"row\":{},\"uuid\":\"00000000-0000-4000-9000-000000000007\"}"
    ∷ codes "< A reply 26 [{\"error\":\"syntax error\"}]"
    ∷ codes "> A transact 27 {\"op\":\"select\",\"table\":\"Bridge\",\"where\":[[\"_uuid\",\"==\",[\"uuid\",\"00000000-0000-4000-9000-00000000000A\"]]],\"columns\":[\"_uuid\",\"name\"]}"
    ∷ codes "< A reply 27 [{\"rows\":[{\"_uuid\":[\"uuid\",\"00000000-0000-4000-9000-00000000000a\"],\"name\":\"a\"}]}]"
    ∷ [])
unfolding shows
inserts_with_an_identifier_of_their_own = refl

-- Members are read in order, where first
pub members_are_read_in_order_where_first : Plays operations (
    codes "> A transact 1 {\"op\":\"update\",\"table\":\"A\",\"where\":[[\"zz\",\"==\",1]],\"row\":{\"i\":\"a\"}}"
    ∷ codes "< A reply 1 [{\"error\":\"unknown column\"}]"
    ∷ codes "> A transact 2 {\"op\":\"update\",\"table\":\"A\",\"where\":[[\"i\",\"==\",\"q\"]],\"row\":{\"zz\":\"a\"}}"
    ∷ codes "< A reply 2 [{\"error\":\"syntax error\"}]"
    ∷ codes "> A transact 3 {\"op\":\"mutate\",\"table\":\"A\",\"where\":[[\"zz\",\"==\",1]],\"mutations\":[[\"i\",\"=\",1]]}"
    ∷ codes "< A reply 3 [{\"error\":\"unknown column\"}]"
    ∷ codes "> A transact 4 {\"op\":\"update\",\"table\":\"A\",\"row\":{\"zz\":1}}"
    ∷ codes "< A reply 4 [{\"error\":\"syntax error\"}]"
    ∷ codes "> A transact 5 {\"op\":\"mutate\",\"table\":\"Z\",\"mutations\":5}"
    ∷ codes "< A reply 5 [{\"error\":\"unknown table\"}]"
    ∷ codes "> A transact 6 {\"op\":\"mutate\",\"table\":\"A\",\"where\":[],\"mutations\":[[\"i\",\"+=\",1],[\"zz\",\"+=\",1],[\"i\",\"=\",1]]}"
    ∷ codes "< A reply 6 [{\"error\":\"unknown column\"}]"
    ∷ [])
unfolding shows
members_are_read_in_order_where_first = refl

-- Members of an insert, and the columns of its row in order
pub members_of_an_insert_and_the_columns_of_its_row_in_order : Plays operations (
    codes "> A transact 1 {\"op\":\"insert\",\"table\":\"A\",\"row\":{\"i\":\"a\",\"b\":0,\"zz\":1}}"
    ∷ codes "< A reply 1 [{\"error\":\"syntax error\"}]"
    ∷ codes "> A transact 2 {\"op\":\"insert\",\"table\":\"A\",\"row\":{\"zz\":1,\"t\":\"q\"}}"
    ∷ codes "< A reply 2 [{\"error\":\"constraint violation\"}]"
    ∷ codes "> A transact 3 {\"op\":\"insert\",\"table\":\"A\",\"row\":{\"zz\":1,\"zy\":\"q\"}}"
    ∷ codes "< A reply 3 [{\"error\":\"unknown column\"}]"
    ∷ codes "> A transact 4 {\"op\":\"insert\",\"table\":\"A\",\"row\":{\"t\":\"x\",\"_version\":5,\"B\":1}}"
    ∷ codes "< A reply 4 [{\"error\":\"unknown column\"}]"
    ∷ codes "> A transact 5 {\"op\":\"insert\",\"table\":\"A\",\"row\":{\"_version\":5,\"b\":0}}"
    ∷ codes "< A reply 5 [{\"error\":\"constraint violation\"}]"
    ∷ codes "> A transact 6 {\"op\":\"insert\",\"table\":\"A\",\"row\":{\"_uuid\":5}}"
    ∷ codes "< A reply 6 [{\"error\":\"constraint violation\"}]"
    ∷ codes "> A transact 7 {\"op\":\"insert\",\"table\":\"A\",\"row\":[]}"
    ∷ codes "< A reply 7 [{\"error\":\"syntax error\"}]"
    ∷ codes "> A transact 8 {\"op\":\"insert\",\"table\":\"A\"}"
    ∷ codes "< A reply 8 [{\"error\":\"syntax error\"}]"
    ∷ codes "> A transact 9 {\"op\":\"insert\",\"row\":{}}"
    ∷ codes "< A reply 9 [{\"error\":\"syntax error\"}]"
    ∷ codes "> A transact 10 {\"op\":\"insert\",\"table\":5,\"row\":{}}"
    ∷ codes "< A reply 10 [{\"error\":\"syntax error\"}]"
    ∷ codes "> A transact 11 {\"op\":\"insert\",\"table\":\"Z\",\"row\":5}"
    ∷ codes "< A reply 11 [{\"error\":\"unknown table\"}]"
    ∷ codes "> A transact 12 {\"op\":\"insert\",\"table\":\"A\",\"row\":{\"zz\":1},\"uuid-name\":5}"
    ∷ codes "< A reply 12 [{\"error\":\"unknown column\"}]"
    ∷ codes "> A transact 13 {\"op\":\"insert\",\"table\":\"A\",\"row\":{},\"uuid-name\":\"1\"}"
    ∷ codes "< A reply 13 [{\"error\":\"syntax error\"}]"
    ∷ codes "> A transact 14 {\"op\":\"insert\",\"table\":\"A\",\"row\":{},\"uuid-name\":null}"
    ∷ codes "< A reply 14 [{\"error\":\"syntax error\"}]"
    ∷ codes "> A transact 15 {\"op\":\"insert\",\"table\":\"A\",\"row\":{\"zz\":1},\"uuid\":5}"
    ∷ codes "< A reply 15 [{\"error\":\"unknown column\"}]"
    ∷ codes "> A transact 16 {\"op\":\"insert\",\"table\":\"A\",\"row\":{},\"uuid-name\":\"_1\"}"
    ∷ codes "< A reply 16 [{\"uuid\":[\"uuid\",\"U16\"]}]"
    ∷ codes "> A transact 17 {\"op\":\"insert\",\"table\":\"A\",\"row\":{\"k\":4}}"
    ∷ codes "< A reply 17 [{\"uuid\":[\"uuid\",\"U17\"]}]"
    ∷ codes "> A transact 18 {\"op\":\"insert\",\"table\":\"B\",\"row\":{}}"
    ∷ codes "< A reply 18 [{\"uuid\":[\"uuid\",\"U18\"]}]"
    ∷ codes "> A transact 19 {\"op\":\"select\",\"table\":\"B\",\"where\":[]}"
    ∷ codes "< A reply 19 [{\"rows\":[{\"_uuid\":[\"uuid\",\"U18\"],\"_version\":[\"uuid\",\"V3\"],\"n\":0,\"z\":\"\"}]}]"
    ∷ [])
unfolding shows
members_of_an_insert_and_the_columns_of_its_row_in_order = refl

-- Members that an operation does not have
pub members_that_an_operation_does_not_have : Plays operations (
    codes "> A transact 1 {\"op\":\"assert\",\"lock\":\"l\",\"x\":1}"
    ∷ codes "< A reply 1 [{\"error\":\"syntax error\"}]"
    ∷ codes "> A transact 2 {\"op\":\"comment\",\"comment\":\"\",\"x\":1}"
    ∷ codes "< A reply 2 [{\"error\":\"syntax error\"}]"
    ∷ codes "> A transact 3 {\"op\":\"update\",\"table\":\"A\",\"where\":[],\"row\":{},\"columns\":[]}"
    ∷ codes "< A reply 3 [{\"error\":\"syntax error\"}]"
    ∷ codes "> A transact 4 {\"op\":\"mutate\",\"table\":\"A\",\"where\":[],\"mutations\":[],\"x\":1}"
    ∷ codes "< A reply 4 [{\"error\":\"syntax error\"}]"
    ∷ codes "> A transact 5 {\"op\":\"wait\",\"table\":\"A\",\"where\":[],\"until\":\"==\",\"rows\":[],\"x\":1}"
    ∷ codes "< A reply 5 [{\"error\":\"syntax error\"}]"
    ∷ codes "> A transact 6 {\"op\":\"delete\",\"table\":\"A\",\"where\":[],\"x\":1}"
    ∷ codes "< A reply 6 [{\"error\":\"syntax error\"}]"
    ∷ codes "> A transact 7 {\"op\":\"insert\",\"table\":\"A\",\"row\":{},\"where\":[]}"
    ∷ codes "< A reply 7 [{\"error\":\"syntax error\"}]"
    ∷ codes "> A transact 8 {\"op\":\"select\",\"table\":\"A\",\"where\":[],\"rows\":[]}"
    ∷ codes "< A reply 8 [{\"error\":\"syntax error\"}]"
    ∷ codes "> A transact 9 {\"op\":\"abort\",\"op2\":1}"
    ∷ codes "< A reply 9 [{\"error\":\"syntax error\"}]"
    ∷ codes "> A transact 10 {\"op\":\"delete\",\"table\":\"A\",\"where\":[[\"zz\",\"==\",1]],\"x\":1}"
    ∷ codes "< A reply 10 [{\"error\":\"unknown column\"}]"
    ∷ [])
unfolding shows
members_that_an_operation_does_not_have = refl

-- Tables and columns that aren't there
pub tables_and_columns_that_arent_there : Plays net (
    codes "> A transact 1 {\"op\":\"insert\",\"table\":\"Frob\",\"row\":{}}"
    ∷ codes "< A reply 1 [{\"error\":\"unknown table\"}]"
    ∷ codes "> A transact 2 {\"op\":\"insert\",\"table\":\"Bridge\",\"row\":{\"frob\":1}}"
    ∷ codes "< A reply 2 [{\"error\":\"unknown column\"}]"
    ∷ codes "> A transact 3 {\"op\":\"select\",\"table\":\"Bridge\",\"where\":[[\"frob\",\"==\",1]]}"
    ∷ codes "< A reply 3 [{\"error\":\"unknown column\"}]"
    ∷ codes "> A transact 4 {\"op\":\"select\",\"table\":\"Bridge\",\"where\":[],\"columns\":[\"frob\"]}"
    ∷ codes "< A reply 4 [{\"error\":\"unknown column\"}]"
    ∷ codes "> A transact 5 {\"op\":\"update\",\"table\":\"Bridge\",\"where\":[],\"row\":{\"frob\":1}}"
    ∷ codes "< A reply 5 [{\"error\":\"unknown column\"}]"
    ∷ codes "> A transact 6 {\"op\":\"mutate\",\"table\":\"Bridge\",\"where\":[],\"mutations\":[[\"frob\",\"insert\",1]]}"
    ∷ codes "< A reply 6 [{\"error\":\"unknown column\"}]"
    ∷ codes "> A transact 7 {\"op\":\"wait\",\"table\":\"Bridge\",\"where\":[],\"columns\":[\"frob\"],\"until\":\"==\",\"rows\":[],\"timeout\":0}"
    ∷ codes "< A reply 7 [{\"error\":\"unknown column\"}]"
    ∷ codes "> A transact 8 {\"op\":\"wait\",\"table\":\"Bridge\",\"where\":[],\"columns\":[\"name\"],\"until\":\"==\",\"rows\":[{\"frob\":1}],\"timeout\":0}"
    ∷ codes "< A reply 8 [{\"error\":\"unknown column\"}]"
    ∷ codes "> A transact 9 {\"op\":\"select\",\"table\":5,\"where\":[]}"
    ∷ codes "< A reply 9 [{\"error\":\"syntax error\"}]"
    ∷ codes "> A transact 10 {\"op\":\"select\",\"where\":[]}"
    ∷ codes "< A reply 10 [{\"error\":\"syntax error\"}]"
    ∷ codes "> A transact 11 {\"op\":\"select\",\"table\":\"Bridge\"}"
    ∷ codes "< A reply 11 [{\"error\":\"syntax error\"}]"
    ∷ [])
unfolding shows
tables_and_columns_that_arent_there = refl

-- Transactions without operations, and what are no operations
pub transactions_without_operations_and_what_are_no_operations : Plays net (
    codes "> A transact 1"
    ∷ codes "< A reply 1 []"
    ∷ codes "> A transact 2 5"
    ∷ codes "< A reply 2 [{\"error\":\"syntax error\"}]"
    ∷ codes "> A transact 3 {}"
    ∷ codes "< A reply 3 [{\"error\":\"syntax error\"}]"
    ∷ codes "> A transact 4 {\"op\":5}"
    ∷ codes "< A reply 4 [{\"error\":\"syntax error\"}]"
    ∷ codes "> A transact 5 {\"op\":\"frob\"}"
    ∷ codes "< A reply 5 [{\"error\":\"unknown operation\"}]"
    ∷ codes "> A transact 6 {\"op\":\"comment\",\"comment\":\"x\"},{\"op\":\"frob\"},{\"op\":\"comment\",\"comment\":\"y\"}"
    ∷ codes "< A reply 6 [{},{\"error\":\"unknown operation\"},null]"
    ∷ codes "> A transact 7 {\"op\":\"comment\",\"comment\":\"x\",\"frob\":1}"
    ∷ codes "< A reply 7 [{\"error\":\"syntax error\"}]"
    ∷ codes "> A transact 8 {\"op\":\"comment\"}"
    ∷ codes "< A reply 8 [{\"error\":\"syntax error\"}]"
    ∷ codes "> A transact 9 {\"op\":\"comment\",\"comment\":5}"
    ∷ codes "< A reply 9 [{\"error\":\"syntax error\"}]"
    ∷ [])
unfolding shows
transactions_without_operations_and_what_are_no_operations = refl

-- A column that a row of a wait leaves out has its default
pub a_column_that_a_row_of_a_wait_leaves_out_has_its_default : Plays operations (
    codes "> A transact 1 {\"op\":\"insert\",\"table\":\"B\",\"row\":{\"n\":0}}"
    ∷ codes "< A reply 1 [{\"uuid\":[\"uuid\",\"U1\"]}]"
    ∷ codes "> A transact 2 {\"op\":\"wait\",\"table\":\"B\",\"where\":[],\"columns\":[\"n\",\"z\"],\"until\":\"==\",\"rows\":[{}],\"timeout\":0}"
    ∷ codes "< A reply 2 [{}]"
    ∷ codes "> A transact 3 {\"op\":\"wait\",\"table\":\"B\",\"where\":[],\"columns\":[\"n\",\"z\"],\"until\":\"!=\",\"rows\":[{\"n\":0}],\"timeout\":0}"
    ∷ codes "< A reply 3 [{\"error\":\"timed out\"}]"
    ∷ codes "> A transact 4 {\"op\":\"wait\",\"table\":\"B\",\"where\":[],\"columns\":[\"n\",\"z\"],\"until\":\"==\",\"rows\":[{\"z\":[\"set\",[]]}],\"timeout\":0}"
    ∷ codes "< A reply 4 [{\"error\":\"timed out\"}]"
    ∷ [])
unfolding shows
a_column_that_a_row_of_a_wait_leaves_out_has_its_default = refl

-- A wait without time sees the work of its own transaction
pub a_wait_without_time_sees_the_work_of_its_own_transaction : Plays net (
    codes "> A transact 1 {\"op\":\"wait\",\"timeout\":0,\"table\":\"Bridge\",\"where\":[],\"columns\":[\"name\"],\"until\":\"==\",\"rows\":[{\"name\":\"b\"}]}"
    ∷ codes "< A reply 1 [{\"error\":\"timed out\"}]"
    ∷ codes "> A transact 2 {\"op\":\"insert\",\"table\":\"Bridge\",\"row\":{\"name\":\"b\"}},{\"op\":\"wait\",\"timeout\":0,\"table\":\"Bridge\",\"where\":[],\"columns\":[\"name\"],\"until\":\"==\",\"rows\":[{\"name\":\"b\"}]}"
    ∷ codes "< A reply 2 [{\"uuid\":[\"uuid\",\"U1\"]},{}]"
    ∷ [])
unfolding shows
a_wait_without_time_sees_the_work_of_its_own_transaction = refl

-- An identifier that is taken, that was deleted, and that comes again
pub an_identifier_that_is_taken_that_was_deleted_and_that_comes_again : Plays net (
    codes "> A monitor_cond 1 [\"net\",\"m\",{\"Bridge\":{\"columns\":[\"name\"]}}]"
    ∷ codes "< A reply 1 {}"
    ∷ codes "> B transact 1 {\"op\":\"insert\",\"table\":\"Bridge\",\"row\":{\"name\":\"br0\"},\"uuid\":\"00000000-0000-4000-9000-000000000001\"}"
    ∷ codes "< A update2 [\"m\",{\"Bridge\":{\"00000000-0000-4000-9000-000000000001\":{\"insert\":{\"name\":\"br0\"}}}}]"
    ∷ codes "< B reply 1 [{\"uuid\":[\"uuid\",\"00000000-0000-4000-9000-000000000001\"]}]"
    ∷ codes "> B transact 2 {\"op\":\"insert\",\"table\":\"Bridge\",\"row\":{\"name\":\"br0\"},\"uuid\":\"00000000-0000-4000-9000-000000000001\"}"
    ∷ codes "< B reply 2 [{\"error\":\"duplicate uuid\"}]"
    ∷ codes "> B transact 3 {\"op\":\"delete\",\"table\":\"Bridge\",\"where\":[]},{\"op\":\"insert\",\"table\":\"Bridge\",\"row\":{\"name\":\"br0\"},\"uuid\":\"00000000-0000-4000-9000-000000000001\"}"
    ∷ codes "< B reply 3 [{\"count\":1},{\"error\":\"duplicate uuid\"}]"
    ∷ codes "> !hold A"
    ∷ codes "> B transact 4 {\"op\":\"delete\",\"table\":\"Bridge\",\"where\":[]}"
    ∷ codes "< B reply 4 [{\"count\":1}]"
    ∷ codes "> B transact 5 {\"op\":\"insert\",\"table\":\"Bridge\",\"row\":{\"name\":\"br1\"},\"uuid\":\"00000000-0000-4000-9000-000000000001\"}"
    ∷ codes "< B reply 5 [{\"uuid\":[\"uuid\",\"00000000-0000-4000-9000-000000000001\"]}]"
    ∷ codes "> !take A"
    ∷ codes "< A update2 [\"m\",{\"Bridge\":{\"00000000-0000-4000-9000-000000000001\":{\"modify\":{\"name\":\"br1\"}}}}]"
    ∷ codes "> !hold A"
    ∷ codes "> B transact 6 {\"op\":\"delete\",\"table\":\"Bridge\",\"where\":[]}"
    ∷ codes "< B reply 6 [{\"count\":1}]"
    ∷ codes "> B transact 7 {\"op\":\"insert\",\"table\":\"Bridge\",\"row\":{\"name\":\"br1\"},\"uuid\":\"00000000-0000-4000-9000-000000000001\"}"
    ∷ codes "< B reply 7 [{\"uuid\":[\"uuid\",\"00000000-0000-4000-9000-000000000001\"]}]"
    ∷ codes "> !take A"
    ∷ codes "> !hold A"
    ∷ codes "> B transact 8 {\"op\":\"delete\",\"table\":\"Bridge\",\"where\":[]}"
    ∷ codes "< B reply 8 [{\"count\":1}]"
    ∷ codes "> !take A"
    ∷ codes "< A update2 [\"m\",{\"Bridge\":{\"00000000-0000-4000-9000-000000000001\":{\"delete\":null}}}]"
    ∷ [])
unfolding shows
an_identifier_that_is_taken_that_was_deleted_and_that_comes_again = refl

-- Bridges are added to the set of bridges, and taken out
pub bridges_are_added_to_the_set_of_bridges_and_taken_out : Plays vsw (
    codes "> A transact 1 {\"op\":\"insert\",\"table\":\"Bridge\",\"row\":{\"name\":\"br0\"},\"uuid-name\":\"row1\"},{\"op\":\"insert\",\"table\":\"Open_vSwitch\",\"row\":{\"bridges\":[\"named-uuid\",\"row1\"]}}"
    ∷ codes "< A reply 1 [{\"uuid\":[\"uuid\",\"U1\"]},{\"uuid\":[\"uuid\",\"U2\"]}]"
    ∷ codes "> A transact 2 {\"op\":\"mutate\",\"table\":\"Open_vSwitch\",\"where\":[[\"_uuid\",\"==\",[\"uuid\",\"U2\"]]],\"mutations\":[[\"bridges\",\"insert\",[\"set\",[[\"named-uuid\",\"row1\"]]]]]},{\"op\":\"insert\",\"table\":\"Bridge\",\"row\":{\"name\":\"br1\",\"external_ids\":[\"map\",[[\"k\",\"v\"]]]},\"uuid-name\":\"row1\"}"
    ∷ codes "< A reply 2 [{\"count\":1},{\"uuid\":[\"uuid\",\"U3\"]}]"
    ∷ codes "> A transact 3 {\"op\":\"select\",\"table\":\"Bridge\",\"where\":[],\"columns\":[\"_uuid\",\"external_ids\",\"name\"]}"
    ∷ codes "< A reply 3 [{\"rows\":[{\"_uuid\":[\"uuid\",\"U1\"],\"external_ids\":[\"map\",[]],\"name\":\"br0\"},{\"_uuid\":[\"uuid\",\"U3\"],\"external_ids\":[\"map\",[[\"k\",\"v\"]]],\"name\":\"br1\"}]}]"
    ∷ codes "> A transact 4 {\"op\":\"mutate\",\"table\":\"Open_vSwitch\",\"where\":[],\"mutations\":[[\"bridges\",\"delete\",[\"uuid\",\"U1\"]]]}"
    ∷ codes "< A reply 4 [{\"count\":1}]"
    ∷ codes "> A transact 5 {\"op\":\"select\",\"table\":\"Bridge\",\"where\":[],\"columns\":[\"name\"]},{\"op\":\"select\",\"table\":\"Open_vSwitch\",\"where\":[],\"columns\":[\"bridges\"]}"
    ∷ codes "< A reply 5 [{\"rows\":[{\"name\":\"br1\"}]},{\"rows\":[{\"bridges\":[\"uuid\",\"U3\"]}]}]"
    ∷ [])
unfolding shows
bridges_are_added_to_the_set_of_bridges_and_taken_out = refl

-- Commits, aborts and asserts of a session
pub commits_aborts_and_asserts_of_a_session : Plays net (
    codes "> A transact 1 {\"op\":\"commit\",\"durable\":false}"
    ∷ codes "< A reply 1 [{}]"
    ∷ codes "> A transact 2 {\"op\":\"commit\",\"durable\":true}"
    ∷ codes "< A reply 2 [{\"error\":\"not supported\"}]"
    ∷ codes "> A transact 3 {\"op\":\"commit\"}"
    ∷ codes "< A reply 3 [{\"error\":\"syntax error\"}]"
    ∷ codes "> A transact 4 {\"op\":\"insert\",\"table\":\"Bridge\",\"row\":{\"name\":\"b\"}},{\"op\":\"abort\"},{\"op\":\"frob\"}"
    ∷ codes "< A reply 4 [{\"uuid\":[\"uuid\",\"U1\"]},{\"error\":\"aborted\"},null]"
    ∷ codes "> A transact 5 {\"op\":\"assert\",\"lock\":\"L\"}"
    ∷ codes "< A reply 5 [{\"error\":\"not owner\"}]"
    ∷ codes "> A lock 6 [\"L\"]"
    ∷ codes "< A reply 6 {\"locked\":true}"
    ∷ codes "> A transact 7 {\"op\":\"assert\",\"lock\":\"L\"}"
    ∷ codes "< A reply 7 [{}]"
    ∷ codes "> A transact 8 {\"op\":\"assert\",\"lock\":\"1L\"}"
    ∷ codes "< A reply 8 [{\"error\":\"syntax error\"}]"
    ∷ codes "> A transact 9 {\"op\":\"assert\"}"
    ∷ codes "< A reply 9 [{\"error\":\"syntax error\"}]"
    ∷ [])
unfolding shows
commits_aborts_and_asserts_of_a_session = refl

-- Each operation has its result
pub each_operation_has_its_result : Plays cnt (
    codes "> A transact 1 {\"op\":\"insert\",\"table\":\"C\",\"row\":{\"n\":-7,\"s\":[\"set\",[1,2]]}}"
    ∷ codes "< A reply 1 [{\"uuid\":[\"uuid\",\"U1\"]}]"
    ∷ codes "> A transact 2 {\"op\":\"mutate\",\"table\":\"C\",\"where\":[],\"mutations\":[[\"n\",\"/=\",2]]},{\"op\":\"select\",\"table\":\"C\",\"where\":[],\"columns\":[\"n\"]}"
    ∷ codes "< A reply 2 [{\"count\":1},{\"rows\":[{\"n\":-3}]}]"
    ∷ codes "> A transact 3 {\"op\":\"mutate\",\"table\":\"C\",\"where\":[],\"mutations\":[[\"n\",\"%=\",2],[\"s\",\"insert\",3]]},{\"op\":\"select\",\"table\":\"C\",\"where\":[],\"columns\":[\"n\",\"s\"]}"
    ∷ codes "< A reply 3 [{\"count\":1},{\"rows\":[{\"n\":-1,\"s\":[\"set\",[1,2,3]]}]}]"
    ∷ codes "> A transact 4 {\"op\":\"mutate\",\"table\":\"C\",\"where\":[],\"mutations\":[[\"n\",\"/=\",0]]}"
    ∷ codes "< A reply 4 [{\"error\":\"domain error\"}]"
    ∷ codes "> A transact 5 {\"op\":\"mutate\",\"table\":\"C\",\"where\":[],\"mutations\":[[\"s\",\"*=\",0]]}"
    ∷ codes "< A reply 5 [{\"error\":\"constraint violation\"}]"
    ∷ codes "> A transact 6 {\"op\":\"update\",\"table\":\"C\",\"where\":[],\"row\":{\"n\":9223372036854775807}},{\"op\":\"mutate\",\"table\":\"C\",\"where\":[],\"mutations\":[[\"n\",\"+=\",1]]}"
    ∷ codes "< A reply 6 [{\"count\":1},{\"error\":\"range error\"}]"
    ∷ codes "> A transact 7 {\"op\":\"select\",\"table\":\"C\",\"where\":[],\"columns\":[\"n\"]}"
    ∷ codes "< A reply 7 [{\"rows\":[{\"n\":-1}]}]"
    ∷ codes "> A transact 8 {\"op\":\"comment\",\"comment\":\"x\"},{\"op\":\"abort\"},{\"op\":\"comment\",\"comment\":\"y\"}"
    ∷ codes "< A reply 8 [{},{\"error\":\"aborted\"},null]"
    ∷ codes "> A transact 9 {\"op\":\"commit\",\"durable\":false},{\"op\":\"commit\",\"durable\":true}"
    ∷ codes "< A reply 9 [{},{\"error\":\"not supported\"}]"
    ∷ codes "> A transact 10 {\"op\":\"assert\",\"lock\":\"l\"}"
    ∷ codes "< A reply 10 [{\"error\":\"not owner\"}]"
    ∷ codes "> A transact 11 {\"op\":\"wait\",\"timeout\":0,\"table\":\"C\",\"where\":[],\"columns\":[\"n\"],\"until\":\"==\",\"rows\":[{\"n\":-1}]},{\"op\":\"delete\",\"table\":\"C\",\"where\":[[\"n\",\"<\",0]]}"
    ∷ codes "< A reply 11 [{},{\"count\":1}]"
    ∷ codes "> A transact 12 {\"op\":\"insert\",\"table\":\"C\",\"row\":{\"n\":1}},{\"op\":\"wait\",\"timeout\":0,\"table\":\"C\",\"where\":[],\"columns\":[\"n\"],\"until\":\"!=\",\"rows\":[{\"n\":1}]}"
    ∷ codes "< A reply 12 [{\"uuid\":[\"uuid\",\"U2\"]},{\"error\":\"timed out\"}]"
    ∷ codes "> A transact 13 {\"op\":\"wait\",\"timeout\":1000,\"table\":\"C\",\"where\":[],\"columns\":[\"n\"],\"until\":\"!=\",\"rows\":[]}"
    ∷ codes "> A transact 14 {\"op\":\"wait\",\"table\":\"C\",\"where\":[],\"columns\":[\"n\"],\"until\":\"!=\",\"rows\":[]}"
    ∷ codes "> A transact 15"
    ∷ codes "< A reply 15 []"
    ∷ [])
unfolding shows
each_operation_has_its_result = refl

-- One identifier in two tables
pub one_identifier_in_two_tables : Plays net (
    codes "> A transact 1 {\"op\":\"insert\",\"table\":\"Bridge\",\"row\":{\"name\":\"b\",\"ports\":[\"uuid\",\"00000000-0000-4000-9000-000000000001\"]},\"uuid\":\"00000000-0000-4000-9000-000000000001\"},{\"op\":\"insert\",\"table\":\"Port\",\"row\":{\"name\":\"p\"},\"uuid\":\"00000000-0000-4000-9000-000000000001\"},{\"op\":\"insert\",\"table\":\"Port\",\"row\":{\"name\":\"q\"},\"uuid\":\"00000000-0000-4000-9000-000000000001\"}"
    ∷ codes "< A reply 1 [{\"uuid\":[\"uuid\",\"00000000-0000-4000-9000-000000000001\"]},{\"uuid\":[\"uuid\",\"00000000-0000-4000-9000-000000000001\"]},{\"error\":\"duplicate uuid\"}]"
    ∷ codes "> A transact 2 {\"op\":\"insert\",\"table\":\"Bridge\",\"row\":{\"name\":\"b\",\"ports\":[\"uuid\",\"00000000-0000-4000-9000-000000000001\"]},\"uuid\":\"00000000-0000-4000-9000-000000000001\"},{\"op\":\"insert\",\"table\":\"Port\",\"row\":{\"name\":\"p\"},\"uuid\":\"00000000-0000-4000-9000-000000000001\"}"
    ∷ codes "< A reply 2 [{\"uuid\":[\"uuid\",\"00000000-0000-4000-9000-000000000001\"]},{\"uuid\":[\"uuid\",\"00000000-0000-4000-9000-000000000001\"]}]"
    ∷ codes "> A transact 3 {\"op\":\"select\",\"table\":\"Bridge\",\"where\":[[\"_uuid\",\"==\",[\"uuid\",\"00000000-0000-4000-9000-000000000001\"]]],\"columns\":[\"name\",\"ports\"]},{\"op\":\"select\",\"table\":\"Port\",\"where\":[[\"_uuid\",\"==\",[\"uuid\",\"00000000-0000-4000-9000-000000000001\"]]],\"columns\":[\"name\"]}"
    ∷ codes "< A reply 3 [{\"rows\":[{\"name\":\"b\",\"ports\":[\"uuid\",\"00000000-0000-4000-9000-000000000001\"]}]},{\"rows\":[{\"name\":\"p\"}]}]"
    ∷ codes "> A transact 4 {\"op\":\"delete\",\"table\":\"Bridge\",\"where\":[]},{\"op\":\"insert\",\"table\":\"Port\",\"row\":{\"name\":\"q\"},\"uuid\":\"00000000-0000-4000-9000-000000000001\"}"
    ∷ codes "< A reply 4 [{\"count\":1},{\"error\":\"duplicate uuid\"}]"
    ∷ codes "> A transact 5 {\"op\":\"delete\",\"table\":\"Port\",\"where\":[]},{\"op\":\"insert\",\"table\":\"Bridge\",\"row\":{\"name\":\"c\"},\"uuid\":\"00000000-0000-4000-9000-000000000001\"}"
    ∷ codes "< A reply 5 [{\"count\":1},{\"error\":\"duplicate uuid\"}]"
    ∷ [])
unfolding shows
one_identifier_in_two_tables = refl

-- Operations without tables
pub operations_without_tables : Plays choices (
    codes "> A lock 1 [\"held\"]"
    ∷ codes "< A reply 1 {\"locked\":true}"
    ∷ codes "> A transact 2"
    ∷ codes "< A reply 2 []"
    ∷ codes "> A transact 3 {\"op\":\"comment\",\"comment\":\"x\"},{\"op\":\"abort\"},{\"op\":\"comment\",\"comment\":\"y\"}"
    ∷ codes "< A reply 3 [{},{\"error\":\"aborted\"},null]"
    ∷ codes "> A transact 4 {\"op\":\"commit\",\"durable\":false},{\"op\":\"commit\",\"durable\":true}"
    ∷ codes "< A reply 4 [{},{\"error\":\"not supported\"}]"
    ∷ codes "> A transact 5 {\"op\":\"assert\",\"lock\":\"held\"},{\"op\":\"assert\",\"lock\":\"other\"},7,{}"
    ∷ codes "< A reply 5 [{},{\"error\":\"not owner\"},null,null]"
    ∷ codes "> A transact 6 7"
    ∷ codes "< A reply 6 [{\"error\":\"syntax error\"}]"
    ∷ [])
unfolding shows
operations_without_tables = refl

-- Rows are inserted, updated and deleted in one transaction
pub rows_are_inserted_updated_and_deleted_in_one_transaction : Plays choices (
    codes "> A transact 1 {\"op\":\"insert\",\"table\":\"C\",\"row\":{\"n\":5}},{\"op\":\"insert\",\"table\":\"C\",\"row\":{}},{\"op\":\"update\",\"table\":\"C\",\"where\":[[\"n\",\"==\",5]],\"row\":{\"n\":7,\"s\":8}},{\"op\":\"delete\",\"table\":\"C\",\"where\":[[\"s\",\"includes\",8]]},{\"op\":\"delete\",\"table\":\"C\",\"where\":[[\"n\",\"==\",0]]},{\"op\":\"delete\",\"table\":\"C\",\"where\":[]}"
    ∷ codes "< A reply 1 [{\"uuid\":[\"uuid\",\"U1\"]},{\"uuid\":[\"uuid\",\"U2\"]},{\"count\":1},{\"count\":1},{\"count\":1},{\"count\":0}]"
    ∷ codes "> A transact 2 {\"op\":\"insert\",\"table\":\"E\",\"row\":{}}"
    ∷ codes "< A reply 2 [{\"error\":\"constraint violation\"}]"
    ∷ [])
unfolding shows
rows_are_inserted_updated_and_deleted_in_one_transaction = refl

-- Rows of a wait that the table could not hold
pub rows_of_a_wait_that_the_table_could_not_hold : Plays net (
    codes "> A transact 1 {\"op\":\"wait\",\"timeout\":0,\"table\":\"Port\",\"where\":[],\"columns\":[\"tag\"],\"until\":\"!=\",\"rows\":[{\"tag\":5000}]}"
    ∷ codes "< A reply 1 [{}]"
    ∷ codes "> A transact 2 {\"op\":\"wait\",\"timeout\":0,\"table\":\"Port\",\"where\":[],\"columns\":[\"tag\"],\"until\":\"==\",\"rows\":[{\"tag\":5000}]}"
    ∷ codes "< A reply 2 [{\"error\":\"timed out\"}]"
    ∷ codes "> A transact 3 {\"op\":\"wait\",\"timeout\":0,\"table\":\"Port\",\"where\":[],\"columns\":[\"tag\"],\"until\":\"!=\",\"rows\":[{\"tag\":[\"set\",[1,2]]}]}"
    ∷ codes "< A reply 3 [{}]"
    ∷ [])
unfolding shows
rows_of_a_wait_that_the_table_could_not_hold = refl

-- Rows that are selected
pub rows_that_are_selected : Plays net (
    codes "> A transact 1 {\"op\":\"insert\",\"table\":\"Bridge\",\"row\":{\"name\":\"b\",\"ports\":[\"set\",[[\"named-uuid\",\"p\"],[\"named-uuid\",\"q\"]]]}},{\"op\":\"insert\",\"table\":\"Port\",\"row\":{\"name\":\"p\",\"opts\":[\"map\",[[\"z\",\"1\"],[\"a\",\"2\"]]]},\"uuid-name\":\"p\"},{\"op\":\"insert\",\"table\":\"Port\",\"row\":{\"name\":\"q\",\"tag\":5},\"uuid-name\":\"q\"}"
    ∷ codes "< A reply 1 [{\"uuid\":[\"uuid\",\"U1\"]},{\"uuid\":[\"uuid\",\"U2\"]},{\"uuid\":[\"uuid\",\"U3\"]}]"
    ∷ codes "> A transact 2 {\"op\":\"select\",\"table\":\"Port\",\"where\":[[\"name\",\"==\",\"p\"]]}"
    ∷ codes "< A reply 2 [{\"rows\":[{\"_uuid\":[\"uuid\",\"U2\"],\"_version\":[\"uuid\",\"V1\"],\"name\":\"p\",\"opts\":[\"map\",[[\"a\",\"2\"],[\"z\",\"1\"]]],\"peer\":[\"set\",[]],\"tag\":[\"set\",[]]}]}]"
    ∷ codes "> A transact 3 {\"op\":\"select\",\"table\":\"Port\",\"where\":[[\"tag\",\"==\",5]],\"columns\":[\"name\"]}"
    ∷ codes "< A reply 3 [{\"rows\":[{\"name\":\"q\"}]}]"
    ∷ codes "> A transact 4 {\"op\":\"select\",\"table\":\"Port\",\"where\":[[\"tag\",\"includes\",5]],\"columns\":[\"name\"]}"
    ∷ codes "< A reply 4 [{\"rows\":[{\"name\":\"q\"}]}]"
    ∷ codes "> A transact 5 {\"op\":\"select\",\"table\":\"Port\",\"where\":[[\"tag\",\"excludes\",5]],\"columns\":[\"name\"]}"
    ∷ codes "< A reply 5 [{\"rows\":[{\"name\":\"p\"}]}]"
    ∷ codes "> A transact 6 {\"op\":\"select\",\"table\":\"Port\",\"where\":[[\"tag\",\"<\",6]],\"columns\":[\"name\"]}"
    ∷ codes "< A reply 6 [{\"rows\":[{\"name\":\"q\"}]}]"
    ∷ codes "> A transact 7 {\"op\":\"select\",\"table\":\"Port\",\"where\":[[\"name\",\"<\",\"q\"]],\"columns\":[\"name\"]}"
    ∷ codes "< A reply 7 [{\"error\":\"syntax error\"}]"
    ∷ codes "> A transact 8 {\"op\":\"select\",\"table\":\"Port\",\"where\":[[\"opts\",\"includes\",[\"map\",[[\"a\",\"2\"]]]]],\"columns\":[\"name\"]}"
    ∷ codes "< A reply 8 [{\"rows\":[{\"name\":\"p\"}]}]"
    ∷ codes "> A transact 9 {\"op\":\"select\",\"table\":\"Port\",\"where\":[[\"opts\",\"==\",[\"map\",[]]]],\"columns\":[\"name\"]}"
    ∷ codes "< A reply 9 [{\"rows\":[{\"name\":\"q\"}]}]"
    ∷ codes "> A transact 10 {\"op\":\"select\",\"table\":\"Port\",\"where\":[[\"name\",\"!=\",\"p\"],[\"name\",\"!=\",\"q\"]],\"columns\":[\"name\"]}"
    ∷ codes "< A reply 10 [{\"rows\":[]}]"
    ∷ codes "> A transact 11 {\"op\":\"select\",\"table\":\"Port\",\"where\":[true],\"columns\":[\"name\"]}"
    ∷ codes "< A reply 11 [{\"error\":\"syntax error\"}]"
    ∷ codes "> A transact 12 {\"op\":\"select\",\"table\":\"Port\",\"where\":[],\"columns\":[]}"
    ∷ codes "< A reply 12 [{\"rows\":[{}]}]"
    ∷ codes "> A transact 13 {\"op\":\"select\",\"table\":\"Port\",\"where\":[],\"columns\":[\"name\",\"name\"]}"
    ∷ codes "< A reply 13 [{\"error\":\"syntax error\"}]"
    ∷ codes "> A transact 14 {\"op\":\"select\",\"table\":\"Port\",\"where\":[[\"_uuid\",\"==\",[\"uuid\",\"U2\"]]],\"columns\":[\"_uuid\",\"name\"]}"
    ∷ codes "< A reply 14 [{\"rows\":[{\"_uuid\":[\"uuid\",\"U2\"],\"name\":\"p\"}]}]"
    ∷ codes "> A transact 15 {\"op\":\"select\",\"table\":\"Port\",\"where\":[[\"tag\",\"includes\",[\"set\",[]]]],\"columns\":[\"name\"]}"
    ∷ codes "< A reply 15 [{\"rows\":[{\"name\":\"p\"},{\"name\":\"q\"}]}]"
    ∷ codes "> A transact 16 {\"op\":\"select\",\"table\":\"Port\",\"where\":[[\"name\",\"includes\",\"p\"]],\"columns\":[\"name\"]}"
    ∷ codes "< A reply 16 [{\"rows\":[{\"name\":\"p\"}]}]"
    ∷ codes "> A transact 17 {\"op\":\"select\",\"table\":\"Port\",\"where\":[[\"name\",\"==\",[\"set\",[\"p\",\"q\"]]]],\"columns\":[\"name\"]}"
    ∷ codes "< A reply 17 [{\"error\":\"syntax error\"}]"
    ∷ codes "> A transact 18 {\"op\":\"select\",\"table\":\"Port\",\"where\":[[\"tag\",\"==\",[\"set\",[1,2]]]],\"columns\":[\"name\"]}"
    ∷ codes "< A reply 18 [{\"rows\":[]}]"
    ∷ codes "> A transact 19 {\"op\":\"select\",\"table\":\"Port\",\"where\":[[\"tag\",\"==\",5000]],\"columns\":[\"name\"]}"
    ∷ codes "< A reply 19 [{\"rows\":[]}]"
    ∷ codes "> A transact 20 {\"op\":\"select\",\"table\":\"Port\",\"where\":[[\"name\",\"frob\",\"p\"]],\"columns\":[\"name\"]}"
    ∷ codes "< A reply 20 [{\"error\":\"syntax error\"}]"
    ∷ [])
unfolding shows
rows_that_are_selected = refl

-- Selected rows and columns
pub selected_rows_and_columns : Plays operations (
    codes "> A transact 1 {\"op\":\"insert\",\"table\":\"A\",\"row\":{\"i\":2}}"
    ∷ codes "< A reply 1 [{\"uuid\":[\"uuid\",\"U1\"]}]"
    ∷ codes "> A transact 2 {\"op\":\"insert\",\"table\":\"A\",\"row\":{\"i\":1}}"
    ∷ codes "< A reply 2 [{\"uuid\":[\"uuid\",\"U2\"]}]"
    ∷ codes "> A transact 3 {\"op\":\"insert\",\"table\":\"A\",\"row\":{\"i\":2}}"
    ∷ codes "< A reply 3 [{\"uuid\":[\"uuid\",\"U3\"]}]"
    ∷ codes "> A transact 4 {\"op\":\"select\",\"table\":\"A\",\"where\":[],\"columns\":[\"i\"]}"
    ∷ codes "< A reply 4 [{\"rows\":[{\"i\":2},{\"i\":1}]}]"
    ∷ codes "> A transact 5 {\"op\":\"select\",\"table\":\"A\",\"where\":[],\"columns\":[]}"
    ∷ codes "< A reply 5 [{\"rows\":[{}]}]"
    ∷ codes "> A transact 6 {\"op\":\"select\",\"table\":\"A\",\"where\":[[\"i\",\"==\",7]],\"columns\":[]}"
    ∷ codes "< A reply 6 [{\"rows\":[]}]"
    ∷ codes "> A transact 7 {\"op\":\"select\",\"table\":\"A\",\"where\":[],\"columns\":[\"_uuid\",\"i\"]}"
    ∷ codes "< A reply 7 [{\"rows\":[{\"_uuid\":[\"uuid\",\"U1\"],\"i\":2},{\"_uuid\":[\"uuid\",\"U2\"],\"i\":1},{\"_uuid\":[\"uuid\",\"U3\"],\"i\":2}]}]"
    ∷ codes "> A transact 8 {\"op\":\"select\",\"table\":\"A\",\"where\":[],\"columns\":[\"i\",\"_version\"]}"
    ∷ codes "< A reply 8 [{\"rows\":[{\"_version\":[\"uuid\",\"V1\"],\"i\":2},{\"_version\":[\"uuid\",\"V2\"],\"i\":1},{\"_version\":[\"uuid\",\"V3\"],\"i\":2}]}]"
    ∷ codes "> A transact 9 {\"op\":\"select\",\"table\":\"A\",\"where\":[[\"i\",\"==\",1]]}"
    ∷ codes "< A reply 9 [{\"rows\":[{\"_uuid\":[\"uuid\",\"U2\"],\"_version\":[\"uuid\",\"V2\"],\"b\":false,\"i\":1,\"k\":0,\"m\":[\"map\",[]],\"o\":[\"set\",[]],\"s\":[\"set\",[]],\"t\":\"\",\"u\":[\"uuid\",\"V0\"]}]}]"
    ∷ [])
unfolding shows
selected_rows_and_columns = refl

-- Several insertions into one set in one operation
pub several_insertions_into_one_set_in_one_operation : Plays operations (
    codes "> A transact 1 {\"op\":\"insert\",\"table\":\"A\",\"row\":{\"i\":1,\"s\":1}},{\"op\":\"insert\",\"table\":\"B\",\"row\":{\"z\":\"a\"}}"
    ∷ codes "< A reply 1 [{\"uuid\":[\"uuid\",\"U1\"]},{\"uuid\":[\"uuid\",\"U2\"]}]"
    ∷ codes "> A transact 2 {\"op\":\"mutate\",\"table\":\"A\",\"where\":[],\"mutations\":[[\"s\",\"insert\",2],[\"s\",\"insert\",[\"set\",[2,3]]]]},{\"op\":\"select\",\"table\":\"A\",\"where\":[],\"columns\":[\"s\"]}"
    ∷ codes "< A reply 2 [{\"count\":1},{\"rows\":[{\"s\":[\"set\",[1,2,3]]}]}]"
    ∷ codes "> A transact 3 {\"op\":\"mutate\",\"table\":\"A\",\"where\":[],\"mutations\":[[\"s\",\"delete\",3],[\"s\",\"insert\",4],[\"s\",\"insert\",[\"set\",[1,4]]]]},{\"op\":\"select\",\"table\":\"A\",\"where\":[],\"columns\":[\"s\"]}"
    ∷ codes "< A reply 3 [{\"count\":1},{\"rows\":[{\"s\":[\"set\",[1,2,4]]}]}]"
    ∷ codes "> A transact 4 {\"op\":\"mutate\",\"table\":\"A\",\"where\":[],\"mutations\":[[\"s\",\"insert\",[\"set\",[]]],[\"s\",\"insert\",4],[\"i\",\"+=\",1],[\"s\",\"insert\",2]]},{\"op\":\"select\",\"table\":\"A\",\"where\":[],\"columns\":[\"i\",\"s\"]}"
    ∷ codes "< A reply 4 [{\"count\":1},{\"rows\":[{\"i\":2,\"s\":[\"set\",[1,2,4]]}]}]"
    ∷ codes "> A transact 5 {\"op\":\"mutate\",\"table\":\"A\",\"where\":[],\"mutations\":[[\"s\",\"insert\",1],[\"s\",\"insert\",7],[\"s\",\"delete\",7]]}"
    ∷ codes "< A reply 5 [{\"error\":\"constraint violation\"}]"
    ∷ codes "> A transact 6 {\"op\":\"mutate\",\"table\":\"A\",\"where\":[],\"mutations\":[[\"s\",\"delete\",1],[\"s\",\"insert\",4],[\"s\",\"insert\",10]]}"
    ∷ codes "< A reply 6 [{\"error\":\"constraint violation\"}]"
    ∷ codes "> A transact 7 {\"op\":\"mutate\",\"table\":\"A\",\"where\":[],\"mutations\":[[\"s\",\"insert\",4],[\"s\",\"insert\",5],[\"i\",\"/=\",0]]}"
    ∷ codes "< A reply 7 [{\"error\":\"constraint violation\"}]"
    ∷ codes "> A transact 8 {\"op\":\"mutate\",\"table\":\"A\",\"where\":[],\"mutations\":[[\"s\",\"insert\",4],[\"i\",\"/=\",0],[\"s\",\"insert\",5]]}"
    ∷ codes "< A reply 8 [{\"error\":\"domain error\"}]"
    ∷ codes "> A transact 9 {\"op\":\"mutate\",\"table\":\"B\",\"where\":[],\"mutations\":[[\"z\",\"insert\",\"b\"],[\"z\",\"insert\",\"c\"]]}"
    ∷ codes "< A reply 9 [{\"error\":\"constraint violation\"}]"
    ∷ codes "> A transact 10 {\"op\":\"mutate\",\"table\":\"B\",\"where\":[],\"mutations\":[[\"z\",\"insert\",\"b\"],[\"z\",\"insert\",\"a\"]]},{\"op\":\"select\",\"table\":\"B\",\"where\":[],\"columns\":[\"z\"]}"
    ∷ codes "< A reply 10 [{\"count\":1},{\"rows\":[{\"z\":[\"set\",[\"a\",\"b\"]]}]}]"
    ∷ codes "> A transact 11 {\"op\":\"select\",\"table\":\"A\",\"where\":[],\"columns\":[\"s\"]}"
    ∷ codes "< A reply 11 [{\"rows\":[{\"s\":[\"set\",[1,2,4]]}]}]"
    ∷ [])
unfolding shows
several_insertions_into_one_set_in_one_operation = refl

-- The first fault of several rows, by its kind
pub the_first_fault_of_several_rows_by_its_kind : Plays operations (
    codes "> A transact 1 {\"op\":\"insert\",\"table\":\"A\",\"row\":{\"i\":9223372036854775807,\"s\":1}},{\"op\":\"insert\",\"table\":\"A\",\"row\":{\"i\":1,\"s\":9}}"
    ∷ codes "< A reply 1 [{\"uuid\":[\"uuid\",\"U1\"]},{\"uuid\":[\"uuid\",\"U2\"]}]"
    ∷ codes "> A transact 2 {\"op\":\"mutate\",\"table\":\"A\",\"where\":[],\"mutations\":[[\"s\",\"+=\",1]]}"
    ∷ codes "< A reply 2 [{\"error\":\"constraint violation\"}]"
    ∷ codes "> A transact 3 {\"op\":\"mutate\",\"table\":\"A\",\"where\":[],\"mutations\":[[\"s\",\"+=\",1],[\"i\",\"+=\",1]]}"
    ∷ codes "< A reply 3 [{\"error\":\"range error\"}]"
    ∷ codes "> A transact 4 {\"op\":\"mutate\",\"table\":\"A\",\"where\":[],\"mutations\":[[\"i\",\"+=\",1],[\"i\",\"%=\",0]]}"
    ∷ codes "< A reply 4 [{\"error\":\"domain error\"}]"
    ∷ codes "> A transact 5 {\"op\":\"mutate\",\"table\":\"A\",\"where\":[[\"i\",\"==\",9223372036854775807]],\"mutations\":[[\"i\",\"+=\",1],[\"i\",\"/=\",0]]}"
    ∷ codes "< A reply 5 [{\"error\":\"range error\"}]"
    ∷ codes "> A transact 6 {\"op\":\"select\",\"table\":\"A\",\"where\":[],\"columns\":[\"i\"]}"
    ∷ codes "< A reply 6 [{\"rows\":[{\"i\":9223372036854775807},{\"i\":1}]}]"
    ∷ [])
unfolding shows
the_first_fault_of_several_rows_by_its_kind = refl

-- Waits that are met and that fail, and the members of a wait
pub waits_that_are_met_and_that_fail_and_the_members_of_a_wait : Plays operations (
    codes "> A transact 1 {\"op\":\"wait\",\"table\":\"A\",\"where\":[],\"until\":\"==\",\"rows\":[],\"timeout\":0}"
    ∷ codes "< A reply 1 [{}]"
    ∷ codes "> A transact 2 {\"op\":\"wait\",\"table\":\"A\",\"where\":[],\"until\":\"!=\",\"rows\":[],\"timeout\":0}"
    ∷ codes "< A reply 2 [{\"error\":\"timed out\"}]"
    ∷ codes "> A transact 3 {\"op\":\"insert\",\"table\":\"B\",\"row\":{\"n\":5,\"z\":[\"set\",[\"a\",\"b\"]]}}"
    ∷ codes "< A reply 3 [{\"uuid\":[\"uuid\",\"U1\"]}]"
    ∷ codes "> A transact 4 {\"op\":\"wait\",\"table\":\"B\",\"where\":[],\"columns\":[\"n\"],\"until\":\"==\",\"rows\":[{\"n\":5}],\"timeout\":0}"
    ∷ codes "< A reply 4 [{}]"
    ∷ codes "> A transact 5 {\"op\":\"wait\",\"table\":\"B\",\"where\":[],\"columns\":[\"n\"],\"until\":\"==\",\"rows\":[{\"n\":5},{\"n\":5}],\"timeout\":0}"
    ∷ codes "< A reply 5 [{}]"
    ∷ codes "> A transact 6 {\"op\":\"wait\",\"table\":\"B\",\"where\":[],\"columns\":[\"n\"],\"until\":\"==\",\"rows\":[{\"n\":5,\"z\":[\"set\",[]]}],\"timeout\":0}"
    ∷ codes "< A reply 6 [{}]"
    ∷ codes "> A transact 7 {\"op\":\"wait\",\"table\":\"B\",\"where\":[],\"columns\":[\"n\"],\"until\":\"==\",\"rows\":[{\"n\":5,\"_uuid\":[\"uuid\",\"V0\"]}],\"timeout\":0}"
    ∷ codes "< A reply 7 [{}]"
    ∷ codes "> A transact 8 {\"op\":\"wait\",\"table\":\"B\",\"where\":[],\"columns\":[\"n\"],\"until\":\"==\",\"rows\":[{\"n\":5,\"zz\":1}],\"timeout\":0}"
    ∷ codes "< A reply 8 [{\"error\":\"unknown column\"}]"
    ∷ codes "> A transact 9 {\"op\":\"wait\",\"table\":\"B\",\"where\":[],\"columns\":[\"n\"],\"until\":\"==\",\"rows\":[{\"n\":[\"set\",[]]}],\"timeout\":0}"
    ∷ codes "< A reply 9 [{\"error\":\"syntax error\"}]"
    ∷ codes "> A transact 10 {\"op\":\"wait\",\"table\":\"B\",\"where\":[],\"columns\":[\"n\"],\"until\":\"==\",\"rows\":[{\"z\":5}],\"timeout\":0}"
    ∷ codes "< A reply 10 [{\"error\":\"syntax error\"}]"
    ∷ codes "> A transact 11 {\"op\":\"wait\",\"table\":\"B\",\"where\":[],\"columns\":[\"n\"],\"until\":\"==\",\"rows\":[{\"z\":\"a\"}],\"timeout\":0}"
    ∷ codes "< A reply 11 [{\"error\":\"timed out\"}]"
    ∷ codes "> A transact 12 {\"op\":\"wait\",\"table\":\"B\",\"where\":[],\"columns\":[\"n\"],\"until\":\"!=\",\"rows\":[{\"z\":\"a\"}],\"timeout\":0}"
    ∷ codes "< A reply 12 [{}]"
    ∷ codes "> A transact 13 {\"op\":\"wait\",\"table\":\"B\",\"where\":[],\"columns\":[\"z\"],\"until\":\"==\",\"rows\":[{\"z\":[\"set\",[\"b\",\"a\"]]}],\"timeout\":0}"
    ∷ codes "< A reply 13 [{}]"
    ∷ codes "> A transact 14 {\"op\":\"wait\",\"table\":\"B\",\"where\":[],\"columns\":[\"z\",\"n\"],\"until\":\"==\",\"rows\":[{\"z\":[\"set\",[\"b\",\"a\"]],\"n\":5}],\"timeout\":0}"
    ∷ codes "< A reply 14 [{}]"
    ∷ codes "> A transact 15 {\"op\":\"wait\",\"table\":\"B\",\"where\":[],\"until\":\"==\",\"rows\":[{\"z\":[\"set\",[\"b\",\"a\"]],\"n\":5}],\"timeout\":0}"
    ∷ codes "< A reply 15 [{\"error\":\"timed out\"}]"
    ∷ codes "> A transact 16 {\"op\":\"wait\",\"table\":\"B\",\"where\":[],\"until\":\"==\",\"rows\":[{\"_uuid\":[\"uuid\",\"U1\"],\"_version\":[\"uuid\",\"V1\"],\"z\":[\"set\",[\"b\",\"a\"]],\"n\":5}],\"timeout\":0}"
    ∷ codes "< A reply 16 [{}]"
    ∷ codes "> A transact 17 {\"op\":\"wait\",\"table\":\"B\",\"where\":[[\"n\",\"==\",6]],\"columns\":[\"n\"],\"until\":\"==\",\"rows\":[],\"timeout\":0}"
    ∷ codes "< A reply 17 [{}]"
    ∷ codes "> A transact 18 {\"op\":\"wait\",\"table\":\"B\",\"where\":[],\"columns\":[],\"until\":\"==\",\"rows\":[],\"timeout\":0}"
    ∷ codes "< A reply 18 [{\"error\":\"timed out\"}]"
    ∷ codes "> A transact 19 {\"op\":\"wait\",\"table\":\"B\",\"where\":[],\"columns\":[],\"until\":\"==\",\"rows\":[{}],\"timeout\":0}"
    ∷ codes "< A reply 19 [{}]"
    ∷ codes "> A transact 20 {\"op\":\"wait\",\"table\":\"B\",\"where\":[],\"columns\":[\"z\"],\"until\":\"==\",\"rows\":[{\"z\":[\"set\",[\"a\",\"b\",\"c\",\"d\"]]}],\"timeout\":0}"
    ∷ codes "< A reply 20 [{\"error\":\"timed out\"}]"
    ∷ codes "> A transact 21 {\"op\":\"wait\",\"table\":\"B\",\"where\":[],\"columns\":[\"n\"],\"until\":\"==\",\"rows\":[{}],\"timeout\":-1}"
    ∷ codes "< A reply 21 [{\"error\":\"syntax error\"}]"
    ∷ codes "> A transact 22 {\"op\":\"wait\",\"table\":\"B\",\"where\":[],\"columns\":[\"n\"],\"until\":\"==\",\"rows\":[{}],\"timeout\":1.5}"
    ∷ codes "< A error 22 syntax error"
    ∷ codes "> A transact 23 {\"op\":\"wait\",\"table\":\"B\",\"where\":[],\"columns\":[\"n\"],\"until\":\"==\",\"rows\":[{}],\"timeout\":null}"
    ∷ codes "< A reply 23 [{\"error\":\"syntax error\"}]"
    ∷ codes "> A transact 24 {\"op\":\"wait\",\"table\":\"B\",\"where\":[],\"columns\":[\"n\"],\"until\":\"=\",\"rows\":[{}],\"timeout\":0}"
    ∷ codes "< A reply 24 [{\"error\":\"syntax error\"}]"
    ∷ codes "> A transact 25 {\"op\":\"wait\",\"table\":\"B\",\"where\":[],\"columns\":[\"n\"],\"until\":\"==\",\"rows\":[{}]}"
    ∷ codes "> A transact 26 {\"op\":\"wait\",\"table\":\"B\",\"where\":[],\"columns\":[\"n\"],\"until\":\"==\",\"rows\":[{}],\"timeout\":9223372036854775807}"
    ∷ codes "> A transact 27 {\"op\":\"wait\",\"table\":\"B\",\"where\":[],\"columns\":[\"n\"],\"until\":\"==\",\"rows\":[{}],\"timeout\":1}"
    ∷ codes "> A transact 28 {\"op\":\"insert\",\"table\":\"B\",\"row\":{\"n\":6}},{\"op\":\"wait\",\"table\":\"B\",\"where\":[[\"n\",\"==\",6]],\"columns\":[\"_version\"],\"until\":\"==\",\"rows\":[{}],\"timeout\":0}"
    ∷ codes "< A reply 28 [{\"uuid\":[\"uuid\",\"U2\"]},{}]"
    ∷ codes "> A transact 29 {\"op\":\"wait\",\"table\":\"B\",\"where\":[],\"until\":\"=\",\"rows\":[{\"zz\":1}]}"
    ∷ codes "< A reply 29 [{\"error\":\"syntax error\"}]"
    ∷ codes "> A transact 30 {\"op\":\"wait\",\"table\":\"B\",\"where\":[],\"until\":\"==\",\"rows\":[{\"zz\":1}],\"timeout\":-1}"
    ∷ codes "< A reply 30 [{\"error\":\"unknown column\"}]"
    ∷ codes "> A transact 31 {\"op\":\"wait\",\"table\":\"B\",\"where\":[],\"until\":\"==\",\"rows\":{}}"
    ∷ codes "< A reply 31 [{\"error\":\"syntax error\"}]"
    ∷ codes "> A transact 32 {\"op\":\"wait\",\"table\":\"B\",\"where\":[],\"until\":\"==\",\"rows\":[5]}"
    ∷ codes "< A reply 32 [{\"error\":\"syntax error\"}]"
    ∷ codes "> A transact 33 {\"op\":\"wait\",\"table\":\"B\",\"where\":[],\"columns\":[\"zz\"],\"until\":5}"
    ∷ codes "< A reply 33 [{\"error\":\"unknown column\"}]"
    ∷ [])
unfolding shows
waits_that_are_met_and_that_fail_and_the_members_of_a_wait = refl

-- Waits that are met, and that fail at once
pub waits_that_are_met_and_that_fail_at_once : Plays net (
    codes "> A transact 1 {\"op\":\"insert\",\"table\":\"Bridge\",\"row\":{\"name\":\"b\"}},{\"op\":\"insert\",\"table\":\"Bridge\",\"row\":{\"name\":\"c\"}}"
    ∷ codes "< A reply 1 [{\"uuid\":[\"uuid\",\"U1\"]},{\"uuid\":[\"uuid\",\"U2\"]}]"
    ∷ codes "> A transact 2 {\"op\":\"wait\",\"table\":\"Bridge\",\"where\":[],\"columns\":[\"name\"],\"until\":\"==\",\"rows\":[{\"name\":\"c\"},{\"name\":\"b\"}],\"timeout\":0}"
    ∷ codes "< A reply 2 [{}]"
    ∷ codes "> A transact 3 {\"op\":\"wait\",\"table\":\"Bridge\",\"where\":[],\"columns\":[\"name\"],\"until\":\"==\",\"rows\":[{\"name\":\"c\"},{\"name\":\"b\"},{\"name\":\"b\"}],\"timeout\":0}"
    ∷ codes "< A reply 3 [{}]"
    ∷ codes "> A transact 4 {\"op\":\"wait\",\"table\":\"Bridge\",\"where\":[],\"columns\":[\"ports\"],\"until\":\"==\",\"rows\":[{}],\"timeout\":0}"
    ∷ codes "< A reply 4 [{}]"
    ∷ codes "> A transact 5 {\"op\":\"wait\",\"table\":\"Bridge\",\"where\":[],\"until\":\"==\",\"rows\":[{\"name\":\"b\"},{\"name\":\"c\"}],\"timeout\":0}"
    ∷ codes "< A reply 5 [{\"error\":\"timed out\"}]"
    ∷ codes "> A transact 6 {\"op\":\"wait\",\"table\":\"Bridge\",\"where\":[],\"columns\":[\"name\"],\"until\":\"frob\",\"rows\":[],\"timeout\":0}"
    ∷ codes "< A reply 6 [{\"error\":\"syntax error\"}]"
    ∷ codes "> A transact 7 {\"op\":\"wait\",\"table\":\"Bridge\",\"where\":[],\"columns\":[\"name\"],\"until\":\"!=\",\"rows\":[{\"name\":\"b\"}],\"timeout\":0}"
    ∷ codes "< A reply 7 [{}]"
    ∷ codes "> A transact 8 {\"op\":\"wait\",\"table\":\"Bridge\",\"where\":[],\"columns\":[\"name\"],\"until\":\"==\",\"rows\":[{\"name\":\"b\",\"ports\":[\"set\",[]]}],\"timeout\":0}"
    ∷ codes "< A reply 8 [{\"error\":\"timed out\"}]"
    ∷ codes "> A transact 9 {\"op\":\"wait\",\"table\":\"Bridge\",\"where\":[],\"columns\":[\"name\"],\"until\":\"==\",\"rows\":[],\"timeout\":-1}"
    ∷ codes "< A reply 9 [{\"error\":\"syntax error\"}]"
    ∷ codes "> A transact 10 {\"op\":\"wait\",\"table\":\"Bridge\",\"where\":[],\"columns\":[\"name\"],\"until\":\"==\",\"rows\":5,\"timeout\":0}"
    ∷ codes "< A reply 10 [{\"error\":\"syntax error\"}]"
    ∷ [])
unfolding shows
waits_that_are_met_and_that_fail_at_once = refl

-- What ovs-vsctl sends
pub what_ovs_vsctl_sends : Plays net (
    codes "> A transact 1 {\"op\":\"wait\",\"table\":\"Bridge\",\"where\":[],\"columns\":[\"name\"],\"until\":\"==\",\"rows\":[],\"timeout\":0},{\"op\":\"insert\",\"table\":\"Bridge\",\"row\":{\"name\":\"br0\",\"ports\":[\"named-uuid\",\"rowp\"]},\"uuid-name\":\"rowb\"},{\"op\":\"insert\",\"table\":\"Port\",\"row\":{\"name\":\"br0\"},\"uuid-name\":\"rowp\"},{\"op\":\"comment\",\"comment\":\"ovs-vsctl: add-br br0\"}"
    ∷ codes "< A reply 1 [{},{\"uuid\":[\"uuid\",\"U1\"]},{\"uuid\":[\"uuid\",\"U2\"]},{}]"
    ∷ codes "> A transact 2 {\"op\":\"mutate\",\"table\":\"Bridge\",\"where\":[[\"_uuid\",\"==\",[\"uuid\",\"U1\"]]],\"mutations\":[[\"ports\",\"insert\",[\"set\",[[\"named-uuid\",\"rowq\"]]]]]},{\"op\":\"insert\",\"table\":\"Port\",\"row\":{\"name\":\"eth0\",\"tag\":7},\"uuid-name\":\"rowq\"},{\"op\":\"select\",\"table\":\"Bridge\",\"where\":[[\"_uuid\",\"==\",[\"uuid\",\"U1\"]]],\"columns\":[\"ports\"]}"
    ∷ codes "< A reply 2 [{\"count\":1},{\"uuid\":[\"uuid\",\"U3\"]},{\"rows\":[{\"ports\":[\"set\",[[\"uuid\",\"U2\"],[\"uuid\",\"U3\"]]]}]}]"
    ∷ codes "> A transact 3 {\"op\":\"wait\",\"table\":\"Port\",\"where\":[[\"_uuid\",\"==\",[\"uuid\",\"U3\"]]],\"columns\":[\"tag\"],\"until\":\"==\",\"rows\":[{\"tag\":7}],\"timeout\":0},{\"op\":\"update\",\"table\":\"Port\",\"where\":[[\"_uuid\",\"==\",[\"uuid\",\"U3\"]]],\"row\":{\"tag\":[\"set\",[]]}}"
    ∷ codes "< A reply 3 [{},{\"count\":1}]"
    ∷ codes "> A transact 4 {\"op\":\"mutate\",\"table\":\"Bridge\",\"where\":[[\"_uuid\",\"==\",[\"uuid\",\"U1\"]]],\"mutations\":[[\"ports\",\"delete\",[\"uuid\",\"U3\"]]]},{\"op\":\"select\",\"table\":\"Port\",\"where\":[],\"columns\":[\"name\"]}"
    ∷ codes "< A reply 4 [{\"count\":1},{\"rows\":[{\"name\":\"br0\"},{\"name\":\"eth0\"}]}]"
    ∷ codes "> A transact 5 {\"op\":\"select\",\"table\":\"Port\",\"where\":[],\"columns\":[\"name\"]}"
    ∷ codes "< A reply 5 [{\"rows\":[{\"name\":\"br0\"}]}]"
    ∷ codes "> A transact 6 {\"op\":\"delete\",\"table\":\"Bridge\",\"where\":[[\"_uuid\",\"==\",[\"uuid\",\"U1\"]]]}"
    ∷ codes "< A reply 6 [{\"count\":1}]"
    ∷ codes "> A transact 7 {\"op\":\"select\",\"table\":\"Port\",\"where\":[]},{\"op\":\"select\",\"table\":\"Bridge\",\"where\":[]}"
    ∷ codes "< A reply 7 [{\"rows\":[]},{\"rows\":[]}]"
    ∷ [])
unfolding shows
what_ovs_vsctl_sends = refl

-- What ovs-vsctl sends to begin, to add a bridge, and to add another where it looked before
pub what_ovs_vsctl_sends_to_begin_to_add_a_bridge_and_to_add_another_where_it_looked_before : Plays vsw (
    codes "> A transact 1 {\"op\":\"insert\",\"table\":\"Open_vSwitch\",\"row\":{},\"uuid-name\":\"row0\"},{\"op\":\"comment\",\"comment\":\"ovs-vsctl: init\"}"
    ∷ codes "< A reply 1 [{\"uuid\":[\"uuid\",\"U1\"]},{}]"
    ∷ codes "> A transact 2 {\"op\":\"wait\",\"timeout\":0,\"table\":\"Open_vSwitch\",\"where\":[[\"_uuid\",\"==\",[\"uuid\",\"U1\"]]],\"columns\":[\"_uuid\",\"bridges\"],\"until\":\"==\",\"rows\":[{\"_uuid\":[\"uuid\",\"U1\"],\"bridges\":[\"set\",[]]}]},{\"op\":\"insert\",\"table\":\"Bridge\",\"row\":{\"name\":\"br0\"},\"uuid-name\":\"row1\"},{\"op\":\"update\",\"table\":\"Open_vSwitch\",\"where\":[[\"_uuid\",\"==\",[\"uuid\",\"U1\"]]],\"row\":{\"bridges\":[\"named-uuid\",\"row1\"]}},{\"op\":\"mutate\",\"table\":\"Open_vSwitch\",\"where\":[[\"_uuid\",\"==\",[\"uuid\",\"U1\"]]],\"mutations\":[[\"next_cfg\",\"+=\",1]]},{\"op\":\"select\",\"table\":\"Open_vSwitch\",\"where\":[[\"_uuid\",\"==\",[\"uuid\",\"U1\"]]],\"columns\":[\"next_cfg\"]},{\"op\":\"comment\",\"comment\":\"ovs-vsctl: add-br br0\"}"
    ∷ codes "< A reply 2 [{},{\"uuid\":[\"uuid\",\"U2\"]},{\"count\":1},{\"count\":1},{\"rows\":[{\"next_cfg\":1}]},{}]"
    ∷ codes "> A transact 3 {\"op\":\"wait\",\"timeout\":0,\"table\":\"Open_vSwitch\",\"where\":[[\"_uuid\",\"==\",[\"uuid\",\"U1\"]]],\"columns\":[\"bridges\"],\"until\":\"==\",\"rows\":[{\"bridges\":[\"set\",[]]}]},{\"op\":\"insert\",\"table\":\"Bridge\",\"row\":{\"name\":\"br1\"},\"uuid-name\":\"row1\"}"
    ∷ codes "< A reply 3 [{\"error\":\"timed out\"},null]"
    ∷ [])
unfolding shows
what_ovs_vsctl_sends_to_begin_to_add_a_bridge_and_to_add_another_where_it_looked_before = refl
