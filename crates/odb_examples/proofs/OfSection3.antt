-- Transcripts of section 3 of docs/PROTOCOL.md. Made by `tests/examples` from transcripts/: no hand writes here.
use Rattle.std.specs.Prelude.{◌∷◌, [], codes, refl}
use Rattle.odb_examples.proofs.TestSchemas.{choices, cnt, kinds, net, one_pair, operations}
use Rattle.odb_examples.proofs.Transcripts.{Plays, shows}

-- A condition of four members
pub a_condition_of_four_members : Plays operations (
    codes "> A transact 1 {\"op\":\"select\",\"table\":\"A\",\"where\":[[\"zz\",\"==\",1,2]]}"
    ∷ codes "< A reply 1 [{\"error\":\"syntax error\"}]"
    ∷ [])
unfolding shows
a_condition_of_four_members = refl

-- A condition of one member
pub a_condition_of_one_member : Plays operations (
    codes "> A transact 1 {\"op\":\"select\",\"table\":\"A\",\"where\":[[\"zz\"]]}"
    ∷ codes "< A reply 1 [{\"error\":\"syntax error\"}]"
    ∷ [])
unfolding shows
a_condition_of_one_member = refl

-- An optional integer is ordered where there is one
pub an_optional_integer_is_ordered_where_there_is_one : Plays net (
    codes "> B transact 1 {\"op\":\"insert\",\"table\":\"Bridge\",\"row\":{\"name\":\"br0\",\"ports\":[\"named-uuid\",\"p\"]}},{\"op\":\"insert\",\"table\":\"Port\",\"row\":{\"name\":\"p1\"},\"uuid-name\":\"p\"}"
    ∷ codes "< B reply 1 [{\"uuid\":[\"uuid\",\"U1\"]},{\"uuid\":[\"uuid\",\"U2\"]}]"
    ∷ codes "> B transact 2 {\"op\":\"select\",\"table\":\"Port\",\"where\":[[\"tag\",\"<\",6]],\"columns\":[\"name\"]}"
    ∷ codes "< B reply 2 [{\"rows\":[]}]"
    ∷ codes "> B transact 3 {\"op\":\"select\",\"table\":\"Port\",\"where\":[[\"tag\",\">=\",6]],\"columns\":[\"name\"]}"
    ∷ codes "< B reply 3 [{\"rows\":[]}]"
    ∷ codes "> B transact 4 {\"op\":\"select\",\"table\":\"Port\",\"where\":[[\"tag\",\"<=\",6]],\"columns\":[\"name\"]}"
    ∷ codes "< B reply 4 [{\"rows\":[]}]"
    ∷ codes "> B transact 5 {\"op\":\"select\",\"table\":\"Port\",\"where\":[[\"tag\",\">\",0]],\"columns\":[\"name\"]}"
    ∷ codes "< B reply 5 [{\"rows\":[]}]"
    ∷ codes "> B transact 6 {\"op\":\"update\",\"table\":\"Port\",\"where\":[],\"row\":{\"tag\":5}}"
    ∷ codes "< B reply 6 [{\"count\":1}]"
    ∷ codes "> B transact 7 {\"op\":\"select\",\"table\":\"Port\",\"where\":[[\"tag\",\"<\",6]],\"columns\":[\"name\"]}"
    ∷ codes "< B reply 7 [{\"rows\":[{\"name\":\"p1\"}]}]"
    ∷ codes "> B transact 8 {\"op\":\"select\",\"table\":\"Port\",\"where\":[[\"tag\",\">=\",6]],\"columns\":[\"name\"]}"
    ∷ codes "< B reply 8 [{\"rows\":[]}]"
    ∷ codes "> B transact 9 {\"op\":\"select\",\"table\":\"Port\",\"where\":[[\"tag\",\"<\",5]],\"columns\":[\"name\"]}"
    ∷ codes "< B reply 9 [{\"rows\":[]}]"
    ∷ codes "> B transact 10 {\"op\":\"select\",\"table\":\"Port\",\"where\":[[\"tag\",\"<=\",5]],\"columns\":[\"name\"]}"
    ∷ codes "< B reply 10 [{\"rows\":[{\"name\":\"p1\"}]}]"
    ∷ codes "> B transact 11 {\"op\":\"select\",\"table\":\"Port\",\"where\":[[\"tag\",\">=\",5]],\"columns\":[\"name\"]}"
    ∷ codes "< B reply 11 [{\"rows\":[{\"name\":\"p1\"}]}]"
    ∷ codes "> B transact 12 {\"op\":\"select\",\"table\":\"Port\",\"where\":[[\"tag\",\">\",5]],\"columns\":[\"name\"]}"
    ∷ codes "< B reply 12 [{\"rows\":[]}]"
    ∷ codes "> B transact 13 {\"op\":\"select\",\"table\":\"Port\",\"where\":[[\"tag\",\">\",4]],\"columns\":[\"name\"]}"
    ∷ codes "< B reply 13 [{\"rows\":[{\"name\":\"p1\"}]}]"
    ∷ codes "> B transact 14 {\"op\":\"select\",\"table\":\"Port\",\"where\":[[\"tag\",\"<\",5000]],\"columns\":[\"name\"]}"
    ∷ codes "< B reply 14 [{\"rows\":[{\"name\":\"p1\"}]}]"
    ∷ codes "> B transact 15 {\"op\":\"select\",\"table\":\"Port\",\"where\":[[\"tag\",\">\",-1]],\"columns\":[\"name\"]}"
    ∷ codes "< B reply 15 [{\"rows\":[{\"name\":\"p1\"}]}]"
    ∷ codes "> B transact 16 {\"op\":\"select\",\"table\":\"Port\",\"where\":[[\"tag\",\"<\",[\"set\",[6]]]],\"columns\":[\"name\"]}"
    ∷ codes "< B reply 16 [{\"rows\":[{\"name\":\"p1\"}]}]"
    ∷ codes "> B transact 17 {\"op\":\"select\",\"table\":\"Port\",\"where\":[[\"tag\",\"<\",[\"set\",[]]]],\"columns\":[\"name\"]}"
    ∷ codes "< B reply 17 [{\"error\":\"syntax error\"}]"
    ∷ codes "> B transact 18 {\"op\":\"select\",\"table\":\"Port\",\"where\":[[\"tag\",\"<\",[\"set\",[6,7]]]],\"columns\":[\"name\"]}"
    ∷ codes "< B reply 18 [{\"error\":\"syntax error\"}]"
    ∷ codes "> B transact 19 {\"op\":\"select\",\"table\":\"Port\",\"where\":[[\"tag\",\"<\",\"6\"]],\"columns\":[\"name\"]}"
    ∷ codes "< B reply 19 [{\"error\":\"syntax error\"}]"
    ∷ codes "> B transact 20 {\"op\":\"select\",\"table\":\"Port\",\"where\":[[\"tag\",\"<\",[\"map\",[]]]],\"columns\":[\"name\"]}"
    ∷ codes "< B reply 20 [{\"error\":\"syntax error\"}]"
    ∷ codes "> B transact 21 {\"op\":\"delete\",\"table\":\"Port\",\"where\":[[\"tag\",\">\",5]]},{\"op\":\"mutate\",\"table\":\"Port\",\"where\":[[\"tag\",\"<=\",5]],\"mutations\":[[\"tag\",\"+=\",1]]},{\"op\":\"select\",\"table\":\"Port\",\"where\":[[\"tag\",\">\",5]],\"columns\":[\"tag\"]}"
    ∷ codes "< B reply 21 [{\"count\":0},{\"count\":1},{\"rows\":[{\"tag\":6}]}]"
    ∷ [])
unfolding shows
an_optional_integer_is_ordered_where_there_is_one = refl

-- Conditions are tested from the front
pub conditions_are_tested_from_the_front : Plays operations (
    codes "> A transact 1 {\"op\":\"select\",\"table\":\"A\",\"where\":[[\"i\",\"~\",1],[\"zz\",\"==\",1]]}"
    ∷ codes "< A reply 1 [{\"error\":\"syntax error\"}]"
    ∷ codes "> A transact 2 {\"op\":\"select\",\"table\":\"A\",\"where\":[[\"zz\",\"==\",1],[\"i\",\"~\",1]]}"
    ∷ codes "< A reply 2 [{\"error\":\"unknown column\"}]"
    ∷ codes "> A transact 3 {\"op\":\"select\",\"table\":\"A\",\"where\":[[\"zz\",\"~\",\"q\"]]}"
    ∷ codes "< A reply 3 [{\"error\":\"unknown column\"}]"
    ∷ codes "> A transact 4 {\"op\":\"select\",\"table\":\"A\",\"where\":[[\"b\",\"~\",\"q\"]]}"
    ∷ codes "< A reply 4 [{\"error\":\"syntax error\"}]"
    ∷ codes "> A transact 5 {\"op\":\"select\",\"table\":\"A\",\"where\":[[\"u\",\"==\",[\"named-uuid\",\"w\"]]]}"
    ∷ codes "< A reply 5 [{\"error\":\"unknown uuid-name\"}]"
    ∷ codes "> A transact 6 {\"op\":\"select\",\"table\":\"A\",\"where\":[[\"u\",\"<\",[\"named-uuid\",\"w\"]]]}"
    ∷ codes "< A reply 6 [{\"error\":\"syntax error\"}]"
    ∷ codes "> A transact 7 {\"op\":\"select\",\"table\":\"A\",\"where\":{}}"
    ∷ codes "< A reply 7 [{\"error\":\"syntax error\"}]"
    ∷ codes "> A transact 8 {\"op\":\"select\",\"table\":\"A\"}"
    ∷ codes "< A reply 8 [{\"error\":\"syntax error\"}]"
    ∷ codes "> A transact 9 {\"op\":\"select\",\"table\":\"A\",\"where\":null}"
    ∷ codes "< A reply 9 [{\"error\":\"syntax error\"}]"
    ∷ codes "> A transact 10 {\"op\":\"select\",\"table\":\"A\",\"columns\":[\"zz\"]}"
    ∷ codes "< A reply 10 [{\"error\":\"syntax error\"}]"
    ∷ codes "> A transact 11 {\"op\":\"select\",\"table\":\"A\",\"where\":[],\"columns\":[\"zz\"],\"q\":1}"
    ∷ codes "< A reply 11 [{\"error\":\"unknown column\"}]"
    ∷ codes "> A transact 12 {\"op\":\"select\",\"table\":\"A\",\"where\":[],\"columns\":\"i\"}"
    ∷ codes "< A reply 12 [{\"error\":\"syntax error\"}]"
    ∷ codes "> A transact 13 {\"op\":\"select\",\"table\":\"A\",\"where\":[],\"columns\":null}"
    ∷ codes "< A reply 13 [{\"error\":\"syntax error\"}]"
    ∷ codes "> A transact 14 {\"op\":\"select\",\"table\":\"A\",\"where\":[],\"columns\":[\"i\",5,\"zz\"]}"
    ∷ codes "< A reply 14 [{\"error\":\"syntax error\"}]"
    ∷ codes "> A transact 15 {\"op\":\"select\",\"table\":\"A\",\"where\":[],\"columns\":[\"i\",\"i\",\"zz\"]}"
    ∷ codes "< A reply 15 [{\"error\":\"syntax error\"}]"
    ∷ codes "> A transact 16 {\"op\":\"select\",\"table\":\"A\",\"where\":[],\"columns\":[\"i\",\"zz\",\"i\"]}"
    ∷ codes "< A reply 16 [{\"error\":\"unknown column\"}]"
    ∷ [])
unfolding shows
conditions_are_tested_from_the_front = refl

-- Each function, and the columns that have it
pub each_function_and_the_columns_that_have_it : Plays operations (
    codes "> A transact 1 {\"op\":\"insert\",\"table\":\"A\",\"row\":{\"i\":1,\"b\":true,\"o\":4,\"s\":[\"set\",[1,2]],\"m\":[\"map\",[[\"a\",1]]]}}"
    ∷ codes "< A reply 1 [{\"uuid\":[\"uuid\",\"U1\"]}]"
    ∷ codes "> A transact 2 {\"op\":\"select\",\"table\":\"A\",\"where\":[[\"b\",\"<\",true]]}"
    ∷ codes "< A reply 2 [{\"error\":\"syntax error\"}]"
    ∷ codes "> A transact 3 {\"op\":\"select\",\"table\":\"A\",\"where\":[[\"t\",\">=\",\"x\"]]}"
    ∷ codes "< A reply 3 [{\"error\":\"syntax error\"}]"
    ∷ codes "> A transact 4 {\"op\":\"select\",\"table\":\"A\",\"where\":[[\"u\",\"<=\",[\"uuid\",\"V0\"]]]}"
    ∷ codes "< A reply 4 [{\"error\":\"syntax error\"}]"
    ∷ codes "> A transact 5 {\"op\":\"select\",\"table\":\"A\",\"where\":[[\"o\",\"<\",5]],\"columns\":[\"o\"]}"
    ∷ codes "< A reply 5 [{\"rows\":[{\"o\":4}]}]"
    ∷ codes "> A transact 6 {\"op\":\"select\",\"table\":\"A\",\"where\":[[\"o\",\">\",[\"set\",[]]]]}"
    ∷ codes "< A reply 6 [{\"error\":\"syntax error\"}]"
    ∷ codes "> A transact 7 {\"op\":\"select\",\"table\":\"A\",\"where\":[[\"m\",\"<\",[\"map\",[]]]]}"
    ∷ codes "< A reply 7 [{\"error\":\"syntax error\"}]"
    ∷ codes "> A transact 8 {\"op\":\"select\",\"table\":\"A\",\"where\":[[\"_uuid\",\"<\",[\"uuid\",\"V0\"]]]}"
    ∷ codes "< A reply 8 [{\"error\":\"syntax error\"}]"
    ∷ codes "> A transact 9 {\"op\":\"select\",\"table\":\"A\",\"where\":[[\"i\",\"includes\",1]],\"columns\":[\"i\"]}"
    ∷ codes "< A reply 9 [{\"rows\":[{\"i\":1}]}]"
    ∷ codes "> A transact 10 {\"op\":\"select\",\"table\":\"A\",\"where\":[[\"i\",\"excludes\",1]],\"columns\":[\"i\"]}"
    ∷ codes "< A reply 10 [{\"rows\":[]}]"
    ∷ codes "> A transact 11 {\"op\":\"select\",\"table\":\"A\",\"where\":[[\"i\",\"excludes\",2]],\"columns\":[\"i\"]}"
    ∷ codes "< A reply 11 [{\"rows\":[{\"i\":1}]}]"
    ∷ codes "> A transact 12 {\"op\":\"select\",\"table\":\"A\",\"where\":[[\"b\",\"includes\",true]],\"columns\":[\"b\"]}"
    ∷ codes "< A reply 12 [{\"rows\":[{\"b\":true}]}]"
    ∷ codes "> A transact 13 {\"op\":\"select\",\"table\":\"A\",\"where\":[[\"b\",\"excludes\",true]],\"columns\":[\"b\"]}"
    ∷ codes "< A reply 13 [{\"rows\":[]}]"
    ∷ codes "> A transact 14 {\"op\":\"select\",\"table\":\"A\",\"where\":[[\"o\",\"==\",4]],\"columns\":[\"o\"]}"
    ∷ codes "< A reply 14 [{\"rows\":[{\"o\":4}]}]"
    ∷ codes "> A transact 15 {\"op\":\"select\",\"table\":\"A\",\"where\":[[\"o\",\"==\",[\"set\",[]]]],\"columns\":[\"o\"]}"
    ∷ codes "< A reply 15 [{\"rows\":[]}]"
    ∷ codes "> A transact 16 {\"op\":\"select\",\"table\":\"A\",\"where\":[[\"o\",\"includes\",[\"set\",[4,5]]]],\"columns\":[\"o\"]}"
    ∷ codes "< A reply 16 [{\"rows\":[]}]"
    ∷ codes "> A transact 17 {\"op\":\"select\",\"table\":\"A\",\"where\":[[\"o\",\"excludes\",[\"set\",[5,6,7]]]],\"columns\":[\"o\"]}"
    ∷ codes "< A reply 17 [{\"rows\":[{\"o\":4}]}]"
    ∷ codes "> A transact 18 {\"op\":\"select\",\"table\":\"A\",\"where\":[[\"s\",\"==\",[\"set\",[1,2,3,4,50]]]],\"columns\":[\"o\"]}"
    ∷ codes "< A reply 18 [{\"rows\":[]}]"
    ∷ codes "> A transact 19 {\"op\":\"select\",\"table\":\"A\",\"where\":[[\"m\",\"includes\",[\"map\",[[\"a\",1]]]]],\"columns\":[\"o\"]}"
    ∷ codes "< A reply 19 [{\"rows\":[{\"o\":4}]}]"
    ∷ codes "> A transact 20 {\"op\":\"select\",\"table\":\"A\",\"where\":[[\"m\",\"includes\",[\"map\",[[\"a\",2]]]]],\"columns\":[\"o\"]}"
    ∷ codes "< A reply 20 [{\"rows\":[]}]"
    ∷ codes "> A transact 21 {\"op\":\"select\",\"table\":\"A\",\"where\":[[\"m\",\"excludes\",[\"map\",[[\"a\",2],[\"b\",1]]]]],\"columns\":[\"o\"]}"
    ∷ codes "< A reply 21 [{\"rows\":[{\"o\":4}]}]"
    ∷ codes "> A transact 22 {\"op\":\"select\",\"table\":\"A\",\"where\":[[\"m\",\"excludes\",[\"map\",[[\"b\",1],[\"a\",1]]]]],\"columns\":[\"o\"]}"
    ∷ codes "< A reply 22 [{\"rows\":[]}]"
    ∷ codes "> A transact 23 {\"op\":\"select\",\"table\":\"A\",\"where\":[[\"m\",\"includes\",\"a\"]]}"
    ∷ codes "< A reply 23 [{\"error\":\"syntax error\"}]"
    ∷ codes "> A transact 24 {\"op\":\"select\",\"table\":\"A\",\"where\":[[\"i\",\"<\",[\"set\",[1,2]]]]}"
    ∷ codes "< A reply 24 [{\"error\":\"syntax error\"}]"
    ∷ codes "> A transact 25 {\"op\":\"select\",\"table\":\"A\",\"where\":[[\"i\",\"<\",[\"set\",[2]]]],\"columns\":[\"i\"]}"
    ∷ codes "< A reply 25 [{\"rows\":[{\"i\":1}]}]"
    ∷ codes "> A transact 26 {\"op\":\"select\",\"table\":\"A\",\"where\":[[\"_uuid\",\"==\",[\"uuid\",\"U1\"]]],\"columns\":[\"i\"]}"
    ∷ codes "< A reply 26 [{\"rows\":[{\"i\":1}]}]"
    ∷ codes "> A transact 27 {\"op\":\"select\",\"table\":\"A\",\"where\":[[\"_version\",\"==\",[\"uuid\",\"V1\"]]],\"columns\":[\"i\"]}"
    ∷ codes "< A reply 27 [{\"rows\":[{\"i\":1}]}]"
    ∷ codes "> A transact 28 {\"op\":\"select\",\"table\":\"A\",\"where\":[[\"_uuid\",\"includes\",[\"set\",[]]]]}"
    ∷ codes "< A reply 28 [{\"error\":\"syntax error\"}]"
    ∷ codes "> A transact 29 {\"op\":\"select\",\"table\":\"A\",\"where\":[[\"t\",\"==\",\"q\"]],\"columns\":[\"i\"]}"
    ∷ codes "< A reply 29 [{\"rows\":[]}]"
    ∷ codes "> A transact 30 {\"op\":\"select\",\"table\":\"A\",\"where\":[[\"i\",\"==\",1],[\"b\",\"==\",false]],\"columns\":[\"i\"]}"
    ∷ codes "< A reply 30 [{\"rows\":[]}]"
    ∷ codes "> A transact 31 {\"op\":\"select\",\"table\":\"A\",\"where\":[[\"i\",\"==\",1],[\"b\",\"==\",true]],\"columns\":[\"i\"]}"
    ∷ codes "< A reply 31 [{\"rows\":[{\"i\":1}]}]"
    ∷ codes "> A transact 32 {\"op\":\"select\",\"table\":\"A\",\"where\":[true]}"
    ∷ codes "< A reply 32 [{\"error\":\"syntax error\"}]"
    ∷ codes "> A transact 33 {\"op\":\"select\",\"table\":\"A\",\"where\":[[]]}"
    ∷ codes "< A reply 33 [{\"error\":\"syntax error\"}]"
    ∷ codes "> A transact 34 {\"op\":\"select\",\"table\":\"A\",\"where\":[[\"s\",\"<\",5]]}"
    ∷ codes "< A reply 34 [{\"error\":\"syntax error\"}]"
    ∷ codes "> A transact 35 {\"op\":\"select\",\"table\":\"A\",\"where\":[[\"_version\",\">=\",[\"uuid\",\"V0\"]]]}"
    ∷ codes "< A reply 35 [{\"error\":\"syntax error\"}]"
    ∷ [])
unfolding shows
each_function_and_the_columns_that_have_it = refl

-- Maps are compared pair by pair
pub maps_are_compared_pair_by_pair : Plays kinds (
    codes "> A transact 1 {\"op\":\"insert\",\"table\":\"T\",\"row\":{\"mi\":[\"map\",[[\"k\",1],[\"j\",3]]]}}"
    ∷ codes "< A reply 1 [{\"uuid\":[\"uuid\",\"U1\"]}]"
    ∷ codes "> A transact 2 {\"op\":\"select\",\"table\":\"T\",\"where\":[[\"mi\",\"==\",[\"map\",[[\"j\",3],[\"k\",1]]]]],\"columns\":[\"i\"]}"
    ∷ codes "< A reply 2 [{\"rows\":[{\"i\":0}]}]"
    ∷ codes "> A transact 3 {\"op\":\"select\",\"table\":\"T\",\"where\":[[\"mi\",\"!=\",[\"map\",[[\"j\",3],[\"k\",2]]]]],\"columns\":[\"i\"]}"
    ∷ codes "< A reply 3 [{\"rows\":[{\"i\":0}]}]"
    ∷ codes "> A transact 4 {\"op\":\"select\",\"table\":\"T\",\"where\":[[\"mi\",\"==\",[\"map\",[[\"j\",3],[\"k\",2]]]]],\"columns\":[\"i\"]}"
    ∷ codes "< A reply 4 [{\"rows\":[]}]"
    ∷ codes "> A transact 5 {\"op\":\"select\",\"table\":\"T\",\"where\":[[\"mi\",\"includes\",[\"map\",[[\"k\",1]]]]],\"columns\":[\"i\"]}"
    ∷ codes "< A reply 5 [{\"rows\":[{\"i\":0}]}]"
    ∷ codes "> A transact 6 {\"op\":\"select\",\"table\":\"T\",\"where\":[[\"mi\",\"includes\",[\"map\",[[\"k\",2]]]]],\"columns\":[\"i\"]}"
    ∷ codes "< A reply 6 [{\"rows\":[]}]"
    ∷ codes "> A transact 7 {\"op\":\"select\",\"table\":\"T\",\"where\":[[\"mi\",\"excludes\",[\"map\",[[\"k\",2]]]]],\"columns\":[\"i\"]}"
    ∷ codes "< A reply 7 [{\"rows\":[{\"i\":0}]}]"
    ∷ codes "> A transact 8 {\"op\":\"select\",\"table\":\"T\",\"where\":[[\"mi\",\"excludes\",[\"map\",[[\"j\",3],[\"k\",2]]]]],\"columns\":[\"i\"]}"
    ∷ codes "< A reply 8 [{\"rows\":[]}]"
    ∷ [])
unfolding shows
maps_are_compared_pair_by_pair = refl

-- Numbers that are compared
pub numbers_that_are_compared : Plays cnt (
    codes "> A transact 1 {\"op\":\"insert\",\"table\":\"C\",\"row\":{\"n\":5}},{\"op\":\"insert\",\"table\":\"C\",\"row\":{\"n\":7}},{\"op\":\"insert\",\"table\":\"C\",\"row\":{\"n\":5}}"
    ∷ codes "< A reply 1 [{\"uuid\":[\"uuid\",\"U1\"]},{\"uuid\":[\"uuid\",\"U2\"]},{\"uuid\":[\"uuid\",\"U3\"]}]"
    ∷ codes "> A transact 2 {\"op\":\"select\",\"table\":\"C\",\"where\":[[\"n\",\">=\",5],[\"n\",\"<\",7]],\"columns\":[\"n\"]}"
    ∷ codes "< A reply 2 [{\"rows\":[{\"n\":5}]}]"
    ∷ codes "> A transact 3 {\"op\":\"select\",\"table\":\"C\",\"where\":[[\"n\",\"!=\",5]],\"columns\":[\"n\"]}"
    ∷ codes "< A reply 3 [{\"rows\":[{\"n\":7}]}]"
    ∷ codes "> A transact 4 {\"op\":\"update\",\"table\":\"C\",\"where\":[[\"n\",\"==\",5]],\"row\":{\"n\":6}}"
    ∷ codes "< A reply 4 [{\"count\":2}]"
    ∷ codes "> A transact 5 {\"op\":\"delete\",\"table\":\"C\",\"where\":[[\"n\",\">\",6]]}"
    ∷ codes "< A reply 5 [{\"count\":1}]"
    ∷ codes "> A transact 6 {\"op\":\"select\",\"table\":\"C\",\"where\":[],\"columns\":[\"n\"]}"
    ∷ codes "< A reply 6 [{\"rows\":[{\"n\":6}]}]"
    ∷ codes "> A transact 7 {\"op\":\"delete\",\"table\":\"C\",\"where\":[]},{\"op\":\"select\",\"table\":\"C\",\"where\":[]}"
    ∷ codes "< A reply 7 [{\"count\":2},{\"rows\":[]}]"
    ∷ codes "> A transact 8 {\"op\":\"select\",\"table\":\"C\",\"where\":[[\"s\",\"<\",5]]}"
    ∷ codes "< A reply 8 [{\"error\":\"syntax error\"}]"
    ∷ codes "> A transact 9 {\"op\":\"select\",\"table\":\"C\",\"where\":5}"
    ∷ codes "< A reply 9 [{\"error\":\"syntax error\"}]"
    ∷ codes "> A transact 10 {\"op\":\"select\",\"table\":\"C\",\"where\":[[\"n\",\"==\"]]}"
    ∷ codes "< A reply 10 [{\"error\":\"syntax error\"}]"
    ∷ [])
unfolding shows
numbers_that_are_compared = refl

-- Sets of two integers and more, maps and texts are not ordered
pub sets_of_two_integers_and_more_maps_and_texts_are_not_ordered : Plays kinds (
    codes "> A transact 1 {\"op\":\"insert\",\"table\":\"T\",\"row\":{\"few\":4,\"is\":4,\"mi\":[\"map\",[[\"a\",4]]],\"s\":\"a\"}}"
    ∷ codes "< A reply 1 [{\"uuid\":[\"uuid\",\"U1\"]}]"
    ∷ codes "> A transact 2 {\"op\":\"select\",\"table\":\"T\",\"where\":[[\"few\",\"<\",5]]}"
    ∷ codes "< A reply 2 [{\"error\":\"syntax error\"}]"
    ∷ codes "> A transact 3 {\"op\":\"select\",\"table\":\"T\",\"where\":[[\"few\",\"<\",[\"set\",[]]]]}"
    ∷ codes "< A reply 3 [{\"error\":\"syntax error\"}]"
    ∷ codes "> A transact 4 {\"op\":\"select\",\"table\":\"T\",\"where\":[[\"is\",\"<\",5]]}"
    ∷ codes "< A reply 4 [{\"error\":\"syntax error\"}]"
    ∷ codes "> A transact 5 {\"op\":\"select\",\"table\":\"T\",\"where\":[[\"mi\",\"<\",5]]}"
    ∷ codes "< A reply 5 [{\"error\":\"syntax error\"}]"
    ∷ codes "> A transact 6 {\"op\":\"select\",\"table\":\"T\",\"where\":[[\"mi\",\"<\",[\"map\",[[\"a\",5]]]]]}"
    ∷ codes "< A reply 6 [{\"error\":\"syntax error\"}]"
    ∷ codes "> A transact 7 {\"op\":\"select\",\"table\":\"T\",\"where\":[[\"s\",\"<\",\"b\"]]}"
    ∷ codes "< A reply 7 [{\"error\":\"syntax error\"}]"
    ∷ codes "> A transact 8 {\"op\":\"select\",\"table\":\"T\",\"where\":[[\"short\",\"<\",\"b\"]]}"
    ∷ codes "< A reply 8 [{\"error\":\"syntax error\"}]"
    ∷ codes "> A transact 9 {\"op\":\"select\",\"table\":\"T\",\"where\":[[\"us\",\"<\",[\"uuid\",\"V0\"]]]}"
    ∷ codes "< A reply 9 [{\"error\":\"syntax error\"}]"
    ∷ codes "> A transact 10 {\"op\":\"select\",\"table\":\"T\",\"where\":[[\"bs\",\"<\",true]]}"
    ∷ codes "< A reply 10 [{\"error\":\"syntax error\"}]"
    ∷ codes "> A transact 11 {\"op\":\"select\",\"table\":\"T\",\"where\":[[\"i\",\"<\",5],[\"tag\",\"<\",5]],\"columns\":[\"few\"]}"
    ∷ codes "< A reply 11 [{\"rows\":[{\"few\":4}]}]"
    ∷ [])
unfolding shows
sets_of_two_integers_and_more_maps_and_texts_are_not_ordered = refl

-- The column of a condition comes before its function
pub the_column_of_a_condition_comes_before_its_function : Plays operations (
    codes "> A transact 1 {\"op\":\"select\",\"table\":\"A\",\"where\":[[\"zz\",5,1]]}"
    ∷ codes "< A reply 1 [{\"error\":\"unknown column\"}]"
    ∷ [])
unfolding shows
the_column_of_a_condition_comes_before_its_function = refl

-- An immutable column comes before the mutator
pub an_immutable_column_comes_before_the_mutator : Plays operations (
    codes "> A transact 1 {\"op\":\"mutate\",\"table\":\"A\",\"where\":[],\"mutations\":[[\"k\",5,1]]}"
    ∷ codes "< A reply 1 [{\"error\":\"constraint violation\"}]"
    ∷ [])
unfolding shows
an_immutable_column_comes_before_the_mutator = refl

-- Each mutator, and the columns that have it
pub each_mutator_and_the_columns_that_have_it : Plays operations (
    codes "> A transact 1 {\"op\":\"mutate\",\"table\":\"A\",\"where\":[],\"mutations\":[[\"b\",\"+=\",1]]}"
    ∷ codes "< A reply 1 [{\"error\":\"syntax error\"}]"
    ∷ codes "> A transact 2 {\"op\":\"mutate\",\"table\":\"A\",\"where\":[],\"mutations\":[[\"t\",\"insert\",\"x\"]]}"
    ∷ codes "< A reply 2 [{\"error\":\"syntax error\"}]"
    ∷ codes "> A transact 3 {\"op\":\"mutate\",\"table\":\"A\",\"where\":[],\"mutations\":[[\"i\",\"insert\",1]]}"
    ∷ codes "< A reply 3 [{\"error\":\"syntax error\"}]"
    ∷ codes "> A transact 4 {\"op\":\"mutate\",\"table\":\"A\",\"where\":[],\"mutations\":[[\"i\",\"delete\",1]]}"
    ∷ codes "< A reply 4 [{\"error\":\"syntax error\"}]"
    ∷ codes "> A transact 5 {\"op\":\"mutate\",\"table\":\"A\",\"where\":[],\"mutations\":[[\"m\",\"+=\",1]]}"
    ∷ codes "< A reply 5 [{\"error\":\"syntax error\"}]"
    ∷ codes "> A transact 6 {\"op\":\"mutate\",\"table\":\"A\",\"where\":[],\"mutations\":[[\"i\",\"+=\",[\"set\",[]]]]}"
    ∷ codes "< A reply 6 [{\"error\":\"syntax error\"}]"
    ∷ codes "> A transact 7 {\"op\":\"mutate\",\"table\":\"A\",\"where\":[],\"mutations\":[[\"i\",\"+=\",[\"set\",[1,2]]]]}"
    ∷ codes "< A reply 7 [{\"error\":\"syntax error\"}]"
    ∷ codes "> A transact 8 {\"op\":\"mutate\",\"table\":\"A\",\"where\":[],\"mutations\":[[\"i\",\"+=\",\"a\"]]}"
    ∷ codes "< A reply 8 [{\"error\":\"syntax error\"}]"
    ∷ codes "> A transact 9 {\"op\":\"mutate\",\"table\":\"A\",\"where\":[],\"mutations\":[[\"i\",\"+=\",[\"set\",[1]]]]}"
    ∷ codes "< A reply 9 [{\"count\":0}]"
    ∷ codes "> A transact 10 {\"op\":\"mutate\",\"table\":\"A\",\"where\":[],\"mutations\":[[\"s\",\"+=\",[\"set\",[1]]]]}"
    ∷ codes "< A reply 10 [{\"count\":0}]"
    ∷ codes "> A transact 11 {\"op\":\"mutate\",\"table\":\"A\",\"where\":[],\"mutations\":[[\"s\",\"+=\",[\"set\",[1,2]]]]}"
    ∷ codes "< A reply 11 [{\"error\":\"syntax error\"}]"
    ∷ codes "> A transact 12 {\"op\":\"mutate\",\"table\":\"A\",\"where\":[],\"mutations\":[[\"s\",\"insert\",[\"map\",[]]]]}"
    ∷ codes "< A reply 12 [{\"error\":\"syntax error\"}]"
    ∷ codes "> A transact 13 {\"op\":\"mutate\",\"table\":\"A\",\"where\":[],\"mutations\":[[\"s\",\"delete\",[\"map\",[]]]]}"
    ∷ codes "< A reply 13 [{\"error\":\"syntax error\"}]"
    ∷ codes "> A transact 14 {\"op\":\"mutate\",\"table\":\"A\",\"where\":[],\"mutations\":[[\"m\",\"insert\",\"a\"]]}"
    ∷ codes "< A reply 14 [{\"error\":\"syntax error\"}]"
    ∷ codes "> A transact 15 {\"op\":\"mutate\",\"table\":\"A\",\"where\":[],\"mutations\":[[\"m\",\"insert\",[\"set\",[]]]]}"
    ∷ codes "< A reply 15 [{\"error\":\"syntax error\"}]"
    ∷ codes "> A transact 16 {\"op\":\"mutate\",\"table\":\"A\",\"where\":[],\"mutations\":[[\"m\",\"delete\",[\"set\",[\"a\",\"b\"]]]]}"
    ∷ codes "< A reply 16 [{\"count\":0}]"
    ∷ codes "> A transact 17 {\"op\":\"mutate\",\"table\":\"A\",\"where\":[],\"mutations\":[[\"m\",\"delete\",[\"set\",[]]]]}"
    ∷ codes "< A reply 17 [{\"count\":0}]"
    ∷ codes "> A transact 18 {\"op\":\"mutate\",\"table\":\"A\",\"where\":[],\"mutations\":[[\"m\",\"delete\",1]]}"
    ∷ codes "< A reply 18 [{\"error\":\"syntax error\"}]"
    ∷ codes "> A transact 19 {\"op\":\"mutate\",\"table\":\"A\",\"where\":[],\"mutations\":[[\"m\",\"delete\",[\"map\",[[\"a\"]]]]]}"
    ∷ codes "< A reply 19 [{\"error\":\"syntax error\"}]"
    ∷ codes "> A transact 20 {\"op\":\"mutate\",\"table\":\"A\",\"where\":[],\"mutations\":[[\"o\",\"-=\",1]]}"
    ∷ codes "< A reply 20 [{\"count\":0}]"
    ∷ codes "> A transact 21 {\"op\":\"mutate\",\"table\":\"A\",\"where\":[],\"mutations\":[[\"o\",\"insert\",[\"set\",[1,2,3]]]]}"
    ∷ codes "< A reply 21 [{\"count\":0}]"
    ∷ codes "> A transact 22 {\"op\":\"mutate\",\"table\":\"A\",\"where\":[],\"mutations\":[[\"t\",\"+=\",\"x\"]]}"
    ∷ codes "< A reply 22 [{\"error\":\"syntax error\"}]"
    ∷ [])
unfolding shows
each_mutator_and_the_columns_that_have_it = refl

-- Arithmetic
pub arithmetic : Plays cnt (
    codes "> A transact 1 {\"op\":\"insert\",\"table\":\"C\",\"row\":{\"n\":-7,\"s\":[\"set\",[1,2]]}}"
    ∷ codes "< A reply 1 [{\"uuid\":[\"uuid\",\"U1\"]}]"
    ∷ codes "> A transact 2 {\"op\":\"mutate\",\"table\":\"C\",\"where\":[],\"mutations\":[[\"n\",\"/=\",2]]},{\"op\":\"select\",\"table\":\"C\",\"where\":[],\"columns\":[\"n\"]}"
    ∷ codes "< A reply 2 [{\"count\":1},{\"rows\":[{\"n\":-3}]}]"
    ∷ codes "> A transact 3 {\"op\":\"mutate\",\"table\":\"C\",\"where\":[],\"mutations\":[[\"n\",\"%=\",2]]},{\"op\":\"select\",\"table\":\"C\",\"where\":[],\"columns\":[\"n\"]}"
    ∷ codes "< A reply 3 [{\"count\":1},{\"rows\":[{\"n\":-1}]}]"
    ∷ codes "> A transact 4 {\"op\":\"mutate\",\"table\":\"C\",\"where\":[],\"mutations\":[[\"n\",\"/=\",0]]}"
    ∷ codes "< A reply 4 [{\"error\":\"domain error\"}]"
    ∷ codes "> A transact 5 {\"op\":\"mutate\",\"table\":\"C\",\"where\":[],\"mutations\":[[\"s\",\"*=\",0]]}"
    ∷ codes "< A reply 5 [{\"error\":\"constraint violation\"}]"
    ∷ codes "> A transact 6 {\"op\":\"update\",\"table\":\"C\",\"where\":[],\"row\":{\"n\":9223372036854775807}}"
    ∷ codes "< A reply 6 [{\"count\":1}]"
    ∷ codes "> A transact 7 {\"op\":\"mutate\",\"table\":\"C\",\"where\":[],\"mutations\":[[\"n\",\"+=\",1]]}"
    ∷ codes "< A reply 7 [{\"error\":\"range error\"}]"
    ∷ [])
unfolding shows
arithmetic = refl

-- Arithmetic within one transaction
pub arithmetic_within_one_transaction : Plays choices (
    codes "> A transact 1 {\"op\":\"insert\",\"table\":\"C\",\"row\":{\"n\":-7}},{\"op\":\"mutate\",\"table\":\"C\",\"where\":[],\"mutations\":[[\"n\",\"/=\",2]]},{\"op\":\"update\",\"table\":\"C\",\"where\":[[\"n\",\"==\",-3]],\"row\":{}},{\"op\":\"mutate\",\"table\":\"C\",\"where\":[],\"mutations\":[[\"n\",\"%=\",2]]},{\"op\":\"update\",\"table\":\"C\",\"where\":[[\"n\",\"==\",-1]],\"row\":{}},{\"op\":\"mutate\",\"table\":\"C\",\"where\":[],\"mutations\":[[\"n\",\"/=\",0]]}"
    ∷ codes "< A reply 1 [{\"uuid\":[\"uuid\",\"U1\"]},{\"count\":1},{\"count\":1},{\"count\":1},{\"count\":1},{\"error\":\"domain error\"}]"
    ∷ codes "> A transact 2 {\"op\":\"insert\",\"table\":\"C\",\"row\":{\"s\":[\"set\",[1,2]]}},{\"op\":\"mutate\",\"table\":\"C\",\"where\":[],\"mutations\":[[\"s\",\"*=\",0]]}"
    ∷ codes "< A reply 2 [{\"uuid\":[\"uuid\",\"U2\"]},{\"error\":\"constraint violation\"}]"
    ∷ codes "> A transact 3 {\"op\":\"insert\",\"table\":\"C\",\"row\":{\"n\":9223372036854775807}},{\"op\":\"insert\",\"table\":\"C\",\"row\":{\"s\":1}},{\"op\":\"mutate\",\"table\":\"C\",\"where\":[],\"mutations\":[[\"n\",\"+=\",1],[\"s\",\"/=\",0]]}"
    ∷ codes "< A reply 3 [{\"uuid\":[\"uuid\",\"U3\"]},{\"uuid\":[\"uuid\",\"U4\"]},{\"error\":\"domain error\"}]"
    ∷ [])
unfolding shows
arithmetic_within_one_transaction = refl

-- Keys of a map that has one pair
pub keys_of_a_map_that_has_one_pair : Plays one_pair (
    codes "> A transact 1 {\"op\":\"insert\",\"table\":\"P\",\"row\":{\"m\":[\"map\",[[\"a\",1]]]}}"
    ∷ codes "< A reply 1 [{\"uuid\":[\"uuid\",\"U1\"]}]"
    ∷ codes "> A transact 2 {\"op\":\"mutate\",\"table\":\"P\",\"where\":[],\"mutations\":[[\"m\",\"delete\",[\"set\",[\"b\",\"c\"]]]]}"
    ∷ codes "< A reply 2 [{\"count\":1}]"
    ∷ codes "> A transact 3 {\"op\":\"mutate\",\"table\":\"P\",\"where\":[],\"mutations\":[[\"m\",\"delete\",[\"set\",[]]]]}"
    ∷ codes "< A reply 3 [{\"count\":1}]"
    ∷ codes "> A transact 4 {\"op\":\"mutate\",\"table\":\"P\",\"where\":[],\"mutations\":[[\"m\",\"delete\",[\"map\",[]]]]}"
    ∷ codes "< A reply 4 [{\"count\":1}]"
    ∷ codes "> A transact 5 {\"op\":\"mutate\",\"table\":\"P\",\"where\":[],\"mutations\":[[\"m\",\"delete\",\"a\"]]}"
    ∷ codes "< A reply 5 [{\"error\":\"constraint violation\"}]"
    ∷ codes "> A transact 6 {\"op\":\"mutate\",\"table\":\"P\",\"where\":[],\"mutations\":[[\"m\",\"insert\",[\"map\",[[\"b\",2]]]]]}"
    ∷ codes "< A reply 6 [{\"error\":\"constraint violation\"}]"
    ∷ codes "> A transact 7 {\"op\":\"insert\",\"table\":\"P\",\"row\":{}},{\"op\":\"select\",\"table\":\"P\",\"where\":[]}"
    ∷ codes "< A reply 7 [{\"uuid\":[\"uuid\",\"U2\"]},{\"rows\":[{\"_uuid\":[\"uuid\",\"U1\"],\"_version\":[\"uuid\",\"V1\"],\"m\":[\"map\",[[\"a\",1]]]},{\"_uuid\":[\"uuid\",\"U2\"],\"_version\":[\"uuid\",\"V0\"],\"m\":[\"map\",[[\"\",0]]]}]}]"
    ∷ [])
unfolding shows
keys_of_a_map_that_has_one_pair = refl

-- Maps and sets that are mutated
pub maps_and_sets_that_are_mutated : Plays net (
    codes "> A transact 1 {\"op\":\"insert\",\"table\":\"Bridge\",\"row\":{\"name\":\"b\",\"ports\":[\"named-uuid\",\"p\"]}},{\"op\":\"insert\",\"table\":\"Port\",\"row\":{\"name\":\"p\",\"opts\":[\"map\",[[\"a\",\"1\"],[\"b\",\"2\"],[\"c\",\"3\"]]]},\"uuid-name\":\"p\"}"
    ∷ codes "< A reply 1 [{\"uuid\":[\"uuid\",\"U1\"]},{\"uuid\":[\"uuid\",\"U2\"]}]"
    ∷ codes "> A transact 2 {\"op\":\"mutate\",\"table\":\"Port\",\"where\":[],\"mutations\":[[\"opts\",\"insert\",[\"map\",[[\"a\",\"9\"],[\"d\",\"4\"]]]]]},{\"op\":\"select\",\"table\":\"Port\",\"where\":[],\"columns\":[\"opts\"]}"
    ∷ codes "< A reply 2 [{\"count\":1},{\"rows\":[{\"opts\":[\"map\",[[\"a\",\"1\"],[\"b\",\"2\"],[\"c\",\"3\"],[\"d\",\"4\"]]]}]}]"
    ∷ codes "> A transact 3 {\"op\":\"mutate\",\"table\":\"Port\",\"where\":[],\"mutations\":[[\"opts\",\"delete\",[\"map\",[[\"a\",\"1\"],[\"b\",\"9\"]]]]]},{\"op\":\"select\",\"table\":\"Port\",\"where\":[],\"columns\":[\"opts\"]}"
    ∷ codes "< A reply 3 [{\"count\":1},{\"rows\":[{\"opts\":[\"map\",[[\"b\",\"2\"],[\"c\",\"3\"],[\"d\",\"4\"]]]}]}]"
    ∷ codes "> A transact 4 {\"op\":\"mutate\",\"table\":\"Port\",\"where\":[],\"mutations\":[[\"opts\",\"delete\",[\"set\",[\"b\",\"frob\"]]]]},{\"op\":\"select\",\"table\":\"Port\",\"where\":[],\"columns\":[\"opts\"]}"
    ∷ codes "< A reply 4 [{\"count\":1},{\"rows\":[{\"opts\":[\"map\",[[\"c\",\"3\"],[\"d\",\"4\"]]]}]}]"
    ∷ codes "> A transact 5 {\"op\":\"mutate\",\"table\":\"Port\",\"where\":[],\"mutations\":[[\"opts\",\"delete\",\"c\"]]},{\"op\":\"select\",\"table\":\"Port\",\"where\":[],\"columns\":[\"opts\"]}"
    ∷ codes "< A reply 5 [{\"count\":1},{\"rows\":[{\"opts\":[\"map\",[[\"d\",\"4\"]]]}]}]"
    ∷ codes "> A transact 6 {\"op\":\"mutate\",\"table\":\"Port\",\"where\":[],\"mutations\":[[\"tag\",\"insert\",5]]},{\"op\":\"select\",\"table\":\"Port\",\"where\":[],\"columns\":[\"tag\"]}"
    ∷ codes "< A reply 6 [{\"count\":1},{\"rows\":[{\"tag\":5}]}]"
    ∷ codes "> A transact 7 {\"op\":\"mutate\",\"table\":\"Port\",\"where\":[],\"mutations\":[[\"tag\",\"insert\",6]]}"
    ∷ codes "< A reply 7 [{\"error\":\"constraint violation\"}]"
    ∷ codes "> A transact 8 {\"op\":\"mutate\",\"table\":\"Port\",\"where\":[],\"mutations\":[[\"tag\",\"+=\",1]]},{\"op\":\"select\",\"table\":\"Port\",\"where\":[],\"columns\":[\"tag\"]}"
    ∷ codes "< A reply 8 [{\"count\":1},{\"rows\":[{\"tag\":6}]}]"
    ∷ codes "> A transact 9 {\"op\":\"mutate\",\"table\":\"Port\",\"where\":[],\"mutations\":[[\"tag\",\"delete\",6]]},{\"op\":\"select\",\"table\":\"Port\",\"where\":[],\"columns\":[\"tag\"]}"
    ∷ codes "< A reply 9 [{\"count\":1},{\"rows\":[{\"tag\":[\"set\",[]]}]}]"
    ∷ codes "> A transact 10 {\"op\":\"mutate\",\"table\":\"Port\",\"where\":[],\"mutations\":[[\"tag\",\"/=\",0]]}"
    ∷ codes "< A reply 10 [{\"count\":1}]"
    ∷ codes "> A transact 11 {\"op\":\"mutate\",\"table\":\"Port\",\"where\":[],\"mutations\":[[\"name\",\"+=\",1]]}"
    ∷ codes "< A reply 11 [{\"error\":\"syntax error\"}]"
    ∷ codes "> A transact 12 {\"op\":\"mutate\",\"table\":\"Port\",\"where\":[],\"mutations\":[[\"name\",\"insert\",\"q\"]]}"
    ∷ codes "< A reply 12 [{\"error\":\"syntax error\"}]"
    ∷ codes "> A transact 13 {\"op\":\"mutate\",\"table\":\"Bridge\",\"where\":[[\"name\",\"==\",\"nobody\"]],\"mutations\":[[\"name\",\"insert\",\"q\"]]}"
    ∷ codes "< A reply 13 [{\"error\":\"syntax error\"}]"
    ∷ codes "> A transact 14 {\"op\":\"mutate\",\"table\":\"Bridge\",\"where\":[],\"mutations\":[]}"
    ∷ codes "< A reply 14 [{\"count\":1}]"
    ∷ codes "> A transact 15 {\"op\":\"mutate\",\"table\":\"Bridge\",\"where\":[],\"mutations\":[[\"ports\",\"insert\",[\"uuid\",\"00000000-0000-4000-8000-0000000000aa\"]]]}"
    ∷ codes "< A reply 15 [{\"count\":1},{\"error\":\"referential integrity violation\"}]"
    ∷ codes "> A transact 16 {\"op\":\"mutate\",\"table\":\"Port\",\"where\":[],\"mutations\":[[\"opts\",\"insert\",\"x\"]]}"
    ∷ codes "< A reply 16 [{\"error\":\"syntax error\"}]"
    ∷ [])
unfolding shows
maps_and_sets_that_are_mutated = refl

-- Numbers that are mutated
pub numbers_that_are_mutated : Plays cnt (
    codes "> A transact 1 {\"op\":\"insert\",\"table\":\"C\",\"row\":{\"n\":-9223372036854775808,\"s\":[\"set\",[1,2,3]]}}"
    ∷ codes "< A reply 1 [{\"uuid\":[\"uuid\",\"U1\"]}]"
    ∷ codes "> A transact 2 {\"op\":\"mutate\",\"table\":\"C\",\"where\":[],\"mutations\":[[\"n\",\"%=\",-1]]}"
    ∷ codes "< A reply 2 [{\"count\":1}]"
    ∷ codes "> A transact 3 {\"op\":\"update\",\"table\":\"C\",\"where\":[],\"row\":{\"n\":-9223372036854775808}},{\"op\":\"mutate\",\"table\":\"C\",\"where\":[],\"mutations\":[[\"n\",\"/=\",2]]},{\"op\":\"select\",\"table\":\"C\",\"where\":[],\"columns\":[\"n\"]}"
    ∷ codes "< A reply 3 [{\"count\":1},{\"count\":1},{\"rows\":[{\"n\":-4611686018427387904}]}]"
    ∷ codes "> A transact 4 {\"op\":\"mutate\",\"table\":\"C\",\"where\":[],\"mutations\":[[\"s\",\"+=\",1],[\"s\",\"*=\",2],[\"s\",\"-=\",1]]},{\"op\":\"select\",\"table\":\"C\",\"where\":[],\"columns\":[\"s\"]}"
    ∷ codes "< A reply 4 [{\"count\":1},{\"rows\":[{\"s\":[\"set\",[3,5,7]]}]}]"
    ∷ codes "> A transact 5 {\"op\":\"mutate\",\"table\":\"C\",\"where\":[],\"mutations\":[[\"s\",\"/=\",100]]}"
    ∷ codes "< A reply 5 [{\"error\":\"constraint violation\"}]"
    ∷ codes "> A transact 6 {\"op\":\"mutate\",\"table\":\"C\",\"where\":[],\"mutations\":[[\"s\",\"+=\",[\"set\",[1]]]]}"
    ∷ codes "< A reply 6 [{\"count\":1}]"
    ∷ codes "> A transact 7 {\"op\":\"mutate\",\"table\":\"C\",\"where\":[],\"mutations\":[[\"s\",\"insert\",[\"set\",[]]],[\"s\",\"delete\",[\"set\",[3,5,7]]]]},{\"op\":\"select\",\"table\":\"C\",\"where\":[],\"columns\":[\"s\"]}"
    ∷ codes "< A reply 7 [{\"count\":1},{\"rows\":[{\"s\":[\"set\",[4,6,8]]}]}]"
    ∷ codes "> A transact 8 {\"op\":\"mutate\",\"table\":\"C\",\"where\":[],\"mutations\":[[\"n\",\"+=\",\"x\"]]}"
    ∷ codes "< A reply 8 [{\"error\":\"syntax error\"}]"
    ∷ codes "> A transact 9 {\"op\":\"mutate\",\"table\":\"C\",\"where\":[],\"mutations\":[[\"n\",\"frob\",1]]}"
    ∷ codes "< A reply 9 [{\"error\":\"syntax error\"}]"
    ∷ codes "> A transact 10 {\"op\":\"mutate\",\"table\":\"C\",\"where\":[],\"mutations\":[[\"n\",\"+=\",1,2]]}"
    ∷ codes "< A reply 10 [{\"error\":\"syntax error\"}]"
    ∷ codes "> A transact 11 {\"op\":\"mutate\",\"table\":\"C\",\"where\":[],\"mutations\":[[\"n\",\"%=\",0]]}"
    ∷ codes "< A reply 11 [{\"error\":\"domain error\"}]"
    ∷ [])
unfolding shows
numbers_that_are_mutated = refl

-- Operands that the column could not hold
pub operands_that_the_column_could_not_hold : Plays net (
    codes "> A transact 1 {\"op\":\"mutate\",\"table\":\"Port\",\"where\":[],\"mutations\":[[\"tag\",\"delete\",5000]]}"
    ∷ codes "< A reply 1 [{\"count\":0}]"
    ∷ codes "> A transact 2 {\"op\":\"mutate\",\"table\":\"Port\",\"where\":[],\"mutations\":[[\"tag\",\"insert\",5000]]}"
    ∷ codes "< A reply 2 [{\"count\":0}]"
    ∷ codes "> A transact 3 {\"op\":\"mutate\",\"table\":\"Port\",\"where\":[],\"mutations\":[[\"tag\",\"insert\",[\"set\",[1,2]]]]}"
    ∷ codes "< A reply 3 [{\"count\":0}]"
    ∷ codes "> A transact 4 {\"op\":\"insert\",\"table\":\"Bridge\",\"row\":{\"name\":\"b\",\"ports\":[\"named-uuid\",\"p\"]}},{\"op\":\"insert\",\"table\":\"Port\",\"row\":{\"name\":\"p\",\"tag\":1},\"uuid-name\":\"p\"}"
    ∷ codes "< A reply 4 [{\"uuid\":[\"uuid\",\"U1\"]},{\"uuid\":[\"uuid\",\"U2\"]}]"
    ∷ codes "> A transact 5 {\"op\":\"mutate\",\"table\":\"Port\",\"where\":[],\"mutations\":[[\"tag\",\"delete\",5000]]}"
    ∷ codes "< A reply 5 [{\"count\":1}]"
    ∷ codes "> A transact 6 {\"op\":\"mutate\",\"table\":\"Port\",\"where\":[],\"mutations\":[[\"tag\",\"insert\",5000]]}"
    ∷ codes "< A reply 6 [{\"error\":\"constraint violation\"}]"
    ∷ codes "> A transact 7 {\"op\":\"mutate\",\"table\":\"Port\",\"where\":[],\"mutations\":[[\"tag\",\"insert\",[\"set\",[1,2]]]]}"
    ∷ codes "< A reply 7 [{\"error\":\"constraint violation\"}]"
    ∷ codes "> A transact 8 {\"op\":\"mutate\",\"table\":\"Port\",\"where\":[],\"mutations\":[[\"tag\",\"insert\",[\"set\",[1,5]]]]}"
    ∷ codes "< A reply 8 [{\"error\":\"constraint violation\"}]"
    ∷ codes "> A transact 9 {\"op\":\"select\",\"table\":\"Port\",\"where\":[],\"columns\":[\"tag\"]}"
    ∷ codes "< A reply 9 [{\"rows\":[{\"tag\":1}]}]"
    ∷ [])
unfolding shows
operands_that_the_column_could_not_hold = refl

-- Results past 64 bits
pub results_past_64_bits : Plays kinds (
    codes "> A transact 1 {\"op\":\"insert\",\"table\":\"T\",\"row\":{\"i\":0}}"
    ∷ codes "< A reply 1 [{\"uuid\":[\"uuid\",\"U1\"]}]"
    ∷ codes "> A transact 2 {\"op\":\"update\",\"table\":\"T\",\"where\":[],\"row\":{\"i\":9223372036854775807}},{\"op\":\"mutate\",\"table\":\"T\",\"where\":[],\"mutations\":[[\"i\",\"+=\",1]]}"
    ∷ codes "< A reply 2 [{\"count\":1},{\"error\":\"range error\"}]"
    ∷ codes "> A transact 3 {\"op\":\"update\",\"table\":\"T\",\"where\":[],\"row\":{\"i\":-9223372036854775808}},{\"op\":\"mutate\",\"table\":\"T\",\"where\":[],\"mutations\":[[\"i\",\"-=\",1]]}"
    ∷ codes "< A reply 3 [{\"count\":1},{\"error\":\"range error\"}]"
    ∷ codes "> A transact 4 {\"op\":\"update\",\"table\":\"T\",\"where\":[],\"row\":{\"i\":9223372036854775807}},{\"op\":\"mutate\",\"table\":\"T\",\"where\":[],\"mutations\":[[\"i\",\"*=\",-2]]}"
    ∷ codes "< A reply 4 [{\"count\":1},{\"error\":\"range error\"}]"
    ∷ codes "> A transact 5 {\"op\":\"update\",\"table\":\"T\",\"where\":[],\"row\":{\"i\":-9223372036854775808}},{\"op\":\"mutate\",\"table\":\"T\",\"where\":[],\"mutations\":[[\"i\",\"/=\",-1]]}"
    ∷ codes "< A reply 5 [{\"count\":1},{\"error\":\"range error\"}]"
    ∷ codes "> A transact 6 {\"op\":\"update\",\"table\":\"T\",\"where\":[],\"row\":{\"i\":-9223372036854775808}},{\"op\":\"mutate\",\"table\":\"T\",\"where\":[],\"mutations\":[[\"i\",\"%=\",-1]]},{\"op\":\"select\",\"table\":\"T\",\"where\":[],\"columns\":[\"i\"]}"
    ∷ codes "< A reply 6 [{\"count\":1},{\"count\":1},{\"rows\":[{\"i\":0}]}]"
    ∷ codes "> A transact 7 {\"op\":\"update\",\"table\":\"T\",\"where\":[],\"row\":{\"i\":-1}},{\"op\":\"mutate\",\"table\":\"T\",\"where\":[],\"mutations\":[[\"i\",\"-=\",9223372036854775807]]},{\"op\":\"select\",\"table\":\"T\",\"where\":[],\"columns\":[\"i\"]}"
    ∷ codes "< A reply 7 [{\"count\":1},{\"count\":1},{\"rows\":[{\"i\":-9223372036854775808}]}]"
    ∷ [])
unfolding shows
results_past_64_bits = refl

-- Sets are calculated element by element
pub sets_are_calculated_element_by_element : Plays kinds (
    codes "> A transact 1 {\"op\":\"insert\",\"table\":\"T\",\"row\":{\"is\":[\"set\",[]]}}"
    ∷ codes "< A reply 1 [{\"uuid\":[\"uuid\",\"U1\"]}]"
    ∷ codes "> A transact 2 {\"op\":\"update\",\"table\":\"T\",\"where\":[],\"row\":{\"is\":[\"set\",[-9,9]]}},{\"op\":\"mutate\",\"table\":\"T\",\"where\":[],\"mutations\":[[\"is\",\"+=\",1]]},{\"op\":\"select\",\"table\":\"T\",\"where\":[],\"columns\":[\"is\"]}"
    ∷ codes "< A reply 2 [{\"count\":1},{\"count\":1},{\"rows\":[{\"is\":[\"set\",[-8,10]]}]}]"
    ∷ codes "> A transact 3 {\"op\":\"update\",\"table\":\"T\",\"where\":[],\"row\":{\"is\":[\"set\",[-9,9]]}},{\"op\":\"mutate\",\"table\":\"T\",\"where\":[],\"mutations\":[[\"is\",\"-=\",1]]},{\"op\":\"select\",\"table\":\"T\",\"where\":[],\"columns\":[\"is\"]}"
    ∷ codes "< A reply 3 [{\"count\":1},{\"count\":1},{\"rows\":[{\"is\":[\"set\",[-10,8]]}]}]"
    ∷ codes "> A transact 4 {\"op\":\"update\",\"table\":\"T\",\"where\":[],\"row\":{\"is\":[\"set\",[-9,9]]}},{\"op\":\"mutate\",\"table\":\"T\",\"where\":[],\"mutations\":[[\"is\",\"*=\",-2]]},{\"op\":\"select\",\"table\":\"T\",\"where\":[],\"columns\":[\"is\"]}"
    ∷ codes "< A reply 4 [{\"count\":1},{\"count\":1},{\"rows\":[{\"is\":[\"set\",[-18,18]]}]}]"
    ∷ codes "> A transact 5 {\"op\":\"update\",\"table\":\"T\",\"where\":[],\"row\":{\"is\":[\"set\",[-9,9]]}},{\"op\":\"mutate\",\"table\":\"T\",\"where\":[],\"mutations\":[[\"is\",\"/=\",2]]},{\"op\":\"select\",\"table\":\"T\",\"where\":[],\"columns\":[\"is\"]}"
    ∷ codes "< A reply 5 [{\"count\":1},{\"count\":1},{\"rows\":[{\"is\":[\"set\",[-4,4]]}]}]"
    ∷ codes "> A transact 6 {\"op\":\"update\",\"table\":\"T\",\"where\":[],\"row\":{\"is\":[\"set\",[-9,9]]}},{\"op\":\"mutate\",\"table\":\"T\",\"where\":[],\"mutations\":[[\"is\",\"%=\",5]]},{\"op\":\"select\",\"table\":\"T\",\"where\":[],\"columns\":[\"is\"]}"
    ∷ codes "< A reply 6 [{\"count\":1},{\"count\":1},{\"rows\":[{\"is\":[\"set\",[-4,4]]}]}]"
    ∷ [])
unfolding shows
sets_are_calculated_element_by_element = refl

-- The least number divided by minus one
pub the_least_number_divided_by_minus_one : Plays cnt (
    codes "> A transact 1 {\"op\":\"insert\",\"table\":\"C\",\"row\":{\"n\":-9223372036854775808}}"
    ∷ codes "< A reply 1 [{\"uuid\":[\"uuid\",\"U1\"]}]"
    ∷ codes "> A transact 2 {\"op\":\"mutate\",\"table\":\"C\",\"where\":[],\"mutations\":[[\"n\",\"/=\",-1]]}"
    ∷ codes "< A reply 2 [{\"error\":\"range error\"}]"
    ∷ codes "> A echo 3 []"
    ∷ codes "< A reply 3 []"
    ∷ [])
unfolding shows
the_least_number_divided_by_minus_one = refl

-- What mutations make of values
pub what_mutations_make_of_values : Plays operations (
    codes "> A transact 1 {\"op\":\"insert\",\"table\":\"A\",\"row\":{\"i\":7,\"s\":[\"set\",[1,2]],\"m\":[\"map\",[[\"a\",1],[\"b\",2]]]}}"
    ∷ codes "< A reply 1 [{\"uuid\":[\"uuid\",\"U1\"]}]"
    ∷ codes "> A transact 2 {\"op\":\"mutate\",\"table\":\"A\",\"where\":[],\"mutations\":[[\"i\",\"/=\",-2]]},{\"op\":\"select\",\"table\":\"A\",\"where\":[],\"columns\":[\"i\"]}"
    ∷ codes "< A reply 2 [{\"count\":1},{\"rows\":[{\"i\":-3}]}]"
    ∷ codes "> A transact 3 {\"op\":\"update\",\"table\":\"A\",\"where\":[],\"row\":{\"i\":7}},{\"op\":\"mutate\",\"table\":\"A\",\"where\":[],\"mutations\":[[\"i\",\"%=\",-2]]},{\"op\":\"select\",\"table\":\"A\",\"where\":[],\"columns\":[\"i\"]}"
    ∷ codes "< A reply 3 [{\"count\":1},{\"count\":1},{\"rows\":[{\"i\":1}]}]"
    ∷ codes "> A transact 4 {\"op\":\"mutate\",\"table\":\"A\",\"where\":[],\"mutations\":[[\"i\",\"+=\",1],[\"i\",\"*=\",10]]},{\"op\":\"select\",\"table\":\"A\",\"where\":[],\"columns\":[\"i\"]}"
    ∷ codes "< A reply 4 [{\"count\":1},{\"rows\":[{\"i\":20}]}]"
    ∷ codes "> A transact 5 {\"op\":\"mutate\",\"table\":\"A\",\"where\":[],\"mutations\":[[\"s\",\"+=\",1]]},{\"op\":\"select\",\"table\":\"A\",\"where\":[],\"columns\":[\"s\"]}"
    ∷ codes "< A reply 5 [{\"count\":1},{\"rows\":[{\"s\":[\"set\",[2,3]]}]}]"
    ∷ codes "> A transact 6 {\"op\":\"mutate\",\"table\":\"A\",\"where\":[],\"mutations\":[[\"s\",\"+=\",7]]}"
    ∷ codes "< A reply 6 [{\"error\":\"constraint violation\"}]"
    ∷ codes "> A transact 7 {\"op\":\"mutate\",\"table\":\"A\",\"where\":[],\"mutations\":[[\"s\",\"insert\",[\"set\",[4,5]]]]}"
    ∷ codes "< A reply 7 [{\"error\":\"constraint violation\"}]"
    ∷ codes "> A transact 8 {\"op\":\"mutate\",\"table\":\"A\",\"where\":[],\"mutations\":[[\"s\",\"insert\",[\"set\",[4,5]]],[\"s\",\"delete\",[\"set\",[2,3]]]]}"
    ∷ codes "< A reply 8 [{\"error\":\"constraint violation\"}]"
    ∷ codes "> A transact 9 {\"op\":\"mutate\",\"table\":\"A\",\"where\":[],\"mutations\":[[\"s\",\"delete\",[\"set\",[2,77]]],[\"s\",\"insert\",[\"set\",[4,5]]]]},{\"op\":\"select\",\"table\":\"A\",\"where\":[],\"columns\":[\"s\"]}"
    ∷ codes "< A reply 9 [{\"count\":1},{\"rows\":[{\"s\":[\"set\",[3,4,5]]}]}]"
    ∷ codes "> A transact 10 {\"op\":\"mutate\",\"table\":\"A\",\"where\":[],\"mutations\":[[\"s\",\"/=\",0]]}"
    ∷ codes "< A reply 10 [{\"error\":\"domain error\"}]"
    ∷ codes "> A transact 11 {\"op\":\"mutate\",\"table\":\"A\",\"where\":[],\"mutations\":[[\"o\",\"/=\",0]]}"
    ∷ codes "< A reply 11 [{\"count\":1}]"
    ∷ codes "> A transact 12 {\"op\":\"mutate\",\"table\":\"A\",\"where\":[],\"mutations\":[[\"s\",\"*=\",0]]}"
    ∷ codes "< A reply 12 [{\"error\":\"constraint violation\"}]"
    ∷ codes "> A transact 13 {\"op\":\"mutate\",\"table\":\"A\",\"where\":[],\"mutations\":[[\"s\",\"/=\",9]]}"
    ∷ codes "< A reply 13 [{\"error\":\"constraint violation\"}]"
    ∷ codes "> A transact 14 {\"op\":\"mutate\",\"table\":\"A\",\"where\":[],\"mutations\":[[\"s\",\"-=\",-9223372036854775808]]}"
    ∷ codes "< A reply 14 [{\"error\":\"range error\"}]"
    ∷ codes "> A transact 15 {\"op\":\"mutate\",\"table\":\"A\",\"where\":[],\"mutations\":[[\"i\",\"+=\",1],[\"i\",\"/=\",0]]}"
    ∷ codes "< A reply 15 [{\"error\":\"domain error\"}]"
    ∷ codes "> A transact 16 {\"op\":\"mutate\",\"table\":\"A\",\"where\":[],\"mutations\":[[\"m\",\"delete\",[\"set\",[\"a\",\"z\"]]]]},{\"op\":\"select\",\"table\":\"A\",\"where\":[],\"columns\":[\"m\"]}"
    ∷ codes "< A reply 16 [{\"count\":1},{\"rows\":[{\"m\":[\"map\",[[\"b\",2]]]}]}]"
    ∷ codes "> A transact 17 {\"op\":\"mutate\",\"table\":\"A\",\"where\":[],\"mutations\":[[\"m\",\"delete\",[\"map\",[[\"b\",3]]]]]},{\"op\":\"select\",\"table\":\"A\",\"where\":[],\"columns\":[\"m\"]}"
    ∷ codes "< A reply 17 [{\"count\":1},{\"rows\":[{\"m\":[\"map\",[[\"b\",2]]]}]}]"
    ∷ codes "> A transact 18 {\"op\":\"mutate\",\"table\":\"A\",\"where\":[],\"mutations\":[[\"m\",\"insert\",[\"map\",[[\"b\",9],[\"c\",3]]]]]},{\"op\":\"select\",\"table\":\"A\",\"where\":[],\"columns\":[\"m\"]}"
    ∷ codes "< A reply 18 [{\"count\":1},{\"rows\":[{\"m\":[\"map\",[[\"b\",2],[\"c\",3]]]}]}]"
    ∷ codes "> A transact 19 {\"op\":\"mutate\",\"table\":\"A\",\"where\":[],\"mutations\":[[\"m\",\"delete\",[\"map\",[[\"b\",2],[\"c\",4]]]]]},{\"op\":\"select\",\"table\":\"A\",\"where\":[],\"columns\":[\"m\"]}"
    ∷ codes "< A reply 19 [{\"count\":1},{\"rows\":[{\"m\":[\"map\",[[\"c\",3]]]}]}]"
    ∷ [])
unfolding shows
what_mutations_make_of_values = refl
