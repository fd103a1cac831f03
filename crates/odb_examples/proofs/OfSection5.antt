-- Transcripts of section 5 of docs/PROTOCOL.md. Made by `tests/examples` from transcripts/: no hand writes here.
use Rattle.std.specs.Prelude.{◌∷◌, [], codes, refl}
use Rattle.odb_examples.proofs.TestSchemas.{immutable, lft, limits, lnk, net, northbound, references, settlement}
use Rattle.odb_examples.proofs.Transcripts.{Plays, shows}

-- A chain goes with its head
pub a_chain_goes_with_its_head : Plays lnk (
    codes "> A transact 1 {\"op\":\"insert\",\"table\":\"R\",\"row\":{\"first\":[\"named-uuid\",\"a\"]}},{\"op\":\"insert\",\"table\":\"N\",\"row\":{\"next\":[\"named-uuid\",\"b\"]},\"uuid-name\":\"a\"},{\"op\":\"insert\",\"table\":\"N\",\"row\":{\"next\":[\"named-uuid\",\"c\"]},\"uuid-name\":\"b\"},{\"op\":\"insert\",\"table\":\"N\",\"row\":{},\"uuid-name\":\"c\"}"
    ∷ codes "< A reply 1 [{\"uuid\":[\"uuid\",\"U1\"]},{\"uuid\":[\"uuid\",\"U2\"]},{\"uuid\":[\"uuid\",\"U3\"]},{\"uuid\":[\"uuid\",\"U4\"]}]"
    ∷ codes "> A transact 2 {\"op\":\"update\",\"table\":\"R\",\"where\":[],\"row\":{\"first\":[\"set\",[]]}}"
    ∷ codes "< A reply 2 [{\"count\":1}]"
    ∷ codes "> A transact 3 {\"op\":\"select\",\"table\":\"N\",\"where\":[]}"
    ∷ codes "< A reply 3 [{\"rows\":[]}]"
    ∷ [])
unfolding shows
a_chain_goes_with_its_head = refl

-- A chain on a root row stays, and so does a ring; the others go
pub a_chain_on_a_root_row_stays_and_so_does_a_ring_the_others_go : Plays references (
    codes "> A transact 1 {\"op\":\"insert\",\"table\":\"R\",\"row\":{\"name\":\"a\",\"strong\":[\"set\",[[\"named-uuid\",\"n1\"]]]}},{\"op\":\"insert\",\"table\":\"N\",\"row\":{\"name\":\"\",\"strong\":[\"set\",[[\"named-uuid\",\"n2\"]]]},\"uuid-name\":\"n1\"},{\"op\":\"insert\",\"table\":\"N\",\"row\":{\"name\":\"\",\"strong\":[\"set\",[[\"named-uuid\",\"n3\"]]]},\"uuid-name\":\"n2\"},{\"op\":\"insert\",\"table\":\"N\",\"row\":{\"name\":\"\"},\"uuid-name\":\"n3\"},{\"op\":\"insert\",\"table\":\"N\",\"row\":{\"name\":\"\",\"strong\":[\"set\",[[\"named-uuid\",\"n5\"]]]},\"uuid-name\":\"n4\"},{\"op\":\"insert\",\"table\":\"N\",\"row\":{\"name\":\"\",\"strong\":[\"set\",[[\"named-uuid\",\"n6\"]]]},\"uuid-name\":\"n5\"},{\"op\":\"insert\",\"table\":\"N\",\"row\":{\"name\":\"\"},\"uuid-name\":\"n6\"},{\"op\":\"insert\",\"table\":\"N\",\"row\":{\"name\":\"\",\"strong\":[\"set\",[[\"named-uuid\",\"n8\"]]]},\"uuid-name\":\"n7\"},{\"op\":\"insert\",\"table\":\"N\",\"row\":{\"name\":\"\",\"strong\":[\"set\",[[\"named-uuid\",\"n7\"]]]},\"uuid-name\":\"n8\"},{\"op\":\"insert\",\"table\":\"N\",\"row\":{\"name\":\"\",\"strong\":[\"set\",[[\"named-uuid\",\"n9\"]]]},\"uuid-name\":\"n9\"}"
    ∷ codes "< A reply 1 [{\"uuid\":[\"uuid\",\"U1\"]},{\"uuid\":[\"uuid\",\"U2\"]},{\"uuid\":[\"uuid\",\"U3\"]},{\"uuid\":[\"uuid\",\"U4\"]},{\"uuid\":[\"uuid\",\"U5\"]},{\"uuid\":[\"uuid\",\"U6\"]},{\"uuid\":[\"uuid\",\"U7\"]},{\"uuid\":[\"uuid\",\"U8\"]},{\"uuid\":[\"uuid\",\"U9\"]},{\"uuid\":[\"uuid\",\"U10\"]}]"
    ∷ codes "> A transact 2 {\"op\":\"select\",\"table\":\"N\",\"where\":[],\"columns\":[\"_uuid\"]},{\"op\":\"select\",\"table\":\"R\",\"where\":[],\"columns\":[\"_uuid\"]}"
    ∷ codes "< A reply 2 [{\"rows\":[{\"_uuid\":[\"uuid\",\"U2\"]},{\"_uuid\":[\"uuid\",\"U3\"]},{\"_uuid\":[\"uuid\",\"U4\"]},{\"_uuid\":[\"uuid\",\"U8\"]},{\"_uuid\":[\"uuid\",\"U9\"]}]},{\"rows\":[{\"_uuid\":[\"uuid\",\"U1\"]}]}]"
    ∷ [])
unfolding shows
a_chain_on_a_root_row_stays_and_so_does_a_ring_the_others_go = refl

-- A chain that is cut loses what comes after the cut
pub a_chain_that_is_cut_loses_what_comes_after_the_cut : Plays lnk (
    codes "> A transact 1 {\"op\":\"insert\",\"table\":\"R\",\"row\":{\"first\":[\"named-uuid\",\"a\"]}},{\"op\":\"insert\",\"table\":\"N\",\"row\":{\"next\":[\"named-uuid\",\"b\"]},\"uuid-name\":\"a\"},{\"op\":\"insert\",\"table\":\"N\",\"row\":{\"next\":[\"named-uuid\",\"c\"]},\"uuid-name\":\"b\"},{\"op\":\"insert\",\"table\":\"N\",\"row\":{\"next\":[\"named-uuid\",\"d\"]},\"uuid-name\":\"c\"},{\"op\":\"insert\",\"table\":\"N\",\"row\":{},\"uuid-name\":\"d\"},{\"op\":\"insert\",\"table\":\"N\",\"row\":{\"next\":[\"named-uuid\",\"d\"]},\"uuid-name\":\"e\"},{\"op\":\"insert\",\"table\":\"R\",\"row\":{\"first\":[\"named-uuid\",\"e\"]}}"
    ∷ codes "< A reply 1 [{\"uuid\":[\"uuid\",\"U1\"]},{\"uuid\":[\"uuid\",\"U2\"]},{\"uuid\":[\"uuid\",\"U3\"]},{\"uuid\":[\"uuid\",\"U4\"]},{\"uuid\":[\"uuid\",\"U5\"]},{\"uuid\":[\"uuid\",\"U6\"]},{\"uuid\":[\"uuid\",\"U7\"]}]"
    ∷ codes "> A transact 2 {\"op\":\"update\",\"table\":\"N\",\"where\":[[\"_uuid\",\"==\",[\"uuid\",\"U2\"]]],\"row\":{\"next\":[\"set\",[]]}}"
    ∷ codes "< A reply 2 [{\"count\":1}]"
    ∷ codes "> A transact 3 {\"op\":\"select\",\"table\":\"N\",\"where\":[],\"columns\":[\"_uuid\"]}"
    ∷ codes "< A reply 3 [{\"rows\":[{\"_uuid\":[\"uuid\",\"U2\"]},{\"_uuid\":[\"uuid\",\"U5\"]},{\"_uuid\":[\"uuid\",\"U6\"]}]}]"
    ∷ codes "> A transact 4 {\"op\":\"update\",\"table\":\"R\",\"where\":[[\"_uuid\",\"==\",[\"uuid\",\"U7\"]]],\"row\":{\"first\":[\"set\",[]]}}"
    ∷ codes "< A reply 4 [{\"count\":1}]"
    ∷ codes "> A transact 5 {\"op\":\"select\",\"table\":\"N\",\"where\":[],\"columns\":[\"_uuid\"]}"
    ∷ codes "< A reply 5 [{\"rows\":[{\"_uuid\":[\"uuid\",\"U2\"]}]}]"
    ∷ [])
unfolding shows
a_chain_that_is_cut_loses_what_comes_after_the_cut = refl

-- A new row takes the name of a row that isn't touched
pub a_new_row_takes_the_name_of_a_row_that_isnt_touched : Plays net (
    codes "> A transact 1 {\"op\":\"insert\",\"table\":\"Bridge\",\"row\":{\"name\":\"a\"}},{\"op\":\"insert\",\"table\":\"Bridge\",\"row\":{\"name\":\"b\"}}"
    ∷ codes "< A reply 1 [{\"uuid\":[\"uuid\",\"U1\"]},{\"uuid\":[\"uuid\",\"U2\"]}]"
    ∷ codes "> A transact 2 {\"op\":\"insert\",\"table\":\"Bridge\",\"row\":{\"name\":\"b\"}}"
    ∷ codes "< A reply 2 [{\"uuid\":[\"uuid\",\"U3\"]},{\"error\":\"constraint violation\"}]"
    ∷ codes "> A transact 3 {\"op\":\"update\",\"table\":\"Bridge\",\"where\":[[\"name\",\"==\",\"a\"]],\"row\":{\"name\":\"b\"}}"
    ∷ codes "< A reply 3 [{\"count\":1},{\"error\":\"constraint violation\"}]"
    ∷ codes "> A transact 4 {\"op\":\"update\",\"table\":\"Bridge\",\"where\":[[\"name\",\"==\",\"b\"]],\"row\":{\"name\":\"c\"}},{\"op\":\"select\",\"table\":\"Bridge\",\"where\":[[\"name\",\"==\",\"b\"]],\"columns\":[\"name\"]},{\"op\":\"select\",\"table\":\"Bridge\",\"where\":[[\"name\",\"==\",\"c\"]],\"columns\":[\"_uuid\"]},{\"op\":\"insert\",\"table\":\"Bridge\",\"row\":{\"name\":\"b\"}}"
    ∷ codes "< A reply 4 [{\"count\":1},{\"rows\":[]},{\"rows\":[{\"_uuid\":[\"uuid\",\"U2\"]}]},{\"uuid\":[\"uuid\",\"U4\"]}]"
    ∷ codes "> A transact 5 {\"op\":\"select\",\"table\":\"Bridge\",\"where\":[[\"name\",\"==\",\"b\"]],\"columns\":[\"_uuid\"]},{\"op\":\"delete\",\"table\":\"Bridge\",\"where\":[[\"name\",\"==\",\"c\"]]},{\"op\":\"insert\",\"table\":\"Bridge\",\"row\":{\"name\":\"c\"}}"
    ∷ codes "< A reply 5 [{\"rows\":[{\"_uuid\":[\"uuid\",\"U4\"]}]},{\"count\":1},{\"uuid\":[\"uuid\",\"U5\"]}]"
    ∷ codes "> A transact 6 {\"op\":\"select\",\"table\":\"Bridge\",\"where\":[[\"name\",\"==\",\"c\"]],\"columns\":[\"_uuid\"]}"
    ∷ codes "< A reply 6 [{\"rows\":[{\"_uuid\":[\"uuid\",\"U5\"]}]}]"
    ∷ [])
unfolding shows
a_new_row_takes_the_name_of_a_row_that_isnt_touched = refl

-- A pair goes out with its key, in the commit of the delete
pub a_pair_goes_out_with_its_key_in_the_commit_of_the_delete : Plays lft (
    codes "> A transact 1 {\"op\":\"insert\",\"table\":\"W\",\"row\":{},\"uuid-name\":\"w\"},{\"op\":\"insert\",\"table\":\"S\",\"row\":{},\"uuid-name\":\"s\"},{\"op\":\"insert\",\"table\":\"R\",\"row\":{\"m\":[\"map\",[[[\"named-uuid\",\"w\"],[\"named-uuid\",\"s\"]]]]}}"
    ∷ codes "< A reply 1 [{\"uuid\":[\"uuid\",\"U1\"]},{\"uuid\":[\"uuid\",\"U2\"]},{\"uuid\":[\"uuid\",\"U3\"]}]"
    ∷ codes "> A transact 2 {\"op\":\"delete\",\"table\":\"W\",\"where\":[]}"
    ∷ codes "< A reply 2 [{\"count\":1}]"
    ∷ codes "> A transact 3 {\"op\":\"select\",\"table\":\"S\",\"where\":[],\"columns\":[\"k\"]}"
    ∷ codes "< A reply 3 [{\"rows\":[{\"k\":0}]}]"
    ∷ codes "> A transact 4 {\"op\":\"select\",\"table\":\"S\",\"where\":[],\"columns\":[\"k\"]}"
    ∷ codes "< A reply 4 [{\"rows\":[]}]"
    ∷ codes "> A transact 5 {\"op\":\"select\",\"table\":\"R\",\"where\":[],\"columns\":[\"_version\",\"m\"]}"
    ∷ codes "< A reply 5 [{\"rows\":[{\"_version\":[\"uuid\",\"V2\"],\"m\":[\"map\",[]]}]}]"
    ∷ [])
unfolding shows
a_pair_goes_out_with_its_key_in_the_commit_of_the_delete = refl

-- A ring keeps itself
pub a_ring_keeps_itself : Plays lnk (
    codes "> A transact 1 {\"op\":\"insert\",\"table\":\"N\",\"row\":{\"next\":[\"named-uuid\",\"y\"]},\"uuid-name\":\"x\"},{\"op\":\"insert\",\"table\":\"N\",\"row\":{\"next\":[\"named-uuid\",\"x\"]},\"uuid-name\":\"y\"}"
    ∷ codes "< A reply 1 [{\"uuid\":[\"uuid\",\"U1\"]},{\"uuid\":[\"uuid\",\"U2\"]}]"
    ∷ codes "> A transact 2 {\"op\":\"select\",\"table\":\"N\",\"where\":[],\"columns\":[\"next\"]}"
    ∷ codes "< A reply 2 [{\"rows\":[{\"next\":[\"uuid\",\"U2\"]},{\"next\":[\"uuid\",\"U1\"]}]}]"
    ∷ [])
unfolding shows
a_ring_keeps_itself = refl

-- A ring stays when what led to it goes, and goes when it is cut
pub a_ring_stays_when_what_led_to_it_goes_and_goes_when_it_is_cut : Plays lnk (
    codes "> A transact 1 {\"op\":\"insert\",\"table\":\"R\",\"row\":{\"first\":[\"named-uuid\",\"x\"]}},{\"op\":\"insert\",\"table\":\"N\",\"row\":{\"next\":[\"named-uuid\",\"y\"]},\"uuid-name\":\"x\"},{\"op\":\"insert\",\"table\":\"N\",\"row\":{\"next\":[\"named-uuid\",\"z\"]},\"uuid-name\":\"y\"},{\"op\":\"insert\",\"table\":\"N\",\"row\":{\"next\":[\"named-uuid\",\"x\"]},\"uuid-name\":\"z\"}"
    ∷ codes "< A reply 1 [{\"uuid\":[\"uuid\",\"U1\"]},{\"uuid\":[\"uuid\",\"U2\"]},{\"uuid\":[\"uuid\",\"U3\"]},{\"uuid\":[\"uuid\",\"U4\"]}]"
    ∷ codes "> A transact 2 {\"op\":\"delete\",\"table\":\"R\",\"where\":[]}"
    ∷ codes "< A reply 2 [{\"count\":1}]"
    ∷ codes "> A transact 3 {\"op\":\"select\",\"table\":\"N\",\"where\":[],\"columns\":[\"_uuid\"]}"
    ∷ codes "< A reply 3 [{\"rows\":[{\"_uuid\":[\"uuid\",\"U2\"]},{\"_uuid\":[\"uuid\",\"U3\"]},{\"_uuid\":[\"uuid\",\"U4\"]}]}]"
    ∷ codes "> A transact 4 {\"op\":\"update\",\"table\":\"N\",\"where\":[[\"_uuid\",\"==\",[\"uuid\",\"U3\"]]],\"row\":{\"next\":[\"uuid\",\"U3\"]}}"
    ∷ codes "< A reply 4 [{\"count\":1}]"
    ∷ codes "> A transact 5 {\"op\":\"select\",\"table\":\"N\",\"where\":[],\"columns\":[\"_uuid\"]}"
    ∷ codes "< A reply 5 [{\"rows\":[]}]"
    ∷ [])
unfolding shows
a_ring_stays_when_what_led_to_it_goes_and_goes_when_it_is_cut = refl

-- A router goes with its NAT rule and the address set that the rule names
pub a_router_goes_with_its_nat_rule_and_the_address_set_that_the_rule_names : Plays northbound (
    codes "> A transact 1 {\"op\":\"insert\",\"table\":\"Address_Set\",\"row\":{\"name\":\"a\"},\"uuid-name\":\"a\"},{\"op\":\"insert\",\"table\":\"NAT\",\"row\":{\"allowed_ext_ips\":[\"named-uuid\",\"a\"]},\"uuid-name\":\"n\"},{\"op\":\"insert\",\"table\":\"Logical_Router\",\"row\":{\"name\":\"r\",\"nat\":[\"named-uuid\",\"n\"]}}"
    ∷ codes "< A reply 1 [{\"uuid\":[\"uuid\",\"U1\"]},{\"uuid\":[\"uuid\",\"U2\"]},{\"uuid\":[\"uuid\",\"U3\"]}]"
    ∷ codes "> A transact 2 {\"op\":\"delete\",\"table\":\"Address_Set\",\"where\":[]}"
    ∷ codes "< A reply 2 [{\"count\":1},{\"error\":\"referential integrity violation\"}]"
    ∷ codes "> A transact 3 {\"op\":\"delete\",\"table\":\"Logical_Router\",\"where\":[]},{\"op\":\"delete\",\"table\":\"Address_Set\",\"where\":[]}"
    ∷ codes "< A reply 3 [{\"count\":1},{\"count\":1}]"
    ∷ codes "> A transact 4 {\"op\":\"select\",\"table\":\"NAT\",\"where\":[]},{\"op\":\"select\",\"table\":\"Address_Set\",\"where\":[]}"
    ∷ codes "< A reply 4 [{\"rows\":[]},{\"rows\":[]}]"
    ∷ [])
unfolding shows
a_router_goes_with_its_nat_rule_and_the_address_set_that_the_rule_names = refl

-- A row doesn't keep itself
pub a_row_doesnt_keep_itself : Plays lnk (
    codes "> A transact 1 {\"op\":\"insert\",\"table\":\"N\",\"row\":{\"next\":[\"named-uuid\",\"x\"]},\"uuid-name\":\"x\"}"
    ∷ codes "< A reply 1 [{\"uuid\":[\"uuid\",\"U1\"]}]"
    ∷ codes "> A transact 2 {\"op\":\"select\",\"table\":\"N\",\"where\":[]}"
    ∷ codes "< A reply 2 [{\"rows\":[]}]"
    ∷ [])
unfolding shows
a_row_doesnt_keep_itself = refl

-- A row takes the place of another of the same index
pub a_row_takes_the_place_of_another_of_the_same_index : Plays settlement (
    codes "> A transact 1 {\"op\":\"insert\",\"table\":\"R\",\"row\":{\"a\":1}}"
    ∷ codes "< A reply 1 [{\"uuid\":[\"uuid\",\"U1\"]}]"
    ∷ codes "> A transact 2 {\"op\":\"delete\",\"table\":\"R\",\"where\":[]},{\"op\":\"insert\",\"table\":\"R\",\"row\":{\"a\":1}}"
    ∷ codes "< A reply 2 [{\"count\":1},{\"uuid\":[\"uuid\",\"U2\"]}]"
    ∷ codes "> A transact 3 {\"op\":\"insert\",\"table\":\"R\",\"row\":{\"a\":2}}"
    ∷ codes "< A reply 3 [{\"uuid\":[\"uuid\",\"U3\"]},{\"error\":\"constraint violation\"}]"
    ∷ codes "> A transact 4 {\"op\":\"select\",\"table\":\"R\",\"where\":[],\"columns\":[\"_uuid\"]}"
    ∷ codes "< A reply 4 [{\"rows\":[{\"_uuid\":[\"uuid\",\"U2\"]}]}]"
    ∷ [])
unfolding shows
a_row_takes_the_place_of_another_of_the_same_index = refl

-- A row that another refers to is deleted
pub a_row_that_another_refers_to_is_deleted : Plays settlement (
    codes "> A transact 1 {\"op\":\"insert\",\"table\":\"H\",\"row\":{\"some\":[\"named-uuid\",\"a\"]}},{\"op\":\"insert\",\"table\":\"N\",\"row\":{\"next\":[\"named-uuid\",\"b\"]},\"uuid-name\":\"a\"},{\"op\":\"insert\",\"table\":\"N\",\"row\":{\"v\":5},\"uuid-name\":\"b\"}"
    ∷ codes "< A reply 1 [{\"uuid\":[\"uuid\",\"U1\"]},{\"uuid\":[\"uuid\",\"U2\"]},{\"uuid\":[\"uuid\",\"U3\"]}]"
    ∷ codes "> A transact 2 {\"op\":\"delete\",\"table\":\"N\",\"where\":[[\"v\",\"==\",5]]}"
    ∷ codes "< A reply 2 [{\"count\":1},{\"error\":\"referential integrity violation\"}]"
    ∷ codes "> A transact 3 {\"op\":\"update\",\"table\":\"H\",\"where\":[],\"row\":{\"some\":[\"set\",[]]}},{\"op\":\"select\",\"table\":\"N\",\"where\":[],\"columns\":[\"v\"]}"
    ∷ codes "< A reply 3 [{\"count\":1},{\"rows\":[{\"v\":0},{\"v\":5}]}]"
    ∷ codes "> A transact 4 {\"op\":\"select\",\"table\":\"N\",\"where\":[],\"columns\":[\"v\"]}"
    ∷ codes "< A reply 4 [{\"rows\":[]}]"
    ∷ [])
unfolding shows
a_row_that_another_refers_to_is_deleted = refl

-- A row that goes may refer to nothing
pub a_row_that_goes_may_refer_to_nothing : Plays settlement (
    codes "> A transact 1 {\"op\":\"insert\",\"table\":\"N\",\"row\":{\"next\":[\"uuid\",\"V9\"]}}"
    ∷ codes "< A reply 1 [{\"uuid\":[\"uuid\",\"U1\"]}]"
    ∷ codes "> A transact 2 {\"op\":\"select\",\"table\":\"N\",\"where\":[],\"columns\":[\"v\"]}"
    ∷ codes "< A reply 2 [{\"rows\":[]}]"
    ∷ [])
unfolding shows
a_row_that_goes_may_refer_to_nothing = refl

-- A row that nothing keeps goes at once and without a number
pub a_row_that_nothing_keeps_goes_at_once_and_without_a_number : Plays net (
    codes "> A transact 2 {\"op\":\"insert\",\"table\":\"Port\",\"row\":{\"name\":\"p\"}}"
    ∷ codes "< A reply 2 [{\"uuid\":[\"uuid\",\"U1\"]}]"
    ∷ codes "> A transact 3 {\"op\":\"insert\",\"table\":\"Bridge\",\"row\":{\"name\":\"b\"}}"
    ∷ codes "< A reply 3 [{\"uuid\":[\"uuid\",\"U2\"]}]"
    ∷ codes "> A transact 4 {\"op\":\"select\",\"table\":\"Bridge\",\"where\":[],\"columns\":[\"_version\"]},{\"op\":\"select\",\"table\":\"Port\",\"where\":[]}"
    ∷ codes "< A reply 4 [{\"rows\":[{\"_version\":[\"uuid\",\"V1\"]}]},{\"rows\":[]}]"
    ∷ [])
unfolding shows
a_row_that_nothing_keeps_goes_at_once_and_without_a_number = refl

-- A row that nothing keeps goes at once, untold and without a number
pub a_row_that_nothing_keeps_goes_at_once_untold_and_without_a_number : Plays net (
    codes "> A monitor 1 [\"net\",\"m\",{\"Port\":{}}]"
    ∷ codes "< A reply 1 {}"
    ∷ codes "> A transact 2 {\"op\":\"insert\",\"table\":\"Port\",\"row\":{\"name\":\"p\"}}"
    ∷ codes "< A reply 2 [{\"uuid\":[\"uuid\",\"U1\"]}]"
    ∷ codes "> A transact 3 {\"op\":\"insert\",\"table\":\"Bridge\",\"row\":{\"name\":\"b\"}}"
    ∷ codes "< A reply 3 [{\"uuid\":[\"uuid\",\"U2\"]}]"
    ∷ codes "> A transact 4 {\"op\":\"select\",\"table\":\"Bridge\",\"where\":[],\"columns\":[\"_version\"]},{\"op\":\"select\",\"table\":\"Port\",\"where\":[]}"
    ∷ codes "< A reply 4 [{\"rows\":[{\"_version\":[\"uuid\",\"V1\"]}]},{\"rows\":[]}]"
    ∷ [])
unfolding shows
a_row_that_nothing_keeps_goes_at_once_untold_and_without_a_number = refl

-- A strong reference to nothing comes before too few elements
pub a_strong_reference_to_nothing_comes_before_too_few_elements : Plays settlement (
    codes "> A transact 1 {\"op\":\"insert\",\"table\":\"Q\",\"row\":{}},{\"op\":\"insert\",\"table\":\"H\",\"row\":{\"some\":[\"uuid\",\"V5\"]}}"
    ∷ codes "< A reply 1 [{\"uuid\":[\"uuid\",\"U1\"]},{\"uuid\":[\"uuid\",\"U2\"]},{\"error\":\"referential integrity violation\"}]"
    ∷ codes "> A transact 2 {\"op\":\"insert\",\"table\":\"Q\",\"row\":{}}"
    ∷ codes "< A reply 2 [{\"uuid\":[\"uuid\",\"U3\"]},{\"error\":\"constraint violation\"}]"
    ∷ [])
unfolding shows
a_strong_reference_to_nothing_comes_before_too_few_elements = refl

-- A weak reference is taken out of an immutable column
pub a_weak_reference_is_taken_out_of_an_immutable_column : Plays immutable (
    codes "> A transact 1 {\"op\":\"insert\",\"table\":\"Port\",\"row\":{\"name\":\"p\"},\"uuid-name\":\"p\"},{\"op\":\"insert\",\"table\":\"Mirror\",\"row\":{\"output\":[\"named-uuid\",\"p\"]}}"
    ∷ codes "< A reply 1 [{\"uuid\":[\"uuid\",\"U1\"]},{\"uuid\":[\"uuid\",\"U2\"]}]"
    ∷ codes "> A transact 2 {\"op\":\"update\",\"table\":\"Mirror\",\"where\":[],\"row\":{\"output\":[\"set\",[]]}}"
    ∷ codes "< A reply 2 [{\"error\":\"constraint violation\"}]"
    ∷ codes "> A transact 3 {\"op\":\"delete\",\"table\":\"Port\",\"where\":[]}"
    ∷ codes "< A reply 3 [{\"count\":1}]"
    ∷ codes "> A transact 4 {\"op\":\"select\",\"table\":\"Mirror\",\"where\":[],\"columns\":[\"_version\",\"output\"]}"
    ∷ codes "< A reply 4 [{\"rows\":[{\"_version\":[\"uuid\",\"V2\"],\"output\":[\"set\",[]]}]}]"
    ∷ [])
unfolding shows
a_weak_reference_is_taken_out_of_an_immutable_column = refl

-- A weak reference is taken out when its row goes
pub a_weak_reference_is_taken_out_when_its_row_goes : Plays net (
    codes "> B transact 1 {\"op\":\"insert\",\"table\":\"Bridge\",\"row\":{\"name\":\"b\",\"ports\":[\"set\",[[\"named-uuid\",\"a\"],[\"named-uuid\",\"c\"]]]}},{\"op\":\"insert\",\"table\":\"Port\",\"row\":{\"name\":\"p1\"},\"uuid-name\":\"a\"},{\"op\":\"insert\",\"table\":\"Port\",\"row\":{\"name\":\"p2\",\"peer\":[\"named-uuid\",\"a\"]},\"uuid-name\":\"c\"}"
    ∷ codes "< B reply 1 [{\"uuid\":[\"uuid\",\"U1\"]},{\"uuid\":[\"uuid\",\"U2\"]},{\"uuid\":[\"uuid\",\"U3\"]}]"
    ∷ codes "> B transact 2 {\"op\":\"update\",\"table\":\"Bridge\",\"where\":[],\"row\":{\"ports\":[\"uuid\",\"U3\"]}}"
    ∷ codes "< B reply 2 [{\"count\":1}]"
    ∷ codes "> B transact 3 {\"op\":\"select\",\"table\":\"Port\",\"where\":[],\"columns\":[\"_uuid\",\"name\",\"peer\"]}"
    ∷ codes "< B reply 3 [{\"rows\":[{\"_uuid\":[\"uuid\",\"U3\"],\"name\":\"p2\",\"peer\":[\"set\",[]]}]}]"
    ∷ [])
unfolding shows
a_weak_reference_is_taken_out_when_its_row_goes = refl

-- A weak reference is taken out when its row goes, and its monitor is told
pub a_weak_reference_is_taken_out_when_its_row_goes_and_its_monitor_is_told : Plays net (
    codes "> B transact 1 {\"op\":\"insert\",\"table\":\"Bridge\",\"row\":{\"name\":\"b\",\"ports\":[\"set\",[[\"named-uuid\",\"a\"],[\"named-uuid\",\"c\"]]]}},{\"op\":\"insert\",\"table\":\"Port\",\"row\":{\"name\":\"p1\"},\"uuid-name\":\"a\"},{\"op\":\"insert\",\"table\":\"Port\",\"row\":{\"name\":\"p2\",\"peer\":[\"named-uuid\",\"a\"]},\"uuid-name\":\"c\"}"
    ∷ codes "< B reply 1 [{\"uuid\":[\"uuid\",\"U1\"]},{\"uuid\":[\"uuid\",\"U2\"]},{\"uuid\":[\"uuid\",\"U3\"]}]"
    ∷ codes "> A monitor_cond 1 [\"net\",\"m\",{\"Port\":{\"columns\":[\"name\",\"peer\"]}}]"
    ∷ codes "< A reply 1 {\"Port\":{\"U2\":{\"initial\":{\"name\":\"p1\"}},\"U3\":{\"initial\":{\"name\":\"p2\",\"peer\":[\"uuid\",\"U2\"]}}}}"
    ∷ codes "> B transact 2 {\"op\":\"update\",\"table\":\"Bridge\",\"where\":[],\"row\":{\"ports\":[\"uuid\",\"U3\"]}}"
    ∷ codes "< A update2 [\"m\",{\"Port\":{\"U2\":{\"delete\":null},\"U3\":{\"modify\":{\"peer\":[\"set\",[]]}}}}]"
    ∷ codes "< B reply 2 [{\"count\":1}]"
    ∷ [])
unfolding shows
a_weak_reference_is_taken_out_when_its_row_goes_and_its_monitor_is_told = refl

-- A weak reference to nothing is taken out
pub a_weak_reference_to_nothing_is_taken_out : Plays settlement (
    codes "> A transact 1 {\"op\":\"insert\",\"table\":\"H\",\"row\":{\"need\":[\"set\",[[\"uuid\",\"V7\"],[\"named-uuid\",\"w\"]]]}},{\"op\":\"insert\",\"table\":\"W\",\"row\":{},\"uuid-name\":\"w\"}"
    ∷ codes "< A reply 1 [{\"uuid\":[\"uuid\",\"U1\"]},{\"uuid\":[\"uuid\",\"U2\"]}]"
    ∷ codes "> A transact 2 {\"op\":\"select\",\"table\":\"H\",\"where\":[],\"columns\":[\"need\"]}"
    ∷ codes "< A reply 2 [{\"rows\":[{\"need\":[\"uuid\",\"U2\"]}]}]"
    ∷ [])
unfolding shows
a_weak_reference_to_nothing_is_taken_out = refl

-- An empty transaction settles
pub an_empty_transaction_settles : Plays settlement (
    codes "> A transact 1 {\"op\":\"insert\",\"table\":\"H\",\"row\":{\"wk\":[\"map\",[[[\"named-uuid\",\"w\"],[\"named-uuid\",\"b\"]]]]}},{\"op\":\"insert\",\"table\":\"N\",\"row\":{},\"uuid-name\":\"b\"},{\"op\":\"insert\",\"table\":\"W\",\"row\":{},\"uuid-name\":\"w\"}"
    ∷ codes "< A reply 1 [{\"uuid\":[\"uuid\",\"U1\"]},{\"uuid\":[\"uuid\",\"U2\"]},{\"uuid\":[\"uuid\",\"U3\"]}]"
    ∷ codes "> A transact 2 {\"op\":\"delete\",\"table\":\"W\",\"where\":[]}"
    ∷ codes "< A reply 2 [{\"count\":1}]"
    ∷ codes "> A transact 3"
    ∷ codes "< A reply 3 []"
    ∷ codes "> A transact 4 {\"op\":\"insert\",\"table\":\"W\",\"row\":{}},{\"op\":\"select\",\"table\":\"W\",\"where\":[],\"columns\":[\"_version\"]}"
    ∷ codes "< A reply 4 [{\"uuid\":[\"uuid\",\"U4\"]},{\"rows\":[{\"_version\":[\"uuid\",\"V0\"]}]}]"
    ∷ codes "> A transact 5 {\"op\":\"select\",\"table\":\"W\",\"where\":[],\"columns\":[\"_version\"]}"
    ∷ codes "< A reply 5 [{\"rows\":[{\"_version\":[\"uuid\",\"V4\"]}]}]"
    ∷ [])
unfolding shows
an_empty_transaction_settles = refl

-- An index, and a strong reference to nothing
pub an_index_and_a_strong_reference_to_nothing : Plays net (
    codes "> A transact 1 {\"op\":\"insert\",\"table\":\"Bridge\",\"row\":{\"name\":\"b\"}},{\"op\":\"insert\",\"table\":\"Bridge\",\"row\":{\"name\":\"b\"}}"
    ∷ codes "< A reply 1 [{\"uuid\":[\"uuid\",\"U1\"]},{\"uuid\":[\"uuid\",\"U2\"]},{\"error\":\"constraint violation\"}]"
    ∷ codes "> A transact 2 {\"op\":\"insert\",\"table\":\"Bridge\",\"row\":{\"name\":\"c\",\"ports\":[\"uuid\",\"00000000-0000-0000-0000-000000000000\"]}}"
    ∷ codes "< A reply 2 [{\"uuid\":[\"uuid\",\"U3\"]},{\"error\":\"referential integrity violation\"}]"
    ∷ [])
unfolding shows
an_index_and_a_strong_reference_to_nothing = refl

-- An index whose values change places
pub an_index_whose_values_change_places : Plays net (
    codes "> A transact 1 {\"op\":\"insert\",\"table\":\"Bridge\",\"row\":{\"name\":\"a\"}},{\"op\":\"insert\",\"table\":\"Bridge\",\"row\":{\"name\":\"b\"}}"
    ∷ codes "< A reply 1 [{\"uuid\":[\"uuid\",\"U1\"]},{\"uuid\":[\"uuid\",\"U2\"]}]"
    ∷ codes "> A transact 2 {\"op\":\"update\",\"table\":\"Bridge\",\"where\":[[\"name\",\"==\",\"a\"]],\"row\":{\"name\":\"x\"}},{\"op\":\"update\",\"table\":\"Bridge\",\"where\":[[\"name\",\"==\",\"b\"]],\"row\":{\"name\":\"a\"}},{\"op\":\"update\",\"table\":\"Bridge\",\"where\":[[\"name\",\"==\",\"x\"]],\"row\":{\"name\":\"b\"}}"
    ∷ codes "< A reply 2 [{\"count\":1},{\"count\":1},{\"count\":1}]"
    ∷ codes "> A transact 3 {\"op\":\"delete\",\"table\":\"Bridge\",\"where\":[[\"name\",\"==\",\"a\"]]},{\"op\":\"insert\",\"table\":\"Bridge\",\"row\":{\"name\":\"a\"}}"
    ∷ codes "< A reply 3 [{\"count\":1},{\"uuid\":[\"uuid\",\"U3\"]}]"
    ∷ codes "> A transact 4 {\"op\":\"select\",\"table\":\"Bridge\",\"where\":[],\"columns\":[\"_uuid\",\"name\"]}"
    ∷ codes "< A reply 4 [{\"rows\":[{\"_uuid\":[\"uuid\",\"U1\"],\"name\":\"b\"},{\"_uuid\":[\"uuid\",\"U3\"],\"name\":\"a\"}]}]"
    ∷ [])
unfolding shows
an_index_whose_values_change_places = refl

-- Deletes that are kept from happening
pub deletes_that_are_kept_from_happening : Plays net (
    codes "> A transact 1 {\"op\":\"insert\",\"table\":\"Bridge\",\"row\":{\"name\":\"b\",\"ports\":[\"named-uuid\",\"p\"]}},{\"op\":\"insert\",\"table\":\"Port\",\"row\":{\"name\":\"p\"},\"uuid-name\":\"p\"}"
    ∷ codes "< A reply 1 [{\"uuid\":[\"uuid\",\"U1\"]},{\"uuid\":[\"uuid\",\"U2\"]}]"
    ∷ codes "> A transact 2 {\"op\":\"delete\",\"table\":\"Port\",\"where\":[]}"
    ∷ codes "< A reply 2 [{\"count\":1},{\"error\":\"referential integrity violation\"}]"
    ∷ codes "> A transact 3 {\"op\":\"update\",\"table\":\"Bridge\",\"where\":[],\"row\":{\"ports\":[\"set\",[]]}}"
    ∷ codes "< A reply 3 [{\"count\":1}]"
    ∷ codes "> A transact 4 {\"op\":\"select\",\"table\":\"Port\",\"where\":[],\"columns\":[\"name\"]}"
    ∷ codes "< A reply 4 [{\"rows\":[]}]"
    ∷ [])
unfolding shows
deletes_that_are_kept_from_happening = refl

-- Indexes of several columns, of sets and of maps
pub indexes_of_several_columns_of_sets_and_of_maps : Plays settlement (
    codes "> A transact 1 {\"op\":\"insert\",\"table\":\"I\",\"row\":{}},{\"op\":\"insert\",\"table\":\"I\",\"row\":{}}"
    ∷ codes "< A reply 1 [{\"uuid\":[\"uuid\",\"U1\"]},{\"uuid\":[\"uuid\",\"U2\"]},{\"error\":\"constraint violation\"}]"
    ∷ codes "> A transact 2 {\"op\":\"insert\",\"table\":\"I\",\"row\":{\"s\":[\"set\",[1,2]],\"w\":[\"named-uuid\",\"w\"]}},{\"op\":\"insert\",\"table\":\"I\",\"row\":{\"s\":[\"set\",[2,1]],\"w\":[\"named-uuid\",\"x\"]}},{\"op\":\"insert\",\"table\":\"W\",\"row\":{},\"uuid-name\":\"w\"},{\"op\":\"insert\",\"table\":\"W\",\"row\":{},\"uuid-name\":\"x\"}"
    ∷ codes "< A reply 2 [{\"uuid\":[\"uuid\",\"U3\"]},{\"uuid\":[\"uuid\",\"U4\"]},{\"uuid\":[\"uuid\",\"U5\"]},{\"uuid\":[\"uuid\",\"U6\"]},{\"error\":\"constraint violation\"}]"
    ∷ codes "> A transact 3 {\"op\":\"insert\",\"table\":\"I\",\"row\":{\"m\":[\"map\",[[\"a\",1],[\"b\",2]]],\"w\":[\"named-uuid\",\"w\"]}},{\"op\":\"insert\",\"table\":\"I\",\"row\":{\"m\":[\"map\",[[\"a\",1],[\"b\",3]]],\"w\":[\"named-uuid\",\"x\"]}},{\"op\":\"insert\",\"table\":\"W\",\"row\":{\"k\":1},\"uuid-name\":\"w\"},{\"op\":\"insert\",\"table\":\"W\",\"row\":{\"k\":2},\"uuid-name\":\"x\"}"
    ∷ codes "< A reply 3 [{\"uuid\":[\"uuid\",\"U7\"]},{\"uuid\":[\"uuid\",\"U8\"]},{\"uuid\":[\"uuid\",\"U9\"]},{\"uuid\":[\"uuid\",\"U10\"]}]"
    ∷ codes "> A transact 4 {\"op\":\"delete\",\"table\":\"W\",\"where\":[]}"
    ∷ codes "< A reply 4 [{\"count\":2},{\"error\":\"constraint violation\"}]"
    ∷ codes "> A transact 5 {\"op\":\"delete\",\"table\":\"W\",\"where\":[[\"k\",\"==\",1]]}"
    ∷ codes "< A reply 5 [{\"count\":1}]"
    ∷ codes "> A transact 6 {\"op\":\"update\",\"table\":\"I\",\"where\":[],\"row\":{\"m\":[\"map\",[]]}}"
    ∷ codes "< A reply 6 [{\"count\":2},{\"error\":\"constraint violation\"}]"
    ∷ [])
unfolding shows
indexes_of_several_columns_of_sets_and_of_maps = refl

-- Keys and values of maps are references too
pub keys_and_values_of_maps_are_references_too : Plays settlement (
    codes "> A transact 1 {\"op\":\"insert\",\"table\":\"H\",\"row\":{\"wv\":[\"map\",[[[\"named-uuid\",\"a\"],[\"named-uuid\",\"w\"]]]],\"wk\":[\"map\",[[[\"named-uuid\",\"w\"],[\"named-uuid\",\"b\"]]]]}},{\"op\":\"insert\",\"table\":\"N\",\"row\":{\"v\":1},\"uuid-name\":\"a\"},{\"op\":\"insert\",\"table\":\"N\",\"row\":{\"v\":2},\"uuid-name\":\"b\"},{\"op\":\"insert\",\"table\":\"N\",\"row\":{\"v\":3},\"uuid-name\":\"c\"},{\"op\":\"insert\",\"table\":\"W\",\"row\":{},\"uuid-name\":\"w\"}"
    ∷ codes "< A reply 1 [{\"uuid\":[\"uuid\",\"U1\"]},{\"uuid\":[\"uuid\",\"U2\"]},{\"uuid\":[\"uuid\",\"U3\"]},{\"uuid\":[\"uuid\",\"U4\"]},{\"uuid\":[\"uuid\",\"U5\"]}]"
    ∷ codes "> A transact 2 {\"op\":\"select\",\"table\":\"N\",\"where\":[],\"columns\":[\"v\"]}"
    ∷ codes "< A reply 2 [{\"rows\":[{\"v\":1},{\"v\":2}]}]"
    ∷ codes "> A transact 3 {\"op\":\"delete\",\"table\":\"W\",\"where\":[]},{\"op\":\"select\",\"table\":\"H\",\"where\":[],\"columns\":[\"wv\",\"wk\"]}"
    ∷ codes "< A reply 3 [{\"count\":1},{\"rows\":[{\"wk\":[\"map\",[[[\"uuid\",\"U5\"],[\"uuid\",\"U3\"]]]],\"wv\":[\"map\",[[[\"uuid\",\"U2\"],[\"uuid\",\"U5\"]]]]}]}]"
    ∷ codes "> A transact 4 {\"op\":\"select\",\"table\":\"N\",\"where\":[],\"columns\":[\"v\"]},{\"op\":\"select\",\"table\":\"H\",\"where\":[],\"columns\":[\"wv\",\"wk\",\"_version\"]}"
    ∷ codes "< A reply 4 [{\"rows\":[{\"v\":1},{\"v\":2}]},{\"rows\":[{\"_version\":[\"uuid\",\"V2\"],\"wk\":[\"map\",[]],\"wv\":[\"map\",[]]}]}]"
    ∷ codes "> A transact 5 {\"op\":\"select\",\"table\":\"N\",\"where\":[],\"columns\":[\"v\"]}"
    ∷ codes "< A reply 5 [{\"rows\":[]}]"
    ∷ [])
unfolding shows
keys_and_values_of_maps_are_references_too = refl

-- Limits of tables and indexes count what is kept
pub limits_of_tables_and_indexes_count_what_is_kept : Plays limits (
    codes "> A transact 1 {\"op\":\"insert\",\"table\":\"A\",\"row\":{\"p\":[\"named-uuid\",\"a\"],\"q\":[\"set\",[[\"named-uuid\",\"a\"],[\"named-uuid\",\"b\"]]]}},{\"op\":\"insert\",\"table\":\"P\",\"row\":{},\"uuid-name\":\"a\"},{\"op\":\"insert\",\"table\":\"P\",\"row\":{},\"uuid-name\":\"b\"}"
    ∷ codes "< A reply 1 [{\"uuid\":[\"uuid\",\"U1\"]},{\"uuid\":[\"uuid\",\"U2\"]},{\"uuid\":[\"uuid\",\"U3\"]}]"
    ∷ codes "> A transact 2 {\"op\":\"select\",\"table\":\"A\",\"where\":[],\"columns\":[\"p\",\"q\"]}"
    ∷ codes "< A reply 2 [{\"rows\":[{\"p\":[\"uuid\",\"U2\"],\"q\":[\"uuid\",\"U2\"]}]}]"
    ∷ codes "> A transact 3 {\"op\":\"insert\",\"table\":\"A\",\"row\":{\"p\":[\"set\",[[\"named-uuid\",\"a\"],[\"named-uuid\",\"b\"]]]}},{\"op\":\"insert\",\"table\":\"P\",\"row\":{},\"uuid-name\":\"a\"},{\"op\":\"insert\",\"table\":\"P\",\"row\":{\"n\":1},\"uuid-name\":\"b\"}"
    ∷ codes "< A reply 3 [{\"uuid\":[\"uuid\",\"U4\"]},{\"uuid\":[\"uuid\",\"U5\"]},{\"uuid\":[\"uuid\",\"U6\"]},{\"error\":\"constraint violation\"}]"
    ∷ [])
unfolding shows
limits_of_tables_and_indexes_count_what_is_kept = refl

-- Of weak references, those to rows that stay are left
pub of_weak_references_those_to_rows_that_stay_are_left : Plays references (
    codes "> A transact 1 {\"op\":\"insert\",\"table\":\"R\",\"row\":{\"name\":\"a\",\"strong\":[\"set\",[[\"named-uuid\",\"n1\"]]],\"weak\":[\"set\",[[\"named-uuid\",\"n1\"],[\"named-uuid\",\"n4\"],[\"uuid\",\"V5\"]]],\"pairs\":[\"map\",[[[\"named-uuid\",\"n1\"],1],[[\"named-uuid\",\"n4\"],1],[[\"uuid\",\"V5\"],1]]]}},{\"op\":\"insert\",\"table\":\"N\",\"row\":{\"name\":\"\"},\"uuid-name\":\"n1\"},{\"op\":\"insert\",\"table\":\"N\",\"row\":{\"name\":\"\"},\"uuid-name\":\"n4\"}"
    ∷ codes "< A reply 1 [{\"uuid\":[\"uuid\",\"U1\"]},{\"uuid\":[\"uuid\",\"U2\"]},{\"uuid\":[\"uuid\",\"U3\"]}]"
    ∷ codes "> A transact 2 {\"op\":\"select\",\"table\":\"R\",\"where\":[],\"columns\":[\"pairs\",\"strong\",\"weak\"]},{\"op\":\"select\",\"table\":\"N\",\"where\":[],\"columns\":[\"_uuid\"]}"
    ∷ codes "< A reply 2 [{\"rows\":[{\"pairs\":[\"map\",[[[\"uuid\",\"U2\"],1]]],\"strong\":[\"uuid\",\"U2\"],\"weak\":[\"uuid\",\"U2\"]}]},{\"rows\":[{\"_uuid\":[\"uuid\",\"U2\"]}]}]"
    ∷ [])
unfolding shows
of_weak_references_those_to_rows_that_stay_are_left = refl

-- Strong references to rows of a root table
pub strong_references_to_rows_of_a_root_table : Plays settlement (
    codes "> A transact 1 {\"op\":\"insert\",\"table\":\"X\",\"row\":{},\"uuid-name\":\"x\"},{\"op\":\"insert\",\"table\":\"X\",\"row\":{\"n\":[\"named-uuid\",\"x\"]}}"
    ∷ codes "< A reply 1 [{\"uuid\":[\"uuid\",\"U1\"]},{\"uuid\":[\"uuid\",\"U2\"]}]"
    ∷ codes "> A transact 2 {\"op\":\"delete\",\"table\":\"X\",\"where\":[[\"_uuid\",\"==\",[\"uuid\",\"U1\"]]]}"
    ∷ codes "< A reply 2 [{\"count\":1},{\"error\":\"referential integrity violation\"}]"
    ∷ codes "> A transact 3 {\"op\":\"delete\",\"table\":\"X\",\"where\":[]}"
    ∷ codes "< A reply 3 [{\"count\":2}]"
    ∷ codes "> A transact 4 {\"op\":\"insert\",\"table\":\"X\",\"row\":{\"n\":[\"named-uuid\",\"me\"]},\"uuid-name\":\"me\"}"
    ∷ codes "< A reply 4 [{\"uuid\":[\"uuid\",\"U3\"]}]"
    ∷ codes "> A transact 5 {\"op\":\"delete\",\"table\":\"X\",\"where\":[]}"
    ∷ codes "< A reply 5 [{\"count\":1}]"
    ∷ [])
unfolding shows
strong_references_to_rows_of_a_root_table = refl

-- The faults of settlement come in order
pub the_faults_of_settlement_come_in_order : Plays references (
    codes "> A transact 1 {\"op\":\"insert\",\"table\":\"R\",\"row\":{\"name\":\"a\",\"strong\":[\"set\",[[\"uuid\",\"V1\"]]]}},{\"op\":\"insert\",\"table\":\"R\",\"row\":{\"name\":\"a\"}}"
    ∷ codes "< A reply 1 [{\"uuid\":[\"uuid\",\"U1\"]},{\"uuid\":[\"uuid\",\"U2\"]},{\"error\":\"referential integrity violation\"}]"
    ∷ codes "> A transact 2 {\"op\":\"insert\",\"table\":\"W\",\"row\":{\"name\":\"a\",\"weak\":[\"set\",[[\"uuid\",\"V4\"]]],\"pairs\":[\"map\",[[[\"uuid\",\"V4\"],1]]]}}"
    ∷ codes "< A reply 2 [{\"uuid\":[\"uuid\",\"U3\"]},{\"error\":\"constraint violation\"}]"
    ∷ codes "> A transact 3 {\"op\":\"insert\",\"table\":\"R\",\"row\":{\"name\":\"a\"}},{\"op\":\"insert\",\"table\":\"R\",\"row\":{\"name\":\"b\"}},{\"op\":\"insert\",\"table\":\"R\",\"row\":{\"name\":\"c\"}}"
    ∷ codes "< A reply 3 [{\"uuid\":[\"uuid\",\"U4\"]},{\"uuid\":[\"uuid\",\"U5\"]},{\"uuid\":[\"uuid\",\"U6\"]},{\"error\":\"constraint violation\"}]"
    ∷ codes "> A transact 4 {\"op\":\"insert\",\"table\":\"R\",\"row\":{\"name\":\"a\"}},{\"op\":\"insert\",\"table\":\"R\",\"row\":{\"name\":\"a\"}}"
    ∷ codes "< A reply 4 [{\"uuid\":[\"uuid\",\"U7\"]},{\"uuid\":[\"uuid\",\"U8\"]},{\"error\":\"constraint violation\"}]"
    ∷ codes "> A transact 5 {\"op\":\"insert\",\"table\":\"R\",\"row\":{\"name\":\"a\",\"strong\":[\"set\",[[\"named-uuid\",\"n1\"],[\"named-uuid\",\"n2\"]]]}},{\"op\":\"insert\",\"table\":\"N\",\"row\":{\"name\":\"a\"},\"uuid-name\":\"n1\"},{\"op\":\"insert\",\"table\":\"N\",\"row\":{\"name\":\"a\"},\"uuid-name\":\"n2\"}"
    ∷ codes "< A reply 5 [{\"uuid\":[\"uuid\",\"U9\"]},{\"uuid\":[\"uuid\",\"U10\"]},{\"uuid\":[\"uuid\",\"U11\"]}]"
    ∷ codes "> A transact 6 {\"op\":\"select\",\"table\":\"N\",\"where\":[],\"columns\":[\"_uuid\",\"name\"]}"
    ∷ codes "< A reply 6 [{\"rows\":[{\"_uuid\":[\"uuid\",\"U10\"],\"name\":\"a\"},{\"_uuid\":[\"uuid\",\"U11\"],\"name\":\"a\"}]}]"
    ∷ [])
unfolding shows
the_faults_of_settlement_come_in_order = refl

-- Too few elements are left when weak references go
pub too_few_elements_are_left_when_weak_references_go : Plays settlement (
    codes "> A transact 1 {\"op\":\"insert\",\"table\":\"Q\",\"row\":{\"w\":[\"named-uuid\",\"w\"]}},{\"op\":\"insert\",\"table\":\"W\",\"row\":{},\"uuid-name\":\"w\"}"
    ∷ codes "< A reply 1 [{\"uuid\":[\"uuid\",\"U1\"]},{\"uuid\":[\"uuid\",\"U2\"]}]"
    ∷ codes "> A transact 2 {\"op\":\"delete\",\"table\":\"W\",\"where\":[]}"
    ∷ codes "< A reply 2 [{\"count\":1},{\"error\":\"constraint violation\"}]"
    ∷ codes "> A transact 3 {\"op\":\"select\",\"table\":\"W\",\"where\":[],\"columns\":[\"k\"]}"
    ∷ codes "< A reply 3 [{\"rows\":[{\"k\":0}]}]"
    ∷ [])
unfolding shows
too_few_elements_are_left_when_weak_references_go = refl

-- What a pair kept goes at the next settlement, and its monitor is told then
pub what_a_pair_kept_goes_at_the_next_settlement_and_its_monitor_is_told_then : Plays lft (
    codes "> A transact 1 {\"op\":\"insert\",\"table\":\"W\",\"row\":{},\"uuid-name\":\"w\"},{\"op\":\"insert\",\"table\":\"S\",\"row\":{},\"uuid-name\":\"s\"},{\"op\":\"insert\",\"table\":\"R\",\"row\":{\"m\":[\"map\",[[[\"named-uuid\",\"w\"],[\"named-uuid\",\"s\"]]]]}}"
    ∷ codes "< A reply 1 [{\"uuid\":[\"uuid\",\"U1\"]},{\"uuid\":[\"uuid\",\"U2\"]},{\"uuid\":[\"uuid\",\"U3\"]}]"
    ∷ codes "> B monitor_cond 1 [\"lft\",\"m\",{\"S\":{\"columns\":[\"k\"]}}]"
    ∷ codes "< B reply 1 {\"S\":{\"U2\":{\"initial\":{}}}}"
    ∷ codes "> A transact 2 {\"op\":\"delete\",\"table\":\"W\",\"where\":[]}"
    ∷ codes "< A reply 2 [{\"count\":1}]"
    ∷ codes "> A transact 3 {\"op\":\"select\",\"table\":\"S\",\"where\":[],\"columns\":[\"k\"]}"
    ∷ codes "< A reply 3 [{\"rows\":[{\"k\":0}]}]"
    ∷ codes "< B update2 [\"m\",{\"S\":{\"U2\":{\"delete\":null}}}]"
    ∷ codes "> A transact 4 {\"op\":\"select\",\"table\":\"S\",\"where\":[],\"columns\":[\"k\"]}"
    ∷ codes "< A reply 4 [{\"rows\":[]}]"
    ∷ [])
unfolding shows
what_a_pair_kept_goes_at_the_next_settlement_and_its_monitor_is_told_then = refl

-- What a pair kept goes at the next settlement, as a commit of its own
pub what_a_pair_kept_goes_at_the_next_settlement_as_a_commit_of_its_own : Plays lft (
    codes "> A transact 1 {\"op\":\"insert\",\"table\":\"W\",\"row\":{},\"uuid-name\":\"w\"},{\"op\":\"insert\",\"table\":\"S\",\"row\":{},\"uuid-name\":\"s\"},{\"op\":\"insert\",\"table\":\"R\",\"row\":{\"m\":[\"map\",[[[\"named-uuid\",\"w\"],[\"named-uuid\",\"s\"]]]]}}"
    ∷ codes "< A reply 1 [{\"uuid\":[\"uuid\",\"U1\"]},{\"uuid\":[\"uuid\",\"U2\"]},{\"uuid\":[\"uuid\",\"U3\"]}]"
    ∷ codes "> A transact 2 {\"op\":\"delete\",\"table\":\"W\",\"where\":[]}"
    ∷ codes "< A reply 2 [{\"count\":1}]"
    ∷ codes "> A transact 3 {\"op\":\"select\",\"table\":\"S\",\"where\":[],\"columns\":[\"k\"]}"
    ∷ codes "< A reply 3 [{\"rows\":[{\"k\":0}]}]"
    ∷ codes "> A transact 4 {\"op\":\"select\",\"table\":\"S\",\"where\":[],\"columns\":[\"k\"]}"
    ∷ codes "< A reply 4 [{\"rows\":[]}]"
    ∷ codes "> A transact 5 {\"op\":\"insert\",\"table\":\"W\",\"row\":{}},{\"op\":\"select\",\"table\":\"W\",\"where\":[],\"columns\":[\"_uuid\",\"_version\"]}"
    ∷ codes "< A reply 5 [{\"uuid\":[\"uuid\",\"U4\"]},{\"rows\":[{\"_uuid\":[\"uuid\",\"U4\"],\"_version\":[\"uuid\",\"V0\"]}]}]"
    ∷ codes "> A transact 6 {\"op\":\"select\",\"table\":\"W\",\"where\":[],\"columns\":[\"_version\"]}"
    ∷ codes "< A reply 6 [{\"rows\":[{\"_version\":[\"uuid\",\"V4\"]}]}]"
    ∷ [])
unfolding shows
what_a_pair_kept_goes_at_the_next_settlement_as_a_commit_of_its_own = refl
