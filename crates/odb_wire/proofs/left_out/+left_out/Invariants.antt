use Rattle.std.proofs.Common.{◌≡◌, drop}
use Rattle.serde_json.specs.View.{items_view, members_view}
use Rattle.odb_wire.specs.Message.{items_left_out, members_left_out}
use Rattle.odb_wire.proofs.left_out.+left_out.Given as goal

abbrev pub invariant-items_have-loop-item : goal.invariant-items_have-loop-item
invariant-items_have-loop-item l =
    items_left_out (items_view l.item-items) ≡ items_left_out (items_view (drop l.item-index l.item-items))

abbrev pub invariant-members_have-loop-member : goal.invariant-members_have-loop-member
invariant-members_have-loop-member l =
    members_left_out (members_view l.members.entries) ≡ members_left_out (members_view l.member-iterator)
