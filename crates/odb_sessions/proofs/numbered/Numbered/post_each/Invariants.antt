use Rattle.std.proofs.Common.{◌≡◌, map}
use Rattle.odb_sessions.specs.Posts.{at_number, marked_unposted, with_items}
use Rattle.odb_sessions.specs.Represented.Item.{marked_item_of}
use Rattle.odb_sessions.proofs.numbered.Numbered.post_each.Given as goal

abbrev pub invariant-loop-item : goal.invariant-loop-item
invariant-loop-item l = record {
  posted : at_number (with_items (map marked_item_of l.item-iterator.rest.items)) l.self l.session ≡ at_number (with_items (map marked_item_of l.initial.item-iterator.rest.items)) l.initial.self l.session;
  back : marked_unposted l.posted_to.items l.self ≡ l.initial.self;
}
