use Rattle.std.proofs.Common.{◌≡◌, map}
use Rattle.odb_queue.specs.Represented.Post.{post_of}
use Rattle.odb_sessions.specs.Posts.{all_marked_posted, marked_unposted}
use Rattle.odb_sessions.proofs.numbered.Numbered.post_all.Given as goal

abbrev pub invariant-loop-post : goal.invariant-loop-post
invariant-loop-post l = record {
  posted : all_marked_posted l.self (map post_of l.post-iterator.rest.items) ≡ all_marked_posted l.initial.self (map post_of l.initial.post-iterator.rest.items);
  back : marked_unposted l.posted_to.items l.self ≡ l.initial.self;
}
