use Rattle.std.proofs.Common.{◌≡◌, map}
use Rattle.odb_schema.specs.Schema.{Schema}
use Rattle.odb_sessions.specs.Committed.{ends_posted, without_posts}
use Rattle.odb_sessions.specs.Represented.Ended.{ending_of}
use Rattle.odb_sessions.proofs.sessions.Sessions.post_ends.Given as goal

abbrev pub invariant-loop-one : goal.invariant-loop-one
invariant-loop-one l = record {
  posted : (s : Schema) → ends_posted s (map ending_of l.one-iterator.rest.items) l.self ≡ ends_posted s (map ending_of l.initial.one-iterator.rest.items) l.initial.self;
  back : without_posts l.posted_to.items l.self ≡ l.initial.self;
}
