use Rattle.std.proofs.Common.{◌≡◌, option_map}
use Rattle.odb_queue.specs.Represented.Item.{item_of}
use Rattle.odb_schema.specs.Schema.{Schema}
use Rattle.odb_service.specs.Server.{served_by}
use Rattle.odb_sessions.specs.Carried.{Carries, last_finished, used_by}
use Rattle.odb_sessions.specs.Marked.{marks_of, seen}
use Rattle.odb_sessions.proofs.session.Session.use_up.Given as goal
use Rattle.odb_sessions.specs.Watches.{KeepsWatch}

abbrev pub invariant-loop-used : goal.invariant-loop-used
invariant-loop-used l = record {
  session : (s : Schema) → seen l.self ≡ used_by (served_by s) l.initial.past.db l.used 0 (seen l.initial.self);
  carried : Carries l.initial.past l.past (marks_of l.initial.self) (marks_of l.self);
  text : (s : Schema) → option_map item_of l.text ≡ last_finished l.used (seen l.initial.self).queue;
  watch : KeepsWatch l.initial.self l.self;
}
