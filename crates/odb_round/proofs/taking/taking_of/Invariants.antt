use Rattle.std.proofs.Common.{◌≡◌, ◌≤◌, drop, length}
use Rattle.odb_schema.specs.Schema.{Schema}
use Rattle.odb_round.specs.Jobs.{Keeps}
use Rattle.odb_round.proofs.Leading.{after_items, plan_at}
use Rattle.odb_round.proofs.taking.taking_of.Given as goal

abbrev pub invariant-loop-place : goal.invariant-loop-place
invariant-loop-place l = record {
  within : l.place ≤ length l.items.items;
  basis : l.planner.basis ≡ l.initial.planner.basis;
  chains : l.planner.chains ≡ l.initial.planner.chains;
  recent : l.planner.recent ≡ l.initial.planner.recent;
  jobs : Keeps l.initial.planner.jobs l.planner.jobs;
  likenesses : Keeps l.initial.planner.likenesses l.planner.likenesses;
  marked : l.planner.marked ≡ l.initial.planner.marked;
  rest : (s : Schema) → plan_at s l.initial.planner.chains.db l.items.items l.initial.planner.monitors
      ≡ after_items l.place (plan_at s l.initial.planner.chains.db (drop l.place l.items.items) l.planner.monitors);
}
