use Rattle.std.proofs.Common.{◌≡◌, ◌≤◌, drop, length}
use Rattle.odb_service.specs.Service.{Service}
use Rattle.odb_round.specs.Jobs.{Keeps}
use Rattle.odb_round.proofs.Rests.{after_none, rest_of}
use Rattle.odb_round.proofs.foreseen.due_of.Given as goal

abbrev pub invariant-loop-place : goal.invariant-loop-place
invariant-loop-place l = record {
  basis : l.wanted.basis ≡ l.initial.wanted.basis;
  chains : l.wanted.chains ≡ l.initial.wanted.chains;
  recent : l.wanted.recent ≡ l.initial.wanted.recent;
  jobs : Keeps l.initial.wanted.jobs l.wanted.jobs;
  likenesses : Keeps l.initial.wanted.likenesses l.wanted.likenesses;
  within : l.place ≤ length l.monitors;
  rest : (h : Service) → rest_of h l.initial.wanted.chains.db l.monitors ≡ after_none l.place (rest_of h l.initial.wanted.chains.db (drop l.place l.monitors));
}
