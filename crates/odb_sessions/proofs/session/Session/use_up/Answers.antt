use Rattle.std.proofs.Common.{rules, ◌≡◌, ℕ, refl, sym, ap, ◌∙◌}
use Rattle.odb_chain.specs.Chains.{Chains}
use Rattle.odb_service.specs.Server.{served_by}
use Rattle.odb_service.specs.Session.{Session}
use Rattle.odb_sessions.specs.Carried.{last_finished, used_by}
use Rattle.odb_sessions.specs.Marked.{MarkedSession, marks_of, seen}
use Rattle.odb_sessions.proofs.Carried.{carried_on, nothing_carried, ready_then}
use Rattle.odb_sessions.proofs.Used.{next_text, used_left, used_more}
use Rattle.odb_sessions.proofs.session.Session.use_up.Goals as goal
use Rattle.odb_sessions.proofs.WatchNumbers.{keeps_on, keeps_same}

pub loop-used-init : goal.loop-used-init
loop-used-init c = record {
  session = λ s. refl;
  carried = nothing_carried c.args.past.now (marks_of c.args.self.now) c.requires;
  text = λ s. refl;
  watch = keeps_same c.args.self.now;
}

pub use_one-text-requires : goal.use_one-text-requires
use_one-text-requires c = ready_then c.args.past.now c.loop-used.past (marks_of c.args.self.now) (marks_of c.loop-used.self) c.requires c.loop-used.invariant.carried

pub loop-used-preserved : goal.loop-used-preserved
loop-used-preserved c =
    let old = c.loop-used in
    let first : Chains = c.args.past.now in
    let x : MarkedSession = c.args.self.now in
    let n : ℕ = old.used in
    record {
      session = λ s.
          c.use_one-text.ensures.session s ∙ ap (λ db. used_by (served_by s) db 1 0 (seen old.self)) old.invariant.carried.0
          ∙ ap (used_by (served_by s) first.db 1 0) (old.invariant.session s) ∙ sym (used_more (served_by s) first.db n (seen x));
      carried = carried_on first old.past c.use_one-text.new.past (marks_of x) (marks_of old.self) (marks_of c.use_one-text.new.self) c.requires.0 old.invariant.carried c.use_one-text.ensures.carried;
      text = λ s.
          c.use_one-text.ensures.text ∙ ap (λ (y : Session). last_finished 1 y.queue) (old.invariant.session s)
          ∙ ap (last_finished 1) (used_left (served_by s) first.db n (seen x)) ∙ next_text n (seen x).queue;
      watch = keeps_on x old.self c.use_one-text.new.self old.invariant.watch c.use_one-text.ensures.watch;
    }

pub returns-clause-session : goal.returns-clause-session
returns-clause-session c = λ s.
    let same : c.loop-used.used ≡ c.args.items = search rules in
    c.loop-used.invariant.session s ∙ ap (λ n. used_by (served_by s) c.args.past.now.db n 0 (seen c.args.self.now)) same

pub returns-clause-watch : goal.returns-clause-watch
returns-clause-watch c = c.loop-used.invariant.watch
