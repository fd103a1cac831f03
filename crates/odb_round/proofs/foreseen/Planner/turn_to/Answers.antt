use Rattle.std.proofs.Common.{List, flat_map, map, subst, sym, ap, ◌∙◌}
use Rattle.std.specs.List.{AllByRecursion}
use Rattle.odb_chain.specs.Chains.{Chains}
use Rattle.odb_schema.specs.Schema.{Schema}
use Rattle.odb_round.specs.Foreseen.{Ahead, AreAheadOf, Foreseen, marked_ahead, marks_ahead, seen_ahead}
use Rattle.odb_sessions.specs.Marked.{marks_in, monitor_of}
use Rattle.odb_round.specs.OfSchema.{IsMonitorOf}
use Rattle.odb_sessions.specs.Tied.{AreLive}
use Rattle.odb_round.specs.Known.{AreKnownAs}
use Rattle.odb_round.proofs.Aheads.{held_told, marks_told, seen_told}
use Rattle.odb_round.proofs.OneSchema.{told_of}
use Rattle.odb_round.proofs.foreseen.Planner.turn_to.Goals as goal

pub invariant_of-self : goal.invariant_of-self
invariant_of-self c =
    let k : Chains = c.self.inside.wanted.chains in
    let live : AreLive k (flat_map marks_in c.args.monitors.now) = subst (λ (f : Foreseen). AreLive f.chains (flat_map marks_in c.args.monitors.now)) (sym c.self.view_is) c.requires.live in
    let s : Schema = c.self.inside.wanted.basis.schema in
    let of : AllByRecursion (IsMonitorOf s) (map monitor_of c.args.monitors.now) = subst (λ (f : Foreseen). AllByRecursion (IsMonitorOf f.basis.schema) (map monitor_of c.args.monitors.now)) (sym c.self.view_is) c.requires.of in (
      subst (AreLive k) (sym (ap marks_ahead c.in_ok-ahead.ensures ∙ marks_told c.args.monitors.now)) live,
      subst (AreAheadOf s) (sym c.in_ok-ahead.ensures) (told_of s c.args.monitors.now of),
      subst (λ (xs : List Ahead). AreKnownAs c.self.inside.wanted.basis.sessions c.args.watch (marked_ahead xs)) (sym c.in_ok-ahead.ensures)
          (subst (AreKnownAs c.self.inside.wanted.basis.sessions c.args.watch) (sym (held_told c.args.monitors.now)) (subst (λ (f : Foreseen). AreKnownAs f.basis.sessions c.args.watch c.args.monitors.now) (sym c.self.view_is) c.requires.known)),
    )

pub returns-clause-monitors : goal.returns-clause-monitors
returns-clause-monitors c =
    let k : Chains = c.self.inside.wanted.chains in
    ap (λ (xs : List Ahead). map (seen_ahead k.db) xs) c.in_ok-ahead.ensures ∙ seen_told k.db c.args.monitors.now

pub returns-clause-marked : goal.returns-clause-marked
returns-clause-marked c = ap marked_ahead c.in_ok-ahead.ensures ∙ held_told c.args.monitors.now
