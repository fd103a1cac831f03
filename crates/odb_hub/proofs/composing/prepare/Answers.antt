use Rattle.std.proofs.Common.{rules, ◌≡◌, map, ap, subst, sym, ◌∙◌}
use Rattle.std.proofs.lemmas.Option.{IfSome_then}
use Rattle.odb_core.specs.Represented.Rounds.{AreRoundOf}
use Rattle.odb_sessions.specs.Represented.Composed.{bytes_in}
use Rattle.odb_hub.proofs.composing.prepare.Goals as goal

pub first_text-requires : goal.first_text-requires
first_text-requires g c =
    let slice : c.as_slice.result.now ≡ c.in_ok-bodies.bodies.items = search rules in
    ap (map bytes_in) slice ∙ c.in_ok-bodies.ensures

pub finish-requires : goal.finish-requires
finish-requires g c =
    let slice : c.as_slice-2.result.now ≡ c.in_ok-bodies.bodies.items = search rules in
    ap (map bytes_in) slice ∙ c.in_ok-bodies.ensures

pub returns-clause-round : goal.returns-clause-round
returns-clause-round g c = subst (AreRoundOf c.args.ready.now c.args.core.now) (sym c.in_ok-prepared.ensures) c.in_ok-jobs.ensures.round

pub returns-clause-first : goal.returns-clause-first
returns-clause-first g c = IfSome_then c.in_ok-first.first c.in_ok-first.ensures (λ text told. told c.args.core.now.world.db c.in_ok-jobs.ensures.now)
