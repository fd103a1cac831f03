use Rattle.std.proofs.Common.{List, [], subst, sym}
use Rattle.odb_monitor.specs.Job.{Job}
use Rattle.odb_sessions.specs.Alike.{Likeness}
use Rattle.odb_round.specs.Represented.Decided.{IsPlanned}
use Rattle.odb_round.proofs.Decisions.{none_planned}
use Rattle.odb_round.proofs.OneSchema.{none_decided}
use Rattle.odb_round.proofs.wanted.Wanted.new.Goals as goal
use Rattle.odb_round.proofs.SharedPlaces.{none_placed, none_shared}

pub invariant_of-result : goal.invariant_of-result
invariant_of-result c =
    let k = c.args.chains.now in
    let us = c.args.recent.now.undos in
    let fs = c.args.firsts.now in
    let planned : IsPlanned k us fs c.new.result.jobs.items c.new.result.askings.items c.new-2.result =
    subst (λ (js : List Job). IsPlanned k us fs js c.new.result.askings.items c.new-2.result) (sym c.new.ensures.jobs)
    (subst (λ (ls : List Likeness). IsPlanned k us fs [] ls c.new-2.result) (sym c.new.ensures.askings) (none_planned k us fs c.new-2.result c.requires.firsts c.new-2.ensures))
    in
    (planned, none_decided c.args.basis.schema c.new-2.result c.new-2.ensures, none_shared c.args.basis k us c.new.result.jobs.items c.new-3.result c.new-3.ensures c.requires.alike, none_placed c.new.result.askings.items c.new-3.result c.new-3.ensures)
