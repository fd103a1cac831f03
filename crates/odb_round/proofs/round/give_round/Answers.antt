use Rattle.std.proofs.Common.{rules, ◌≡◌, List, ℕ, map, ap, subst, sym, ◌∙◌}
use Rattle.odb_service.specs.Run.{take_each}
use Rattle.odb_service.specs.Server.{printed, served_by}
use Rattle.odb_sessions.specs.Book.{Book, revision_in}
use Rattle.odb_sessions.specs.Represented.Composed.{bytes_in}
use Rattle.odb_round.specs.Planned.{AreOnce}
use Rattle.odb_round.specs.Taken.{AreReady, sessions_in}
use Rattle.odb_round.proofs.FirstTexts.{some_then}
use Rattle.odb_round.proofs.round.give_round.Goals as goal

pub first_text-requires : goal.first_text-requires
first_text-requires c =
    let slice : c.as_slice.result.now ≡ c.in_ok-bodies.bodies.items = search rules in
    ap (map bytes_in) slice ∙ c.in_ok-bodies.ensures

pub finish-requires : goal.finish-requires
finish-requires c =
    let slice : c.as_slice-2.result.now ≡ c.in_ok-bodies.bodies.items = search rules in
    ap (map bytes_in) slice ∙ c.in_ok-bodies.ensures

pub add_first_text-requires : goal.add_first_text-requires
add_first_text-requires c = some_then c.in_ok-first.first _ _ (λ text told. told c.args.sessions.now.db c.in_ok-jobs.ensures.now) c.in_ok-first.ensures

pub accept_round-outs-requires-clause-once : goal.accept_round-outs-requires-clause-once
accept_round-outs-requires-clause-once c = subst AreOnce (sym (ap sessions_in c.in_ok-prepared.ensures ∙ c.in_ok-jobs.ensures.sessions)) c.requires.once

pub accept_round-outs-requires-clause-ready : goal.accept_round-outs-requires-clause-ready
accept_round-outs-requires-clause-ready c = λ s.
    subst (λ (b : Book). AreReady s b c.in_ok-prepared.prepared) (sym c.add_first_text.ensures) (subst (AreReady s c.args.sessions.now) (sym c.in_ok-prepared.ensures) (c.in_ok-jobs.ensures.ready s))

pub returns-clause-ok : goal.returns-clause-ok
returns-clause-ok c = λ s w revision sessions.
    let same : c.args.sessions.now ≡ c.add_first_text.new.self = sym c.add_first_text.ensures in
    let listed : sessions_in c.in_ok-prepared.prepared ≡ c.args.listed.now = ap sessions_in c.in_ok-prepared.ensures ∙ c.in_ok-jobs.ensures.sessions in
    let r = c.accept_round-outs.ensures.round s w (revision ∙ ap (λ (b : Book). revision_in b) same) (sessions ∙ ap (λ (b : Book). b.sessions) same) in (
      ap (λ (ns : List ℕ). (take_each (served_by s) ns w).0) (sym listed) ∙ r.0 ∙ ap (λ (b : Book). record w { sessions = b.sessions }) (sym c.forget_each.ensures),
      ap (λ (ns : List ℕ). map printed (take_each (served_by s) ns w).1) (sym listed) ∙ r.1,
    )
