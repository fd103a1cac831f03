use Rattle.std.proofs.Common.{List, sym, ap, ◌∙◌}
use Rattle.std.proofs.lemmas.Result.{IfOk-weaker}
use Rattle.odb_locks.specs.Locks as model
use Rattle.odb_locks.specs.Locks.{Locks}
use Rattle.odb_locks.specs.Represented.Notice.{notices_of}
use Rattle.odb_locks.proofs.Release.{drop_session-none, drop_session-set}
use Rattle.odb_locks.proofs.locks.Locks.preview_drop.Goals as goal

pub returns-in-Some : goal.returns-in-Some
returns-in-Some c =
    IfOk-weaker c.notices_of_release.result _ _
    (λ _ is.
    ap (λ (l : Locks). (model.drop_session l c.args.session).1) (sym c.self.view_is)
    ∙ ap (λ (r : Locks × List model.Notice). r.1) (drop_session-set c.self.inside.table c.args.session c.in-Some.names.now c.notices_of_release.ensures.ordered (λ q. c.in-Some.ensures q ∙ c.self.invariant c.args.session q))
    ∙ sym is)
    c.notices_of_release.ensures.notices

pub returns-in-None : goal.returns-in-None
returns-in-None c =
    ap (λ (l : Locks). (model.drop_session l c.args.session).1) (sym c.self.view_is)
    ∙ ap (λ (r : Locks × List model.Notice). r.1) (drop_session-none c.self.inside.table c.args.session (λ q. c.in-None.ensures q ∙ c.self.invariant c.args.session q))
    ∙ ap notices_of (sym c.new.ensures.items)
