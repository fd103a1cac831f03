use Rattle.std.proofs.Common.{None, cond, ap, ◌∙◌}
use Rattle.std.specs.Prelude.{[], ◌==◌}
use Rattle.odb_interest.specs.Keys.{Interests, asked_at}
use Rattle.odb_interest.proofs.Asking.{asked-now}
use Rattle.odb_interest.proofs.lists.Lists.forget.Goals as goal

pub returns : goal.returns
returns c = λ s.
    asked-now c.args.session c.self.inside.lists c.remove.new.self None c.remove.ensures.updates s
    ∙ ap (λ (v : Interests). cond (c.args.session == s) [] (asked_at v s)) c.self.view_is
