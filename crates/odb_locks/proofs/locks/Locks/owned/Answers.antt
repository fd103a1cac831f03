use Rattle.std.proofs.Common.{◌≡◌, ℕ, List, [], filter, map, sym, ap, ◌∙◌}
use Rattle.std.specs.List.{list_any}
use Rattle.std.proofs.lemmas.Result.{IfOk-weaker}
use Rattle.odb_atoms.specs.FinMap as finite
use Rattle.odb_atoms.specs.Text.{same_text}
use Rattle.odb_locks.specs.Locks.{Locks, owns}
use Rattle.odb_locks.proofs.Release.{owned-any, owned-none, owned-set}
use Rattle.odb_locks.proofs.locks.Locks.owned.Goals as goal

pub returns-in-Some-clause-ascending : goal.returns-in-Some-clause-ascending
returns-in-Some-clause-ascending c =
    IfOk-weaker c.owned_among.result _ _
    (λ _ is.
    is
    ∙ owned-set c.self.inside.table c.args.session c.in-Some.names.now c.owned_among.ensures.ordered (λ q. c.in-Some.ensures q ∙ c.self.invariant c.args.session q)
    ∙ ap (λ (l : Locks). filter (owns l c.args.session) (finite.keys l)) c.self.view_is)
    c.owned_among.ensures.owned

pub returns-in-Some-clause-owned : goal.returns-in-Some-clause-owned
returns-in-Some-clause-owned c =
    IfOk-weaker c.owned_among.result _ _
    (λ _ is q.
    ap (list_any (same_text q)) (is ∙ owned-set c.self.inside.table c.args.session c.in-Some.names.now c.owned_among.ensures.ordered (λ n. c.in-Some.ensures n ∙ c.self.invariant c.args.session n))
    ∙ owned-any c.self.inside.table c.args.session q
    ∙ ap (λ (l : Locks). owns l c.args.session q) c.self.view_is)
    c.owned_among.ensures.owned

pub returns-in-None-clause-ascending : goal.returns-in-None-clause-ascending
returns-in-None-clause-ascending c =
    ap (map (λ name. name.now)) c.new.ensures.items
    ∙ owned-none c.self.inside.table c.args.session (λ q. c.in-None.ensures q ∙ c.self.invariant c.args.session q)
    ∙ ap (λ (l : Locks). filter (owns l c.args.session) (finite.keys l)) c.self.view_is

pub returns-in-None-clause-owned : goal.returns-in-None-clause-owned
returns-in-None-clause-owned c = λ q.
    ap (λ ns. list_any (same_text q) (map (λ name. name.now) ns)) c.new.ensures.items
    ∙ ap (list_any (same_text q)) (owned-none c.self.inside.table c.args.session (λ n. c.in-None.ensures n ∙ c.self.invariant c.args.session n))
    ∙ owned-any c.self.inside.table c.args.session q
    ∙ ap (λ (l : Locks). owns l c.args.session q) c.self.view_is
