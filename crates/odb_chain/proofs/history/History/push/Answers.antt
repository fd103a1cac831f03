use Rattle.std.proofs.Common.{rules, ◌≡◌, ℕ, false, Option, ◌∷◌, [], ◌++◌, nat_le, if◌then◌else◌, subst, sym, ap, ◌∙◌}
use Rattle.odb_atoms.specs.Row.{Row}
use Rattle.odb_chain.specs.OldRows.{History, at, reaches}
use Rattle.odb_chain.specs.Represented.Log.{IsLast}
use Rattle.odb_chain.specs.Represented.MarkedVersions.{Past, is_label}
use Rattle.odb_chain.proofs.Histories.{neutral, past_pushed}
use Rattle.odb_chain.proofs.Lasts.{last_pushed, unreached_more}
use Rattle.odb_chain.proofs.history.History.push.Goals as goal

pub returns-clause-same : goal.returns-clause-same
returns-clause-same c = λ p kept.
    let n = c.args.old.0 in
    let r = c.args.old.1 in
    let first = c.self.inside.first in
    let more : History = c.self.inside.more.items in
    let left : History = c.tidy.new.olds.items in
    let as_it_was : c.reserve.new.self.items ≡ more = search rules in
    let grown : c.push_reserved.new.self.items ≡ left ++ c.args.old ∷ [] = search rules in
    let apart : reaches n more ≡ false = unreached_more n first more (ap (reaches n) c.self.view_is ∙ c.requires) in
    ap (λ x. if nat_le p first.0 then first.1 else x)
    (ap (at p r) grown ∙ neutral p n r left ∙ c.tidy.ensures.same n p r (ap (reaches n) as_it_was ∙ apart) kept ∙ ap (at p r) as_it_was)
    ∙ ap (at p r) c.self.view_is

pub returns-clause-past : goal.returns-clause-past
returns-clause-past c = λ v le h.
    let n = c.args.old.0 in
    let r = c.args.old.1 in
    let more : History = c.self.inside.more.items in
    let left : History = c.tidy.new.olds.items in
    let as_it_was : c.reserve.new.self.items ≡ more = search rules in
    let grown : c.push_reserved.new.self.items ≡ left ++ c.args.old ∷ [] = search rules in
    let before : Past v r (c.self.inside.first ∷ more) = subst (Past v r) (sym c.self.view_is) h in
    (before.0, before.1, subst (Past v r) (sym grown) (past_pushed v n r left le (c.tidy.ensures.past v r (subst (Past v r) (sym as_it_was) before.2))))

pub invariant_of-self-2 : goal.invariant_of-self-2
invariant_of-self-2 c =
    let n = c.args.old.0 in
    let r = c.args.old.1 in
    let first = c.self.inside.first in
    let more : History = c.self.inside.more.items in
    let left : History = c.tidy.new.olds.items in
    let as_it_was : c.reserve.new.self.items ≡ more = search rules in
    let grown : c.push_reserved.new.self.items ≡ left ++ c.args.old ∷ [] = search rules in
    let version : c.old.inside.version ≡ n = ap (λ (x : ℕ × Option Row). x.0) c.old.view_is in
    subst (λ q. IsLast q (first ∷ c.push_reserved.new.self.items)) (sym version)
    (subst (λ (xs : History). IsLast n (first ∷ xs)) (sym grown)
    (last_pushed n r first more left (ap (reaches n) c.self.view_is ∙ c.requires) (λ q e. ap (is_label q) (sym as_it_was) ∙ c.tidy.ensures.labels q e)))
