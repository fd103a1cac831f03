use Rattle.std.proofs.Common.{rules, ℕ, Bool, not, Option}
use Rattle.std.proofs.lemmas.Fn.{dedup_same}
use Rattle.odb_atoms.specs.Row.{Row}
use Rattle.odb_chain.specs.Represented.MarkedVersions.{is_between}
use Rattle.odb_chain.proofs.history.clean.Goals as goal

pub returns-clause-olds : goal.returns-clause-olds
returns-clause-olds c =
    let test : ℕ × Option Row → ℕ × Option Row → Bool = λ later earlier. not (is_between c.args.live.now earlier.0 later.0) in
    dedup_same _ test _ (λ x y b f' x' y' k. search rules) _ _ c.dedup_by.ensures.filtered
