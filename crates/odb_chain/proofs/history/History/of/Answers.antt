use Rattle.std.proofs.Common.{◌≡◌, ℕ, Option, [], ◌∷◌, subst, sym, ap}
use Rattle.odb_atoms.specs.Row.{Row}
use Rattle.odb_chain.specs.OldRows.{History}
use Rattle.odb_chain.specs.Represented.Log.{IsLast}
use Rattle.odb_chain.proofs.Lasts.{last_alone}
use Rattle.odb_chain.proofs.history.History.of.Goals as goal

pub invariant_of-result : goal.invariant_of-result
invariant_of-result c =
    let version : c.old.inside.version ≡ c.args.old.0 = ap (λ (x : ℕ × Option Row). x.0) c.old.view_is in
    subst (λ (more : History). IsLast c.old.inside.version (c.args.old ∷ more)) (sym c.new.ensures.items)
    (subst (λ q. IsLast q (c.args.old ∷ [])) (sym version) (last_alone c.args.old.0 c.args.old.1))
