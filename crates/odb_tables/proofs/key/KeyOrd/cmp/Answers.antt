use Rattle.std.proofs.Common.{sym, ◌∙◌}
use Rattle.std.specs.Ordering.{nat_cmp}
use Rattle.odb_tables.proofs.Keys.{number_is}
use Rattle.odb_tables.proofs.key.KeyOrd.cmp.Goals as goal

pub returns : goal.returns
returns c =
    let a = number_is c.self.inside.number c.args.self.now c.self.invariant c.self.view_is in
    let b = number_is c.other.inside.number c.args.other.now c.other.invariant c.other.view_is in
    c.cmp.ensures ∙ (λ i. nat_cmp (sym a i) (sym b i))
