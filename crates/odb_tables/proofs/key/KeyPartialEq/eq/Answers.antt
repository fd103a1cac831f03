use Rattle.std.proofs.Common.{nat_eq, sym, ◌∙◌}
use Rattle.std.specs.Cmp.{unsigned_tied}
use Rattle.odb_tables.proofs.Keys.{number_is}
use Rattle.odb_tables.proofs.key.KeyPartialEq.eq.Goals as goal

pub returns : goal.returns
returns c =
    let a = number_is c.self.inside.number c.args.self.now c.self.invariant c.self.view_is in
    let b = number_is c.other.inside.number c.args.other.now c.other.invariant c.other.view_is in
    (λ i. nat_eq (sym a i) (sym b i)) ∙ sym (unsigned_tied c.args.self.now.number c.args.other.now.number)
