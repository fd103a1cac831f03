use Rattle.std.proofs.Common.{rules, ◌≡◌, sym, ap, ◌∙◌}
use Rattle.std.specs.Ordering.{nat_cmp, ordering_then}
use Rattle.odb_integrity.specs.Settlement.{RowId}
use Rattle.odb_tables.specs.Represented.Key.{number-uuid_from}
use Rattle.odb_integrity.proofs.row_id.RowIdOrd.cmp.Goals as goal

pub returns : goal.returns
returns c =
    let x = c.self.inside in
    let y = c.other.inside in
    let told : c.then.result ≡ ordering_then (nat_cmp x.table y.table) (nat_cmp x.number y.number) = search rules in
    let a = sym (ap (λ (z : RowId). z.1.number) c.self.view_is) ∙ number-uuid_from x.number c.self.invariant in
    let b = sym (ap (λ (z : RowId). z.1.number) c.other.view_is) ∙ number-uuid_from y.number c.other.invariant in
    told ∙ (λ i. ordering_then (nat_cmp (c.self.view_is i).0 (c.other.view_is i).0) (nat_cmp (sym a i) (sym b i)))
