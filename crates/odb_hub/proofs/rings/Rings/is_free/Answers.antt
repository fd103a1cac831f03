use Rattle.std.proofs.Common.{rules, ◌≡◌, not, Some, None, sym, ap, ◌∙◌}
use Rattle.std.specs.BTreeMap as tree
use Rattle.std.specs.Ordering.{nat_cmp}
use Rattle.odb_atoms.specs.FinMap.{get}
use Rattle.odb_hub.specs.Rings.{Rings, is_free_at}
use Rattle.odb_hub.proofs.RingsIn.{get-rings_in}
use Rattle.odb_hub.proofs.rings.Rings.is_free.Goals as goal

pub returns-in-Some : goal.returns-in-Some
returns-in-Some c =
    let there : tree.get nat_cmp c.self.inside.rings c.args.session ≡ Some c.in-Some.ring.now = search rules in
    let found : get c.args.self.now c.args.session ≡ Some c.in-Some.ring.now = ap (λ (m : Rings). get m c.args.session) (sym c.self.view_is) ∙ get-rings_in c.self.inside.rings c.args.session ∙ there in
    ap not c.holds.ensures ∙ ap is_free_at (sym found)

pub returns-in-None : goal.returns-in-None
returns-in-None c =
    let shut : tree.get nat_cmp c.self.inside.rings c.args.session ≡ None = search rules in
    let absent : get c.args.self.now c.args.session ≡ None = ap (λ (m : Rings). get m c.args.session) (sym c.self.view_is) ∙ get-rings_in c.self.inside.rings c.args.session ∙ shut in
    ap is_free_at (sym absent)
