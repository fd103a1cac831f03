use Rattle.std.proofs.Common.{rules, ◌≡◌, IsSome, Some, refl, sym, ap, subst, ◌∙◌}
use Rattle.std.specs.BTreeMap as tree
use Rattle.std.specs.Ordering.{nat_cmp}
use Rattle.odb_atoms.specs.FinMap.{get}
use Rattle.odb_hub.specs.Represented.Rings.{rings_in}
use Rattle.odb_hub.specs.Rings.{IsFlushedAt, Rings}
use Rattle.odb_hub.proofs.HandingOver.{flushed_itself, flushed_short}
use Rattle.odb_hub.proofs.Putting.{flushed_one, others_stay, short_of, short_one}
use Rattle.odb_hub.proofs.RingsIn.{Updates}
use Rattle.odb_hub.proofs.rings.Rings.flush_at.Goals as goal

pub returns-in_default-clause-flushed : goal.returns-in_default-clause-flushed
returns-in_default-clause-flushed c s =
    subst (λ (m : Rings). IsFlushedAt (get m s) (get (rings_in c.get_mut.follows.lender-at-none) s)) c.self.view_is
    (subst (λ (m : Rings). IsFlushedAt (get (rings_in c.self.inside.rings) s) (get m s)) (sym (ap rings_in c.get_mut.follows.holds-at-none)) (flushed_itself (get (rings_in c.self.inside.rings) s)))

pub returns-clause-flushed : goal.returns-clause-flushed
returns-clause-flushed c s =
    let there : tree.get nat_cmp c.self.inside.rings c.args.session ≡ Some c.in-Some.ring.now = search rules in
    let changed : Updates c.self.inside.rings (c.get_mut.follows.lender c.flush.new.self) c.args.session (Some c.flush.new.self) = (c.get_mut.follows.holds c.flush.new.self).3 (subst IsSome (sym there) refl) in
    subst (λ (m : Rings). IsFlushedAt (get m s) (get (rings_in (c.get_mut.follows.lender c.flush.new.self)) s)) c.self.view_is
    (flushed_one c.self.inside.rings (c.get_mut.follows.lender c.flush.new.self) c.args.session c.in-Some.ring.now c.flush.new.self there changed c.flush.ensures s)

pub returns-in_default-clause-others : goal.returns-in_default-clause-others
returns-in_default-clause-others c s apart = ap (λ (m : Rings). get m s) (ap rings_in c.get_mut.follows.holds-at-none ∙ c.self.view_is)

pub returns-clause-others : goal.returns-clause-others
returns-clause-others c s apart =
    let there : tree.get nat_cmp c.self.inside.rings c.args.session ≡ Some c.in-Some.ring.now = search rules in
    let changed : Updates c.self.inside.rings (c.get_mut.follows.lender c.flush.new.self) c.args.session (Some c.flush.new.self) = (c.get_mut.follows.holds c.flush.new.self).3 (subst IsSome (sym there) refl) in
    others_stay c.self.inside.rings (c.get_mut.follows.lender c.flush.new.self) c.args.session c.flush.new.self changed s apart ∙ ap (λ (m : Rings). get m s) c.self.view_is

pub invariant_of-self-2 : goal.invariant_of-self-2
invariant_of-self-2 c =
    let there : tree.get nat_cmp c.self.inside.rings c.args.session ≡ Some c.in-Some.ring.now = search rules in
    let changed : Updates c.self.inside.rings (c.get_mut.follows.lender c.flush.new.self) c.args.session (Some c.flush.new.self) = (c.get_mut.follows.holds c.flush.new.self).3 (subst IsSome (sym there) refl) in
    short_one c.self.inside.rings (c.get_mut.follows.lender c.flush.new.self) c.args.session c.flush.new.self changed c.self.invariant
    (flushed_short c.in-Some.ring.now c.flush.new.self (short_of c.self.inside.rings c.args.session c.in-Some.ring.now there c.self.invariant) c.flush.ensures)
