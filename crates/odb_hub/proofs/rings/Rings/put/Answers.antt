use Rattle.std.proofs.Common.{rules, ◌≡◌, ℕ, ◌==◌, IsSome, Some, None, Option, [], ◌∷◌, refl, sym, ap, subst, ◌∙◌}
use Rattle.std.specs.BTreeMap as tree
use Rattle.std.specs.Ordering.{nat_cmp}
use Rattle.odb_atoms.specs.FinMap.{get}
use Rattle.odb_sessions.specs.Represented.Out.{text_of_out}
use Rattle.odb_hub.specs.Represented.Rings.{rings_in}
use Rattle.odb_hub.specs.Rings.{HasRoom, IsPutAt, Ring, Rings}
use Rattle.odb_hub.proofs.HandingOver.{free_is, put_short}
use Rattle.odb_hub.proofs.Putting.{put_none, put_one, short_one}
use Rattle.odb_hub.proofs.RingsIn.{Updates, get-rings_in}
use Rattle.odb_hub.proofs.rings.Rings.put.Goals as goal

pub returns-in_default : goal.returns-in_default
returns-in_default c s =
    let key : ℕ = c.args.out.session in
    let text = text_of_out c.args.out in
    let shut : tree.get nat_cmp c.self.inside.rings key ≡ None = search rules in
    let none : get (rings_in c.self.inside.rings) key ≡ None = get-rings_in c.self.inside.rings key ∙ shut in
    subst (λ (m : Rings). IsPutAt (key == s) text (get m s) (get (rings_in c.get_mut.follows.lender-at-none) s)) c.self.view_is
    (subst (λ (m : Rings). IsPutAt (key == s) text (get (rings_in c.self.inside.rings) s) (get m s)) (sym (ap rings_in c.get_mut.follows.holds-at-none)) (put_none (rings_in c.self.inside.rings) key text none s))

pub put-requires : goal.put-requires
put-requires c =
    let key : ℕ = c.args.out.session in
    let there : tree.get nat_cmp c.self.inside.rings key ≡ Some c.in-Some.ring.now = search rules in
    let found : get c.args.self.now key ≡ Some c.in-Some.ring.now = ap (λ (m : Rings). get m key) (sym c.self.view_is) ∙ get-rings_in c.self.inside.rings key ∙ there in
    free_is c.in-Some.ring.now (subst (λ (o : Option Ring). HasRoom o (text_of_out c.args.out ∷ [])) found c.requires)

pub returns : goal.returns
returns c s =
    let key : ℕ = c.args.out.session in
    let text = text_of_out c.args.out in
    let there : tree.get nat_cmp c.self.inside.rings key ≡ Some c.in-Some.ring.now = search rules in
    let changed : Updates c.self.inside.rings (c.get_mut.follows.lender c.put.new.self) key (Some c.put.new.self) = (c.get_mut.follows.holds c.put.new.self).3 (subst IsSome (sym there) refl) in
    subst (λ (m : Rings). IsPutAt (key == s) text (get m s) (get (rings_in (c.get_mut.follows.lender c.put.new.self)) s)) c.self.view_is
    (put_one c.self.inside.rings (c.get_mut.follows.lender c.put.new.self) key text c.in-Some.ring.now c.put.new.self there changed c.put.ensures s)

pub invariant_of-self-2 : goal.invariant_of-self-2
invariant_of-self-2 c =
    let key : ℕ = c.args.out.session in
    let text = text_of_out c.args.out in
    let there : tree.get nat_cmp c.self.inside.rings key ≡ Some c.in-Some.ring.now = search rules in
    let changed : Updates c.self.inside.rings (c.get_mut.follows.lender c.put.new.self) key (Some c.put.new.self) = (c.get_mut.follows.holds c.put.new.self).3 (subst IsSome (sym there) refl) in
    short_one c.self.inside.rings (c.get_mut.follows.lender c.put.new.self) key c.put.new.self changed c.self.invariant (put_short text c.in-Some.ring.now c.put.new.self c.put.ensures)
