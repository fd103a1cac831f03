use Rattle.std.proofs.Common.{rules, ◌≡◌, ℕ, Bool, cond, false, IsSome, Some, None, ap, refl, subst, ◌∙◌}
use Rattle.std.proofs.lemmas.List.{nil_from_length}
use Rattle.std.specs.BTreeSet.{BTreeSet, btree_set_len, contains}
use Rattle.std.specs.Ordering.{nat_cmp}
use Rattle.std.specs.Prelude.{◌==◌}
use Rattle.odb_atoms.specs.Atom.{Atom, same_atom}
use Rattle.odb_atoms.specs.Represented.Atom.{atom_of}
use Rattle.odb_interest.specs.Represented.SessionsByAtom.{at_atom}
use Rattle.odb_interest.proofs.Levels.{atoms_now, emptied, none_in, none_out, put_found, same_found, set_now}
use Rattle.odb_interest.proofs.column.SessionsByAtom.remove.Goals as goal

abbrev has : BTreeSet ℕ → ℕ → Bool
has set s = contains nat_cmp set s

pub returns-in_default : goal.returns-in_default
returns-in_default c =
    let key = atom_of c.args.atom.now in
    let m = c.args.self.now.sessions in
    let n = c.get_mut.follows.lender-at-none in
    none_out has (at_atom m) (at_atom n) key (λ a. same_atom a key) (same_found key m) (λ s. c.args.session == s) c.in_default.ensures.value (λ a. ap (λ z. at_atom z a) c.get_mut.follows.holds-at-none)

pub returns-then-is_empty : goal.returns-then-is_empty
returns-then-is_empty c =
    let key = atom_of c.args.atom.now in
    let m = c.args.self.now.sessions in
    let x = c.in-Some.sessions.now in
    let y = c.remove.new.self in
    let n = c.get_mut.follows.lender y in
    let last = c.remove-then-is_empty.new.self in
    let found : Some x ≡ at_atom m key = c.in-Some.ensures.value in
    let short : btree_set_len y ≡ 0 = search rules in
    let changed : (a : Atom) → at_atom n a ≡ cond (same_atom a key) (Some y) (at_atom m a) = atoms_now key m n (Some y) ((c.get_mut.follows.holds y).3 (subst IsSome found refl)) in
    λ a s.
    emptied has (at_atom m) (at_atom n) key (λ b. same_atom b key) (same_found key m) y (at_atom last) changed (none_in y (nil_from_length y.keys short)) (atoms_now key n last None c.remove-then-is_empty.ensures.updates) a s
    ∙ put_found has (at_atom m) (at_atom n) key (λ b. same_atom b key) (same_found key m) (λ t. c.args.session == t) false x y found changed (set_now c.args.session x y false c.remove.ensures.updates) a s

pub returns-else-is_empty : goal.returns-else-is_empty
returns-else-is_empty c =
    let key = atom_of c.args.atom.now in
    let m = c.args.self.now.sessions in
    let x = c.in-Some.sessions.now in
    let y = c.remove.new.self in
    let n = c.get_mut.follows.lender y in
    let found : Some x ≡ at_atom m key = c.in-Some.ensures.value in
    put_found has (at_atom m) (at_atom n) key (λ a. same_atom a key) (same_found key m) (λ s. c.args.session == s) false x y found (atoms_now key m n (Some y) ((c.get_mut.follows.holds y).3 (subst IsSome found refl))) (set_now c.args.session x y false c.remove.ensures.updates)
