use Rattle.std.proofs.Common.{rules, ◌≡◌, ℕ, true, IsSome, Some, Bool, cond, ap, refl, subst}
use Rattle.std.specs.BTreeMap as tree
use Rattle.std.specs.BTreeSet.{BTreeSet, contains}
use Rattle.std.specs.List.{list_any}
use Rattle.std.specs.Ordering.{nat_cmp}
use Rattle.std.specs.Prelude.{◌==◌}
use Rattle.odb_atoms.specs.Atom.{Atom, atom_cmp, same_atom}
use Rattle.odb_atoms.specs.Represented.Atom.{atom_of}
use Rattle.odb_interest.specs.Represented.SessionsByAtom.{at_atom}
use Rattle.odb_interest.proofs.Booleans.{whatever}
use Rattle.odb_interest.proofs.Levels.{atoms_now, by_atoms, kept, none_in, put_first, put_found, same_found, set_now}
use Rattle.odb_interest.proofs.column.SessionsByAtom.insert.Goals as goal

abbrev has : BTreeSet ℕ → ℕ → Bool
has set s = contains nat_cmp set s

pub returns-in_err-insert-clause-err : goal.returns-in_err-insert-clause-err
returns-in_err-insert-clause-err c =
    let key = atom_of c.args.atom.now in
    let m = c.args.self.now.sessions in
    let x = c.in-Some.sessions.now in
    let y = c.insert.new.self in
    let n = c.get_mut.follows.lender y in
    let found : Some x ≡ at_atom m key = c.in-Some.ensures.value in
    let same : y.keys ≡ x.keys = search rules in
    whatever _ c.from_residual.result
    (kept has (at_atom m) (at_atom n) key (λ a. same_atom a key) (same_found key m) x y found (atoms_now key m n (Some y) ((c.get_mut.follows.holds y).3 (subst IsSome found refl))) (λ s. ap (list_any (tree.is_at (nat_cmp s))) same))

pub returns-in-Some-clause-ok : goal.returns-in-Some-clause-ok
returns-in-Some-clause-ok c =
    let key = atom_of c.args.atom.now in
    let m = c.args.self.now.sessions in
    let x = c.in-Some.sessions.now in
    let y = c.insert.new.self in
    let n = c.get_mut.follows.lender y in
    let found : Some x ≡ at_atom m key = c.in-Some.ensures.value in
    put_found has (at_atom m) (at_atom n) key (λ a. same_atom a key) (same_found key m) (λ s. c.args.session == s) true x y found (atoms_now key m n (Some y) ((c.get_mut.follows.holds y).3 (subst IsSome found refl))) (set_now c.args.session x y true c.in_ok-insert.ensures.updates)

pub returns-clause-ok : goal.returns-clause-ok
returns-clause-ok c =
    let key = atom_of c.args.atom.now in
    let m = c.args.self.now.sessions in
    let m' = c.get_mut.follows.lender-at-none in
    let x = c.new-sessions.result in
    let y = c.insert-2.new.self in
    let n = c.insert-3.new.self in
    let copied : atom_of c.in_ok-atom.atom ≡ key = search rules in
    let changed : tree.UpdatesBy by_atoms (λ k. atom_cmp (atom_of c.in_ok-atom.atom) (atom_of k)) m' n (Some y) = search rules in
    let same : m' ≡ m = c.get_mut.follows.holds-at-none in
    let now : (a : Atom) → at_atom n a ≡ cond (same_atom a key) (Some y) (at_atom m a) = subst (λ z. (a : Atom) → at_atom n a ≡ cond (same_atom a key) (Some y) (at_atom z a)) same (subst (λ z. (a : Atom) → at_atom n a ≡ cond (same_atom a z) (Some y) (at_atom m' a)) copied (atoms_now (atom_of c.in_ok-atom.atom) m' n (Some y) changed)) in
    put_first has (at_atom m) (at_atom n) key (λ a. same_atom a key) (same_found key m) (λ s. c.args.session == s) true x y c.in_default.ensures.value (none_in x c.new-sessions.ensures.empty) now (set_now c.args.session x y true c.in_ok-insert-2.ensures.updates)
