use Rattle.std.proofs.Common.{rules, ◌≡◌, ℕ, Bool, false, IsSome, Some, None, refl, ap, subst}
use Rattle.std.specs.BTreeMap as tree
use Rattle.std.specs.Ordering.{nat_cmp}
use Rattle.std.specs.Prelude.{◌==◌, ◌&&◌}
use Rattle.odb_atoms.specs.Atom.{Atom, same_atom}
use Rattle.odb_atoms.specs.Represented.Atom.{atom_of}
use Rattle.odb_interest.specs.Represented.SessionsByAtom.{names}
use Rattle.odb_interest.specs.declared.column.SessionsByAtom.{SessionsByAtom}
use Rattle.odb_interest.proofs.Levels.{column_now, none_out, put_found, same_column}
use Rattle.odb_interest.proofs.watched.remove_at.Goals as goal

abbrev has : SessionsByAtom → Atom × ℕ → Bool
has x q = names x q.0 q.1

pub returns-in-Some : goal.returns-in-Some
returns-in-Some c =
    let place = c.args.place in
    let atom = atom_of c.args.atom.now in
    let m = c.args.columns.now in
    let x : SessionsByAtom = c.in-Some.column.now in
    let y : SessionsByAtom = c.remove.new.self in
    let n = c.get_mut.follows.lender y in
    let found : Some x ≡ tree.get nat_cmp m place = search rules in
    λ i a s. put_found has (tree.get nat_cmp m) (tree.get nat_cmp n) place (λ j. j == place) (same_column place m) (λ q. same_atom q.0 atom && (c.args.session == q.1)) false x y found (column_now place m n (Some y) ((c.get_mut.follows.holds y).3 (subst IsSome found refl))) (λ q. c.remove.ensures q.0 q.1) i (a, s)

pub returns-in_default : goal.returns-in_default
returns-in_default c =
    let place = c.args.place in
    let atom = atom_of c.args.atom.now in
    let m = c.args.columns.now in
    let n = c.get_mut.follows.lender-at-none in
    let none : None ≡ tree.get nat_cmp m place = search rules in
    λ i a s. none_out has (tree.get nat_cmp m) (tree.get nat_cmp n) place (λ j. j == place) (same_column place m) (λ q. same_atom q.0 atom && (c.args.session == q.1)) none (λ j. ap (λ z. tree.get nat_cmp z j) c.get_mut.follows.holds-at-none) i (a, s)
