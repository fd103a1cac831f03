use Rattle.std.proofs.Common.{rules, ◌≡◌, ℕ, Bool, true, IsSome, Some, None, refl, subst}
use Rattle.std.proofs.lemmas.Result.{on_err_weaker, on_ok_weaker}
use Rattle.std.specs.BTreeMap as tree
use Rattle.std.specs.Ordering.{nat_cmp}
use Rattle.std.specs.Prelude.{◌==◌, ◌&&◌}
use Rattle.odb_atoms.specs.Atom.{Atom, same_atom}
use Rattle.odb_atoms.specs.Represented.Atom.{atom_of}
use Rattle.odb_interest.specs.Represented.SessionsByAtom.{Puts, names}
use Rattle.odb_interest.specs.declared.column.SessionsByAtom.{SessionsByAtom}
use Rattle.odb_interest.proofs.Levels.{column_now, kept, put_first, put_found, same_column}
use Rattle.odb_interest.proofs.watched.insert_at.Goals as goal

abbrev has : SessionsByAtom → Atom × ℕ → Bool
has x q = names x q.0 q.1

pub returns-in-Some-clause-ok : goal.returns-in-Some-clause-ok
returns-in-Some-clause-ok c =
    let place = c.args.place in
    let atom = atom_of c.args.atom.now in
    let m = c.args.columns.now in
    let x : SessionsByAtom = c.in-Some.column.now in
    let y : SessionsByAtom = c.insert.new.self in
    let n = c.get_mut.follows.lender y in
    let found : Some x ≡ tree.get nat_cmp m place = search rules in
    on_ok_weaker c.insert.result
    (λ puts i a s. put_found has (tree.get nat_cmp m) (tree.get nat_cmp n) place (λ j. j == place) (same_column place m) (λ q. same_atom q.0 atom && (c.args.session == q.1)) true x y found (column_now place m n (Some y) ((c.get_mut.follows.holds y).3 (subst IsSome found refl))) (λ q. puts q.0 q.1) i (a, s))
    c.insert.ensures.ok

pub returns-in-Some-clause-err : goal.returns-in-Some-clause-err
returns-in-Some-clause-err c =
    let place = c.args.place in
    let m = c.args.columns.now in
    let x : SessionsByAtom = c.in-Some.column.now in
    let y : SessionsByAtom = c.insert.new.self in
    let n = c.get_mut.follows.lender y in
    let found : Some x ≡ tree.get nat_cmp m place = search rules in
    on_err_weaker c.insert.result
    (λ same i a s. kept has (tree.get nat_cmp m) (tree.get nat_cmp n) place (λ j. j == place) (same_column place m) x y found (column_now place m n (Some y) ((c.get_mut.follows.holds y).3 (subst IsSome found refl))) (λ q. same q.0 q.1) i (a, s))
    c.insert.ensures.err

pub returns-clause-ok : goal.returns-clause-ok
returns-clause-ok c =
    let place = c.args.place in
    let atom = atom_of c.args.atom.now in
    let m = c.args.columns.now in
    let m' = c.get_mut.follows.lender-at-none in
    let x : SessionsByAtom = c.new-column.result in
    let y : SessionsByAtom = c.insert-2.new.self in
    let n = c.insert-3.new.self in
    let none : None ≡ tree.get nat_cmp m place = search rules in
    let puts : Puts x y atom c.args.session true = search rules in
    let changed : tree.UpdatesBy nat_cmp (nat_cmp place) m' n (Some y) = search rules in
    let same : m' ≡ m = c.get_mut.follows.holds-at-none in
    λ i a s.
    put_first has (tree.get nat_cmp m) (tree.get nat_cmp n) place (λ j. j == place) (same_column place m) (λ q. same_atom q.0 atom && (c.args.session == q.1)) true x y none (λ q. c.new-column.ensures q.0 q.1)
    (column_now place m n (Some y) (subst (λ z. tree.UpdatesBy nat_cmp (nat_cmp place) z n (Some y)) same changed)) (λ q. puts q.0 q.1) i (a, s)
