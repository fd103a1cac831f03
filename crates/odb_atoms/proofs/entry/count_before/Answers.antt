use mathlib.Core.Path.{sym, ap, subst}
use Rattle.std.proofs.Common.{add-one, rules, ◌≡◌, ◌+◌, true, false, is_lt, map, drop}
use Rattle.odb_atoms.specs.Atom.{atom_cmp}
use Rattle.odb_atoms.specs.Represented.Atom.{atom_of}
use Rattle.odb_atoms.specs.Represented.Entry.{IsFrom}
use Rattle.odb_atoms.proofs.Parted.{before_next, from_at}
use Rattle.odb_atoms.proofs.entry.count_before.Goals as goal

pub returns-then-not-is_lt-clause-from : goal.returns-then-not-is_lt-clause-from
returns-then-not-is_lt-clause-from g c =
    let entry = g.E.Entry.entry in
    let key = atom_of c.args.key.now in
    let at = c.loop-entry in
    let from : is_lt (atom_cmp (entry c.entry-item.result).0 key) ≡ false = search rules in
    subst (λ n. IsFrom (drop n (map entry c.args.entries.now)) key) (sym at.invariant.0) (from_at entry key c.args.entries.now at.entry-index c.entry-item.result c.loop-entry-test.true c.entry-item.is from)

pub loop-entry-preserved : goal.loop-entry-preserved
loop-entry-preserved g c =
    let entry = g.E.Entry.entry in
    let key = atom_of c.args.key.now in
    let at = c.loop-entry in
    let before : is_lt (atom_cmp (entry c.entry-item.result).0 key) ≡ true = search rules in (
      ap (λ n. n + 1) at.invariant.0,
      rw add-one (before_next entry key c.args.entries.now at.entry-index c.entry-item.result c.loop-entry-test.true c.entry-item.is before at.invariant.1),
    )
