use mathlib.Core.Path.{sym, ap, subst, ◌∙◌}
use Rattle.std.proofs.Common.{◌≡◌, map, Greater}
use Rattle.odb_atoms.specs.Atom.{atom_cmp}
use Rattle.odb_atoms.specs.Represented.Entry.{CopiesRun}
use Rattle.odb_atoms.specs.Represented.Atom.{atom_of}
use Rattle.odb_atoms.specs.Represented.AtomOrder.{atom_cmp_total}
use Rattle.odb_atoms.proofs.Rising.{turned}
use Rattle.odb_atoms.proofs.Runs.{first_before, run_rises, step_greater, step_less}
use Rattle.odb_atoms.proofs.entry.changed.Goals as goal

pub copy_run-requires-in-Greater-clause-first : goal.copy_run-requires-in-Greater-clause-first
copy_run-requires-in-Greater-clause-first g c =
    let entry = g.E.Entry.entry in
    let first = (entry c.in-Some.first.now).0 in
    let next = (entry c.in-Some-first.next.now).0 in
    let after : atom_cmp first next ≡ Greater = (λ i. atom_cmp (sym c.key.ensures i) (sym c.key-in-Some.ensures i)) ∙ sym c.cmp.ensures ∙ c.in-Greater.is in
    first_before entry (atom_of c.key-in-Greater.result.now) c.loop-first.new_left c.in-Some-first.next.now c.in-Some-first.ensures (ap (atom_cmp next) c.key-in-Greater.ensures ∙ turned atom_cmp_total first next after)

pub loop-first-preserved-in_ok-copy_run-in-Less : goal.loop-first-preserved-in_ok-copy_run-in-Less
loop-first-preserved-in_ok-copy_run-in-Less g c =
    let entry = g.E.Entry.entry in
    let here = c.in_ok-copy_run-in-Less in
    let at = c.loop-first in
    let left = c.copy_run.new.entries in
    let run = subst (λ k. CopiesRun k (map entry at.old_left) (map entry left) (map entry at.change.items) (map entry c.copy_run.new.change.items)) c.key-in-Less.ensures here.ensures.run in (
      step_less entry at.old_left left at.new_left c.in-Some-first.next.now _ _ _ c.in-Some-first.ensures run at.invariant.0,
      (run_rises entry (atom_of c.key-in-Less.result.now) at.old_left left _ _ here.ensures.run at.invariant.1.0, at.invariant.1.1),
    )

pub loop-first-preserved-in_ok-copy_run-in-Greater : goal.loop-first-preserved-in_ok-copy_run-in-Greater
loop-first-preserved-in_ok-copy_run-in-Greater g c =
    let entry = g.E.Entry.entry in
    let here = c.in_ok-copy_run-in-Greater in
    let at = c.loop-first in
    let left = c.copy_run-in-Greater.new.entries in
    let run = subst (λ k. CopiesRun k (map entry at.new_left) (map entry left) (map entry at.change.items) (map entry c.copy_run-in-Greater.new.change.items)) c.key-in-Greater.ensures here.ensures.run in (
      step_greater entry at.old_left at.new_left left c.in-Some.first.now _ _ _ c.in-Some.ensures run at.invariant.0,
      (at.invariant.1.0, run_rises entry (atom_of c.key-in-Greater.result.now) at.new_left left _ _ here.ensures.run at.invariant.1.1),
    )
