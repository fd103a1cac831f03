use mathlib.Core.Path.{ap, ◌∙◌}
use Rattle.std.proofs.Common.{◌++◌, map}
use Rattle.odb_atoms.specs.Represented.Atom.{atom_of}
use Rattle.odb_atoms.proofs.Chunks.{rising_slice}
use Rattle.odb_atoms.proofs.Runs.{copied_run, fewer_left, first_in_front}
use Rattle.odb_atoms.proofs.entry.copy_run.Goals as goal

pub run_before-run-requires-clause-rising : goal.run_before-run-requires-clause-rising
run_before-run-requires-clause-rising g c = rising_slice g.E.Entry.entry c.args.entries.now c.front-front.result.now _ c.front-front.ensures.front c.requires.rising

pub run_before-run-requires-clause-first : goal.run_before-run-requires-clause-first
run_before-run-requires-clause-first g c = first_in_front g.E.Entry.entry (atom_of c.args.key.now) c.args.entries.now c.front-front.result.now _ c.front-front.ensures.front c.front-front.ensures.all c.requires.first

pub returns-clause-run : goal.returns-clause-run
returns-clause-run g c =
    let entry = g.E.Entry.entry in
    let run = c.run_before-run in
    let there = c.in_ok-append_copies.ensures ∙ ap (λ xs. map entry c.args.change.now.items ++ map entry xs) c.of.ensures in
    copied_run entry (atom_of c.args.key.now) c.args.entries.now c.front-front.result.now _ _ run.result _ _ c.front-front.ensures.front run.ensures.within c.pass.ensures run.ensures.before there

pub returns-clause-fewer : goal.returns-clause-fewer
returns-clause-fewer g c = fewer_left g.E.Entry.entry (atom_of c.args.key.now) c.args.entries.now _ c.run_before-run.result c.run_before-run.ensures.some c.pass.ensures c.requires.first
