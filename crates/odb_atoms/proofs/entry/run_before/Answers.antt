use Rattle.std.proofs.Common.{rules}
use Rattle.std.proofs.lemmas.Fn.{always_returns_same}
use Rattle.odb_atoms.specs.Atom.{atom_cmp}
use Rattle.odb_atoms.specs.Represented.Atom.{atom_of}
use Rattle.odb_atoms.specs.Represented.AtomOrder.{atom_cmp_total}
use Rattle.odb_atoms.proofs.Rising.{searchable}
use Rattle.odb_atoms.proofs.Runs.{before_missed, before_tied, some_missed, some_tied}
use Rattle.odb_atoms.proofs.entry.run_before.Goals as goal

pub returns-in-Ok-clause-some : goal.returns-in-Ok-clause-some
returns-in-Ok-clause-some g c =
    let entry = g.E.Entry.entry in
    let tied = c.in-Ok.ensures.position (λ e. atom_cmp (entry e).0 (atom_of c.args.key.now)) (always_returns_same _ _ _ (λ a r f' k. search rules)) in
    some_tied entry (atom_of c.args.key.now) c.args.entries.now c.in-Ok.place c.in-Ok.ensures.bound tied c.requires.first

pub returns-in-Ok-clause-before : goal.returns-in-Ok-clause-before
returns-in-Ok-clause-before g c =
    let entry = g.E.Entry.entry in
    let tied = c.in-Ok.ensures.position (λ e. atom_cmp (entry e).0 (atom_of c.args.key.now)) (always_returns_same _ _ _ (λ a r f' k. search rules)) in
    before_tied entry (atom_of c.args.key.now) atom_cmp_total c.args.entries.now c.in-Ok.place c.requires.rising c.in-Ok.ensures.bound tied

pub returns-in-Err-clause-some : goal.returns-in-Err-clause-some
returns-in-Err-clause-some g c =
    let entry = g.E.Entry.entry in
    let key = atom_of c.args.key.now in
    let missed = c.in-Err.ensures.position (λ e. atom_cmp (entry e).0 key) (always_returns_same _ _ _ (λ a r f' k. search rules)) (searchable atom_cmp_total entry key _ c.requires.rising) in
    some_missed entry key c.args.entries.now c.in-Err.place missed c.requires.first

pub returns-in-Err-clause-before : goal.returns-in-Err-clause-before
returns-in-Err-clause-before g c =
    let entry = g.E.Entry.entry in
    let key = atom_of c.args.key.now in
    let missed = c.in-Err.ensures.position (λ e. atom_cmp (entry e).0 key) (always_returns_same _ _ _ (λ a r f' k. search rules)) (searchable atom_cmp_total entry key _ c.requires.rising) in
    before_missed entry key c.args.entries.now c.in-Err.place c.in-Err.ensures.bound missed
