use Rattle.std.proofs.Common.{rules, is_lt}
use Rattle.std.proofs.lemmas.Fn.{always_returns_same}
use Rattle.odb_atoms.specs.Atom.{atom_cmp}
use Rattle.odb_atoms.specs.Represented.AtomOrder.{atom_cmp_total}
use Rattle.odb_atoms.proofs.Sorts.{rising-answer}
use Rattle.odb_atoms.proofs.entry.is_rising.Goals as goal

pub returns : goal.returns
returns g c =
    let entry = g.E.Entry.entry in
    rising-answer atom_cmp_total entry c.args.entries.now c.is_sorted_by.result (c.is_sorted_by.ensures.cases (λ x y. is_lt (atom_cmp (entry x).0 (entry y).0)) (always_returns_same _ _ _ (λ a r f' k. search rules)))
