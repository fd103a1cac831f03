use mathlib.Core.Path.{sym, ap, refl, ◌∙◌}
use Rattle.std.proofs.Common.{rules, ◌≡◌, [], true, false, not, map, Less, Equal, Greater}
use Rattle.odb_atoms.specs.Atom.{atom_cmp}
use Rattle.odb_atoms.proofs.Chunks.{opened}
use Rattle.odb_atoms.proofs.Merges.{passes, passes-greater, passes-less, passes-nothing, passes-tied, rest_rises}
use Rattle.odb_atoms.proofs.entry.excludes_by_pass.Goals as goal

pub loop-first-preserved-in-Less : goal.loop-first-preserved-in-Less
loop-first-preserved-in-Less g c =
    let entry = g.E.Entry.entry in
    let held = c.loop-first.invariant in
    let first = opened entry _ _ _ c.in-Some.ensures c.pass.ensures in
    let next = opened entry _ _ _ c.in-Some-first.ensures refl in
    let before : atom_cmp (entry c.in-Some.first.now).0 (entry c.in-Some-first.next.now).0 ≡ Less = cc in
    let step = passes-less not _ _ _ _ _ _ first next held.rising held.unwanted_rising before in
    record { rising = rest_rises _ _ _ first held.rising; unwanted_rising = held.unwanted_rising; same_answer = step ∙ held.same_answer }

pub loop-first-preserved-in-Greater : goal.loop-first-preserved-in-Greater
loop-first-preserved-in-Greater g c =
    let entry = g.E.Entry.entry in
    let held = c.loop-first.invariant in
    let first = opened entry _ _ _ c.in-Some.ensures refl in
    let next = opened entry _ _ _ c.in-Some-first.ensures c.pass-in-Greater.ensures in
    let after : atom_cmp (entry c.in-Some.first.now).0 (entry c.in-Some-first.next.now).0 ≡ Greater = cc in
    let step = passes-greater not _ _ _ _ _ _ first next held.rising held.unwanted_rising after in
    record { rising = held.rising; unwanted_rising = rest_rises _ _ _ next held.unwanted_rising; same_answer = sym step ∙ held.same_answer }

pub returns-in-Equal : goal.returns-in-Equal
returns-in-Equal g c =
    let entry = g.E.Entry.entry in
    let held = c.loop-first.invariant in
    let first = opened entry _ _ _ c.in-Some.ensures refl in
    let next = opened entry _ _ _ c.in-Some-first.ensures refl in
    let tied : atom_cmp (entry c.in-Some.first.now).0 (entry c.in-Some-first.next.now).0 ≡ Equal = cc in
    let step = passes-tied not _ _ _ _ _ _ first next held.rising held.unwanted_rising true tied (sym c.is_alike.ensures ∙ c.if-is_alike.true) in
    sym (sym held.same_answer ∙ step)

pub loop-first-preserved : goal.loop-first-preserved
loop-first-preserved g c =
    let entry = g.E.Entry.entry in
    let held = c.loop-first.invariant in
    let first = opened entry _ _ _ c.in-Some.ensures c.pass-in-Equal-2.ensures in
    let next = opened entry _ _ _ c.in-Some-first.ensures c.pass-in-Equal-2-2.ensures in
    let tied : atom_cmp (entry c.in-Some.first.now).0 (entry c.in-Some-first.next.now).0 ≡ Equal = cc in
    let step = passes-tied not _ _ _ _ _ _ first next held.rising held.unwanted_rising false tied (sym c.is_alike.ensures ∙ c.if-is_alike.false) in
    record { rising = rest_rises _ _ _ first held.rising; unwanted_rising = rest_rises _ _ _ next held.unwanted_rising; same_answer = sym step ∙ held.same_answer }

pub returns : goal.returns
returns g c =
    let entry = g.E.Entry.entry in
    let held = c.loop-first.invariant in
    let unwanted = map entry c.loop-first.unwanted_left in
    let none : c.loop-first.entries_left ≡ [] = search rules in
    sym (sym held.same_answer ∙ ap (λ xs. passes not (map entry xs) unwanted) none ∙ passes-nothing unwanted)
