use mathlib.Core.Path.{sym, refl, ◌∙◌}
use Rattle.std.proofs.Common.{◌≡◌, Bool, true, false, Less, Equal, Greater}
use Rattle.odb_atoms.specs.Atom.{atom_cmp}
use Rattle.odb_atoms.proofs.Chunks.{opened}
use Rattle.odb_atoms.proofs.Merges.{passes-greater, passes-less, passes-tied, rest_rises}
use Rattle.odb_atoms.proofs.entry.includes_by_pass.Goals as goal

-- the answer that goes on
abbrev found : Bool → Bool
found b = b

pub returns-in_default-cmp : goal.returns-in_default-cmp
returns-in_default-cmp g c =
    let entry = g.E.Entry.entry in
    let held = c.loop-next.invariant in
    let first = opened entry _ _ _ c.in-Some-first.ensures refl in
    let next = opened entry _ _ _ c.in-Some.ensures refl in
    let tied : atom_cmp (entry c.in-Some-first.first.now).0 (entry c.in-Some.next.now).0 ≡ Equal = cc in
    let step = passes-tied found _ _ _ _ _ _ first next held.rising held.wanted_rising false tied (sym c.is_alike.ensures ∙ c.if-is_alike.false) in
    sym (sym held.same_answer ∙ step)

pub returns-in_default-cmp-2 : goal.returns-in_default-cmp-2
returns-in_default-cmp-2 g c =
    let entry = g.E.Entry.entry in
    let held = c.loop-next.invariant in
    let first = opened entry _ _ _ c.in-Some-first.ensures refl in
    let next = opened entry _ _ _ c.in-Some.ensures refl in
    let after : atom_cmp (entry c.in-Some-first.first.now).0 (entry c.in-Some.next.now).0 ≡ Greater = cc in
    let step = passes-greater found _ _ _ _ _ _ first next held.rising held.wanted_rising after in
    sym (sym held.same_answer ∙ step)

pub loop-next-preserved-in-Less-1 : goal.loop-next-preserved-in-Less-1
loop-next-preserved-in-Less-1 g c =
    let entry = g.E.Entry.entry in
    let held = c.loop-next.invariant in
    let first = opened entry _ _ _ c.in-Some-first.ensures c.pass.ensures in
    let next = opened entry _ _ _ c.in-Some.ensures refl in
    let before : atom_cmp (entry c.in-Some-first.first.now).0 (entry c.in-Some.next.now).0 ≡ Less = cc in
    let step = passes-less found _ _ _ _ _ _ first next held.rising held.wanted_rising before in
    record { rising = rest_rises _ _ _ first held.rising; wanted_rising = held.wanted_rising; same_answer = step ∙ held.same_answer }

pub loop-next-preserved : goal.loop-next-preserved
loop-next-preserved g c =
    let entry = g.E.Entry.entry in
    let held = c.loop-next.invariant in
    let first = opened entry _ _ _ c.in-Some-first.ensures c.pass-in-Equal.ensures in
    let next = opened entry _ _ _ c.in-Some.ensures c.pass-in-Equal-2.ensures in
    let tied : atom_cmp (entry c.in-Some-first.first.now).0 (entry c.in-Some.next.now).0 ≡ Equal = cc in
    let step = passes-tied found _ _ _ _ _ _ first next held.rising held.wanted_rising true tied (sym c.is_alike.ensures ∙ c.if-is_alike.true) in
    record { rising = rest_rises _ _ _ first held.rising; wanted_rising = rest_rises _ _ _ next held.wanted_rising; same_answer = sym step ∙ held.same_answer }
