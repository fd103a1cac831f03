use Rattle.std.proofs.Common.{List, sym, ap, subst, ◌∙◌}
use Rattle.std.specs.List.Sorted.{IsSorted}
use Rattle.odb_atoms.specs.declared.atom.Atom as code
use Rattle.odb_atoms.specs.Represented.Atom.{atom_of}
use Rattle.odb_cond.specs.Represented.Keyed.{is_among}
use Rattle.odb_cond.proofs.Searches.{among_at, atoms_cmp, not_among}
use Rattle.odb_cond.proofs.ascending.Ascending.has.Goals as goal

pub returns-in-Ok : goal.returns-in-Ok
returns-in-Ok c =
    let ks : List (code.Atom) = c.deref.result.now in
    let x = c.args.atom.now in
    among_at ks c.in-Ok.field-0 x x c.in-Ok.ensures.bound (c.in-Ok.ensures.position x) ∙ ap (λ l. is_among l (atom_of x)) (c.deref.ensures.value ∙ c.self.view_is)

pub returns-in-Err : goal.returns-in-Err
returns-in-Err c =
    let ks : List (code.Atom) = c.deref.result.now in
    let x = c.args.atom.now in
    not_among ks c.in-Err.field-0 x (subst (IsSorted atoms_cmp) (sym c.deref.ensures.value) c.self.invariant) c.in-Err.ensures.position ∙ ap (λ l. is_among l (atom_of x)) (c.deref.ensures.value ∙ c.self.view_is)
