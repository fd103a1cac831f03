use mathlib.Core.Path.{sym, ap, ◌∙◌}
use Rattle.std.specs.Cmp.{unsigned_ties}
use Rattle.std.specs.Cmp.Lexicographic.{pointwise, texts_ties}
use Rattle.std.specs.Ordering.{is_eq}
use Rattle.std.specs.Arc.{arc_str_bytes}
use Rattle.std.specs.Prelude.{nat_eq, string_bytes}
use Rattle.odb_atoms.specs.Atom.{same_atom}
use Rattle.odb_atoms.specs.Represented.Atom.{atom_of}
use Rattle.odb_atoms.proofs.Represented.Atoms.{uuid_cmp-uuid_of}
use Rattle.odb_atoms.proofs.atom.AtomPartialEq.eq.Goals as goal

pub returns-in-Uuid-Uuid : goal.returns-in-Uuid-Uuid
returns-in-Uuid-Uuid c =
    let here = c.in-Uuid-Uuid in
    unsigned_ties c.number_of.result c.number_of-in-Uuid-Uuid.result
    ∙ ap is_eq (uuid_cmp-uuid_of here.x here.y _ _ c.number_of.ensures c.number_of-in-Uuid-Uuid.ensures c.number_of.type_inv c.number_of-in-Uuid-Uuid.type_inv)
    ∙ (λ i. same_atom (atom_of (sym here.is-0 i)) (atom_of (sym here.is-1 i)))

pub returns-in-Text-Text : goal.returns-in-Text-Text
returns-in-Text-Text c =
    let here = c.in-Text-Text in
    c.eq.ensures
    ∙ (λ i. pointwise nat_eq (c.as_str.ensures.value i) (c.as_str-in-Text-Text.ensures.value i))
    ∙ texts_ties (string_bytes here.x) (string_bytes here.y)
    ∙ (λ i. same_atom (atom_of (sym here.is-0 i)) (atom_of (sym here.is-1 i)))

pub returns-in-SharedText-SharedText : goal.returns-in-SharedText-SharedText
returns-in-SharedText-SharedText c =
    let here = c.in-SharedText-SharedText in
    c.eq-in-SharedText-SharedText.ensures
    ∙ (λ i. pointwise nat_eq (c.as_str-in-SharedText-SharedText.ensures.value i) (c.as_str-in-SharedText-SharedText-2.ensures.value i))
    ∙ texts_ties (arc_str_bytes here.x) (arc_str_bytes here.y)
    ∙ (λ i. same_atom (atom_of (sym here.is-0 i)) (atom_of (sym here.is-1 i)))
