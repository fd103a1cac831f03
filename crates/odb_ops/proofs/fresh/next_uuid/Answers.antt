use Rattle.std.proofs.Common.{rules, ◌≡◌, None, slice_get, unwrap_or, option_map, sym, ap, ◌∙◌}
use Rattle.std.proofs.lemmas.Option.{slice_get-map}
use Rattle.odb_atoms.specs.Represented.Atom.{uuid_of}
use Rattle.odb_atoms.specs.Uuid.{zero_uuid}
use Rattle.odb_atoms.proofs.Represented.Atoms.{nil_uuid}
use Rattle.odb_ops.proofs.fresh.next_uuid.Goals as goal

pub returns-in-None : goal.returns-in-None
returns-in-None c =
    let none : slice_get c.args.fresh.now 0 ≡ None = search rules in
    ap uuid_of c.nil.ensures ∙ nil_uuid ∙ sym (ap (λ o. unwrap_or o zero_uuid) (slice_get-map uuid_of c.args.fresh.now 0 ∙ ap (option_map uuid_of) none))
