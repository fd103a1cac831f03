use Rattle.std.proofs.Common.{ap, sym, ◌∙◌}
use Rattle.std.proofs.lemmas.List.{nil_from_length}
use Rattle.std.specs.Prelude.{map}
use Rattle.odb_atoms.specs.FinMap as finite
use Rattle.odb_tables.specs.Represented.Keyed.{shown}
use Rattle.odb_tables.specs.Represented.Overlay.{row_of}
use Rattle.odb_tables.proofs.overlay.Overlay.is_empty.Goals as goal

pub returns : goal.returns
returns c empty = sym c.self.view_is ∙ ap (λ es. finite.from_entries (map (shown row_of) es)) (nil_from_length c.self.inside.rows.entries (c.is_empty.ensures.0 empty))
