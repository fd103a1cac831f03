use Rattle.std.proofs.Common.{not, ap, ◌∙◌}
use Rattle.odb_atoms.specs.FinMap as finite
use Rattle.odb_tables.specs.Represented.Overlay.{row_of}
use Rattle.odb_tables.proofs.KeyedMaps.{contains-keyed, none-keyed}
use Rattle.odb_tables.proofs.overlay.Overlay.touches.Goals as goal

pub returns-then-not-is_empty : goal.returns-then-not-is_empty
returns-then-not-is_empty c =
    c.contains_key.ensures ∙ contains-keyed row_of c.self.inside.rows c.args.key ∙ ap (λ o. finite.contains_key o c.args.key) c.self.view_is

pub returns-else-not-is_empty : goal.returns-else-not-is_empty
returns-else-not-is_empty c =
    ap not c.if-not-is_empty.false ∙ none-keyed row_of c.self.inside.rows c.args.key (c.is_empty.ensures.0 c.if-not-is_empty.false) ∙ ap (λ o. finite.contains_key o c.args.key) c.self.view_is
