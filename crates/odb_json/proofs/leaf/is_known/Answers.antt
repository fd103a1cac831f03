use Rattle.std.proofs.Common.{◌∙◌, sym}
use Rattle.odb_atoms.proofs.Lists.{any-map}
use Rattle.odb_atoms.specs.Text.{same_text}
use Rattle.odb_json.proofs.leaf.is_known.Goals as goal

pub returns : goal.returns
returns c = c.is_among.ensures ∙ sym (any-map (same_text c.args.name.now) _ c.args.known.now)
