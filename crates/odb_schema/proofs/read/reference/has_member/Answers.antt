use mathlib.Core.Path.{sym, ap, ◌∙◌}
use Rattle.std.specs.Prelude.{is_some}
use Rattle.odb_schema.proofs.Members.{is_some-get_member, is_some-option_map}
use Rattle.odb_schema.proofs.read.reference.has_member.Goals as goal

pub returns : goal.returns
returns c = c.is_some.ensures ∙ sym (is_some-option_map _ c.member.result) ∙ ap is_some c.member.ensures ∙ is_some-get_member c.args.name.now _
