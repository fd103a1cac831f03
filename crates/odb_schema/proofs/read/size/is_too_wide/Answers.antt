use Rattle.std.proofs.Common.{◌∙◌, ap, length, nat_lt, sym}
use Rattle.odb_schema.proofs.Eachs.{members_length}
use Rattle.odb_schema.proofs.read.size.is_too_wide.Goals as goal

pub returns-in-Some : goal.returns-in-Some
returns-in-Some c = ap (nat_lt 256) (c.len.ensures.len ∙ sym (members_length c.in-Some.columns.now.entries) ∙ ap length c.in-Some.ensures)
