use Rattle.std.proofs.Common.{◌≡◌, ◌∙◌, ap, arith, false, length, nat_lt, sym, true}
use Rattle.std.proofs.lemmas.Bool.Decides.{nat_tests}
use Rattle.serde_json.specs.View.{view}
use Rattle.odb_schema.specs.SchemaText.{members_at}
use Rattle.odb_schema.specs.Represented.Parts.{has_too_wide}
use Rattle.odb_schema.proofs.Eachs.{members_length, or_first, or_second}
use Rattle.odb_schema.proofs.read.size.is_too_large.Goals as goal
use Rattle.std.specs.Prelude.{codes}

pub returns-then-len-gt-MAX_TABLES : goal.returns-then-len-gt-MAX_TABLES
returns-then-len-gt-MAX_TABLES c =
    let ms = members_at (codes "tables") (view c.args.schema.now) in
    let same : nat_lt 256 c.len.result ≡ nat_lt 256 (length ms) = ap (nat_lt 256) (c.len.ensures.len ∙ sym (members_length c.in-Some.tables.now.entries) ∙ ap length c.in-Some.ensures) in
    let large : nat_lt 256 c.len.result ≡ true = grind (arith, nat_tests) in
    same ∙ or_first (nat_lt 256 (length ms)) (has_too_wide ms) (sym same ∙ large)

pub returns-else-len-gt-MAX_TABLES : goal.returns-else-len-gt-MAX_TABLES
returns-else-len-gt-MAX_TABLES c =
    let ms = members_at (codes "tables") (view c.args.schema.now) in
    let same : nat_lt 256 c.len.result ≡ nat_lt 256 (length ms) = ap (nat_lt 256) (c.len.ensures.len ∙ sym (members_length c.in-Some.tables.now.entries) ∙ ap length c.in-Some.ensures) in
    let small : nat_lt 256 c.len.result ≡ false = grind (arith, nat_tests) in
    c.has_too_wide.ensures ∙ ap has_too_wide c.in-Some.ensures ∙ or_second (nat_lt 256 (length ms)) (has_too_wide ms) (sym same ∙ small)
