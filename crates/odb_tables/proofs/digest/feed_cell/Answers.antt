use Rattle.std.proofs.Common.{rules, ◌≡◌, slice_get, unwrap_or, None, sym, ap, ◌∙◌}
use Rattle.odb_tables.specs.Represented.Digest.{after_value}
use Rattle.odb_tables.proofs.Digests.{fed_nothing}
use Rattle.odb_tables.proofs.Twins.{nothing_in}
use Rattle.odb_tables.proofs.digest.feed_cell.Goals as goal

pub returns-in-None : goal.returns-in-None
returns-in-None c =
    let none : slice_get c.args.row.now.columns c.args.place ≡ None = search rules in
    sym (ap (λ o. after_value c.args.state.now (unwrap_or o nothing_in)) none ∙ fed_nothing c.args.state.now)
