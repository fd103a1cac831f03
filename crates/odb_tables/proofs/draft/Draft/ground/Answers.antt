use Rattle.std.proofs.Common.{rules, ◌≡◌, ◌<◌, ◌≤◌, length, sym, ap, ◌∙◌, arith}
use Rattle.std.proofs.lemmas.Option.{slice_get_past}
use Rattle.odb_tables.specs.Database.{table_at}
use Rattle.odb_tables.specs.Draft.{Draft}
use Rattle.odb_tables.specs.Represented.Draft.{grounds}
use Rattle.odb_tables.proofs.Grounds.{get-table, length-grounds}
use Rattle.odb_tables.proofs.draft.Draft.ground.Goals as goal

pub at-requires : goal.at-requires
at-requires c =
    let low : c.args.table < length c.args.self.now.old = search rules in
    omega (arith, low, ap (λ (d : Draft). length d.old) c.self.view_is, length-grounds c.self.inside.base.now c.self.inside.under.now)

pub returns-then-place-len : goal.returns-then-place-len
returns-then-place-len c =
    let past : length c.args.self.now.old ≤ c.args.table = search rules in
    sym (slice_get_past c.args.self.now.old c.args.table past)

pub returns : goal.returns
returns c =
    let k = c.args.table in
    let low : k < length c.args.self.now.old = search rules in
    let at : c.at.result ≡ table_at (grounds c.self.inside.base.now c.self.inside.under.now) k = search rules in
    get-table c.args.self.now.old k c.at.result low (at ∙ ap (λ (d : Draft). table_at d.old k) c.self.view_is)
