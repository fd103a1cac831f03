use Rattle.std.proofs.Common.{rules, ◌≡◌, take, sym, ap, ◌∙◌}
use Rattle.std.proofs.lemmas.Result.{IfOk-weaker}
use Rattle.odb_recent.specs.Represented.Merged.{merged}
use Rattle.odb_recent.specs.Undo.{undone_by}
use Rattle.odb_recent.proofs.Merging.{ago-merged}
use Rattle.odb_tables.specs.Change.{change}
use Rattle.odb_tables.specs.Database.{Table}
use Rattle.odb_recent.proofs.recent.Recent.since.Goals as goal

pub returns : goal.returns
returns c =
    let t : Table = c.args.now.now in
    let us = take c.args.ago c.args.self.now.undos in
    let is : c.in_ok-merged.field-0 ≡ merged c.args.table us = search rules in
    let then_is : undone_by t c.in_ok-merged.field-0 ≡ undone_by t (merged c.args.table us) = ap (undone_by t) is in
    IfOk-weaker c.change_to-2.result _ _
    (λ made leads. leads ∙ ap (λ (x : Table). change x t) (then_is ∙ sym (ago-merged c.args.table us t)))
    c.change_to-2.ensures
