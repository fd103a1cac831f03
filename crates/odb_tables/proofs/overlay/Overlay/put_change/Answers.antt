use Rattle.std.proofs.Common.{rules, ◌≡◌, ◌<◌, ◌≤◌, ◌+◌, List, length, drop, get_or, sym, ap, ◌∙◌}
use Rattle.std.proofs.lemmas.List.{drop_all}
use Rattle.odb_atoms.specs.FinMap as finite
use Rattle.odb_tables.specs.Change.{changed_by}
use Rattle.odb_tables.specs.Represented.Draft.{overlaid}
use Rattle.odb_tables.specs.Represented.Overlay.{Touched}
use Rattle.odb_tables.proofs.Installs.{Entry}
use Rattle.odb_tables.proofs.PutChanges.{touched-is, touched-step, touched_by}
use Rattle.odb_tables.proofs.overlay.Overlay.put_change.Goals as goal

pub loop-row-preserved : goal.loop-row-preserved
loop-row-preserved c =
    let es : List Entry = c.rows-row-items.result.now in
    let o : Touched = c.loop-row.self in
    let i = c.loop-row.row-index in
    let e : Entry = c.row-item.result in
    let low : i < length es = search rules in
    let at : e ≡ get_or es i e = search rules in
    let new : c.put_row.new.self ≡ finite.insert o e.0 e.1.1 = search rules in
    ap (λ x. touched_by x (drop (i + 1) es)) new ∙ touched-step o es i e low at ∙ c.loop-row.invariant

pub returns : goal.returns
returns c t =
    let es : List Entry = c.rows-row-items.result.now in
    let first : Touched = c.args.self.now in
    let past : length es ≤ c.loop-row.row-index = search rules in
    let all : c.loop-row.self ≡ touched_by first es = ap (touched_by c.loop-row.self) (sym (drop_all c.loop-row.row-index es past)) ∙ c.loop-row.invariant in
    ap (overlaid t) all ∙ touched-is t first es c.rows-row-items.ensures.distinct ∙ ap (changed_by (overlaid t first)) c.rows-row-items.ensures.changes
