use Rattle.std.proofs.Common.{rules, ◌≡◌, ◌<◌, ◌≤◌, List, length, get_or, sym, ◌∙◌, arith}
use Rattle.std.proofs.Math.ListN.{length-set}
use Rattle.odb_tables.specs.Change.{Changes, changed_by}
use Rattle.odb_tables.specs.Database.{Table}
use Rattle.odb_tables.specs.Represented.Draft.{all_overlaid, overlaid}
use Rattle.odb_tables.specs.Represented.Overlay.{Touched}
use Rattle.odb_tables.proofs.Overlays.{length-all_overlaid}
use Rattle.odb_tables.proofs.PutChanges.{from-end, from-next}
use Rattle.odb_tables.proofs.pending.put_changes.Goals as goal

pub loop-place-preserved : goal.loop-place-preserved
loop-place-preserved c =
    let os : List Touched = c.loop-place.overlays.items in
    let cs : List Changes = c.args.changes.now in
    let k = c.loop-place.place in
    let o : Touched = c.index_mut.result.now in
    let d : Changes = c.index-changes-place.result in
    let new : Touched = c.put_change.new.self in
    let h = c.loop-place.invariant in
    let low : k < length os = search rules in
    let below : k < length cs = search rules in
    let at : o ≡ get_or os k o = search rules in
    let change : d ≡ get_or cs k d = search rules in
    let made : (t : Table) → overlaid t new ≡ changed_by (overlaid t o) d = search rules in
    record {
      long = length-set os k new ∙ h.long;
      done = λ db e. from-next db os k o new d cs (h.long ∙ e) low below at change made ∙ h.done db e;
    }

pub returns-clause-ok : goal.returns-clause-ok
returns-clause-ok c db e =
    let os : List Touched = c.loop-place.overlays.items in
    let cs : List Changes = c.args.changes.now in
    let k = c.loop-place.place in
    let h = c.loop-place.invariant in
    let past : length cs ≤ k = search rules in
    let long : length (all_overlaid db os) ≡ length db = length-all_overlaid db os (h.long ∙ e) in
    sym (from-end k (all_overlaid db os) cs (omega (arith, long, past, e, c.requires)) past) ∙ h.done db e
