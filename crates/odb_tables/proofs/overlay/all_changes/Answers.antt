use Rattle.std.proofs.Common.{rules, ◌≡◌, ◌<◌, ◌≤◌, ◌+◌, ◌++◌, ◌∷◌, [], List, length, take, take_all, get_or, sym, ap, ◌∙◌, arith}
use Rattle.std.proofs.lemmas.List.{take_more}
use Rattle.odb_tables.specs.Change.{Changes, change, change_between}
use Rattle.odb_tables.specs.Database.{Db, Table, table_at}
use Rattle.odb_tables.specs.Represented.Draft.{all_overlaid, grounds, overlaid}
use Rattle.odb_tables.specs.Represented.Overlay.{Touched}
use Rattle.odb_tables.proofs.Drafts.{changes_at, length-changes}
use Rattle.odb_tables.proofs.Grounds.{length-grounds, table-at}
use Rattle.odb_tables.proofs.overlay.all_changes.Goals as goal

pub loop-place-preserved : goal.loop-place-preserved
loop-place-preserved c =
    let db : Db = grounds c.args.base.now c.args.under.now in
    let os : List Touched = c.args.overlays.now in
    let i = c.loop-place.place in
    let t : Table = c.at-ground.result in
    let o : Touched = c.index-overlays-place.result in
    let x : Changes = c.in_ok-changes.field-0 in
    let whole : List Changes = change_between db (all_overlaid db os) in
    let long : length os ≡ length db = c.requires ∙ sym (length-grounds c.args.base.now c.args.under.now) in
    let inside : i < length os = search rules in
    let is : t ≡ table_at db i = search rules in
    let table : t ≡ get_or db i t = table-at db i t (omega (arith, inside, long)) is in
    let over : o ≡ get_or os i o = search rules in
    let made : x ≡ change t (overlaid t o) = search rules in
    let grown : c.push.new.self.items ≡ c.loop-place.tables.items ++ x ∷ [] = search rules in
    let at : x ≡ get_or whole i x = made ∙ (λ j. change (table j) (overlaid (table j) (over j))) ∙ sym (changes_at db os i x t o long (omega (arith, inside, long))) in
    let more : take (i + 1) whole ≡ take i whole ++ x ∷ [] = take_more whole i x (let len = length-changes db os long in omega (arith, inside, long, len)) ∙ ap (λ y. take i whole ++ y ∷ []) (sym at) in
    grown ∙ ap (λ xs. xs ++ x ∷ []) c.loop-place.invariant ∙ sym more

pub returns : goal.returns
returns c =
    let db : Db = grounds c.args.base.now c.args.under.now in
    let os : List Touched = c.args.overlays.now in
    let whole : List Changes = change_between db (all_overlaid db os) in
    let long : length os ≡ length db = c.requires ∙ sym (length-grounds c.args.base.now c.args.under.now) in
    let past : length os ≤ c.loop-place.place = search rules in
    c.new.ensures ∙ c.loop-place.invariant ∙ take_all c.loop-place.place whole (let len = length-changes db os long in omega (arith, past, long, len))
