use Rattle.std.proofs.Common.{rules, ◌≡◌, ◌<◌, ◌≤◌, List, [], length, map, slice_get, slice_index_or, Some, None, IfOk, IfSome, sym, ap, subst, ◌∙◌, arith}
use Rattle.std.proofs.lemmas.Option.{IfSome_then}
use Rattle.odb_atoms.specs.FinMap as finite
use Rattle.odb_atoms.specs.Represented.Atom.{uuid_of}
use Rattle.odb_tables.specs.Database.{Db, Table, table_at}
use Rattle.odb_tables.specs.Draft.{Draft}
use Rattle.odb_tables.specs.Represented.Draft.{ground, grounds, overlaid}
use Rattle.odb_tables.specs.Represented.Found.{Lists, passing}
use Rattle.odb_tables.specs.Represented.RowIndex.{Suffices}
use Rattle.odb_tables.specs.Represented.Overlay.{Touched}
use Rattle.odb_tables.proofs.Found.{none-passes}
use Rattle.odb_tables.proofs.Grounds.{at-grounds, length-grounds}
use Rattle.odb_tables.proofs.Overlays.{at-all_overlaid, nothing-past, table-is, touched-is}
use Rattle.odb_tables.proofs.draft.Draft.find.Goals as goal

pub returns-in_default : goal.returns-in_default
returns-in_default g c =
    let db : Db = grounds c.self.inside.base.now c.self.inside.under.now in
    let os : List Touched = c.self.inside.overlays.items in
    let k = c.args.table in
    let long : length os ≡ length db = c.self.invariant.0 in
    let past : length os ≤ k = search rules in
    let nothing : table_at c.args.self.now.now k ≡ finite.empty = ap (λ (d : Draft). table_at d.now k) (sym c.self.view_is) ∙ nothing-past db os k long (omega (arith, long, past)) in
    let p = g.T.Test.passes c.args.test.now in
    let none : Lists [] (passing p (table_at c.args.self.now.now k)) = subst (λ (t : Table). Lists [] (passing p t)) (sym nothing) (none-passes p) in
    subst (λ us. Lists (map uuid_of us) (passing p (table_at c.args.self.now.now k))) (sym c.new.ensures.items) none

pub bounds-tables-place : goal.bounds-tables-place
bounds-tables-place g c =
    let inside : c.args.table < length c.self.inside.overlays.items = search rules in
    let place : c.place-2.result ≡ c.args.table = search rules in
    omega (arith, inside, place, ap length c.tables.ensures, c.self.invariant.0, length-grounds c.self.inside.base.now c.self.inside.under.now)

pub returns-in-None : goal.returns-in-None
returns-in-None g c =
    let base : Db = c.self.inside.base.now in
    let under : List Touched = c.self.inside.under.now in
    let db : Db = grounds base under in
    let os : List Touched = c.self.inside.overlays.items in
    let k = c.args.table in
    let t : Table = c.index-tables-place.result in
    let o : Touched = c.in-Some.overlay.now in
    let p = g.T.Test.passes c.args.test.now in
    let inside : k < length os = search rules in
    let low : k < length base = omega (arith, inside, c.self.invariant.0, length-grounds base under) in
    let table : t ≡ slice_index_or base k t = search rules in
    let over : o ≡ slice_index_or os k o = search rules in
    let here : t ≡ table_at base k = table-is base k t low table in
    let among = c.in_ok-among.among in
    let suffices : IfSome among (λ keys. Suffices keys.items p t) = IfSome_then among c.in_ok-among.ensures (λ keys h. subst (λ (u : Table). Suffices keys.items p u) (sym here) h) in
    let none : None ≡ slice_get under k = search rules in
    let before : t ≡ table_at db k = here ∙ ap (ground (table_at base k)) none ∙ sym (at-grounds base under k low) in
    let whole : overlaid t o ≡ table_at c.args.self.now.now k = (λ i. overlaid (before i) (touched-is os k o inside over i)) ∙ sym (at-all_overlaid db os k c.self.invariant.0) ∙ ap (λ (d : Draft). table_at d.now k) c.self.view_is in
    subst (λ (u : Table). IfOk c.found_in-in-None.result (λ uuids. Lists (map uuid_of uuids.items) (passing p u))) whole (c.found_in-in-None.ensures suffices)

pub returns-in_ok-found-in-Some-overlay_at : goal.returns-in_ok-found-in-Some-overlay_at
returns-in_ok-found-in-Some-overlay_at g c =
    let base : Db = c.self.inside.base.now in
    let under : List Touched = c.self.inside.under.now in
    let db : Db = grounds base under in
    let os : List Touched = c.self.inside.overlays.items in
    let k = c.args.table in
    let t : Table = c.index-tables-place.result in
    let o : Touched = c.in-Some.overlay.now in
    let p = g.T.Test.passes c.args.test.now in
    let inside : k < length os = search rules in
    let low : k < length base = omega (arith, inside, c.self.invariant.0, length-grounds base under) in
    let table : t ≡ slice_index_or base k t = search rules in
    let over : o ≡ slice_index_or os k o = search rules in
    let here : t ≡ table_at base k = table-is base k t low table in
    let among = c.in_ok-among.among in
    let suffices : IfSome among (λ keys. Suffices keys.items p t) = IfSome_then among c.in_ok-among.ensures (λ keys h. subst (λ (u : Table). Suffices keys.items p u) (sym here) h) in
    let v : Touched = c.in-Some-overlay_at.under.now in
    let some : Some v ≡ slice_get under k = search rules in
    let before : overlaid t v ≡ table_at db k = (λ i. ground (here i) (some i)) ∙ sym (at-grounds base under k low) in
    let whole : overlaid (overlaid t v) o ≡ table_at c.args.self.now.now k = (λ i. overlaid (before i) (touched-is os k o inside over i)) ∙ sym (at-all_overlaid db os k c.self.invariant.0) ∙ ap (λ (d : Draft). table_at d.now k) c.self.view_is in
    subst (λ (u : Table). IfOk c.find_over.result (λ uuids. Lists (map uuid_of uuids.items) (passing p u))) whole (c.find_over.ensures (overlaid t v) ((c.in_ok-found-in-Some-overlay_at).ensures suffices))
