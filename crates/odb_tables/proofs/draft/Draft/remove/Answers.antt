use Rattle.std.proofs.Common.{rules, ◌≡◌, ◌<◌, ℕ, false, true, List, length, slice_get, slice_set, slice_index_or, Some, sym, ap, subst, ◌∙◌, None}
use Rattle.odb_atoms.specs.FinMap as finite
use Rattle.odb_atoms.specs.Represented.Atom.{uuid_of}
use Rattle.odb_tables.specs.Database.{Db, table_at}
use Rattle.odb_tables.specs.Draft.{Draft, without_row}
use Rattle.odb_tables.specs.Represented.ChangedColumns.{IsKept, may_change, may_change_at}
use Rattle.odb_tables.specs.Represented.Draft.{grounds}
use Rattle.odb_tables.specs.Represented.Overlay.{Touched}
use Rattle.odb_tables.specs.declared.changed_columns.ChangedColumns.{ChangedColumns}
use Rattle.odb_tables.proofs.Drafts.{drafted, removed-is}
use Rattle.odb_tables.proofs.KeptColumns.{draft-removed}
use Rattle.odb_tables.proofs.Overlays.{touched-is}
use Rattle.std.proofs.lemmas.List.{set-get_or}
use Rattle.odb_tables.proofs.draft.Draft.remove.Goals as goal

pub invariant_of-self : goal.invariant_of-self
invariant_of-self c =
    let db : Db = grounds c.self.inside.base.now c.self.inside.under.now in
    let os : List Touched = c.self.inside.overlays.items in
    let cs : List ChangedColumns = c.self.inside.changed.items in
    let o : Touched = c.index_mut.result.now in
    let k = c.args.table in
    let u = uuid_of c.args.uuid in
    let inside : k < length os = search rules in
    let at : o ≡ slice_index_or os k o = search rules in
    let place : c.place.result ≡ k = search rules in
    let kept : c.put.new.self ≡ o = search rules in
    subst (λ ts. IsKept db ts cs) (sym ((λ i. slice_set os (place i) (kept i)) ∙ ap (slice_set os k) at ∙ set-get_or os k o)) c.self.invariant

pub invariant_of-self-2 : goal.invariant_of-self-2
invariant_of-self-2 c =
    let db : Db = grounds c.self.inside.base.now c.self.inside.under.now in
    let os : List Touched = c.self.inside.overlays.items in
    let cs : List ChangedColumns = c.self.inside.changed.items in
    let o : Touched = c.index_mut.result.now in
    let k = c.args.table in
    let u = uuid_of c.args.uuid in
    let inside : k < length os = search rules in
    let at : o ≡ slice_index_or os k o = search rules in
    let place : c.place.result ≡ k = search rules in
    let made : c.put.new.self ≡ finite.insert o u None = search rules in
    subst (λ j. IsKept db (slice_set os j c.put.new.self) cs) (sym place) (draft-removed db os cs c.self.invariant k u o c.put.new.self (touched-is os k o inside at) inside made)

pub returns-clause-ok : goal.returns-clause-ok
returns-clause-ok c =
    let db : Db = grounds c.self.inside.base.now c.self.inside.under.now in
    let os : List Touched = c.self.inside.overlays.items in
    let cs : List ChangedColumns = c.self.inside.changed.items in
    let o : Touched = c.index_mut.result.now in
    let k = c.args.table in
    let u = uuid_of c.args.uuid in
    let inside : k < length os = search rules in
    let at : o ≡ slice_index_or os k o = search rules in
    let place : c.place.result ≡ k = search rules in
    let made : c.put.new.self ≡ finite.insert o u None = search rules in
    (λ i. drafted db (slice_set os (place i) c.put.new.self)) ∙ removed-is db os c.self.invariant.0 k u o c.put.new.self (touched-is os k o inside at) made ∙ ap (without_row k u) c.self.view_is
