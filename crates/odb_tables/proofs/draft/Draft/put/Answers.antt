use Rattle.std.proofs.Common.{rules, ◌≡◌, ◌<◌, ℕ, false, true, List, length, slice_get, slice_set, slice_index_or, Some, sym, ap, subst, ◌∙◌, is_some}
use Rattle.odb_atoms.specs.FinMap as finite
use Rattle.odb_atoms.specs.Represented.Atom.{uuid_of}
use Rattle.odb_atoms.specs.Row.{Row}
use Rattle.odb_tables.specs.Database.{Db, table_at}
use Rattle.odb_tables.specs.Draft.{Draft, with_row}
use Rattle.odb_tables.specs.Represented.ChangedColumns.{IsKept, may_change, may_change_at}
use Rattle.odb_tables.specs.Represented.Draft.{grounds}
use Rattle.odb_tables.specs.Represented.Overlay.{Touched}
use Rattle.odb_tables.specs.declared.changed_columns.ChangedColumns.{ChangedColumns}
use Rattle.odb_tables.proofs.Drafts.{drafted, put_is}
use Rattle.odb_tables.proofs.KeptColumns.{draft-put, failed, marks-at, was-there}
use Rattle.odb_tables.proofs.Overlays.{touched-is}
use Rattle.std.proofs.lemmas.List.{set-get_or}
use Rattle.odb_tables.proofs.draft.Draft.put.Goals as goal

pub invariant_of-self : goal.invariant_of-self
invariant_of-self c =
    let db : Db = grounds c.self.inside.base.now c.self.inside.under.now in
    let os : List Touched = c.self.inside.overlays.items in
    let cs : List ChangedColumns = c.self.inside.changed.items in
    let o : Touched = c.index_mut.result.now in
    let k = c.args.table in
    let u = uuid_of c.args.uuid in
    let inside : k < length os = search rules in
    let at : o ≡ slice_index_or os k o = search rules in
    let place : c.place.result ≡ k = search rules in
    let kept : c.put.new.self ≡ o = search rules in
    subst (λ ts. IsKept db ts cs) (sym ((λ i. slice_set os (place i) (kept i)) ∙ ap (slice_set os k) at ∙ set-get_or os k o)) c.self.invariant

pub returns-in_err-put-clause-err : goal.returns-in_err-put-clause-err
returns-in_err-put-clause-err c =
    let db : Db = grounds c.self.inside.base.now c.self.inside.under.now in
    let os : List Touched = c.self.inside.overlays.items in
    let cs : List ChangedColumns = c.self.inside.changed.items in
    let o : Touched = c.index_mut.result.now in
    let k = c.args.table in
    let u = uuid_of c.args.uuid in
    let inside : k < length os = search rules in
    let at : o ≡ slice_index_or os k o = search rules in
    let place : c.place.result ≡ k = search rules in
    let kept : c.put.new.self ≡ o = search rules in
    failed c.from_residual-in_err-put.result _ ((λ i. drafted db (slice_set os (place i) (kept i))) ∙ ap (drafted db) (ap (slice_set os k) at ∙ set-get_or os k o) ∙ c.self.view_is)

pub invariant_of-self-2 : goal.invariant_of-self-2
invariant_of-self-2 c =
    let db : Db = grounds c.self.inside.base.now c.self.inside.under.now in
    let os : List Touched = c.self.inside.overlays.items in
    let cs : List ChangedColumns = c.self.inside.changed.items in
    let o : Touched = c.index_mut.result.now in
    let k = c.args.table in
    let u = uuid_of c.args.uuid in
    let inside : k < length os = search rules in
    let at : o ≡ slice_index_or os k o = search rules in
    let place : c.place.result ≡ k = search rules in
    let row : Some c.in_ok-row.row.value ≡ Some c.args.row = search rules in
    let put : c.put.new.self ≡ finite.insert o u (Some c.in_ok-row.row.value) = search rules in
    let made : c.put.new.self ≡ finite.insert o u (Some c.args.row) = put ∙ ap (finite.insert o u) row in
    let place2 : c.place-2.result ≡ k = search rules in
    let m : ChangedColumns = c.index_mut-2.result.now in
    let grown : ChangedColumns = c.add_all_where.new.self in
    let in-marks : k < length cs = search rules in
    let marked : m ≡ slice_index_or cs k m = search rules in
    let within : (p : ℕ) → may_change grown p ≡ false → may_change_at cs k p ≡ false = λ p off. marks-at cs k p m in-marks marked ∙ c.add_all_where.ensures.within p off in
    let is : c.was_there-was_there.result ≡ is_some (finite.get (table_at db k) u) = c.was_there-was_there.ensures ∙ ap (λ (d : Draft). is_some (finite.get (table_at d.old k) u)) (sym c.self.view_is) in
    let same : (p : ℕ) (r : Row) → may_change grown p ≡ false → finite.get (table_at db k) u ≡ Some r → slice_get r.columns p ≡ slice_get c.args.row.columns p = was-there c.was_there-was_there.result (finite.get (table_at db k) u) grown is c.add_all_where.ensures.all c.args.row in
    subst (λ j. IsKept db (slice_set os j c.put.new.self) (slice_set cs c.place-2.result grown)) (sym place)
    (subst (λ j. IsKept db (slice_set os k c.put.new.self) (slice_set cs j grown)) (sym place2)
    (draft-put db os cs c.self.invariant k u o c.put.new.self (touched-is os k o inside at) inside c.args.row grown made within same))

pub returns-clause-ok : goal.returns-clause-ok
returns-clause-ok c =
    let db : Db = grounds c.self.inside.base.now c.self.inside.under.now in
    let os : List Touched = c.self.inside.overlays.items in
    let cs : List ChangedColumns = c.self.inside.changed.items in
    let o : Touched = c.index_mut.result.now in
    let k = c.args.table in
    let u = uuid_of c.args.uuid in
    let inside : k < length os = search rules in
    let at : o ≡ slice_index_or os k o = search rules in
    let place : c.place.result ≡ k = search rules in
    let row : Some c.in_ok-row.row.value ≡ Some c.args.row = search rules in
    let put : c.put.new.self ≡ finite.insert o u (Some c.in_ok-row.row.value) = search rules in
    let made : c.put.new.self ≡ finite.insert o u (Some c.args.row) = put ∙ ap (finite.insert o u) row in
    (λ i. drafted db (slice_set os (place i) c.put.new.self)) ∙ put_is db os c.self.invariant.0 k u o c.put.new.self (touched-is os k o inside at) c.args.row made ∙ ap (with_row k u c.args.row) c.self.view_is
