use Rattle.std.proofs.Common.{rules, ◌≡◌, ◌<◌, ◌++◌, ◌∷◌, [], List, length, length-append, length-drop, get_or, drop, sym, ap, subst, ◌∙◌, arith}
use Rattle.std.proofs.lemmas.List.{append-nil, nil_from_length}
use Rattle.odb_atoms.specs.Represented.Atom.{uuid_of}
use Rattle.odb_tables.specs.Change.{Changes, all_changed_by, change, change_between}
use Rattle.odb_tables.specs.Installing.{IsChangeOf}
use Rattle.odb_tables.proofs.Changes.{change-of, leads-to}
use Rattle.odb_tables.specs.Database.{Db, Table, table_at}
use Rattle.odb_tables.specs.Draft.{Draft}
use Rattle.odb_tables.specs.Represented.Draft.{grounds, overlaid}
use Rattle.odb_tables.specs.Represented.Overlay.{Touched}
use Rattle.odb_tables.specs.Stamped.{stamped, stamped_table}
use Rattle.odb_tables.proofs.Grounds.{length-grounds, table-at}
use Rattle.odb_tables.proofs.Stamps.{committed, committed-is, length-stamped, one-committed}
use Rattle.odb_tables.proofs.draft.Draft.commit.Goals as goal

pub at-ground-requires : goal.at-ground-requires
at-ground-requires c =
    let step : c.loop-overlay.overlay-iterator.rest.items ≡ c.in-Some.overlay ∷ c.next.new.self.rest.items = search rules in
    let shorter = ap length step in
    let count : c.len-in-loop-overlay.result ≡ length c.loop-overlay.tables.items = search rules in
    omega (arith, shorter, count, c.loop-overlay.invariant.long, length-grounds c.self.inside.base.now c.self.inside.under.now)

pub loop-overlay-preserved : goal.loop-overlay-preserved
loop-overlay-preserved c =
    let v = uuid_of c.args.version in
    let db : Db = grounds c.self.inside.base.now c.self.inside.under.now in
    let done : List Changes = c.loop-overlay.tables.items in
    let t : Table = c.at-ground.result in
    let o : Touched = c.in-Some.overlay in
    let made : Changes = c.in_ok-commit.field-0 in
    let left : List Touched = c.next.new.self.rest.items in
    let step : c.loop-overlay.overlay-iterator.rest.items ≡ o ∷ left = search rules in
    let grown : c.push.new.self.items ≡ done ++ made ∷ [] = search rules in
    let at : t ≡ table_at db (length done) = search rules in
    let is : made ≡ change t (stamped_table v (t, overlaid t o)) = search rules in
    let shorter = ap length step in
    let longer = ap length grown in
    let inside : length done < length db = omega (arith, shorter, c.loop-overlay.invariant.long) in
    let table : t ≡ get_or db (length done) t = table-at db (length done) t inside at in
    record {
      long = omega (arith, shorter, longer, length-append done (made ∷ []), c.loop-overlay.invariant.long);
      made = (λ i. grown i ++ committed v (drop (length (grown i)) db) left) ∙ one-committed v db left done t o made inside table is ∙ ap (λ os. done ++ committed v (drop (length done) db) os) (sym step) ∙ c.loop-overlay.invariant.made;
    }

pub returns-clause-changes : goal.returns-clause-changes
returns-clause-changes c =
    let v = uuid_of c.args.version in
    let db : Db = grounds c.self.inside.base.now c.self.inside.under.now in
    let done : List Changes = c.loop-overlay.tables.items in
    let rest : List Touched = c.loop-overlay.overlay-iterator.rest.items in
    let start : c.into_iter-overlay-iterator.result.rest.items ≡ c.self.inside.overlays.items = search rules in
    let long : length rest ≡ c.loop-overlay.overlay-iterator.rest.len = search rules in
    let none : length rest ≡ 0 = long ∙ c.in-None.ensures.steps.0 in
    let all : drop (length done) db ≡ [] = nil_from_length (drop (length done) db) (omega (arith, length-drop (length done) db, none, c.loop-overlay.invariant.long)) in
    c.new.ensures ∙ sym (append-nil done) ∙ ap (λ ts. done ++ committed v ts rest) (sym all) ∙ c.loop-overlay.invariant.made ∙ ap (committed v db) start ∙ committed-is v db c.self.inside.overlays.items ∙ ap (λ (d : Draft). change_between d.old (stamped v d.old d.now)) c.self.view_is

pub returns-clause-change_of : goal.returns-clause-change_of
returns-clause-change_of c =
    let v = uuid_of c.args.version in
    let db : Db = grounds c.self.inside.base.now c.self.inside.under.now in
    let os : List Touched = c.self.inside.overlays.items in
    let new : Db = stamped v c.args.self.old c.args.self.now in
    let long : length new ≡ length c.args.self.old = ap (λ (d : Draft). length (stamped v d.old d.now)) (sym c.self.view_is) ∙ length-stamped v db os c.self.invariant.0 ∙ ap (λ (d : Draft). length d.old) c.self.view_is in
    subst (IsChangeOf c.args.self.old) (sym (returns-clause-changes c)) (change-of c.args.self.old new long)

pub returns-clause-leads_to : goal.returns-clause-leads_to
returns-clause-leads_to c =
    let v = uuid_of c.args.version in
    let db : Db = grounds c.self.inside.base.now c.self.inside.under.now in
    let os : List Touched = c.self.inside.overlays.items in
    let new : Db = stamped v c.args.self.old c.args.self.now in
    let long : length new ≡ length c.args.self.old = ap (λ (d : Draft). length (stamped v d.old d.now)) (sym c.self.view_is) ∙ length-stamped v db os c.self.invariant.0 ∙ ap (λ (d : Draft). length d.old) c.self.view_is in
    ap (all_changed_by c.args.self.old) (returns-clause-changes c) ∙ leads-to c.args.self.old new long
