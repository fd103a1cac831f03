use Rattle.std.proofs.Common.{rules, ◌≡◌, ◌<◌, ◌≤◌, List, length, get_or, option_copied, take, true, subst, sym, ap, ◌∙◌}
use Rattle.std.proofs.lemmas.List.{take_all}
use Rattle.std.specs.List.{list_any}
use Rattle.std.specs.Map.{keys_of}
use Rattle.odb_atoms.specs.FinMap as finite
use Rattle.odb_atoms.specs.Uuid.{uuid_cmp}
use Rattle.std.specs.Ordering.{eq_by_cmp}
use Rattle.odb_tables.specs.Database.{Table}
use Rattle.odb_tables.specs.Represented.Overlay.{row_of}
use Rattle.odb_chain.specs.OldRows.{Rows, is_reached}
use Rattle.odb_chain.specs.Represented.Chain.{IsOf}
use Rattle.odb_chain.proofs.Keeps.{any_more, any_of, goes_on, one_reached, row_before}
use Rattle.odb_tables.proofs.Leading.{Entry}
use Rattle.odb_chain.proofs.old_rows.OldRows.record_all.Goals as goal

pub returns-in_err-record-clause-rows : goal.returns-in_err-record-clause-rows
returns-in_err-record-clause-rows c = λ t of u.
    let es : List Entry = c.rows-row-items.result.now in
    let i = c.loop-row.row-index in
    let e : Entry = c.row-item.result in
    let low : i < length es = search rules in
    let at : e ≡ get_or es i e = search rules in
    let key : c.of.result ≡ e.0 = search rules in
    let old : row_of (option_copied c.share_old.result) ≡ e.1.0 = search rules in
    let was : finite.get t e.0 ≡ e.1.0 = row_before es c.args.change.now t i e c.rows-row-items.ensures.distinct c.rows-row-items.ensures.changes low at of in
    goes_on c.args.newest c.args.live.now (finite.get t u) (finite.get c.args.self.now.rows u) (finite.get c.loop-row.self.rows u) (finite.get c.record.new.self.rows u) (c.loop-row.invariant.rows t of u)
    (c.record.ensures.rows t (ap (finite.get t) key ∙ was ∙ sym old) u)

pub loop-row-preserved : goal.loop-row-preserved
loop-row-preserved c =
    let n = c.args.newest in
    let es : List Entry = c.rows-row-items.result.now in
    let i = c.loop-row.row-index in
    let e : Entry = c.row-item.result in
    let old : Rows = c.loop-row.self.rows in
    let new : Rows = c.record.new.self.rows in
    let low : i < length es = search rules in
    let at : e ≡ get_or es i e = search rules in
    let key : c.of.result ≡ e.0 = search rules in
    let here : is_reached n (finite.get new c.of.result) ≡ true = search rules in
    let before : row_of (option_copied c.share_old.result) ≡ e.1.0 = search rules in
    let was : (t : Table) → IsOf t c.args.change.now → finite.get t e.0 ≡ e.1.0 = λ t of. row_before es c.args.change.now t i e c.rows-row-items.ensures.distinct c.rows-row-items.ensures.changes low at of in
    record {
      rows = λ t of u.
          goes_on n c.args.live.now (finite.get t u) (finite.get c.args.self.now.rows u) (finite.get old u) (finite.get new u) (c.loop-row.invariant.rows t of u)
          (c.record.ensures.rows t (ap (finite.get t) key ∙ was t of ∙ sym before) u);
      reached = λ u listed. one_reached n old new e.0 (λ q. list_any (eq_by_cmp uuid_cmp q) (keys_of (take i es))) c.loop-row.invariant.reached (subst (λ k. is_reached n (finite.get new k) ≡ true) key here) c.record.ensures.reached u (sym (any_more es u i e low at) ∙ listed);
    }

pub returns-clause-ok : goal.returns-clause-ok
returns-clause-ok c = λ u there.
    let es : List Entry = c.rows-row-items.result.now in
    let i = c.loop-row.row-index in
    let past : length es ≤ i = search rules in
    c.loop-row.invariant.reached u (ap (λ (xs : List Entry). list_any (eq_by_cmp uuid_cmp u) (keys_of xs)) (take_all i es past) ∙ any_of es c.args.change.now u c.rows-row-items.ensures.changes there)
