use Rattle.std.proofs.Common.{rules, arith, ◌≡◌, filter, subst, sym, ap, ◌∙◌}
use Rattle.std.proofs.lemmas.Fn.{filter_same}
use Rattle.std.specs.List.{list_all}
use Rattle.odb_tables.specs.Represented.Keyed.{keyed}
use Rattle.odb_chain.specs.OldRows.{History, Rows}
use Rattle.odb_chain.specs.Represented.Log.{AllUpTo, AreInOrder, AreRecorded, is_needed}
use Rattle.odb_chain.proofs.Recorded.{all_filtered, order_filtered, rest_cleaned, up_to_filtered}
use Rattle.odb_chain.proofs.log.Log.clean.Goals as goal

pub invariant_of-self : goal.invariant_of-self
invariant_of-self c =
    let rows : Rows = keyed (λ (h : History). h) c.args.rows.now in
    let old = c.self.inside.recorded.items in
    let left : c.retain.new.self.items ≡ filter (is_needed rows) old = filter_same _ (is_needed rows) _ (λ x b f' k. search rules) _ _ c.retain.ensures.filtered in
    (subst AreInOrder (sym left) (order_filtered (is_needed rows) old c.self.invariant.0), subst (AllUpTo c.self.inside.latest) (sym left) (up_to_filtered (is_needed rows) c.self.inside.latest old c.self.invariant.1), omega arith)

pub returns-clause-recorded : goal.returns-clause-recorded
returns-clause-recorded c = λ h.
    let rows : Rows = keyed (λ (x : History). x) c.args.rows.now in
    let old = c.self.inside.recorded.items in
    let left : c.retain.new.self.items ≡ filter (is_needed rows) old = filter_same _ (is_needed rows) _ (λ x b f' k. search rules) _ _ c.retain.ensures.filtered in
    subst (AreRecorded rows) (sym left) (rest_cleaned rows old c.self.inside.done (subst (AreRecorded rows) (sym c.self.view_is) h))

pub returns-clause-needed : goal.returns-clause-needed
returns-clause-needed c =
    let rows : Rows = keyed (λ (x : History). x) c.args.rows.now in
    let old = c.self.inside.recorded.items in
    let left : c.retain.new.self.items ≡ filter (is_needed rows) old = filter_same _ (is_needed rows) _ (λ x b f' k. search rules) _ _ c.retain.ensures.filtered in
    ap (list_all (is_needed rows)) left ∙ all_filtered (is_needed rows) old
