use Rattle.std.proofs.Common.{rules, arith, ◌≡◌, true, false, nat_lt, List, length, sym, ap, ◌∙◌}
use Rattle.std.proofs.lemmas.Bool.Decides.{nat_tests}
use Rattle.std.proofs.lemmas.Result.{on_ok_weaker}
use Rattle.std.specs.BTreeMap.{get}
use Rattle.std.specs.Ordering.{nat_cmp}
use Rattle.std.specs.Prelude.{◌&&◌, Some}
use Rattle.odb_atoms.specs.FinMap as finite
use Rattle.odb_interest.specs.Represented.Found.{RowChange, is_found}
use Rattle.odb_interest.specs.Represented.SessionsByKey.{finds_for}
use Rattle.odb_interest.specs.Represented.Key.{held}
use Rattle.odb_interest.specs.declared.watched.Watched.{Watched}
use Rattle.odb_tables.proofs.KeyedMaps.{len-from_entries}
use Rattle.odb_tables.specs.Change.{Changes}
use Rattle.odb_interest.proofs.Growing.{nothing, same_test}
use Rattle.odb_interest.proofs.Rows.{found-rows}
use Rattle.odb_interest.proofs.index.SessionsByKey.find_for.Goals as goal

pub returns-then-is_empty : goal.returns-then-is_empty
returns-then-is_empty c =
    let es : List RowChange = c.rows-rows.result.now in
    let d : Changes = c.args.change.now in
    let short : nat_lt 0 (length es) ≡ false = grind (arith, nat_tests) in
    let len : finite.len d ≡ length es = sym (ap (λ (x : Changes). finite.len x) c.rows-rows.ensures.changes) ∙ len-from_entries es c.rows-rows.ensures.distinct in
    let none : nat_lt 0 (finite.len d) ≡ false = ap (nat_lt 0) len ∙ short in
    nothing c.args.found.now (finds_for c.args.self.now c.args.place d) (λ s. ap (λ b. b && held (λ w. is_found w (finite.entries_of d) s) (get nat_cmp c.args.self.now.tables c.args.place)) none)

pub returns-in-Some : goal.returns-in-Some
returns-in-Some c =
    let es : List RowChange = c.rows-rows.result.now in
    let d : Changes = c.args.change.now in
    let w : Watched = c.in-Some.watched.now in
    let long : nat_lt 0 (length es) ≡ true = grind (arith, nat_tests) in
    let len : finite.len d ≡ length es = sym (ap (λ (x : Changes). finite.len x) c.rows-rows.ensures.changes) ∙ len-from_entries es c.rows-rows.ensures.distinct in
    let some : nat_lt 0 (finite.len d) ≡ true = ap (nat_lt 0) len ∙ long in
    let there : Some w ≡ get nat_cmp c.args.self.now.tables c.args.place = search rules in
    on_ok_weaker c.find.result
    (same_test _ _ _ _
    (λ s.
    found-rows w es d c.rows-rows.ensures.distinct c.rows-rows.ensures.changes s
    ∙ (λ i. sym some i && held (λ x. is_found x (finite.entries_of d) s) (there i))))
    c.find.ensures
