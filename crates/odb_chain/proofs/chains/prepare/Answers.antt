use Rattle.std.proofs.Common.{rules, ◌≡◌, ℕ, ◌<◌, ◌≤◌, List, length, slice_get, slice_set, Some, refl, subst, sym, ◌∙◌}
use Rattle.std.proofs.Math.ListN.{length-set}
use Rattle.std.proofs.lemmas.Option.{slice_get_read}
use Rattle.odb_tables.specs.Change.{Changes}
use Rattle.odb_tables.specs.Database.{Db, table_at}
use Rattle.odb_tables.specs.Installing.{IsChangeOf}
use Rattle.odb_chain.specs.Represented.Chain.{Chain, IsReadyFor, StandsAsBefore, chain_at, change_at}
use Rattle.odb_chain.proofs.Absorbed.{at_set, change_is, ready_more, ready_past, stands_on}
use Rattle.odb_chain.proofs.Shown.{chain_is}
use Rattle.odb_chain.proofs.chains.prepare.Goals as goal

pub returns-in_err-prepare-clause-stands : goal.returns-in_err-prepare-clause-stands
returns-in_err-prepare-clause-stands c = λ ts of.
    let cs : List Chain = c.loop-place.chains.items in
    let k = c.loop-place.place in
    let ds : List Changes = c.args.changes.now in
    let x : Chain = c.index_mut.result.now in
    let new : Chain = c.prepare.new.self in
    let long : length cs ≡ length c.args.chains.now.items = c.loop-place.invariant.long in
    let below : k < length ds = search rules in
    let low : k < length cs = subst (λ n. k < n) (c.requires.as_many ∙ sym long) below in
    let x_is : x ≡ chain_at cs k = chain_is cs k x low (search rules) in
    let named : slice_get ds k ≡ Some c.index-changes-place.result = slice_get_read ds (length ds) k c.index-changes-place.result refl below (search rules) in
    let stand : StandsAsBefore (table_at ts k) (chain_at cs k) new = subst (λ (y : Chain). StandsAsBefore (table_at ts k) y new) x_is (c.prepare.ensures.stands (table_at ts k) (of.1 k c.index-changes-place.result named)) in
    let stands : (t : ℕ) → StandsAsBefore (table_at ts t) (chain_at c.args.chains.now.items t) (chain_at (slice_set cs k new) t) =
    λ t. at_set (StandsAsBefore (table_at ts t) (chain_at c.args.chains.now.items t)) cs k t new low
    (λ e. subst (λ q. StandsAsBefore (table_at ts q) (chain_at c.args.chains.now.items q) new) (sym e) (stands_on (table_at ts k) (chain_at c.args.chains.now.items k) (chain_at cs k) new (c.loop-place.invariant.stands ts of k) stand))
    (λ ne. c.loop-place.invariant.stands ts of t) in
    stands

pub loop-place-preserved : goal.loop-place-preserved
loop-place-preserved c =
    let cs : List Chain = c.loop-place.chains.items in
    let k = c.loop-place.place in
    let ds : List Changes = c.args.changes.now in
    let x : Chain = c.index_mut.result.now in
    let new : Chain = c.prepare.new.self in
    let long : length cs ≡ length c.args.chains.now.items = c.loop-place.invariant.long in
    let below : k < length ds = search rules in
    let low : k < length cs = subst (λ n. k < n) (c.requires.as_many ∙ sym long) below in
    let x_is : x ≡ chain_at cs k = chain_is cs k x low (search rules) in
    let named : slice_get ds k ≡ Some c.index-changes-place.result = slice_get_read ds (length ds) k c.index-changes-place.result refl below (search rules) in
    let stands : (ts : Db) → IsChangeOf ts ds → (t : ℕ) → StandsAsBefore (table_at ts t) (chain_at c.args.chains.now.items t) (chain_at (slice_set cs k new) t) =
    λ ts of t.
    let stand : StandsAsBefore (table_at ts k) (chain_at cs k) new = subst (λ (y : Chain). StandsAsBefore (table_at ts k) y new) x_is (c.prepare.ensures.stands (table_at ts k) (of.1 k c.index-changes-place.result named)) in
    at_set (StandsAsBefore (table_at ts t) (chain_at c.args.chains.now.items t)) cs k t new low
    (λ e. subst (λ q. StandsAsBefore (table_at ts q) (chain_at c.args.chains.now.items q) new) (sym e) (stands_on (table_at ts k) (chain_at c.args.chains.now.items k) (chain_at cs k) new (c.loop-place.invariant.stands ts of k) stand))
    (λ ne. c.loop-place.invariant.stands ts of t) in
    let change : c.index-changes-place.result ≡ change_at ds k = change_is ds k c.index-changes-place.result below (search rules) in
    let made : IsReadyFor c.index-changes-place.result new = search rules in
    record {
      long = length-set cs k new ∙ long;
      stands = stands;
      ready = ready_more ds cs k new low (subst (λ (d : Changes). IsReadyFor d new) change made) c.loop-place.invariant.ready;
    }

pub returns-clause-ok : goal.returns-clause-ok
returns-clause-ok c =
    let past : length c.args.changes.now ≤ c.loop-place.place = search rules in
    ready_past c.args.changes.now c.loop-place.chains.items c.loop-place.place past c.loop-place.invariant.ready
