use Rattle.std.proofs.Common.{rules, ◌≡◌, ◌<◌, ◌≤◌, List, length, get_or, true, cond, subst, ap, ◌∙◌}
use Rattle.std.proofs.lemmas.List.{take_all}
use Rattle.std.specs.BTreeSet.{Updates, contains}
use Rattle.std.specs.Ordering.{eq_by_cmp}
use Rattle.odb_atoms.specs.Uuid.{Uuid, uuid_cmp}
use Rattle.odb_chain.specs.Represented.Log.{Recorded, is_named}
use Rattle.odb_chain.proofs.Recorded.{one_more_key}
use Rattle.odb_chain.proofs.log.keys_of.Goals as goal

pub loop-entry-preserved : goal.loop-entry-preserved
loop-entry-preserved c =
    let ns : List Recorded = c.args.recorded.now in
    let i = c.loop-entry.entry-index in
    let n : Recorded = c.entry-item.result in
    let low : i < length ns = search rules in
    let at : n ≡ get_or ns i n = search rules in
    let key : c.entry.inside.key ≡ n.1 = search rules in
    let added : Updates uuid_cmp c.loop-entry.keys c.insert.new.self c.entry.inside.key true = search rules in
    one_more_key c.loop-entry.keys c.insert.new.self ns i n low at c.loop-entry.invariant (subst (λ k. (u : Uuid) → contains uuid_cmp c.insert.new.self u ≡ cond (eq_by_cmp uuid_cmp k u) true (contains uuid_cmp c.loop-entry.keys u)) key (λ u. added.0 u))

pub returns : goal.returns
returns c = λ u there.
    let ns : List Recorded = c.args.recorded.now in
    let i = c.loop-entry.entry-index in
    let past : length ns ≤ i = search rules in
    c.loop-entry.invariant u (ap (is_named u) (take_all i ns past) ∙ there)
