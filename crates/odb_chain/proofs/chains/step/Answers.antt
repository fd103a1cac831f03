use Rattle.std.proofs.Common.{rules, ◌≡◌, ◌-◌, ◌^◌, ◌<◌, ◌≤◌, arith, Bool, List, length, slice_index_or, true, false, subst, sym, ◌∙◌}
use Rattle.std.proofs.Math.ListN.{length-set}
use Rattle.std.proofs.lemmas.Option.{unwrap_or-slice_get}
use Rattle.odb_chain.specs.Represented.Chain.{Chain, IsStepped, chain_at, is_roomy, moved_at}
use Rattle.odb_chain.proofs.Absorbed.{rest_more, stepped_more, stepped_past}
use Rattle.odb_chain.proofs.Shown.{chain_is}
use Rattle.odb_chain.proofs.chains.step.Goals as goal

pub step_if-requires : goal.step_if-requires
step_if-requires c = λ moved.
    let cs : List Chain = c.loop-place.chains.items in
    let k = c.loop-place.place in
    let ms : List Bool = c.args.moved.now in
    let old : List Chain = c.args.chains.now.items in
    let x : Chain = c.index_mut.result.now in
    let long : length cs ≡ length old = c.loop-place.invariant.long in
    let below : k < length ms = search rules in
    let low : k < length cs = subst (λ n. k < n) (c.requires.as_many ∙ sym long) below in
    let x_is : x ≡ chain_at cs k = chain_is cs k x low (search rules) in
    let same : chain_at cs k ≡ chain_at old k = c.loop-place.invariant.rest k (omega arith) in
    let flag : slice_index_or ms k false ≡ moved_at ms k = sym (unwrap_or-slice_get ms k false) in
    subst (λ (y : Chain). (is_roomy y.fresh y.room ≡ true) × (y.version < 2 ^ 64 - 1)) (sym (x_is ∙ same)) (c.requires.ready k (sym flag ∙ moved))

pub loop-place-preserved : goal.loop-place-preserved
loop-place-preserved c =
    let cs : List Chain = c.loop-place.chains.items in
    let k = c.loop-place.place in
    let ms : List Bool = c.args.moved.now in
    let old : List Chain = c.args.chains.now.items in
    let x : Chain = c.index_mut.result.now in
    let long : length cs ≡ length old = c.loop-place.invariant.long in
    let below : k < length ms = search rules in
    let low : k < length cs = subst (λ n. k < n) (c.requires.as_many ∙ sym long) below in
    let x_is : x ≡ chain_at cs k = chain_is cs k x low (search rules) in
    let same : chain_at cs k ≡ chain_at old k = c.loop-place.invariant.rest k (omega arith) in
    let flag : slice_index_or ms k false ≡ moved_at ms k = sym (unwrap_or-slice_get ms k false) in
    let new : Chain = c.step_if.new.chain in
    let stepped : IsStepped (moved_at ms k) (chain_at cs k) new = subst (λ b. IsStepped b (chain_at cs k) new) flag (subst (λ (y : Chain). IsStepped (slice_index_or ms k false) y new) x_is c.step_if.ensures) in
    record {
      long = length-set cs k new ∙ long;
      done = stepped_more ms old cs k new low stepped same c.loop-place.invariant.done;
      rest = rest_more old cs k new low c.loop-place.invariant.rest;
    }

pub returns-clause-stepped : goal.returns-clause-stepped
returns-clause-stepped c =
    let past : length c.args.moved.now ≤ c.loop-place.place = search rules in
    stepped_past c.args.moved.now c.args.chains.now.items c.loop-place.chains.items c.loop-place.place past c.loop-place.invariant.done c.loop-place.invariant.rest
