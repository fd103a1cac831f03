use Rattle.std.proofs.Common.{rules, ◌≡◌, ◌+◌, ◌-◌, ◌<◌, ◌≤◌, ◌^◌, length, map, sum_by, arith, sym, ap, subst, ◌∙◌}
use Rattle.std.proofs.lemmas.List.{length-map}
use Rattle.std.proofs.lemmas.Map.Iter.{iter_end, iter_turn}
use Rattle.std.specs.List.{IsDistinct}
use Rattle.std.specs.Map.{keys_of}
use Rattle.std.specs.Map.Iter.{deref_pair}
use Rattle.std.specs.Ordering.{eq_by_cmp}
use Rattle.odb_atoms.specs.FinMap as finite
use Rattle.odb_atoms.specs.Uuid.{uuid_cmp}
use Rattle.odb_tables.specs.Represented.Counted.{gain, loss}
use Rattle.odb_tables.specs.Represented.Draft.{overlaid}
use Rattle.odb_tables.specs.Represented.Keyed.{shown}
use Rattle.odb_tables.specs.Represented.Overlay.{row_of}
use Rattle.odb_tables.proofs.Counts.{counted, gain_one, loss_one, sum_upto}
use Rattle.odb_tables.proofs.KeyedMaps.{keys-shown}
use Rattle.odb_tables.proofs.overlay.Overlay.count.Goals as goal

pub overflow_add-gained : goal.overflow_add-gained
overflow_add-gained c =
    let t = c.args.base.now in
    let es = c.self.inside.rows.entries in
    let seen = map (shown row_of) (map deref_pair c.loop-key.yielded) in
    let start : c.into_iter-key-iterator.result ≡ es = search rules in
    let turn = iter_turn deref_pair es c.loop-key.yielded c.into_iter-key-iterator.result c.loop-key.key-iterator c.next.new.self c.next.result start c.loop-key.yielded_by (c.in-Some.key, c.in-Some.now) c.in-Some.is c.next.ensures.steps in
    let small : length es < 2 ^ 62 = c.self.invariant in
    let long : length seen ≡ length c.loop-key.yielded = length-map (map deref_pair c.loop-key.yielded) (shown row_of) ∙ length-map c.loop-key.yielded deref_pair in
    let upto : sum_by (gain t) seen ≤ length seen = sum_upto (gain t) (gain_one t) seen in
    let one : c.gain-gained.result ≤ 1 = subst (λ n. n ≤ 1) (sym c.gain-gained.ensures) (gain_one t _) in
    omega (arith, turn.0, small, long, upto, one, c.loop-key.invariant.gained)

pub overflow_add-lost : goal.overflow_add-lost
overflow_add-lost c =
    let t = c.args.base.now in
    let es = c.self.inside.rows.entries in
    let seen = map (shown row_of) (map deref_pair c.loop-key.yielded) in
    let start : c.into_iter-key-iterator.result ≡ es = search rules in
    let turn = iter_turn deref_pair es c.loop-key.yielded c.into_iter-key-iterator.result c.loop-key.key-iterator c.next.new.self c.next.result start c.loop-key.yielded_by (c.in-Some.key, c.in-Some.now) c.in-Some.is c.next.ensures.steps in
    let small : length es < 2 ^ 62 = c.self.invariant in
    let long : length seen ≡ length c.loop-key.yielded = length-map (map deref_pair c.loop-key.yielded) (shown row_of) ∙ length-map c.loop-key.yielded deref_pair in
    let upto : sum_by (loss t) seen ≤ length seen = sum_upto (loss t) (loss_one t) seen in
    let one : c.loss-lost.result ≤ 1 = subst (λ n. n ≤ 1) (sym c.loss-lost.ensures) (loss_one t _) in
    omega (arith, turn.0, small, long, upto, one, c.loop-key.invariant.lost)

pub overflow_add-result : goal.overflow_add-result
overflow_add-result c =
    let t = c.args.base.now in
    let es = c.self.inside.rows.entries in
    let all : map deref_pair c.loop-key.yielded ≡ es = search (rules, iter_end) in
    let gained : c.loop-key.gained ≡ sum_by (gain t) (map (shown row_of) es) = c.loop-key.invariant.gained ∙ ap (λ xs. sum_by (gain t) (map (shown row_of) xs)) all in
    let small : length es < 2 ^ 62 = c.self.invariant in
    let upto : sum_by (gain t) (map (shown row_of) es) ≤ length (map (shown row_of) es) = sum_upto (gain t) (gain_one t) (map (shown row_of) es) in
    omega (arith, gained, small, upto, length-map es (shown row_of), c.requires.small)

pub overflow_sub-result : goal.overflow_sub-result
overflow_sub-result c =
    let t = c.args.base.now in
    let es = c.self.inside.rows.entries in
    let all : map deref_pair c.loop-key.yielded ≡ es = search (rules, iter_end) in
    let gained : c.loop-key.gained ≡ sum_by (gain t) (map (shown row_of) es) = c.loop-key.invariant.gained ∙ ap (λ xs. sum_by (gain t) (map (shown row_of) xs)) all in
    let lost : c.loop-key.lost ≡ sum_by (loss t) (map (shown row_of) es) = c.loop-key.invariant.lost ∙ ap (λ xs. sum_by (loss t) (map (shown row_of) xs)) all in
    let apart : IsDistinct (eq_by_cmp uuid_cmp) (keys_of (map (shown row_of) es)) = subst (IsDistinct (eq_by_cmp uuid_cmp)) (keys-shown row_of es) c.iter-key-items.ensures.unique in
    let sums = counted t (map (shown row_of) es) apart in
    omega (arith, gained, lost, sums, c.requires.rows)

pub returns-clause-rows : goal.returns-clause-rows
returns-clause-rows c =
    let t = c.args.base.now in
    let es = c.self.inside.rows.entries in
    let all : map deref_pair c.loop-key.yielded ≡ es = search (rules, iter_end) in
    let gained : c.loop-key.gained ≡ sum_by (gain t) (map (shown row_of) es) = c.loop-key.invariant.gained ∙ ap (λ xs. sum_by (gain t) (map (shown row_of) xs)) all in
    let lost : c.loop-key.lost ≡ sum_by (loss t) (map (shown row_of) es) = c.loop-key.invariant.lost ∙ ap (λ xs. sum_by (loss t) (map (shown row_of) xs)) all in
    let apart : IsDistinct (eq_by_cmp uuid_cmp) (keys_of (map (shown row_of) es)) = subst (IsDistinct (eq_by_cmp uuid_cmp)) (keys-shown row_of es) c.iter-key-items.ensures.unique in
    let sums = counted t (map (shown row_of) es) apart in
    let count : c.args.rows + c.loop-key.gained - c.loop-key.lost ≡ finite.len (overlaid t (finite.from_entries (map (shown row_of) es))) = omega (arith, gained, lost, sums, c.requires.rows) in
    count ∙ ap (λ o. finite.len (overlaid t o)) c.self.view_is

pub returns-clause-small : goal.returns-clause-small
returns-clause-small c =
    let t = c.args.base.now in
    let es = c.self.inside.rows.entries in
    let all : map deref_pair c.loop-key.yielded ≡ es = search (rules, iter_end) in
    let gained : c.loop-key.gained ≡ sum_by (gain t) (map (shown row_of) es) = c.loop-key.invariant.gained ∙ ap (λ xs. sum_by (gain t) (map (shown row_of) xs)) all in
    let small : length es < 2 ^ 62 = c.self.invariant in
    let upto : sum_by (gain t) (map (shown row_of) es) ≤ length (map (shown row_of) es) = sum_upto (gain t) (gain_one t) (map (shown row_of) es) in
    omega (arith, gained, small, upto, length-map es (shown row_of))
