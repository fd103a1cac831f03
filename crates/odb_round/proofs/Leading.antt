-- A plan item by item: what ends it, and what is left of it.
use Rattle.std.proofs.Common.{◌≡◌, ℕ, zero, suc, ◌+◌, ◌<◌, ◌≤◌, arith, true, false, List, [], ◌∷◌, drop, get_or, is_some, length, map, slice_get, slice_index_or, Option, Some, None, refl, sym, ap, ◌∙◌, true≢false}
use Rattle.std.specs.Prelude.{flat_map, option_and_then, option_map}
use Rattle.std.proofs.lemmas.List.{drop_all}
use Rattle.odb_chain.specs.Chains.{Chains}
use Rattle.odb_schema.specs.Schema.{Schema}
use Rattle.odb_service.specs.Server.{served_by}
use Rattle.odb_service.specs.Session as machine
use Rattle.odb_service.specs.Session.{Monitor, Revision, leaves}
use Rattle.odb_sessions.specs.Carried.{finished_text}
use Rattle.odb_round.specs.Foreseen.{last_used}
use Rattle.odb_sessions.specs.Marked.{item_seen, marks_due}
use Rattle.odb_round.specs.Planned.{Due, Plan, due, from_item, plan_from, plan_monitors}
use Rattle.odb_sessions.specs.Represented.Item.{marked_item_of}
use Rattle.odb_round.specs.Sending.{due_sending, finished}
use Rattle.odb_sessions.specs.Tied.{AreLive}
use Rattle.odb_sessions.specs.declared.item.Item.{Item}
use Rattle.odb_sessions.proofs.Releases.{live-left, live-right}
use Rattle.odb_round.proofs.Rests.{no_items}
use Rattle.odb_tables.specs.Database.{Db}

-- a plan of which these items were found to give nothing
abbrev pub after_items : ℕ → Plan → Plan
after_items n p = record { items = n + p.items; monitors = p.monitors; out = p.out }

pub none_used : (p : Plan) → p ≡ after_items 0 p
none_used p = let zero : p.items ≡ 0 + p.items = omega arith in ap (λ n. let q : Plan = record { items = n; monitors = p.monitors; out = p.out } in q) zero

abbrev pub all_seen : List Item → List machine.Item
all_seen xs = map item_seen (map marked_item_of xs)

abbrev pub plan_at : Schema → Db → List Item → List Monitor → Plan
plan_at s db xs ms = plan_from (served_by s) db (all_seen xs) ms

abbrev pub seen_item : Item → machine.Item
seen_item x = item_seen (marked_item_of x)

-- ---- what is due ends a plan

module _ (p : Plan) where
  one_used : (o : Option Due) → is_some o ≡ true → from_item o p ≡ record { items = 1; monitors = 0; out = o }
  one_used None e = absurd (true≢false (sym e))
  one_used (Some d) e = refl

  one_passed : (o : Option Due) → is_some o ≡ false → from_item o p ≡ record { items = suc p.items; monitors = p.monitors; out = p.out }
  one_passed None e = refl
  one_passed (Some d) e = absurd (true≢false e)

module _ (s : Schema) (db : Db) (xs : List Item) (i : ℕ) (x : Item) (step : drop i xs ≡ x ∷ drop (i + 1) xs) (ms : List Monitor) where
  abbrev pub given : Option Due
  given = due (served_by s) db (seen_item x) ms

  abbrev rest : Plan
  rest = plan_at s db (drop (i + 1) xs) (leaves (served_by s) db (seen_item x) ms)

  pub ended : is_some given ≡ true → after_items i (plan_at s db (drop i xs) ms) ≡ record { items = i + 1; monitors = 0; out = given }
  ended some = ap (λ ys. after_items i (plan_at s db ys ms)) step ∙ ap (after_items i) (one_used rest given some)

  pub goes_on : (ns : List Monitor) → is_some given ≡ false → ns ≡ leaves (served_by s) db (seen_item x) ms
      → after_items i (plan_at s db (drop i xs) ms) ≡ after_items (i + 1) (plan_at s db (drop (i + 1) xs) ns)
  goes_on ns none left =
      let next : i + suc rest.items ≡ i + 1 + rest.items = omega arith in
      ap (λ ys. after_items i (plan_at s db ys ms)) step
      ∙ ap (after_items i) (one_passed rest given none)
      ∙ ap (λ n. let q : Plan = record { items = n; monitors = rest.monitors; out = rest.out } in q) next
      ∙ ap (λ ns. after_items (i + 1) (plan_at s db (drop (i + 1) xs) ns)) (sym left)

-- no item is left
pub at_end : (s : Schema) (db : Db) (xs : List Item) (i n : ℕ) (ms : List Monitor) → length xs ≤ i → i ≤ length xs → n ≡ length xs
    → after_items i (plan_at s db (drop i xs) ms) ≡ (let p : Plan = plan_monitors (served_by s) db ms in record { items = n; monitors = p.monitors; out = p.out })
at_end s db xs i n ms past within len =
    let p : Plan = plan_monitors (served_by s) db ms in
    let none : i + 0 ≡ n = omega (arith, past, within, len) in
    ap (λ ys. after_items i (plan_at s db ys ms)) (drop_all i xs past)
    ∙ ap (λ k. let q : Plan = record { items = i + k; monitors = p.monitors; out = p.out } in q) (no_items (served_by s) db ms)
    ∙ ap (λ k. let q : Plan = record { items = k; monitors = p.monitors; out = p.out } in q) none

-- ---- a first item that was finished when it was queued

finished_due : (s : Schema) (db : Db) (i : machine.Item) (ms : List Monitor) → is_some (finished_text i) ≡ true → is_some (due (served_by s) db i ms) ≡ true
finished_due s db (machine.say a d) ms e = refl
finished_due s db (machine.start d k) ms e = absurd (true≢false (sym e))
finished_due s db (machine.sync i) ms e = absurd (true≢false (sym e))
finished_due s db (machine.shift i fs) ms e = absurd (true≢false (sym e))
finished_due s db (machine.renamed d old new fs) ms e = refl
finished_due s db (machine.stopped d i) ms e = refl

finished_says : (s : Schema) (revision : Revision) (i : machine.Item) (ms : List Monitor) → is_some (finished_text i) ≡ true → option_map finished (finished_text i) ≡ option_map (due_sending (served_by s) revision) (due (served_by s) revision.db i ms)
finished_says s revision (machine.say a d) ms e = refl
finished_says s revision (machine.start d k) ms e = absurd (true≢false (sym e))
finished_says s revision (machine.sync i) ms e = absurd (true≢false (sym e))
finished_says s revision (machine.shift i fs) ms e = absurd (true≢false (sym e))
finished_says s revision (machine.renamed d old new fs) ms e = refl
finished_says s revision (machine.stopped d i) ms e = refl

module _ (s : Schema) (revision : Revision) (ms : List Monitor) where
  first_plan : (xs : List Item) (x : Item) → 0 < length xs → x ≡ slice_index_or xs 0 x → is_some (finished_text (seen_item x)) ≡ true → plan_at s revision.db xs ms ≡ record { items = 1; monitors = 0; out = due (served_by s) revision.db (seen_item x) ms }
  first_plan [] x low at e = absurd (omega (arith, low))
  first_plan (y ∷ ys) x low at e =
      ap (λ z. plan_at s revision.db (z ∷ ys) ms) (sym at)
      ∙ one_used (plan_at s revision.db ys (leaves (served_by s) revision.db (seen_item x) ms)) (due (served_by s) revision.db (seen_item x) ms) (finished_due s revision.db (seen_item x) ms e)

  pub first_items : (xs : List Item) (x : Item) → 0 < length xs → x ≡ slice_index_or xs 0 x → is_some (finished_text (seen_item x)) ≡ true → 1 ≡ (plan_at s revision.db xs ms).items
  first_items xs x low at e = sym (ap (λ (p : Plan). p.items) (first_plan xs x low at e))

  pub first_monitors : (xs : List Item) (x : Item) → 0 < length xs → x ≡ slice_index_or xs 0 x → is_some (finished_text (seen_item x)) ≡ true → 0 ≡ (plan_at s revision.db xs ms).monitors
  first_monitors xs x low at e = sym (ap (λ (p : Plan). p.monitors) (first_plan xs x low at e))

  pub first_text : (xs : List Item) (x : Item) → 0 < length xs → x ≡ slice_index_or xs 0 x → is_some (finished_text (seen_item x)) ≡ true
      → option_map finished (option_and_then finished_text (last_used 1 (all_seen xs))) ≡ option_map (due_sending (served_by s) revision) (plan_at s revision.db xs ms).out
  first_text [] x low at e = absurd (omega (arith, low))
  first_text (y ∷ ys) x low at e =
      ap (λ z. option_map finished (finished_text (seen_item z))) (sym at) ∙ finished_says s revision (seen_item x) ms e
      ∙ sym (ap (λ (p : Plan). option_map (due_sending (served_by s) revision) p.out) (first_plan (y ∷ ys) x low at e))

-- ---- items by their places

seen_at : (xs : List Item) (i : ℕ) (d : Item) → i < length xs → slice_get (all_seen xs) i ≡ Some (seen_item (get_or xs i d))
seen_at [] i d low = absurd (omega (arith, low))
seen_at (x ∷ xs) zero d low = refl
seen_at (x ∷ xs) (suc i) d low = seen_at xs i d (omega (arith, low))

pub last_at : (xs : List Item) (i : ℕ) (x : Item) → i < length xs → x ≡ slice_index_or xs i x → last_used (i + 1) (all_seen xs) ≡ Some (seen_item x)
last_at xs i x low at =
    let next : i + 1 ≡ suc i = omega arith in
    ap (λ n. last_used n (all_seen xs)) next ∙ seen_at xs i x low ∙ ap (λ y. Some (seen_item y)) (sym at)

pub live_due : (k : Chains) (xs : List Item) (i : ℕ) (d : Item) → i < length xs → AreLive k (flat_map marks_due (map marked_item_of xs)) → AreLive k (marks_due (marked_item_of (get_or xs i d)))
live_due k [] i d low live = absurd (omega (arith, low))
live_due k (x ∷ xs) zero d low live = live-left k (marks_due (marked_item_of x)) (flat_map marks_due (map marked_item_of xs)) live
live_due k (x ∷ xs) (suc i) d low live = live_due k xs i d (omega (arith, low)) (live-right k (marks_due (marked_item_of x)) (flat_map marks_due (map marked_item_of xs)) live)
