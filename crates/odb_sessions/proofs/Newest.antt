-- The newest item of a queue, and what a queue's items have of marks.
use Rattle.std.proofs.Common.{◌≡◌, List, [], ◌∷◌, ◌++◌, flat_map, map, Option, Some, None, option_map, option_to_list, refl, sym, ap, ◌∙◌, append_assoc}
use Rattle.std.specs.Prelude.{IfNone}
use Rattle.std.proofs.lemmas.List.{append-nil, map-append}
use Rattle.std.proofs.lemmas.Option.{none-some, same_Some}
use Rattle.odb_sessions.specs.Newest.{all_but_last, without_last}
use Rattle.odb_service.specs.World.{push}
use Rattle.odb_sessions.specs.Marked.{MarkedItem, MarkedSession, item_seen, marks_due, marks_in, marks_of, monitor_of, seen}
use Rattle.odb_sessions.specs.Posts.{but_newest, newest, with_items, without_newest}
use Rattle.odb_sessions.specs.Represented.Item.{marked_item_of}
use Rattle.odb_sessions.specs.declared.item.Item.{Item}

pub last_dropped : (qs : List MarkedItem) (q : MarkedItem) → but_newest (qs ++ q ∷ []) ≡ qs
last_dropped [] q = refl
last_dropped (r ∷ []) q = refl
last_dropped (r ∷ s ∷ qs) q = ap (λ (ls : List MarkedItem). r ∷ ls) (last_dropped (s ∷ qs) q)

last_found : (qs : List MarkedItem) (q : MarkedItem) → newest (qs ++ q ∷ []) ≡ Some q
last_found [] q = refl
last_found (r ∷ []) q = refl
last_found (r ∷ s ∷ qs) q = last_found (s ∷ qs) q

pub newest_out : (old new : List MarkedItem) (r : Option Item) → old ≡ new ++ option_to_list (option_map marked_item_of r) → IfNone r (old ≡ []) → new ≡ but_newest old
newest_out old new None e none = sym (append-nil new) ∙ sym e ∙ none ∙ sym (ap but_newest none)
newest_out old new (Some i) e none = sym (ap but_newest e ∙ last_dropped new (marked_item_of i))

pub newest_found : (old new : List MarkedItem) (r : Option Item) → old ≡ new ++ option_to_list (option_map marked_item_of r) → IfNone r (old ≡ []) → option_map marked_item_of r ≡ newest old
newest_found old new None e none = sym (ap newest none)
newest_found old new (Some i) e none = sym (ap newest e ∙ last_found new (marked_item_of i))

-- ---- as the machine sees it

pub seen-with : (qs : List MarkedItem) (x : MarkedSession) → seen (with_items qs x) ≡ push (map item_seen qs) (seen x)
seen-with qs x = λ i. record { queue = map-append item_seen x.queue qs i; monitors = map monitor_of x.monitors }

seen-but : (qs : List MarkedItem) → map item_seen (but_newest qs) ≡ all_but_last (map item_seen qs)
seen-but [] = refl
seen-but (q ∷ []) = refl
seen-but (q ∷ r ∷ qs) = ap (λ is. item_seen q ∷ is) (seen-but (r ∷ qs))

pub seen-without : (x : MarkedSession) → seen (without_newest x) ≡ without_last (seen x)
seen-without x = λ i. record { queue = seen-but x.queue i; monitors = map monitor_of x.monitors }

-- ---- marks

due-append : (xs ys : List MarkedItem) → flat_map marks_due (xs ++ ys) ≡ flat_map marks_due xs ++ flat_map marks_due ys
due-append [] ys = refl
due-append (x ∷ xs) ys = ap (λ ms. marks_due x ++ ms) (due-append xs ys) ∙ sym (append_assoc (marks_due x) (flat_map marks_due xs) (flat_map marks_due ys))

pub marks-with : (qs : List MarkedItem) (x : MarkedSession) → marks_of (with_items qs x) ≡ marks_of x ++ flat_map marks_due qs
marks-with qs x = ap (λ ms. flat_map marks_in x.monitors ++ ms) (due-append x.queue qs) ∙ sym (append_assoc (flat_map marks_in x.monitors) (flat_map marks_due x.queue) (flat_map marks_due qs))

due-newest : (qs : List MarkedItem) (q : MarkedItem) → newest qs ≡ Some q → flat_map marks_due qs ≡ flat_map marks_due (but_newest qs) ++ marks_due q
due-newest [] q e = absurd (none-some q e)
due-newest (r ∷ []) q e = append-nil (marks_due r) ∙ ap marks_due (same_Some r q e)
due-newest (r ∷ s ∷ qs) q e =
    ap (λ ms. marks_due r ++ ms) (due-newest (s ∷ qs) q e)
    ∙ sym (append_assoc (marks_due r) (flat_map marks_due (but_newest (s ∷ qs))) (marks_due q))

pub marks-without : (x : MarkedSession) (q : MarkedItem) → newest x.queue ≡ Some q → marks_of x ≡ marks_of (without_newest x) ++ marks_due q
marks-without x q e =
    ap (λ ms. flat_map marks_in x.monitors ++ ms) (due-newest x.queue q e)
    ∙ sym (append_assoc (flat_map marks_in x.monitors) (flat_map marks_due (but_newest x.queue)) (marks_due q))

none_newest : (qs : List MarkedItem) → newest qs ≡ None → qs ≡ []
none_newest [] e = refl
none_newest (q ∷ []) e = absurd (none-some q (sym e))
none_newest (q ∷ r ∷ qs) e = absurd (some_newest q r qs e)
  where
    some_newest : (q r : MarkedItem) (qs : List MarkedItem) → newest (q ∷ r ∷ qs) ≡ None → ⊥
    some_newest q r [] e = none-some r (sym e)
    some_newest q r (s ∷ qs) e = some_newest r s qs e

pub nothing_newest : (x : MarkedSession) → newest x.queue ≡ None → without_newest x ≡ x
nothing_newest x e = λ i. record { queue = (ap but_newest (none_newest x.queue e) ∙ sym (none_newest x.queue e)) i; monitors = x.monitors; watch = x.watch }
