-- How a batch is taken, one submission after the other.
use Rattle.std.proofs.Common.{◌≡◌, ℕ, ◌+◌, List, [], ◌∷◌, ◌++◌, map, length, refl, sym, ap, ◌∙◌, subst, arith}
use Rattle.std.proofs.lemmas.List.{length-append}
use mathlib.Core.List.{reverse, reverse-append, map-append, append_assoc}
use Rattle.odb_atoms.specs.Represented.Atom.{uuid_of}
use Rattle.odb_wire.specs.Shown.{request_data}
use Rattle.odb_service.specs.Run.{Event, submitted}
use Rattle.odb_hub.specs.Batch.{TakesAll, TakesUpTo}
use Rattle.odb_hub.specs.Guarded.{Guarded, Takes}
use Rattle.odb_hub.specs.Represented.Submission.{event_of, events_of}
use Rattle.odb_hub.specs.declared.submission.Submission.{Submission}

pub begun : (events : List Event) (k : Guarded) → TakesUpTo events events k k
begun events k = ([], refl, refl)

-- one event more at the end
one_more : (es : List Event) (e : Event) (a b c : Guarded) → TakesAll es a b → Takes e b c [] → c.rings ≡ b.rings → TakesAll (es ++ e ∷ []) a c
one_more [] e a b c same takes rings = subst (λ at. TakesAll (e ∷ []) at c) same (c, takes, rings, refl)
one_more (x ∷ es) e a b c all takes rings = (all.0, all.1, all.2, one_more es e all.0 b c all.3 takes rings)

-- the last submission of a batch is its first event
pub last_first : (s now : ℕ) (xs : List Submission) (x : Submission) → events_of s now (xs ++ x ∷ []) ≡ event_of s now x ∷ events_of s now xs
last_first s now xs x = ap reverse (map-append (event_of s now) xs (x ∷ [])) ∙ reverse-append (map (event_of s now) xs) (event_of s now x ∷ [])

-- a submission that is taken
pub took : (s now : ℕ) (events : List Event) (xs ys : List Submission) (x : Submission) (a b c : Guarded)
    → TakesUpTo events (events_of s now xs) a b → xs ≡ ys ++ x ∷ [] → Takes (event_of s now x) b c [] → c.rings ≡ b.rings → TakesUpTo events (events_of s now ys) a c
took s now events xs ys x a b c so_far is takes rings =
    let e : Event = event_of s now x in
    let left : events_of s now xs ≡ e ∷ events_of s now ys = ap (events_of s now) is ∙ last_first s now ys x in
    (so_far.0 ++ e ∷ [], so_far.1 ∙ ap (λ l. so_far.0 ++ l) left ∙ sym (append_assoc so_far.0 (e ∷ []) (events_of s now ys)), one_more so_far.0 e a b c so_far.2 takes rings)

-- so many of a batch were taken, and these are left
abbrev pub IsTaken : ℕ → ℕ → List Submission → List Submission → Guarded → Guarded → ℕ → Type 0
IsTaken s now batch left old new count = TakesUpTo (events_of s now batch) (events_of s now left) old new × (length batch ≡ length left + count)

-- one more of a turn is taken
pub took_turn : (s now : ℕ) (batch xs ys : List Submission) (x : Submission) (a b c : Guarded) (count : ℕ)
    → IsTaken s now batch xs a b count → xs ≡ ys ++ x ∷ [] → Takes (event_of s now x) b c [] → c.rings ≡ b.rings → IsTaken s now batch ys a c (count + 1)
took_turn s now batch xs ys x a b c count so_far is takes rings =
    let more : length xs ≡ length ys + 1 = ap length is ∙ length-append ys (x ∷ []) in
    let before = so_far.1 in
    (took s now (events_of s now batch) xs ys x a b c so_far.0 is takes rings, omega (arith, more, before))

-- equal parts make equal events
pub same_event : (s now : ℕ) (x y : Submission) → x.request ≡ y.request → x.fresh ≡ y.fresh → event_of s now x ≡ event_of s now y
same_event s now x y request fresh = λ i. submitted s (request_data (request i)) (map uuid_of (fresh i).items) now

-- a submission that comes back is the last again
pub came_back : (s now : ℕ) (xs ys zs : List Submission) (x y : Submission) → xs ≡ ys ++ x ∷ [] → zs ≡ ys ++ y ∷ [] → y.request ≡ x.request → y.fresh ≡ x.fresh → events_of s now zs ≡ events_of s now xs
came_back s now xs ys zs x y old new request fresh =
    ap (events_of s now) new ∙ last_first s now ys y ∙ (λ i. same_event s now y x request fresh i ∷ events_of s now ys) ∙ sym (last_first s now ys x) ∙ sym (ap (events_of s now) old)
