-- Submits are counted.
use Rattle.std.proofs.Common.{◌≡◌, ℕ, ◌+◌, ◌-◌, length, List, [], ◌∷◌, ◌++◌, map, refl, sym, ap, ◌∙◌, arith}
use mathlib.Core.List.{reverse-append}
use Rattle.std.specs.Prelude.{IfOk, OnErr, OnOk, Option, Result, Ok, Err, take}
use Rattle.odb_service.specs.Run.{Event, round}
use Rattle.odb_hub.specs.Batch.{TakesAll, TakesUpTo}
use Rattle.odb_hub.specs.Counted.{submits, submits_in}
use Rattle.odb_hub.specs.Guarded.{Guarded, Takes}
use Rattle.odb_hub.specs.GroupRounds.{TakesRound}
use Rattle.odb_hub.specs.Rings.{ready_among}
use Rattle.odb_hub.specs.Represented.Submission.{event_of, events_of}
use Rattle.odb_hub.specs.declared.submission.Submission.{Submission}

pub submits-append : (xs ys : List Event) → submits (xs ++ ys) ≡ submits xs + submits ys
submits-append [] ys = omega arith
submits-append (x ∷ xs) ys = let ih = submits-append xs ys in omega (arith, ih)

-- an event that is no submit
pub same_count : (total settled : ℕ) (es all : List Event) (e : Event) → total ≡ settled + submits es → all ≡ es ++ e ∷ [] → submits_in e ≡ 0 → total ≡ settled + submits all
same_count total settled es all e count is none =
    let more : submits all ≡ submits es + (submits_in e + 0) = ap submits is ∙ submits-append es (e ∷ []) in
    omega (arith, count, more, none)

pub took_counted : (e : Event) (k n : Guarded) (total settled : ℕ) → submits_in e ≡ 0 → total ≡ settled + submits k.events → Takes e k n [] → total ≡ settled + submits n.events
took_counted e k n total settled none count takes = same_count total settled k.events n.events e count takes.1 none

pub same_events : (k n : Guarded) (total settled : ℕ) → total ≡ settled + submits k.events → n.events ≡ k.events → total ≡ settled + submits n.events
same_events k n total settled count same = count ∙ ap (λ es. settled + submits es) (sym same)

-- a call that is one such event, or changes nothing
pub result_counted : {A E : Type 0} (r : Result A E) (e : Event) (k n : Guarded) (total settled : ℕ) → submits_in e ≡ 0 → total ≡ settled + submits k.events → OnOk r (Takes e k n []) → OnErr r (n ≡ k) → total ≡ settled + submits n.events
result_counted (Ok x) e k n total settled none count takes same = took_counted e k n total settled none count takes
result_counted (Err x) e k n total settled none count takes same = same_events k n total settled count (ap (λ (k : Guarded). k.events) same)

-- a round that may be refused
pub round_counted : {A E : Type 0} (given : A → ℕ) (next : A → Option ℕ) (r : Result A E) (from most : ℕ) (k n : Guarded) (total settled : ℕ) → total ≡ settled + submits k.events
    → IfOk r (λ group. TakesRound from most (given group) (next group) k n) → OnErr r ((n.base ≡ k.base) × (n.events ≡ k.events)) → total ≡ settled + submits n.events
round_counted given next (Ok x) from most k n total settled count takes same =
    same_count total settled k.events n.events (round (take most (ready_among takes.0 from takes.1))) count takes.5.1 refl
round_counted given next (Err x) from most k n total settled count takes same = same_events k n total settled count same.1

all_taken : (es : List Event) (a b : Guarded) → TakesAll es a b → submits b.events ≡ submits a.events + submits es
all_taken [] a b same = let is : submits b.events ≡ submits a.events = ap (λ (k : Guarded). submits k.events) same in omega (arith, is)
all_taken (e ∷ es) a b took =
    let next : Guarded = took.0 in
    let one : submits next.events ≡ submits a.events + (submits_in e + 0) = ap submits took.1.1 ∙ submits-append a.events (e ∷ []) in
    let rest : submits b.events ≡ submits next.events + submits es = all_taken es next b took.3 in
    omega (arith, one, rest)

-- each submission of a batch is one
in_batch : (s now : ℕ) (xs : List Submission) → submits (events_of s now xs) ≡ length xs
in_batch s now [] = refl
in_batch s now (x ∷ xs) =
    let e : Event = event_of s now x in
    let split : submits (events_of s now (x ∷ xs)) ≡ submits (events_of s now xs) + 1 = ap submits (reverse-append (e ∷ []) (map (event_of s now) xs)) ∙ submits-append (events_of s now xs) (e ∷ []) in
    let ih = in_batch s now xs in
    omega (arith, split, ih)

pub batch_counted : (s now : ℕ) (xs ys : List Submission) (a b : Guarded) → TakesUpTo (events_of s now xs) (events_of s now ys) a b → submits b.events ≡ submits a.events + (length xs - length ys)
batch_counted s now xs ys a b took =
    let whole : submits (events_of s now xs) ≡ submits took.0 + submits (events_of s now ys) = ap submits took.1 ∙ submits-append took.0 (events_of s now ys) in
    let all = in_batch s now xs in
    let left = in_batch s now ys in
    let grown = all_taken took.0 a b took.2 in
    omega (arith, whole, all, left, grown)
