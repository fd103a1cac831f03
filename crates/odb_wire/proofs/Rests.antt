-- An object that goes on, and the piece that comes next.
use Rattle.std.proofs.Common.{◌≡◌, ℕ, ◌≤◌, ◌<◌, ◌+◌, ◌-◌, ◌++◌, ◌==◌, true, false, List, [], ◌∷◌, Some, None, option_map, map, refl, ap, subst, ◌∙◌, sym, length, get_or, take, arith, min}
use Rattle.std.proofs.lemmas.List.{length-take, length-append, take_all, append-nil}
use Rattle.std.proofs.Math.Seq.{take-append-add}
use Rattle.odb_wire.specs.Stream.{ScanState, outside, closed_at, front_of, whole, too_long, goes_on, messages}
use Rattle.odb_wire.specs.Stream as stream
use Rattle.odb_wire.specs.Scanning.{state_of, GoesOn, IsEnd}
use Rattle.odb_wire.specs.Shown.{message_data}
use Rattle.odb_wire.specs.Feeding.{fault_of}
use Rattle.odb_wire.specs.Standing.{IsUnfinished, IsRest, IsStanding, ReadsOn, messages_after}
use Rattle.odb_wire.specs.declared.message.Message.{Message}
use Rattle.odb_wire.specs.declared.scan.Scan.{Scan}
use Rattle.odb_wire.specs.declared.split.Unfinished.{Unfinished}
use Rattle.odb_wire.specs.declared.split.StreamState.{StreamState}
use Rattle.odb_wire.specs.declared.split.StreamState.TheVariants.{Going, Stopped}
use Rattle.odb_wire.specs.declared.fault.WireFault.TheVariants as fault
use Rattle.odb_wire.proofs.Fronts.{closed_at-text, goes_on-both, goes_on-unclosed, front_of-text, front_of-endless, take_within}
use Rattle.odb_wire.proofs.Streams.{messages-too_long, messages-incomplete}
use Rattle.odb_wire.proofs.Steps.{SoFar, going}

-- a rest that isn't empty
pub unfinished : (most : ℕ) (text : List ℕ) (n : ℕ) (scan : Scan) → IsRest most text scan → n ≡ length text → false ≡ (n == 0) → IsUnfinished most text scan
unfinished most [] n scan rest e some = absurd (empty (subst (λ (j : ℕ). false ≡ (j == 0)) e some))
  where
    empty : false ≡ true → ⊥
    empty h = cc
unfinished most (c ∷ cs) n scan rest e some = rest

brace-more : (s more : List ℕ) → (get_or s 0 0 == 123) ≡ true → (get_or (s ++ more) 0 0 == 123) ≡ true
brace-more [] more is = absurd (none is)
  where
    none : false ≡ true → ⊥
    none h = cc
brace-more (c ∷ cs) more is = is

-- the piece has the end
pub front_of-completed : (most : ℕ) (text piece last : List ℕ) (scan : Scan) (m n : ℕ) → IsUnfinished most text scan → m ≤ most - length text
    → IsEnd (state_of scan.state) scan.depth (take m piece) n → last ≡ take n piece → front_of most (text ++ last) ≡ whole (text ++ last)
front_of-completed most text piece last scan m n begun room end e =
    let same : take n (take m piece) ≡ take n piece = take_within m piece n end.within in
    let alone : closed_at (state_of scan.state) scan.depth (take n piece) ≡ Some (take n piece) =
    closed_at-text (state_of scan.state) scan.depth (take m piece) (take n piece) (end.closed ∙ ap (λ t. Some t) same) in
    let closed : closed_at outside 0 (text ++ take n piece) ≡ Some (text ++ take n piece) = begun.further.further (take n piece) ∙ ap (option_map (λ t. text ++ t)) alone in
    let fits : length (text ++ take n piece) ≤ most = omega (arith, length-append text (take n piece), length-take n piece, length-take m piece, end.within, room, begun.short) in
    subst (λ (u : List ℕ). front_of most (text ++ u) ≡ whole (text ++ u)) (sym e) (front_of-text most (text ++ take n piece) (brace-more text (take n piece) begun.brace) fits closed)

-- it has none, and as many bytes as a message may have are there
pub reads_too_long : (most : ℕ) (text piece : List ℕ) (scan : Scan) (m : ℕ) (p : ScanState) (d : ℕ) (none : List Message) → IsUnfinished most text scan → m ≡ min (length piece) (most - length text)
    → most - length text ≤ length piece → GoesOn (state_of scan.state) scan.depth (take m piece) p d → none ≡ [] → ReadsOn most [] (text ++ piece) (map message_data none) (Stopped fault.TooLong)
reads_too_long most text piece scan m p d none begun is_m long goes empty =
    let all : GoesOn outside 0 (text ++ take m piece) p d = goes_on-both outside 0 text (state_of scan.state) scan.depth (take m piece) p d begun.further goes in
    let size : length text + m ≡ most = omega (arith, is_m, long, begun.short) in
    let front : take most (text ++ piece) ≡ text ++ take m piece = ap (λ j. take j (text ++ piece)) (sym size) ∙ take-append-add text piece m in
    let unclosed : closed_at outside 0 (take most (text ++ piece)) ≡ None = ap (closed_at outside 0) front ∙ goes_on-unclosed outside 0 (text ++ take m piece) p d all in
    let is : front_of most (text ++ piece) ≡ too_long = front_of-endless most (text ++ piece) (brace-more text piece begun.brace) (omega (arith, length-append text piece, is_m, long, begun.short)) unclosed in
    record { stands = tt; further = λ more. messages-too_long most (text ++ piece) more is ∙ ap (λ ms. (map message_data ms ++ [], stream.fault_too_long)) (sym empty) }

-- it has none, and the message goes on
pub reads_on : (most : ℕ) (text piece : List ℕ) (scan : Scan) (m : ℕ) (rest : Unfinished) (none : List Message) → IsUnfinished most text scan → m ≡ min (length piece) (most - length text)
    → length piece < most - length text → GoesOn (state_of scan.state) scan.depth (take m piece) (state_of rest.scan.state) rest.scan.depth
    → rest.scan.depth ≤ scan.depth + length (take m piece) → rest.text.items ≡ text ++ piece → none ≡ [] → ReadsOn most [] (text ++ piece) (map message_data none) (Going rest)
reads_on most text piece scan m rest none begun is_m short goes bound is_text empty =
    let all_of_it : take m piece ≡ piece = take_all m piece (omega (arith, is_m, short)) in
    let all : GoesOn outside 0 (text ++ piece) (state_of rest.scan.state) rest.scan.depth =
    goes_on-both outside 0 text (state_of scan.state) scan.depth piece (state_of rest.scan.state) rest.scan.depth begun.further
    (subst (λ (u : List ℕ). GoesOn (state_of scan.state) scan.depth u (state_of rest.scan.state) rest.scan.depth) all_of_it goes) in
    let size : length (text ++ piece) ≡ length text + length piece = length-append text piece in
    let here : IsUnfinished most (text ++ piece) rest.scan =
    record {
      short = omega (arith, size, short, begun.short);
      brace = brace-more text piece begun.brace;
      depth = omega (arith, size, bound, ap length all_of_it, begun.depth);
      further = all;
    } in
    let so : SoFar most [] (text ++ piece) [] (text ++ piece) = record { further = λ more. refl } in
    subst (λ (ms : List Message). ReadsOn most [] (text ++ piece) (map message_data ms) (Going rest)) (sym empty) (going most [] (text ++ piece) [] (text ++ piece) rest so here is_text)

-- a rest has no whole message and no fault
pub messages-rest : (most : ℕ) (text : List ℕ) (scan : Scan) → IsRest most text scan → messages most (text ++ []) ≡ ([], goes_on)
messages-rest most [] scan rest = refl
messages-rest most (c ∷ cs) scan rest =
    ap (messages most) (append-nil (c ∷ cs))
    ∙ messages-incomplete most c cs rest.brace rest.short (goes_on-unclosed outside 0 (c ∷ cs) (state_of scan.state) scan.depth rest.further)

-- a stream that goes on is at no fault
pub no_fault : (most : ℕ) (s : StreamState) (rest : Unfinished) → IsStanding most s → s ≡ Going rest → None ≡ fault_of (messages_after most s []).1
no_fault most (Going r) rest stands e = sym (ap (λ x. fault_of x.1) (messages-rest most r.text.items r.scan stands))
no_fault most (Stopped f) rest stands e = absurd (apart e)
  where
    apart : Stopped f ≡ Going rest → ⊥
    apart h = cc
