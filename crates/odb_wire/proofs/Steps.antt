-- What one more message, or a fault, makes of what was read.
use Rattle.std.proofs.Common.{◌≡◌, ℕ, ◌≤◌, ◌<◌, ◌++◌, List, [], ◌∷◌, Option, Some, None, option_map, All, IfSome, map, ap, subst, append_assoc, ◌∙◌, sym, length, take, drop, arith}
use Rattle.std.proofs.lemmas.List.{length-take, length-drop, map_push, drop_all}
use Rattle.std.proofs.lemmas.List.Elements.{All-push}
use Rattle.serde_json.specs.Data.{Data}
use Rattle.odb_wire.specs.Stream.{front_of, whole, too_long, bad, skip_blanks, message_of, Ending, fault_bad, messages}
use Rattle.odb_wire.specs.Standing.{prepended}
use Rattle.odb_wire.specs.Shown.{message_data, IsOfItsKind}
use Rattle.odb_wire.specs.declared.message.Message.{Message}
use Rattle.odb_wire.specs.Standing.{IsWhole, IsUnfinished, IsRest, IsStanding, ReadsOn, messages_after, ending_of}
use Rattle.odb_wire.specs.declared.fault.WireFault.{WireFault}
use Rattle.odb_wire.specs.declared.fault.WireFault.TheVariants as fault
use Rattle.odb_wire.specs.declared.split.Unfinished.{Unfinished}
use Rattle.odb_wire.specs.declared.split.StreamState.{StreamState}
use Rattle.odb_wire.specs.declared.split.StreamState.TheVariants.{Going, Stopped}
use Rattle.odb_wire.proofs.Streams.{messages-skip, messages-whole, messages-no_message, messages-too_long, messages-bad, not_blank, no_brace, front_of-length, skip_blanks-length}

-- after the messages given, those of the bytes were found so far, and these bytes are left
pub record SoFar (most : ℕ) (given : List Data) (bytes : List ℕ) (found : List Data) (left : List ℕ) : Type 0 where
  pub further : (more : List ℕ) → prepended given (messages most (bytes ++ more)) ≡ prepended found (messages most (left ++ more))

pub so_far-start : (most : ℕ) (given : List Data) (bytes left : List ℕ) → left ≡ skip_blanks bytes → SoFar most given bytes given left
so_far-start most given bytes left e = record { further = λ more. ap (prepended given) (messages-skip most bytes more ∙ ap (λ u. messages most (u ++ more)) (sym e)) }

behind-more : (found : List Data) (d : Data) (rest : List Data × Ending) → prepended found (prepended (d ∷ []) rest) ≡ prepended (found ++ d ∷ []) rest
behind-more found d rest = ap (λ ds. (ds, rest.1)) (sym (append_assoc found (d ∷ []) rest.0))

-- a whole message
pub so_far-message : (most : ℕ) (given : List Data) (bytes : List ℕ) (found : List Data) (left : List ℕ) (n : ℕ) (d : Data) (after : List ℕ) → SoFar most given bytes found left → IsWhole most left n
    → message_of (take n left) ≡ Some d → after ≡ skip_blanks (drop n left) → SoFar most given bytes (found ++ d ∷ []) after
so_far-message most given bytes found left n d after so is_whole is e =
    let size : length (take n left) ≡ n = length-take n left ∙ omega (arith, is_whole.within) in
    record {
      further = λ more. so.further more ∙ ap (prepended found) (messages-whole most left more (take n left) d is_whole.text is) ∙ behind-more found d (messages most (drop (length (take n left)) left ++ more))
          ∙ ap (λ j. prepended (found ++ d ∷ []) (messages most (drop j left ++ more))) size
          ∙ ap (prepended (found ++ d ∷ [])) (messages-skip most (drop n left) more ∙ ap (λ u. messages most (u ++ more)) (sym e));
    }

-- a fault
stopped : (most : ℕ) (given : List Data) (bytes : List ℕ) (found : List Data) (left : List ℕ) (stop : WireFault) → SoFar most given bytes found left → ((more : List ℕ) → messages most (left ++ more) ≡ ([], ending_of stop))
    → ReadsOn most given bytes found (Stopped stop)
stopped most given bytes found left stop so at = record { stands = tt; further = λ more. so.further more ∙ ap (prepended found) (at more) }

-- a whole object that is no message
pub stopped-no_message : (most : ℕ) (given : List Data) (bytes : List ℕ) (found : List Data) (left : List ℕ) (n : ℕ) → SoFar most given bytes found left → IsWhole most left n → message_of (take n left) ≡ None
    → ReadsOn most given bytes found (Stopped fault.BadStream)
stopped-no_message most given bytes found left n so is_whole is =
    stopped most given bytes found left fault.BadStream so (λ more. messages-no_message most left more (take n left) is_whole.text is)

pub stopped-too_long : (most : ℕ) (given : List Data) (bytes : List ℕ) (found : List Data) (left : List ℕ) → SoFar most given bytes found left → front_of most left ≡ too_long → ReadsOn most given bytes found (Stopped fault.TooLong)
stopped-too_long most given bytes found left so is = stopped most given bytes found left fault.TooLong so (λ more. messages-too_long most left more is)

pub stopped-bad : (most : ℕ) (given : List Data) (bytes : List ℕ) (found : List Data) (left : List ℕ) → SoFar most given bytes found left → skip_blanks left ≡ left → front_of most left ≡ bad
    → ReadsOn most given bytes found (Stopped fault.BadStream)
stopped-bad most given bytes found left so clean is = stopped most given bytes found left fault.BadStream so (λ more. at left clean is more)
  where
    at : (s : List ℕ) → skip_blanks s ≡ s → front_of most s ≡ bad → (more : List ℕ) → messages most (s ++ more) ≡ ([], fault_bad)
    at [] no_blank is_bad more = absurd (cc)
    at (c ∷ cs) no_blank is_bad more = messages-bad most c cs more (not_blank c cs no_blank) (no_brace most c cs is_bad)

-- an object that goes on
pub going : (most : ℕ) (given : List Data) (bytes : List ℕ) (found : List Data) (left : List ℕ) (rest : Unfinished) → SoFar most given bytes found left → IsUnfinished most left rest.scan → rest.text.items ≡ left
    → ReadsOn most given bytes found (Going rest)
going most given bytes found left rest so unfinished e =
    record {
      stands = subst (λ (u : List ℕ). IsRest most u rest.scan) (sym e) (is_rest left unfinished);
      further = λ more. so.further more ∙ ap (λ u. prepended found (messages most (u ++ more))) (sym e);
    }
  where
    is_rest : (s : List ℕ) → IsUnfinished most s rest.scan → IsRest most s rest.scan
    is_rest [] h = tt
    is_rest (c ∷ cs) h = h

-- nothing is left
pub between : (most : ℕ) (given : List Data) (bytes : List ℕ) (found : List Data) (left : List ℕ) (new : StreamState) → SoFar most given bytes found left → left ≡ [] → IsStanding most new
    → ((more : List ℕ) → messages_after most new more ≡ messages most more) → ReadsOn most given bytes found new
between most given bytes found left new so e stands fresh =
    record { stands = stands; further = λ more. so.further more ∙ ap (λ u. prepended found (messages most (u ++ more))) e ∙ ap (prepended found) (sym (fresh more)) }

-- what is left gets shorter
pub left_shorter : (most : ℕ) (left : List ℕ) (n : ℕ) (after : List ℕ) → IsWhole most left n → after ≡ skip_blanks (drop n left) → length after < length left
left_shorter most left n after is_whole e =
    let size : length (take n left) ≡ n = length-take n left ∙ omega (arith, is_whole.within) in
    let bound : (0 < length (take n left)) × (length (take n left) ≤ length left) = front_of-length most left (take n left) is_whole.text in
    omega (arith, ap length e, skip_blanks-length (drop n left), length-drop n left, size, bound.0, bound.1)

-- ---- the same in the words of the code: o is what was read of a text

pub stopped-none : (most : ℕ) (given : List Data) (bytes : List ℕ) (found : List Data) (left : List ℕ) (n : ℕ) (text : List ℕ) (o : Option Message) → SoFar most given bytes found left → IsWhole most left n
    → text ≡ take n left → option_map message_data o ≡ message_of text → o ≡ None → ReadsOn most given bytes found (Stopped fault.BadStream)
stopped-none most given bytes found left n text o so is_whole e read none =
    stopped-no_message most given bytes found left n so is_whole (ap message_of (sym e) ∙ sym read ∙ ap (option_map message_data) none)

pub so_far-read : (most : ℕ) (given : List Data) (bytes : List ℕ) (before after : List Message) (left : List ℕ) (n : ℕ) (text : List ℕ) (o : Option Message) (m : Message) (behind_it after_it : List ℕ)
    → SoFar most given bytes (map message_data before) left → IsWhole most left n → text ≡ take n left → behind_it ≡ drop n left → option_map message_data o ≡ message_of text → o ≡ Some m
    → after ≡ before ++ m ∷ [] → after_it ≡ skip_blanks behind_it → SoFar most given bytes (map message_data after) after_it
so_far-read most given bytes before after left n text o m behind_it after_it so is_whole e back read some pushed skipped =
    let is : message_of (take n left) ≡ Some (message_data m) = ap message_of (sym e) ∙ sym read ∙ ap (option_map message_data) some in
    let found : map message_data after ≡ map message_data before ++ message_data m ∷ [] = ap (map message_data) pushed ∙ map_push message_data before m in
    subst (λ (ds : List Data). SoFar most given bytes ds after_it) (sym found)
    (so_far-message most given bytes (map message_data before) left n (message_data m) after_it so is_whole is (skipped ∙ ap skip_blanks back))

pub kinds-push : (before after : List Message) (o : Option Message) (m : Message) → All IsOfItsKind before → IfSome o IsOfItsKind → o ≡ Some m → after ≡ before ++ m ∷ [] → All IsOfItsKind after
kinds-push before after o m all kind some pushed =
    subst (λ (ms : List Message). All IsOfItsKind ms) (sym pushed) (All-push IsOfItsKind before m all (subst (λ (p : Option Message). IfSome p IsOfItsKind) some kind))

-- ---- the message that was unfinished: t is its text

nothing_left : (t : List ℕ) → drop (length t) t ≡ []
nothing_left t = drop_all (length t) t (omega arith)

first_message : (most : ℕ) (t behind_it : List ℕ) (d : Data) (found : List Data) (new : StreamState) → front_of most t ≡ whole t → message_of t ≡ Some d → ReadsOn most (d ∷ []) behind_it found new → ReadsOn most [] (t ++ behind_it) found new
first_message most t behind_it d found new front is reads =
    record {
      stands = reads.stands;
      further = λ more. ap (messages most) (append_assoc t behind_it more) ∙ messages-whole most t (behind_it ++ more) t d front is
          ∙ ap (λ u. prepended (d ∷ []) (messages most (u ++ (behind_it ++ more)))) (nothing_left t) ∙ reads.further more;
    }

pub reads_first : (most : ℕ) (t behind_it text : List ℕ) (o : Option Message) (m : Message) (none pushed : List Message) (found : List Data) (new : StreamState) → front_of most t ≡ whole t → text ≡ t
    → option_map message_data o ≡ message_of text → o ≡ Some m → none ≡ [] → pushed ≡ none ++ m ∷ [] → ReadsOn most (map message_data pushed) behind_it found new → ReadsOn most [] (t ++ behind_it) found new
reads_first most t behind_it text o m none pushed found new front e read some empty push reads =
    let is : message_of t ≡ Some (message_data m) = ap message_of (sym e) ∙ sym read ∙ ap (option_map message_data) some in
    let only : map message_data pushed ≡ message_data m ∷ [] = ap (map message_data) (push ∙ ap (λ ms. ms ++ m ∷ []) empty) in
    first_message most t behind_it (message_data m) found new front is (subst (λ (ds : List Data). ReadsOn most ds behind_it found new) only reads)

pub reads_none : (most : ℕ) (t behind_it text : List ℕ) (o : Option Message) (none : List Message) → front_of most t ≡ whole t → text ≡ t → option_map message_data o ≡ message_of text → o ≡ None → none ≡ []
    → ReadsOn most [] (t ++ behind_it) (map message_data none) (Stopped fault.BadStream)
reads_none most t behind_it text o none front e read absent empty =
    let is : message_of t ≡ None = ap message_of (sym e) ∙ sym read ∙ ap (option_map message_data) absent in
    record {
      stands = tt;
      further = λ more. ap (messages most) (append_assoc t behind_it more) ∙ messages-no_message most t (behind_it ++ more) t front is ∙ ap (λ ms. (map message_data ms ++ [], fault_bad)) (sym empty);
    }
