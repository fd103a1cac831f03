-- The requests of a stream: which are submitted, and which are pending.
use Rattle.std.proofs.Common.{◌≡◌, ℕ, ◌+◌, ◌-◌, ◌<◌, ◌≤◌, zero, suc, true, false, List, [], ◌∷◌, ◌++◌, drop, get_or, map, length, take, refl, sym, ap, subst, ◌∙◌, true≢false, append-nil, append_assoc, arith, length-drop, take-append-drop}
use Rattle.std.specs.Prelude.{Result, reverse}
use Rattle.std.proofs.lemmas.List.{drop_at, get_or-map, get_or-reverse, length-append, length-map, length-reverse, map-append, nil_from_length, reverse-append, reverse-reverse, take_at}
use Rattle.std.proofs.lemmas.List.Elements.{filter-append}
use Rattle.serde_json.specs.Data.{Data, null}
use Rattle.odb_core.specs.declared.refused.EventRefusal.{EventRefusal}
use Rattle.odb_service.specs.Run.{Event, closed, opened, round, submitted, ticked}
use Rattle.odb_wire.specs.Feeding.{Adds}
use Rattle.odb_wire.specs.Stream.{messages}
use Rattle.odb_wire.specs.Shown.{request_data}
use Rattle.odb_hub.specs.Batch.{Submits}
use Rattle.odb_hub.specs.Guarded.{Guarded}
use Rattle.odb_hub.specs.Inbox.{Inbox, IsInOrder, Pending, is_asked, messages_of, events_at, requests_in}
use Rattle.odb_hub.specs.Represented.Inbox.{pending_in, pending_of, submitted_in}
use Rattle.odb_hub.specs.Represented.Submission.{events_of}
use Rattle.odb_hub.specs.declared.submission.Submission.{Submission}
use Rattle.odb_hub.specs.declared.submitted.BatchStep.{BatchStep}

map-reverse : {A B : Type 0} (f : A → B) (xs : List A) → map f (reverse xs) ≡ reverse (map f xs)
map-reverse f [] = refl
map-reverse f (x ∷ xs) =
    ap (map f) (reverse-append (x ∷ []) xs) ∙ map-append f (reverse xs) (x ∷ []) ∙ ap (λ ys. ys ++ f x ∷ []) (map-reverse f xs) ∙ sym (reverse-append (f x ∷ []) (map f xs))

map-map : {A B C : Type 0} (g : B → C) (f : A → B) (xs : List A) → map g (map f xs) ≡ map (λ x. g (f x)) xs
map-map g f [] = refl
map-map g f (x ∷ xs) = ap (λ ys. g (f x) ∷ ys) (map-map g f xs)

-- ---- events

-- the events of a batch are those of what it has pending
pub events_are : (s now : ℕ) (xs : List Submission) → events_of s now xs ≡ events_at s now (pending_of xs)
events_are s now xs =
    sym (map-reverse (λ (p : Pending). submitted s p.message p.fresh now) (map pending_in xs) ∙ ap reverse (map-map (λ (p : Pending). submitted s p.message p.fresh now) pending_in xs))

abbrev asked_in : Event → Pending
asked_in (opened s) = record { message = null; fresh = [] }
asked_in (submitted s d fresh now) = record { message = d; fresh = fresh }
asked_in (ticked now) = record { message = null; fresh = [] }
asked_in (closed s) = record { message = null; fresh = [] }
asked_in (round ss) = record { message = null; fresh = [] }

asked_back : (s now : ℕ) (ps : List Pending) → map asked_in (events_at s now ps) ≡ ps
asked_back s now [] = refl
asked_back s now (p ∷ ps) = ap (λ qs. p ∷ qs) (asked_back s now ps)

-- where events are taken from the front, so is what is pending
pub front_is : (s now : ℕ) (ps qs : List Pending) (taken : List Event) → events_at s now ps ≡ taken ++ events_at s now qs → ps ≡ map asked_in taken ++ qs
front_is s now ps qs taken e =
    sym (asked_back s now ps) ∙ ap (map asked_in) e ∙ map-append asked_in taken (events_at s now qs) ∙ ap (λ rest. map asked_in taken ++ rest) (asked_back s now qs)

-- a turn takes what is pending from the front
pub turn_front : {A : Type 0} (r : Result A EventRefusal) (s now : ℕ) (xs ys : List Submission) (old new : Guarded) → Submits r s (events_of s now xs) (events_of s now ys) old new → (front : List Pending) × (pending_of xs ≡ front ++ pending_of ys)
turn_front r s now xs ys old new h =
    (map asked_in h.1.0, front_is s now (pending_of xs) (pending_of ys) h.1.0 (sym (events_are s now xs) ∙ h.1.1 ∙ ap (λ es. h.1.0 ++ es) (events_are s now ys)))

pub length_pending : (xs : List Submission) → length (pending_of xs) ≡ length xs
length_pending xs = length-reverse (map pending_in xs) ∙ length-map xs pending_in

-- the front is as long as what is gone
pub front_taken : (xs ys : List Submission) (front : List Pending) → pending_of xs ≡ front ++ pending_of ys → take (length xs - length ys) (pending_of xs) ≡ front
front_taken xs ys front e =
    let whole : length (pending_of xs) ≡ length front + length (pending_of ys) = ap length e ∙ length-append front (pending_of ys) in
    let before : length (pending_of xs) ≡ length xs = length_pending xs in
    let after : length (pending_of ys) ≡ length ys = length_pending ys in
    let long : length front ≡ length xs - length ys = omega (arith, whole, before, after) in
    ap (take (length xs - length ys)) e ∙ take_at front (pending_of ys) (length xs - length ys) long

-- what is gone of a batch is the front of what was pending
pub noted : (step : BatchStep) (xs ys : List Submission) (front : List Pending) → step.before.value.items ≡ xs → step.left.value.items ≡ ys → pending_of xs ≡ front ++ pending_of ys → submitted_in step ≡ messages_of front
noted step xs ys front before left e =
    (λ i. messages_of (take (length (before i) - length (left i)) (pending_of (before i)))) ∙ ap messages_of (front_taken xs ys front e)

-- ---- parts of a batch

-- the request at a place
pub request_at : (xs : List Submission) (k : ℕ) (d : Submission) → k < length xs → request_data (get_or xs (length xs - 1 - k) d).request ≡ get_or (messages_of (pending_of xs)) k null
request_at xs k d low =
    let f : Submission → Data = λ x. request_data x.request in
    let all : messages_of (pending_of xs) ≡ reverse (map f xs) = map-reverse (λ (p : Pending). p.message) (map pending_in xs) ∙ ap reverse (map-map (λ (p : Pending). p.message) pending_in xs) in
    let long : length (map f xs) ≡ length xs = length-map xs f in
    let inside : k < length (map f xs) = omega (arith, long, low) in
    let place : length xs - 1 - k < length xs = omega (arith, low) in
    sym (ap (λ ds. get_or ds k null) all ∙ get_or-reverse (map f xs) k null inside ∙ ap (λ n. get_or (map f xs) (n - 1 - k) null) long ∙ get_or-map f xs (length xs - 1 - k) d null place)

-- the last of a batch is the first that is pending
pub popped_front : (xs ys : List Submission) (x : Submission) → xs ≡ ys ++ x ∷ [] → pending_of xs ≡ (pending_in x ∷ []) ++ pending_of ys
popped_front xs ys x e = ap pending_of e ∙ ap reverse (map-append pending_in ys (x ∷ [])) ∙ reverse-append (map pending_in ys) (pending_in x ∷ [])

-- the later part is pending first
pub parts_pending : (front back : List Submission) → pending_of (front ++ back) ≡ pending_of back ++ pending_of front
parts_pending front back = ap reverse (map-append pending_in front back) ∙ reverse-append (map pending_in front) (map pending_in back)

pub run_parts : (xs : List Submission) (n : ℕ) → pending_of xs ≡ pending_of (drop n xs) ++ pending_of (take n xs)
run_parts xs n = ap pending_of (sym (take-append-drop n xs)) ∙ parts_pending (take n xs) (drop n xs)

run_long : (xs : List Submission) (n most : ℕ) → n ≡ length xs - most → 0 < n → length (pending_of (drop n xs)) ≡ most
run_long xs n most is some =
    let long : length (drop n xs) ≡ length xs - n = length-drop n xs in
    length_pending (drop n xs) ∙ omega (arith, long, is, some)

-- the first are those of the run, the others are those of the rest
pub run_first : (xs : List Submission) (n most : ℕ) → n ≡ length xs - most → 0 < n → take most (pending_of xs) ≡ pending_of (drop n xs)
run_first xs n most is some = ap (take most) (run_parts xs n) ∙ take_at (pending_of (drop n xs)) (pending_of (take n xs)) most (run_long xs n most is some)

pub run_rest : (xs : List Submission) (n most : ℕ) → n ≡ length xs - most → 0 < n → drop most (pending_of xs) ≡ pending_of (take n xs)
run_rest xs n most is some = ap (drop most) (run_parts xs n) ∙ drop_at (pending_of (drop n xs)) (pending_of (take n xs)) most (run_long xs n most is some)

-- where no others are, all are the first
pub none_dropped : (ps : List Pending) (n : ℕ) → length ps ≤ n → drop n ps ≡ []
none_dropped ps n low = let long = length-drop n ps in nil_from_length (drop n ps) (omega (arith, long, low))

pub all_kept : (ps : List Pending) (n : ℕ) → length ps ≤ n → take n ps ≡ ps
all_kept ps n low = sym (append-nil (take n ps)) ∙ ap (λ qs. take n ps ++ qs) (sym (none_dropped ps n low)) ∙ take-append-drop n ps

pub some_others : (n : ℕ) → (n ≡ 0 → ⊥) → 0 < n
some_others zero none = absurd (none refl)
some_others (suc n) none = omega arith

-- what a turn takes of the run it takes of all
pub run_taken : (rest run left : List Submission) (front : List Pending) → pending_of run ≡ front ++ pending_of left → pending_of (rest ++ run) ≡ front ++ pending_of (rest ++ left)
run_taken rest run left front e =
    parts_pending rest run ∙ ap (λ ps. ps ++ pending_of rest) e ∙ append_assoc front (pending_of left) (pending_of rest) ∙ ap (λ ps. front ++ ps) (sym (parts_pending rest left))

-- ---- order

-- those of the front were submitted
pub moved_on : (i : Inbox) (front left : List Pending) → i.pending ≡ front ++ left → IsInOrder i → IsInOrder (record i { submitted = i.submitted ++ messages_of front; pending = left })
moved_on i front left e h =
    let all : messages_of i.pending ≡ messages_of front ++ messages_of left = ap messages_of e ∙ map-append (λ (p : Pending). p.message) front left in
    let moved : i.submitted ++ messages_of i.pending ≡ i.submitted ++ messages_of front ++ messages_of left = ap (λ ds. i.submitted ++ ds) all ∙ sym (append_assoc i.submitted (messages_of front) (messages_of left)) in
    (h.0, h.1 ∙ ap (λ ds. ds ++ h.0) moved, h.2)

-- the requests of a piece come after those before it
requests_more : (most : ℕ) (old piece new : List ℕ) (found : List Data) → Adds most old piece new found → requests_in (messages most new).0 ≡ requests_in (messages most old).0 ++ requests_in found
requests_more most old piece new found a = ap requests_in a.messages ∙ filter-append is_asked (messages most old).0 found

-- a piece, whose requests are pending after the others
pub took_in : (i : Inbox) (piece bytes : List ℕ) (found : List Data) (left : List Pending) → i.is_stopped ≡ false → Adds i.most i.bytes piece bytes found → messages_of left ≡ messages_of i.pending ++ requests_in found
    → IsInOrder i → IsInOrder (record i { bytes = bytes; pending = left })
took_in i piece bytes found left going a e h =
    let before : requests_in (messages i.most i.bytes).0 ≡ i.submitted ++ messages_of i.pending = h.1 ∙ ap (λ ds. i.submitted ++ messages_of i.pending ++ ds) (h.2 going) ∙ append-nil (i.submitted ++ messages_of i.pending) in (
      [],
      requests_more i.most i.bytes piece bytes found a ∙ ap (λ ds. ds ++ requests_in found) before ∙ append_assoc i.submitted (messages_of i.pending) (requests_in found)
          ∙ ap (λ ds. i.submitted ++ ds) (sym e) ∙ sym (append-nil (i.submitted ++ messages_of left)),
      λ _. refl,
    )

-- nothing is pending any more
none_pending : (i : Inbox) (rest : List Data) → i.submitted ++ messages_of i.pending ++ rest ≡ i.submitted ++ [] ++ (messages_of i.pending ++ rest)
none_pending i rest = append_assoc i.submitted (messages_of i.pending) rest ∙ ap (λ ds. ds ++ (messages_of i.pending ++ rest)) (sym (append-nil i.submitted))

-- the rest is given up, after a piece or none
pub gave_up : (i : Inbox) → IsInOrder i → IsInOrder (record i { pending = []; is_stopped = true })
gave_up i h = (messages_of i.pending ++ h.0, h.1 ∙ none_pending i h.0, λ e. absurd (true≢false e))

pub gave_up_after : (i : Inbox) (piece bytes : List ℕ) (found : List Data) → Adds i.most i.bytes piece bytes found → IsInOrder i → IsInOrder (record i { bytes = bytes; pending = []; is_stopped = true })
gave_up_after i piece bytes found a h = (
  messages_of i.pending ++ (h.0 ++ requests_in found),
  requests_more i.most i.bytes piece bytes found a ∙ ap (λ ds. ds ++ requests_in found) h.1 ∙ append_assoc (i.submitted ++ messages_of i.pending) h.0 (requests_in found) ∙ none_pending i (h.0 ++ requests_in found),
  λ e. absurd (true≢false e),
)

-- ---- batches

-- what was found is pending after what was
pub joined : (new old : List Submission) → pending_of (reverse new ++ old) ≡ pending_of old ++ map pending_in new
joined new old =
    ap reverse (map-append pending_in (reverse new) old) ∙ reverse-append (map pending_in (reverse new)) (map pending_in old)
    ∙ ap (λ ps. pending_of old ++ reverse ps) (map-reverse pending_in new) ∙ ap (λ ps. pending_of old ++ ps) (reverse-reverse (map pending_in new))

-- the first message, and the others
pub first_and_rest : (d : Data) (ds : List Data) → requests_in (d ∷ ds) ≡ requests_in (d ∷ []) ++ requests_in ds
first_and_rest d ds = filter-append is_asked (d ∷ []) ds

-- one more that was found
pub pushed : (xs : List Submission) (x : Submission) → messages_of (map pending_in (xs ++ x ∷ [])) ≡ messages_of (map pending_in xs) ++ request_data x.request ∷ []
pushed xs x = ap messages_of (map-append pending_in xs (x ∷ [])) ∙ map-append (λ (p : Pending). p.message) (map pending_in xs) (pending_in x ∷ [])

-- a message was looked at, and gave these
pub looked_at : (all found : List Data) (d : Data) (ds one : List Data) → all ≡ found ++ requests_in (d ∷ ds) → one ≡ requests_in (d ∷ []) → all ≡ found ++ one ++ requests_in ds
looked_at all found d ds one e is = e ∙ ap (λ rest. found ++ rest) (first_and_rest d ds ∙ ap (λ first. first ++ requests_in ds) (sym is)) ∙ sym (append_assoc found one (requests_in ds))
