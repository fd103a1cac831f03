-- Jobs by their places, in lists that grow, and what is sent of them.
use Rattle.std.proofs.Common.{◌≡◌, ◌<◌, ℕ, zero, suc, arith, ◌++◌, true, false, List, [], ◌∷◌, is_some, length, map, slice_get, slice_index_or, Option, Some, None, refl, sym, ap, ◌∙◌, true≢false}
use Rattle.std.specs.Prelude.{option_and_then, option_map}
use Rattle.std.proofs.lemmas.List.{length-map}
use Rattle.std.proofs.lemmas.Option.{none-some, same_Some}
use Rattle.serde_json.specs.Written.{compact_text}
use Rattle.odb_monitor.specs.Job.{Job, updates_of}
use Rattle.odb_schema.specs.Json.{Data}
use Rattle.odb_service.specs.Session.{Item}
use Rattle.odb_sessions.specs.Carried.{finished_text}
use Rattle.odb_round.specs.Jobs.{IsFor, Keeps, certainly, composition_at, if_sent}
use Rattle.odb_sessions.specs.Composed.{composition, whole_text}
use Rattle.odb_sessions.specs.Represented.Composed.{IsFrame}
use Rattle.odb_round.specs.Represented.Sending.{framing, sending_under}
use Rattle.odb_round.specs.Represented.Taking.{coming_sending, text_around, text_planned}
use Rattle.odb_round.specs.Sending.{Sending, finished, sent_with}
use Rattle.odb_round.specs.Taken.{text_from}
use Rattle.odb_sessions.specs.declared.composing.Envelope.{Envelope}
use Rattle.odb_round.specs.declared.taking.Coming.{Coming}
use Rattle.odb_round.specs.declared.taking.Coming.TheVariants.{Composed, Queued}

-- ---- lists that keep their elements

pub keeps_itself : {A : Type 0} (js : List A) → Keeps js js
keeps_itself js n j at = at

pub keeps_on : {A : Type 0} (a b c : List A) → Keeps a b → Keeps b c → Keeps a c
keeps_on a b c one two n j at = two n j (one n j at)

-- nothing changed
pub keeps_same : {A : Type 0} (a b : List A) → b ≡ a → Keeps a b
keeps_same {A = A} a b same n j at = ap (λ (js : List A). slice_get js n) same ∙ at

pub front_kept : {A : Type 0} (xs : List A) (y : A) (n : ℕ) (x : A) → slice_get xs n ≡ Some x → slice_get (xs ++ y ∷ []) n ≡ Some x
front_kept [] y n x at = absurd (none-some x at)
front_kept (z ∷ xs) y zero x at = at
front_kept (z ∷ xs) y (suc n) x at = front_kept xs y n x at

pub last_at : {A : Type 0} (xs : List A) (y : A) → slice_get (xs ++ y ∷ []) (length xs) ≡ Some y
last_at [] y = refl
last_at (x ∷ xs) y = last_at xs y

-- one element more
pub keeps_added : {A : Type 0} (a b : List A) (j : A) → b ≡ a ++ j ∷ [] → Keeps a b
keeps_added {A = A} a b j is n i at = ap (λ (js : List A). slice_get js n) is ∙ front_kept a j n i at

pub added_at : {A : Type 0} (a b : List A) (j : A) (n : ℕ) → b ≡ a ++ j ∷ [] → n ≡ length a → slice_get b n ≡ Some j
added_at a b j n is len = (λ i. slice_get (is i) (len i)) ∙ last_at a j

-- as many elements as others of which the same is made
pub same_length : {A B C : Type 0} (f : A → C) (g : B → C) (xs : List A) (ys : List B) → map f xs ≡ map g ys → length xs ≡ length ys
same_length f g xs ys e = sym (length-map xs f) ∙ ap length e ∙ length-map ys g

-- the element at a place
pub found_at : {A : Type 0} (xs : List A) (n : ℕ) (x : A) → n < length xs → x ≡ slice_index_or xs n x → slice_get xs n ≡ Some x
found_at [] n x low at = absurd (omega (arith, low))
found_at (y ∷ xs) zero x low at = ap Some (sym at)
found_at (y ∷ xs) (suc n) x low at = found_at xs n x (omega (arith, low)) at

-- ---- places

-- nothing is sent
none_sent : (j : Job) (o : Option Data) → is_some o ≡ false → None ≡ option_map certainly (option_map (λ (u : Data). j) o)
none_sent j None none = refl
none_sent j (Some d) none = absurd (true≢false none)

-- something is sent
some_sent : (j : Job) (o : Option Data) → is_some o ≡ true → Some (Some j) ≡ option_map certainly (option_map (λ (u : Data). j) o)
some_sent j None some = absurd (true≢false (sym some))
some_sent j (Some d) some = refl

pub none_for : (js : List Job) (j : Job) → is_some (updates_of j) ≡ false → IsFor js (if_sent j) None
none_for js j none all kept = none_sent j (updates_of j) none

pub some_for : (js : List Job) (j : Job) (n : ℕ) → slice_get js n ≡ Some j → is_some (updates_of j) ≡ true → IsFor js (if_sent j) (Some n)
some_for js j n at some all kept = ap (λ (o : Option Job). Some o) (kept n j at) ∙ some_sent j (updates_of j) some

-- a place is for the same in a list that keeps the jobs
pub still_for : (a b : List Job) (job : Option Job) (place : Option ℕ) → Keeps a b → IsFor a job place → IsFor b job place
still_for a b job place kept was all more = was all (keeps_on a b all kept more)

-- ---- messages

-- what is sent by a message of the job that stands at its place
pub sent_by : (all : List Job) (m : Envelope) (n : ℕ) (text : Data → List ℕ) (j : Job) (d : Data) → IsFrame m n text → slice_get all n ≡ Some j → updates_of j ≡ Some d
    → sending_under all m ≡ Some (sent_with (record { job = j; text = text }) d)
sent_by all m n text j d frame at is =
    let around : (λ (u : Data). whole_text m.before.items (compact_text u) m.after.items) ≡ text = λ i u. frame.1 u i in
    ap (λ (k : ℕ). option_and_then (λ (i : Job). option_map (sent_with (framing m i)) (updates_of i)) (slice_get all k)) frame.0
    ∙ ap (option_and_then (λ (i : Job). option_map (sent_with (framing m i)) (updates_of i))) at
    ∙ ap (option_map (sent_with (framing m j))) is
    ∙ ap (λ (f : Data → List ℕ). Some (sent_with (record { job = j; text = f }) d)) around

-- nothing is told
pub none_told : (j : Job) (f : Data → Sending) (o : Option Data) → None ≡ option_map certainly (option_map (λ (u : Data). j) o) → None ≡ option_map certainly (option_map f o)
none_told j f None e = refl
none_told j f (Some d) e = absurd (none-some (certainly j) e)

-- the job at the place is told, with this text around what is composed of it
pub some_told : (all : List Job) (m : Envelope) (n : ℕ) (text : Data → List ℕ) (j : Job) → IsFrame m n text → (o : Option Data) → updates_of j ≡ o
    → Some (slice_get all n) ≡ option_map certainly (option_map (λ (u : Data). j) o)
    → Some (sending_under all m) ≡ option_map certainly (option_map (sent_with (record { job = j; text = text })) o)
some_told all m n text j frame None is e = absurd (none-some (slice_get all n) (sym e))
some_told all m n text j frame (Some d) is e = ap (λ (o : Option Sending). Some o) (sent_by all m n text j d frame (same_Some (slice_get all n) (certainly j) e) is)

-- ---- bodies

-- the body at a place is what is composed of the job there
abbrev joined : Option (Option (List ℕ)) → Option (List ℕ)
joined None = None
joined (Some o) = o

mapped_at : {A : Type 0} (f : A → Option (List ℕ)) (xs : List A) (n : ℕ) → option_and_then f (slice_get xs n) ≡ joined (slice_get (map f xs) n)
mapped_at f [] n = refl
mapped_at f (x ∷ xs) zero = refl
mapped_at f (x ∷ xs) (suc n) = mapped_at f xs n

pub body_composed : {A : Type 0} (f : A → Option (List ℕ)) (xs : List A) (js : List Job) (n : ℕ) → map f xs ≡ map composition js → option_and_then f (slice_get xs n) ≡ composition_at js n
body_composed f xs js n same = mapped_at f xs n ∙ ap (λ (os : List (Option (List ℕ))). joined (slice_get os n)) same ∙ sym (mapped_at composition js n)

-- what comes by a message is its text
pub around_text : (before after : List ℕ) (body : Option (List ℕ)) (last : Option Item) → text_from (text_around before body after) last ≡ option_map (λ t. whole_text before t after) body
around_text before after None last = refl
around_text before after (Some t) last = refl

-- what is sent by a message that is told
pub told_sending : {A B : Type 0} (f : A → Option B) (m : Option A) (x : Option B) → option_map f m ≡ option_map certainly x → option_and_then f m ≡ x
told_sending f None None e = refl
told_sending f None (Some t) e = absurd (none-some (certainly t) e)
told_sending f (Some m) None e = absurd (none-some (f m) (sym e))
told_sending f (Some m) (Some t) e = same_Some (f m) (certainly t) e

pub is_told : {A B : Type 0} (f : A → Option B) (m : Option A) (x : Option B) → option_map f m ≡ option_map certainly x → is_some (option_and_then f m) ≡ is_some m
is_told f None x e = refl
is_told f (Some m) None e = absurd (none-some (f m) (sym e))
is_told f (Some m) (Some t) e = ap is_some (same_Some (f m) (certainly t) e)

-- it is told, too, by what is sent by it
pub still_told : {A B : Type 0} (f : A → Option B) (m : Option A) (x other : Option B) → option_map f m ≡ option_map certainly x → option_and_then f m ≡ other → option_map f m ≡ option_map certainly other
still_told f m x other e same = e ∙ ap (option_map certainly) (sym (told_sending f m x e) ∙ same)

-- ---- what comes

-- the text of what is sent
pub text_comes : (js : List Job) (c : Option Coming) (last : Option Item) → text_from (text_planned js c) last ≡ option_map (λ (x : Sending). x.text) (coming_sending js c last)
text_comes js None last = refl
text_comes js (Some Queued) last = by (option_and_then finished_text last)
  where
    by : (o : Option (List ℕ)) → o ≡ option_map (λ (x : Sending). x.text) (option_map finished o)
    by None = refl
    by (Some t) = refl
text_comes js (Some (Composed m)) last =
    around_text m.before.items m.after.items (composition_at js m.place) last
    ∙ by (slice_get js m.place)
  where
    one : (j : Job) (o : Option Data) → option_map (λ t. whole_text m.before.items t m.after.items) (option_map compact_text o) ≡ option_map (λ (x : Sending). x.text) (option_map (sent_with (framing m j)) o)
    one j None = refl
    one j (Some d) = refl

    by : (o : Option Job) → option_map (λ t. whole_text m.before.items t m.after.items) (option_and_then composition o)
        ≡ option_map (λ (x : Sending). x.text) (option_and_then (λ (j : Job). option_map (sent_with (framing m j)) (updates_of j)) o)
    by None = refl
    by (Some j) = one j (updates_of j)
