-- Takings that are ready, carried out one after the other, are a round.
use Rattle.std.proofs.Common.{◌≡◌, ℕ, zero, suc, ◌==◌, ◌||◌, Bool, true, false, cond, List, [], ◌∷◌, ◌++◌, map, Option, Some, None, refl, sym, ap, append_assoc, subst, ◌∙◌, true≢false}
use Rattle.std.specs.Prelude.{flat_map, option_and_then, option_map, option_to_list, slice_get}
use Rattle.std.proofs.lemmas.List.{map-append}
use Rattle.std.specs.Ordering.{nat_cmp}
use Rattle.odb_atoms.specs.FinMap.{FinMap, get, insert}
use Rattle.odb_queue.specs.Represented.Item.{item_of, text_of}
use Rattle.odb_queue.specs.declared.finished.Finished.{Finished}
use Rattle.odb_schema.specs.Schema.{Schema}
use Rattle.odb_service.specs.Run.{Sent, sent, take_each, take_of}
use Rattle.odb_service.specs.Server.{printed, served_by}
use Rattle.odb_service.specs.Service.{Service}
use Rattle.odb_service.specs.Session.{Item, Out, Revision, Session, renamed, say, shift, start, stopped, sync, take}
use Rattle.odb_service.specs.World.{World, revision_of}
use Rattle.odb_service.proofs.SessionMaps.{apart_keys, eq_turned, get-insert}
use Rattle.odb_sessions.specs.Book.{Book, revision_in}
use Rattle.odb_sessions.specs.Carried.{finished_in, last_finished, used_by, finished_text}
use Rattle.odb_round.specs.Foreseen.{due_text, last_used}
use Rattle.odb_round.specs.Planned.{AreOnce, Due, Plan, applied, is_listed, out_of, plan}
use Rattle.odb_sessions.specs.Posts.{at_number}
use Rattle.odb_round.specs.Represented.Taking.{text_by, text_coming}
use Rattle.odb_round.specs.Sending.{Sending, due_sending}
use Rattle.odb_round.specs.Taken as model
use Rattle.odb_round.specs.Taken.{AreReady, IsReadyFor, Pending, Text, given_by, last_text, sessions_in, text_from, text_taken}
use Rattle.odb_round.specs.declared.taking.Coming.{Coming}
use Rattle.odb_round.specs.declared.taking.Coming.TheVariants.{Composed, Queued}
use Rattle.odb_round.proofs.Plans.{planned_takes}
use Rattle.odb_sessions.proofs.Posts.{at_open, at_shut}

abbrev Sessions : Type 0
Sessions = FinMap nat_cmp Session

-- ---- one taking

module _ (s : Schema) (revision : Revision) where
  abbrev h : Service
  h = served_by s

  texts_of : (o : Option Due) → option_map (due_text h revision) o ≡ option_map text_of (option_map (out_of h revision) o)
  texts_of None = refl
  texts_of (Some d) = refl

  -- the text of what is due
  pub texts_due : (o : Option Due) → option_map (λ (x : Sending). x.text) (option_map (due_sending h revision) o) ≡ option_map (due_text h revision) o
  texts_due None = refl
  texts_due (Some d) = refl

  abbrev Taken : Type 0
  Taken = Option Out × Session

  -- what a plan says is ready
  pub ready_by_plan : (x : Session) (items monitors : ℕ) (t : Text) → items ≡ (plan h revision.db x).items → monitors ≡ (plan h revision.db x).monitors
      → text_from t (last_used items x.queue) ≡ option_map (due_text h revision) (plan h revision.db x).out → IsReadyFor s revision (Some x) (record { items = items; monitors = monitors; text = t })
  ready_by_plan x items monitors t a b c =
      let p : Plan = plan h revision.db x in
      let taken : take h revision x ≡ (option_map (out_of h revision) p.out, applied h revision.db p x) = planned_takes h revision x in (
        (λ i. used_by h revision.db (a i) (b i) x) ∙ sym (ap (λ (r : Taken). r.1) taken),
        c ∙ texts_of p.out ∙ sym (ap (λ (r : Taken). option_map text_of r.0) taken),
      )

  -- what a taking that is ready uses up is what the machine's does
  pub uses_of : (o : Option Session) (x : Session) (r : model.Ready) → o ≡ Some x → IsReadyFor s revision o r → used_by h revision.db r.items r.monitors x ≡ (take h revision x).1
  uses_of o x r there ready = (subst (λ (p : Option Session). IsReadyFor s revision p r) there ready).0

  -- the text that is ready is the one that the taking gives
  pub text_ready : (o : Option Session) (r : model.Ready) → IsReadyFor s revision o r → text_from r.text (option_and_then (λ x. last_used r.items x.queue) o) ≡ text_taken h revision o
  text_ready None r e = ap (λ t. text_from t None) e
  text_ready (Some x) r e = e.1

  pub book_ready : (m : Sessions) (n : ℕ) (r : model.Ready) → IsReadyFor s revision (get m n) r → at_number (used_by h revision.db r.items r.monitors) m n ≡ at_number (λ x. (take h revision x).1) m n
  book_ready m n r = by (get m n) refl
    where
      by : (o : Option Session) → get m n ≡ o → IsReadyFor s revision o r → at_number (used_by h revision.db r.items r.monitors) m n ≡ at_number (λ x. (take h revision x).1) m n
      by None there e = at_shut (used_by h revision.db r.items r.monitors) m n there ∙ sym (at_shut (λ x. (take h revision x).1) m n there)
      by (Some x) there e = at_open (used_by h revision.db r.items r.monitors) m n x there ∙ ap (insert m n) e.0 ∙ sym (at_open (λ x. (take h revision x).1) m n x there)

-- a finished text that comes out of the queue is that of the last item used up
text_finished : (i : Item) → option_and_then finished_text (finished_in i) ≡ finished_text i
text_finished (say a d) = refl
text_finished (start d k) = refl
text_finished (sync i) = refl
text_finished (shift i fs) = refl
text_finished (renamed d old new fs) = refl
text_finished (stopped d i) = refl

last_text_of : (n : ℕ) (is : List Item) → option_and_then finished_text (last_finished n is) ≡ option_and_then finished_text (last_used n is)
last_text_of zero is = refl
last_text_of (suc n) is = by (slice_get is n)
  where
    by : (o : Option Item) → option_and_then finished_text (option_and_then finished_in o) ≡ option_and_then finished_text o
    by None = refl
    by (Some i) = text_finished i

last_text_at : (n : ℕ) (o : Option Session) → option_and_then finished_text (option_and_then (λ x. last_finished n x.queue) o) ≡ option_and_then finished_text (option_and_then (λ x. last_used n x.queue) o)
last_text_at n None = refl
last_text_at n (Some x) = last_text_of n x.queue

text_in_queue : (f : Option Finished) → option_map (λ (g : Finished). g.text.items) f ≡ option_and_then finished_text (option_map item_of f)
text_in_queue None = refl
text_in_queue (Some f) = ap Some f.printed

pub queued_text : (n : ℕ) (o : Option Session) (f : Option Finished) → option_map item_of f ≡ option_and_then (λ x. last_finished n x.queue) o
    → option_map (λ (g : Finished). g.text.items) f ≡ text_from last_text (option_and_then (λ x. last_used n x.queue) o)
queued_text n o f e = text_in_queue f ∙ ap (option_and_then finished_text) e ∙ last_text_at n o

-- the text that comes is that of the taking
pub text_is : (c : Option Coming) (queued body : Option (List ℕ)) (last : Option Item) → queued ≡ text_from last_text last → text_by c queued body ≡ text_from (text_coming c body) last
text_is None queued body last e = refl
text_is (Some Queued) queued body last e = e
text_is (Some (Composed m)) queued None last e = refl
text_is (Some (Composed m)) queued (Some b) last e = refl

-- ---- one of a round

module _ (s : Schema) where
  abbrev hs : Service
  hs = served_by s

  abbrev as_sent : ℕ → Option (List ℕ) → List (ℕ × List ℕ)
  as_sent n t = option_to_list (option_map (λ t. let p : ℕ × List ℕ = (n, t) in p) t)

  sent_text : (n : ℕ) (o : Option Out) → map printed (sent n o) ≡ as_sent n (option_map text_of o)
  sent_text n None = refl
  sent_text n (Some x) = refl

  abbrev with_sessions : World → Sessions → World
  with_sessions w m = record w { sessions = m }

  one_taken : (n : ℕ) (w : World) → (take_of hs n (get w.sessions n) w).0 ≡ with_sessions w (at_number (λ x. (take hs (revision_of w) x).1) w.sessions n)
  one_taken n w = by (get w.sessions n) refl
    where
      by : (o : Option Session) → get w.sessions n ≡ o → (take_of hs n o w).0 ≡ with_sessions w (at_number (λ x. (take hs (revision_of w) x).1) w.sessions n)
      by None there = ap (with_sessions w) (sym (at_shut (λ x. (take hs (revision_of w) x).1) w.sessions n there))
      by (Some x) there = ap (with_sessions w) (sym (at_open (λ x. (take hs (revision_of w) x).1) w.sessions n x there))

  one_sent : (n : ℕ) (w : World) (o : Option Session) → map printed (take_of hs n o w).1 ≡ as_sent n (text_taken hs (revision_of w) o)
  one_sent n w None = refl
  one_sent n w (Some x) = sent_text n (take hs (revision_of w) x).0

  abbrev Given : Type 0
  Given = World × List Sent

  abbrev rest_after : List ℕ → World → Given
  rest_after ns w = take_each hs ns w

  -- a round, by its first taking and the rest
  pub round_on : (n : ℕ) (ns : List ℕ) (w v : World) (text : Option (List ℕ)) → with_sessions w (at_number (λ x. (take hs (revision_of w) x).1) w.sessions n) ≡ v → text ≡ text_taken hs (revision_of w) (get w.sessions n)
      → ((take_each hs (n ∷ ns) w).0 ≡ (take_each hs ns v).0) × (map printed (take_each hs (n ∷ ns) w).1 ≡ as_sent n text ++ map printed (take_each hs ns v).1)
  round_on n ns w v text is said =
      let one : Given = take_of hs n (get w.sessions n) w in
      let then : one.0 ≡ v = one_taken n w ∙ is in (
        ap (λ u. (rest_after ns u).0) then,
        map-append printed one.1 (rest_after ns one.0).1
            ∙ (λ i. (one_sent n w (get w.sessions n) ∙ ap (as_sent n) (sym said)) i ++ map printed (rest_after ns (then i)).1),
      )

-- ---- those that are still to be carried out

neither : (a b : Bool) → (a || b) ≡ false → (a ≡ false) × (b ≡ false)
neither true b e = absurd (true≢false e)
neither false b e = (refl, e)

stays_ready : (s : Schema) (b : Book) (n : ℕ) (x : Session) (ps : List Pending) → is_listed n (sessions_in ps) ≡ false → AreReady s b ps → AreReady s (record b { sessions = insert b.sessions n x }) ps
stays_ready s b n x [] e h = tt
stays_ready s b n x (p ∷ ps) e h =
    let k : (p.0 == n ≡ false) × (is_listed n (sessions_in ps) ≡ false) = neither (p.0 == n) (is_listed n (sessions_in ps)) e in
    let same : get (insert b.sessions n x) p.0 ≡ get b.sessions p.0 =
    get-insert b.sessions n x p.0 ∙ ap (λ c. cond c (Some x) (get b.sessions p.0)) (apart_keys p.0 n (sym (eq_turned p.0 n) ∙ k.0))
    in
    (subst (λ o. IsReadyFor s (revision_in b) o p.1) (sym same) h.0, stays_ready s b n x ps k.1 h.1)

pub still_ready : (s : Schema) (b : Book) (n : ℕ) (f : Session → Session) (ps : List Pending) → is_listed n (sessions_in ps) ≡ false → AreReady s b ps → AreReady s (record b { sessions = at_number f b.sessions n }) ps
still_ready s b n f ps e h = by (get b.sessions n) refl
  where
    by : (o : Option Session) → get b.sessions n ≡ o → AreReady s (record b { sessions = at_number f b.sessions n }) ps
    by None there = subst (λ (m : Sessions). AreReady s (record b { sessions = m }) ps) (sym (at_shut f b.sessions n there)) h
    by (Some x) there = subst (λ (m : Sessions). AreReady s (record b { sessions = m }) ps) (sym (at_open f b.sessions n x there)) (stays_ready s b n (f x) ps e h)

-- one more is ready
pub ready-append : (s : Schema) (b : Book) (ps : List Pending) (p : Pending) → AreReady s b ps → IsReadyFor s (revision_in b) (get b.sessions p.0) p.1 → AreReady s b (ps ++ p ∷ [])
ready-append s b [] p h k = (k, tt)
ready-append s b (q ∷ ps) p h k = (h.0, ready-append s b ps p h.1 k)

-- ---- a round that goes on

abbrev then_with : World → Sessions → World
then_with w m = record w { sessions = m }

-- what the round of these makes of the world, and what was sent so far
abbrev pub GoesOn : Schema → List ℕ → World → Sessions → List Pending → List (ℕ × List ℕ) → Type 0
GoesOn s listed w m ps given =
    ((take_each (served_by s) listed w).0 ≡ (take_each (served_by s) (sessions_in ps) (record w { sessions = m })).0)
    × (map printed (take_each (served_by s) listed w).1 ≡ given ++ map printed (take_each (served_by s) (sessions_in ps) (record w { sessions = m })).1)

pub goes_on : (s : Schema) (listed : List ℕ) (w : World) (b c : Book) (p : Pending) (ps : List Pending) (given : List (ℕ × List ℕ)) (out : Option (ℕ × List ℕ)) → revision_of w ≡ revision_in b → GoesOn s listed w b.sessions (p ∷ ps) given
    → c ≡ record b { sessions = at_number (λ x. (take (served_by s) (revision_in b) x).1) b.sessions p.0 }
    → out ≡ option_map (λ t. let q : ℕ × List ℕ = (p.0, t) in q) (text_taken (served_by s) (revision_in b) (get b.sessions p.0))
    → GoesOn s listed w c.sessions ps (given ++ option_to_list out)
goes_on s listed w b c p ps given out same before is said =
    let h : Service = served_by s in
    let n = p.0 in
    let u : World = then_with w b.sessions in
    let v : World = then_with w c.sessions in
    let left : then_with u (at_number (λ x. (take h (revision_of u) x).1) u.sessions n) ≡ v =
    ap (λ d. then_with w (at_number (λ x. (take h d x).1) b.sessions n)) same ∙ ap (λ (d : Book). then_with w d.sessions) (sym is)
    in
    let one = round_on s n (sessions_in ps) u v (text_taken h (revision_of u) (get u.sessions n)) left refl in
    let told : option_to_list out ≡ as_sent s n (text_taken h (revision_of u) (get u.sessions n)) =
    ap option_to_list said ∙ ap (λ d. as_sent s n (text_taken h d (get b.sessions n))) (sym same)
    in (
      before.0 ∙ one.0,
      before.1 ∙ ap (λ os. given ++ os) one.1
          ∙ ap (λ os. given ++ (os ++ map printed (take_each h (sessions_in ps) v).1)) (sym told)
          ∙ sym (append_assoc given (option_to_list out) (map printed (take_each h (sessions_in ps) v).1)),
    )

-- those left are ready after one was carried out
pub left_ready : (s : Schema) (b c : Book) (p : Pending) (ps : List Pending) → AreOnce (sessions_in (p ∷ ps)) → AreReady s b (p ∷ ps) → c ≡ record b { sessions = at_number (λ x. (take (served_by s) (revision_in b) x).1) b.sessions p.0 } → AreReady s c ps
left_ready s b c p ps once h is = subst (λ (d : Book). AreReady s d ps) (sym is) (still_ready s b p.0 (λ x. (take (served_by s) (revision_in b) x).1) ps once.0 h.1)

-- ---- the messages of a round

abbrev message_of : Book → Pending → Option Session → List (ℕ × List ℕ)
message_of b p o = option_to_list (option_map (λ t. let q : ℕ × List ℕ = (p.0, t) in q) (text_from p.1.text (option_and_then (λ x. last_used p.1.items x.queue) o)))

-- what another session becomes changes no message
stays_given : (b : Book) (n : ℕ) (x : Session) (ps : List Pending) → is_listed n (sessions_in ps) ≡ false → flat_map (given_by b) ps ≡ flat_map (given_by (record b { sessions = insert b.sessions n x })) ps
stays_given b n x [] e = refl
stays_given b n x (p ∷ ps) e =
    let k : (p.0 == n ≡ false) × (is_listed n (sessions_in ps) ≡ false) = neither (p.0 == n) (is_listed n (sessions_in ps)) e in
    let same : get (insert b.sessions n x) p.0 ≡ get b.sessions p.0 =
    get-insert b.sessions n x p.0 ∙ ap (λ c. cond c (Some x) (get b.sessions p.0)) (apart_keys p.0 n (sym (eq_turned p.0 n) ∙ k.0))
    in
    let rest : flat_map (given_by b) ps ≡ flat_map (given_by (record b { sessions = insert b.sessions n x })) ps = stays_given b n x ps k.1 in
    λ i. message_of b p (sym same i) ++ rest i

abbrev given_with : Book → List Pending → Sessions → List (ℕ × List ℕ)
given_with b ps m = flat_map (given_by (record b { sessions = m })) ps

still_given : (b : Book) (n : ℕ) (f : Session → Session) (ps : List Pending) → is_listed n (sessions_in ps) ≡ false → flat_map (given_by b) ps ≡ flat_map (given_by (record b { sessions = at_number f b.sessions n })) ps
still_given b n f ps e = by (get b.sessions n) refl
  where
    by : (o : Option Session) → get b.sessions n ≡ o → flat_map (given_by b) ps ≡ flat_map (given_by (record b { sessions = at_number f b.sessions n })) ps
    by None there = sym (ap (given_with b ps) (at_shut f b.sessions n there))
    by (Some x) there = stays_given b n (f x) ps e ∙ sym (ap (given_with b ps) (at_open f b.sessions n x there))

-- what is sent are the texts that are ready, in their order
pub all_given : (s : Schema) (b : Book) (w : World) (ps : List Pending) → revision_of w ≡ revision_in b → w.sessions ≡ b.sessions → AreOnce (sessions_in ps) → AreReady s b ps
    → map printed (take_each (served_by s) (sessions_in ps) w).1 ≡ flat_map (given_by b) ps
all_given s b w [] revision sessions once h = refl
all_given s b w (p ∷ ps) revision sessions once h =
    let f : Session → Session = λ x. (take (served_by s) (revision_in b) x).1 in
    let c : Book = record b { sessions = at_number f b.sessions p.0 } in
    let v : World = then_with w c.sessions in
    let text : Option (List ℕ) = text_from p.1.text (option_and_then (λ x. last_used p.1.items x.queue) (get b.sessions p.0)) in
    let left : then_with w (at_number (λ x. (take (served_by s) (revision_of w) x).1) w.sessions p.0) ≡ v =
    λ i. let d : Revision = revision i in then_with w (at_number (λ x. (take (served_by s) d x).1) (sessions i) p.0)
    in
    let said : text ≡ text_taken (served_by s) (revision_of w) (get w.sessions p.0) =
    text_ready s (revision_in b) (get b.sessions p.0) p.1 h.0 ∙ (λ i. text_taken (served_by s) (sym revision i) (get (sym sessions i) p.0))
    in
    let ready : AreReady s c ps = still_ready s b p.0 f ps once.0 h.1 in
    (round_on s p.0 (sessions_in ps) w v text left said).1
    ∙ ap (λ os. message_of b p (get b.sessions p.0) ++ os) (all_given s c v ps revision refl once.1 ready ∙ sym (still_given b p.0 f ps once.0))
