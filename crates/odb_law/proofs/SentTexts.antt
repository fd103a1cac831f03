-- What a server sent are the texts of what the machine's run over the same events gave.
use Rattle.std.proofs.Common.{◌≡◌, ◌==◌, ℕ, Bool, true, false, cond, List, [], ◌∷◌, ◌++◌, map, length, Some, Ok, refl, sym, ◌∙◌, ap, true≢false, append_assoc}
use Rattle.odb_atoms.specs.FinMap.{get}
use Rattle.serde_json.specs.Data.{Data}
use Rattle.odb_law.proofs.BroughtToNow.{head_of, no_empty}
use Rattle.odb_law.proofs.EventSteps.{Stepped, if_ok_is, ok_is, run_on, stepped}
use Rattle.odb_law.proofs.RequestNames.{reads_named}
use Rattle.odb_law.proofs.RepliesAtOnce.{replies_at_once}
use Rattle.odb_law.proofs.SessionInvariant.{map-append}
use Rattle.odb_law.proofs.WholeMessages.{brings_whole}
use Rattle.odb_law.specs.Headline.{HasTurn, HoldsAlways, IsReached, IsWhole, about}
use Rattle.odb_law.specs.Sent.{AreServed, EndsWhole, HoldsOfTexts, IsRun, IsRunOf, RepliesAreWhole, Taken, Text, TextsBringWhole, events, server_after, text_of, texts_since, texts_to}
use Rattle.odb_rpc.specs.Served.{served}
use Rattle.odb_schema.specs.Schema.{Schema}
use Rattle.odb_service.specs.Run.{Event, Sent, State, after, beginning, closed, if_ok, next, opened, opens, round, sent_to, step, submitted, ticked}
use Rattle.odb_service.specs.Server.{Server, opened_after, printed, serve, served_by}
use Rattle.odb_service.specs.Service.{Service}
use Rattle.odb_service.specs.Session.{Out, Session}
use Rattle.odb_service.specs.World.{World}

texts-sent : (s : ℕ) (os : List Sent) → map text_of (sent_to s os) ≡ texts_to s (map printed os)
texts-sent s [] = refl
texts-sent s (o ∷ os) =
    elim (o.0 == s) as (λ b. map text_of (cond b (o.1 ∷ sent_to s os) (sent_to s os)) ≡ cond b (text_of o.1 ∷ texts_to s (map printed os)) (texts_to s (map printed os))) [
      | true ↦ ap (λ ts. text_of o.1 ∷ ts) (texts-sent s os)
      | false ↦ texts-sent s os
    ]

-- ---- one event

abbrev Served : Type 0
Served = Server × List (ℕ × Text)

abbrev answer : Event → Server → World × List Sent → Served
answer e s r = (record { schema = s.schema; world = r.0; opened = opened_after e s.opened }, map printed r.1)

abbrev Steps : Event → Server → Served → Type 0
Steps e s p = (r : World × List Sent) × (step (served_by s.schema) e s.world ≡ Ok r) × (answer e s r ≡ p)

step_of : (e : Event) (s : Server) (p : Served) → serve e s ≡ Ok p → Steps e s p
step_of e s p is =
    let m : (r : World × List Sent) × (step (served_by s.schema) e s.world ≡ Ok r) × (Ok (answer e s r) ≡ Ok p) = if_ok_is (λ r. Ok (answer e s r)) (step (served_by s.schema) e s.world) p is in
    (m.0, m.1, ok_is (answer e s m.0) p m.2)

no_sent : (h : Service) (e : Event) (w : World) (r : World × List Sent) → Stepped h e w r → (s : ℕ) → opens e s ≡ true → r.1 ≡ []
no_sent h (opened t) w r k s is = ap (λ (q : World × List Sent). q.1) (sym k.1)
no_sent h (submitted t d fresh now) w r k s is = absurd (true≢false (sym is))
no_sent h (ticked now) w r k s is = absurd (true≢false (sym is))
no_sent h (closed t) w r k s is = absurd (true≢false (sym is))
no_sent h (round ss) w r k s is = absurd (true≢false (sym is))

opening_sends_nothing : (e : Event) (s : Server) (p : Served) → serve e s ≡ Ok p → (t : ℕ) → opens e t ≡ true → p.1 ≡ []
opening_sends_nothing e s p is t opening =
    let m : Steps e s p = step_of e s p is in
    ap (λ (q : Served). q.1) (sym m.2) ∙ ap (map printed) (no_sent (served_by s.schema) e s.world m.0 (stepped (served_by s.schema) e s.world m.0 m.1) t opening)

-- ---- lists

-- a list is parted as what f makes of it is
abbrev PartedAs : {A B : Type 0} → (A → B) → List A → List B → B → List B → Type 0
PartedAs {A} {B} f xs ys z zs = (a : List A) × (o : A) × (b : List A) × (xs ≡ a ++ o ∷ b) × (map f a ≡ ys) × (f o ≡ z) × (map f b ≡ zs)

parted : {A B : Type 0} (f : A → B) (xs : List A) (ys : List B) (z : B) (zs : List B) → map f xs ≡ ys ++ z ∷ zs → PartedAs f xs ys z zs
parted f [] ys z zs e = absurd (no_empty ys z zs e)
parted f (x ∷ xs) [] z zs e =
    let t : (f x ≡ z) × (map f xs ≡ zs) = head_of (f x) z (map f xs) zs e in
    ([], x, xs, refl, refl, t.0, t.1)
parted f (x ∷ xs) (y ∷ ys) z zs e =
    let t : (f x ≡ y) × (map f xs ≡ ys ++ z ∷ zs) = head_of (f x) y (map f xs) (ys ++ z ∷ zs) e in
    let r : PartedAs f xs ys z zs = parted f xs ys z zs t.1 in
    (x ∷ r.0, r.1, r.2, ap (λ l. x ∷ l) r.3, (λ i. t.0 i ∷ r.4 i), r.5, r.6)

-- ---- runs

module _ (schema : Schema) (word most : ℕ) where
  abbrev machine : Service
  machine = served_by schema

  same_schema : (ts : List Taken) → AreServed schema word most ts → (server_after schema word most ts).schema ≡ schema
  same_schema [] a = refl
  same_schema (t ∷ ts) a =
      let m : Steps t.event (server_after schema word most ts) (t.server, t.sent) = step_of t.event (server_after schema word most ts) (t.server, t.sent) a.0 in
      sym (ap (λ (p : Served). p.0.schema) m.2) ∙ same_schema ts a.1

  -- the run goes on with the newest event
  record GoesOn (t : Taken) (ts : List Taken) (st : State) : Type 0 where
    now : State
    goes : next machine t.event st ≡ Ok now
    is_run : IsRunOf schema word most (t ∷ ts) now
    fresh : ℕ → List Out
    fresh_texts : (s : ℕ) → map text_of (fresh s) ≡ texts_to s t.sent
    given : (s : ℕ) → opens t.event s ≡ false → now.given s ≡ st.given s ++ fresh s

  goes_on : (t : Taken) (ts : List Taken) → AreServed schema word most (t ∷ ts) → (st : State) → IsRunOf schema word most ts st → GoesOn t ts st
  goes_on t ts a st k =
      let m : Steps t.event (server_after schema word most ts) (t.server, t.sent) = step_of t.event (server_after schema word most ts) (t.server, t.sent) a.0 in
      let now : State = after machine t.event st m.0 in
      let stepped : step machine t.event st.world ≡ Ok m.0 = (λ i. step (served_by (sym (same_schema ts a.1) i)) t.event (k.world i)) ∙ m.1 in
      let goes : next machine t.event st ≡ Ok now = ap (if_ok (λ r. Ok (after machine t.event st r))) stepped in
      let fresh_texts : (s : ℕ) → map text_of (sent_to s m.0.1) ≡ texts_to s t.sent = λ s. texts-sent s m.0.1 ∙ ap (λ (p : Served). texts_to s p.1) m.2 in
      record {
        now = now;
        goes = goes;
        is_run = record {
          is_run = run_on machine (events ts) (beginning word most (length schema.tables)) st now t.event k.is_run goes;
          world = ap (λ (p : Served). p.0.world) m.2;
          texts = λ s. elim (opens t.event s) as (λ b. map text_of (cond b [] (st.given s ++ sent_to s m.0.1)) ≡ cond b [] (texts_since ts s ++ texts_to s t.sent)) [
            | true ↦ refl
            | false ↦ map-append text_of (st.given s) (sent_to s m.0.1) ∙ (λ i. k.texts s i ++ fresh_texts s i)
          ];
        };
        fresh = λ s. sent_to s m.0.1;
        fresh_texts = fresh_texts;
        given = λ s quiet. ap (λ b. cond b [] (st.given s ++ sent_to s m.0.1)) quiet;
      }

  pub is_run : IsRun schema word most
  is_run [] a = (beginning word most (length schema.tables), record { is_run = refl; world = refl; texts = λ s. refl })
  is_run (t ∷ ts) a =
      let k : (st : State) × IsRunOf schema word most ts st = is_run ts a.1 in
      let n : GoesOn t ts k.0 = goes_on t ts a k.0 k.1 in
      (n.now, n.is_run)

  reached : (ts : List Taken) (st : State) → IsRunOf schema word most ts st → IsReached machine st
  reached ts st k = (word, most, length schema.tables, events ts, k.is_run)

  pub holds_of_texts : (P : State → ℕ → Session → Type 0) → HoldsAlways machine P → HoldsOfTexts schema word most P
  holds_of_texts P always ts a s x found =
      let k : (st : State) × IsRunOf schema word most ts st = is_run ts a in
      (k.0, k.1, always k.0 (reached ts k.0 k.1) s x (ap (λ (w : World). get w.sessions s) k.1.world ∙ found))

  abbrev Whole : Taken → List Taken → ℕ → List Text → Text → List Text → Type 0
  Whole t ts s before text rest =
      (before ≡ []) × (rest ≡ []) × HasTurn s t.event × (t.server.world.db ≡ (server_after schema word most ts).world.db)
      × ((x : Session) → get t.server.world.sessions s ≡ Some x → (st : State) × IsRunOf schema word most (t ∷ ts) st × EndsWhole schema word most st s x text)

  pub texts_bring_whole : TextsBringWhole schema word most
  texts_bring_whole t ts a s before text rest e = by (opens t.event s) refl
    where
      by : (b : Bool) → opens t.event s ≡ b → Whole t ts s before text rest
      by true opening = absurd (no_empty before text rest (sym (ap (texts_to s) (opening_sends_nothing t.event (server_after schema word most ts) (t.server, t.sent) a.0 s opening)) ∙ e))
      by false quiet =
          let k : (st : State) × IsRunOf schema word most ts st = is_run ts a.1 in
          let n : GoesOn t ts k.0 = goes_on t ts a k.0 k.1 in
          let p : PartedAs text_of (n.fresh s) before text rest = parted text_of (n.fresh s) before text rest (n.fresh_texts s ∙ e) in
          let given : n.now.given s ≡ k.0.given s ++ (p.0 ++ p.1 ∷ p.2) = n.given s quiet ∙ ap (λ os. k.0.given s ++ os) p.3 in
          let w : (p.0 ≡ []) × (p.2 ≡ []) × HasTurn s t.event × (n.now.world.db ≡ k.0.world.db) × ((x : Session) → get n.now.world.sessions s ≡ Some x → (i : Data) → about p.1 ≡ Some i → IsWhole machine n.now s x i) =
          brings_whole machine (reads_named served schema) k.0 (reached ts k.0 k.1) t.event n.now n.goes s quiet p.0 p.1 p.2 (given ∙ sym (append_assoc (k.0.given s) p.0 (p.1 ∷ p.2))) in (
            sym p.4 ∙ ap (map text_of) w.0,
            sym p.6 ∙ ap (map text_of) w.1,
            w.2,
            sym (ap (λ (v : World). v.db) n.is_run.world) ∙ w.3 ∙ ap (λ (v : World). v.db) k.1.world,
            λ x found. (
              n.now,
              n.is_run,
              record {
                before = k.0.given s;
                last = p.1;
                is_last = given ∙ (λ i. k.0.given s ++ (w.0 i ++ p.1 ∷ w.1 i));
                has_text = p.5;
                whole = w.4 x (ap (λ (v : World). get v.sessions s) n.is_run.world ∙ found);
              },
            ),
          )

  pub replies_are_whole : RepliesAreWhole schema word most
  replies_are_whole t ts a s d fresh moment is at_once x found =
      let k : (st : State) × IsRunOf schema word most ts st = is_run ts a.1 in
      let n : GoesOn t ts k.0 = goes_on t ts a k.0 k.1 in (
        n.now,
        n.is_run,
        replies_at_once machine (reads_named served schema) k.0 n.now (reached ts k.0 k.1) s d fresh moment (ap (λ (e : Event). next machine e k.0) (sym is) ∙ n.goes) at_once x (ap (λ (v : World). get v.sessions s) n.is_run.world ∙ found),
      )
