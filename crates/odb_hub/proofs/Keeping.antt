-- What is kept stays so at each event.
use Rattle.std.proofs.Common.{◌≡◌, ℕ, ◌+◌, ◌==◌, ◌≤◌, length, Bool, true, false, cond, List, [], ◌∷◌, ◌++◌, map, Option, Some, None, is_some, refl, sym, ap, subst, ◌∙◌, append-nil, append_assoc, true≢false, arith, Ok}
use Rattle.std.specs.Prelude.{◌-◌, ◌^◌, min, nat_le, option_to_list}
use Rattle.std.proofs.lemmas.List.{length-append, length-map}
use Rattle.std.proofs.lemmas.Bool.Decides.{nat_tests}
use Rattle.std.specs.Ordering.{eq_by_cmp, nat_cmp}
use borrow.Author.Tests.{eq-eqb}
use Rattle.serde_json.specs.Data.{Data}
use Rattle.odb_atoms.specs.FinMap.{empty, get, insert, remove}
use Rattle.odb_atoms.specs.Uuid.{Uuid}
use Rattle.odb_hub.specs.Guarded.{AreOpen, AreSent, AreTold, AreUnused, EndsWith, IsGuarded, IsNew, counted, Guarded, Takes, is_in, text_of}
use Rattle.odb_hub.specs.Rings.{IsFlushedAt, IsServed, Ring, Rings, Text, texts, texts_to}
use Rattle.odb_hub.proofs.HandingOver.{flushed_texts, still_texts}
use Rattle.odb_hub.proofs.Stepping.{IsTold, sent_on, history_begins, history_on, ends_nothing, open_closed, open_opened, open_round, open_submitted, open_ticked, ok_is, served_with, step_of, told_on}
use Rattle.odb_hub.proofs.Takings.{most_given, texts_printed}
use Rattle.odb_core.specs.Represented.Core.{new_server}
use Rattle.odb_service.proofs.SessionMaps.{get-empty, get-insert, get-remove, other, same_key, same_map}
use Rattle.odb_schema.specs.Schema.{Schema}
use Rattle.odb_service.specs.History.{IsHistory}
use Rattle.odb_service.specs.Run.{Event, Sent, closed, given_after, once, opened, opens, round, sent_to, step, submitted, take_each, ticked}
use Rattle.odb_service.specs.Server.{Server, opened_after, printed, serve, served_by}
use Rattle.odb_service.specs.Session.{Out}
use Rattle.odb_service.specs.World.{World}

abbrev Step : Type 0
Step = World × List Sent

-- the rings of an event that sends these
abbrev Tellings : Event → Rings → Rings → List (ℕ × Text) → Type 0
Tellings e old new outs = (s : ℕ) (r : Ring) → get new s ≡ Some r → IsTold (opens e s) (texts_to s outs) (get old s) r

abbrev Openings : Event → Guarded → Rings → Type 0
Openings e old new = (r : Step) → step (served_by old.server.schema) e old.server.world ≡ Ok r → AreOpen old.rings old.server.world → AreOpen new r.0

kept_on : (e : Event) (old new : Guarded) (outs : List (ℕ × Text)) → IsGuarded old → Takes e old new outs → Tellings e old.rings new.rings outs → Openings e old new.rings → IsGuarded new
kept_on e old new outs kept takes told opens_so =
    let s = step_of e old.server new.server outs takes.0 in
    let r : Step = s.0 in
    let went : step (served_by old.server.schema) e old.server.world ≡ Ok r = s.1 in
    let is : served_with e old.server r ≡ (new.server, outs) = s.2 in
    let given : ℕ → List Out = given_after e r.1 kept.0.0 in
    let mid : Guarded = record { server = (served_with e old.server r).0; base = old.base; events = old.events ++ e ∷ []; rings = new.rings } in
    let history : IsHistory (served_by old.server.schema) old.base (old.events ++ e ∷ []) r.0 given = history_on (served_by old.server.schema) old.base old.server.world old.events kept.0.0 e r kept.0.1 went in
    let tells : AreTold new.rings given = told_on old.rings new.rings kept.0.0 e r.1 kept.0.2 (subst (Tellings e old.rings new.rings) (sym (ap (λ (p : Server × List (ℕ × List ℕ)). p.1) is)) told) in
    let whole = kept.2 in
    let all_given : ℕ → List Out = given_after e r.1 whole.3 in
    let start : World = (new_server whole.0 whole.1 old.server.schema).world in
    let all : IsHistory (served_by old.server.schema) start (whole.2 ++ e ∷ []) r.0 all_given = history_on (served_by old.server.schema) start old.server.world whole.2 whole.3 e r whole.4 went in
    let sent : AreSent new.rings all_given = sent_on old.rings new.rings whole.3 e r.1 whole.5 (subst (Tellings e old.rings new.rings) (sym (ap (λ (p : Server × List (ℕ × List ℕ)). p.1) is)) told) in
    let done : IsGuarded mid = ((given, history, tells), opens_so r went kept.1, (whole.0, whole.1, whole.2 ++ e ∷ [], all_given, all, sent)) in
    subst IsGuarded (λ i. let k : Guarded = record { server = (is i).0; base = sym takes.2 i; events = sym takes.1 i; rings = new.rings } in k) done

-- ---- a ring that was sent this beside

abbrev pub Grows : List Text → Option Ring → Option Ring → Type 0
Grows outs None o = o ≡ None
Grows outs (Some a) o = (b : Ring) × (o ≡ Some b) × (texts b ≡ texts a ++ outs)

pub grown : (listed : Bool) (outs : List Text) (o p : Option Ring) → IsServed listed outs o p → Grows outs o p
grown listed outs None p k = k.2
grown false outs (Some a) p k = (k.2, k.3, still_texts a k.2 k.4 ∙ sym (append-nil (texts a)) ∙ ap (λ ts. texts a ++ ts) (sym k.1))
grown true outs (Some a) p k = (k.0, k.1, ap (λ ts. ts ++ option_to_list k.0.held) k.3 ∙ append_assoc (texts a) k.2 (option_to_list k.0.held) ∙ ap (λ ts. texts a ++ ts) k.4)

-- ---- the same rings

same_told : (e : Event) (rings : Rings) → ((s : ℕ) → opens e s ≡ false) → Tellings e rings rings []
same_told e rings not_open s r there = subst (λ b. IsTold b [] (get rings s) r) (sym (not_open s)) (r, there, sym (append-nil (texts r)))

module _ (old new : Guarded) (kept : IsGuarded old) where
  pub submitted_kept : (s : ℕ) (d : Data) (fresh : List Uuid) (now : ℕ) → Takes (submitted s d fresh now) old new [] → new.rings ≡ old.rings → IsGuarded new
  submitted_kept s d fresh now takes same =
      let e : Event = submitted s d fresh now in
      kept_on e old new [] kept takes (subst (λ (m : Rings). Tellings e old.rings m []) (sym same) (same_told e old.rings (λ t. refl)))
      (subst (λ (m : Rings). Openings e old m) (sym same) (λ r went opens_so. open_submitted (served_by old.server.schema) old.rings old.server.world s d fresh now r went opens_so))

  pub ticked_kept : (now : ℕ) → Takes (ticked now) old new [] → new.rings ≡ old.rings → IsGuarded new
  ticked_kept now takes same =
      let e : Event = ticked now in
      kept_on e old new [] kept takes (subst (λ (m : Rings). Tellings e old.rings m []) (sym same) (same_told e old.rings (λ t. refl)))
      (subst (λ (m : Rings). Openings e old m) (sym same) (λ r went opens_so. open_ticked (served_by old.server.schema) old.rings old.server.world now r went opens_so))

  pub closed_kept : (s : ℕ) → Takes (closed s) old new [] → new.rings ≡ remove old.rings s → IsGuarded new
  closed_kept s takes same =
      let e : Event = closed s in
      kept_on e old new [] kept takes (subst (λ (m : Rings). Tellings e old.rings m []) (sym same) told)
      (subst (λ (m : Rings). Openings e old m) (sym same) (λ r went opens_so. open_closed (served_by old.server.schema) old.rings old.server.world s r went opens_so))
    where
      there : (t : ℕ) (r : Ring) (b : Bool) → cond b None (get old.rings t) ≡ Some r → get old.rings t ≡ Some r
      there t r true is = absurd (true≢false (sym (ap is_some is)))
      there t r false is = is

      told : Tellings (closed s) old.rings (remove old.rings s) []
      told t r is = (r, there t r (eq_by_cmp nat_cmp t s) (sym (get-remove old.rings s t) ∙ is), sym (append-nil (texts r)))

  pub opened_kept : (s : ℕ) (x : Ring) → texts x ≡ [] → Takes (opened s) old new [] → new.rings ≡ insert old.rings s x → IsGuarded new
  opened_kept s x nothing takes same =
      let e : Event = opened s in
      kept_on e old new [] kept takes (subst (λ (m : Rings). Tellings e old.rings m []) (sym same) told)
      (subst (λ (m : Rings). Openings e old m) (sym same) (λ r went opens_so. open_opened (served_by old.server.schema) old.rings x old.server.world s r went opens_so))
    where
      same_ring : (a b : Ring) → (let o : Option Ring = Some a in o) ≡ Some b → a ≡ b
      same_ring a b e = cc

      by : (t : ℕ) (r : Ring) (b c : Bool) → (s == t) ≡ b → eq_by_cmp nat_cmp t s ≡ c → cond c (Some x) (get old.rings t) ≡ Some r → IsTold b [] (get old.rings t) r
      by t r true true e f is = ap texts (sym (same_ring x r is)) ∙ nothing
      by t r true false e f is = absurd (true≢false (sym e ∙ other t s f))
      by t r false true e f is = absurd (true≢false (sym (eq-eqb s t (sym (same_key t s f))) ∙ e))
      by t r false false e f is = (r, is, sym (append-nil (texts r)))

      told : Tellings (opened s) old.rings (insert old.rings s x) []
      told t r is = by t r (s == t) (eq_by_cmp nat_cmp t s) refl refl (sym (get-insert old.rings s x t) ∙ is)

  pub round_kept : (ss : List ℕ) (outs : List (ℕ × Text)) → Takes (round ss) old new outs → ((s : ℕ) → Grows (texts_to s outs) (get old.rings s) (get new.rings s)) → IsGuarded new
  round_kept ss outs takes grows =
      kept_on (round ss) old new outs kept takes told (λ r went opens_so s. same s (get old.rings s) (get new.rings s) (grows s) ∙ open_round (served_by old.server.schema) old.rings old.server.world ss r went opens_so s)
    where
      same : (s : ℕ) (o p : Option Ring) → Grows (texts_to s outs) o p → is_some p ≡ is_some o
      same s None p k = ap is_some k
      same s (Some a) p k = ap is_some k.1

      same_ring : (a b : Ring) → (let o : Option Ring = Some a in o) ≡ Some b → a ≡ b
      same_ring a b e = cc

      by : (s : ℕ) (r : Ring) (o p : Option Ring) → Grows (texts_to s outs) o p → p ≡ Some r → IsTold false (texts_to s outs) o r
      by s r None p k there = absurd (true≢false (sym (sym (ap is_some k) ∙ ap is_some there)))
      by s r (Some a) p k there = (a, refl, ap texts (sym (same_ring k.0 r (sym k.1 ∙ there))) ∙ k.2)

      told : Tellings (round ss) old.rings new.rings outs
      told s r is = by s r (get old.rings s) (get new.rings s) (grows s) is

-- ---- a round

-- a round gives a session one message at most, and none where it isn't listed
pub most_texts : (ss : List ℕ) (s t : Server) (outs : List (ℕ × Text)) → serve (round ss) s ≡ Ok (t, outs) → (q : ℕ) → length (texts_to q outs) ≤ cond (is_in q ss) 1 0
most_texts ss s t outs is q =
    let o = step_of (round ss) s t outs is in
    let r : Step = o.0 in
    let went : step (served_by s.schema) (round ss) s.world ≡ Ok r = o.1 in
    let same : map printed r.1 ≡ outs = ap (λ (p : Server × List (ℕ × List ℕ)). p.1) o.2 in
    let took : take_each (served_by s.schema) (once ss) s.world ≡ r = ok_is _ r went in
    let most : length (sent_to q r.1) ≤ cond (is_in q ss) 1 0 = subst (λ (p : Step). length (sent_to q p.1) ≤ cond (is_in q ss) 1 0) took (most_given (served_by s.schema) q ss s.world) in
    let long : length (texts_to q outs) ≡ length (sent_to q r.1) = ap (λ os. length (texts_to q os)) (sym same) ∙ ap length (texts_printed q r.1) ∙ length-map (sent_to q r.1) text_of in
    subst (λ n. n ≤ cond (is_in q ss) 1 0) (sym long) most

-- ---- the beginning, and a new base

pub new_is : (v : Server) (word most : ℕ) (s : Schema) → v ≡ new_server word most s → IsNew v
new_is v word most s e = (word, most, e ∙ ap (new_server word most) (sym (ap (λ (x : Server). x.schema) e)))

pub begins : (s : Server) → IsNew s → IsGuarded (record { server = s; base = s.world; events = []; rings = empty })
begins s new =
    let none : s.world.sessions ≡ empty = ap (λ (v : Server). v.world.sessions) new.2 in
    let start : s.world ≡ (new_server new.0 new.1 s.schema).world = ap (λ (v : Server). v.world) new.2 in (
      (λ t. [], history_begins (served_by s.schema) s.world, λ t r is. ends_nothing (texts r)),
      λ t. ap is_some (get-empty t) ∙ sym (ap (λ m. is_some (get m t)) none ∙ ap is_some (get-empty t)),
      (new.0, new.1, [], λ t. [], subst (λ (w : World). IsHistory (served_by s.schema) w [] s.world (λ t. [])) start (history_begins (served_by s.schema) s.world), λ t r is. absurd (true≢false (sym (ap is_some (sym (get-empty t) ∙ is))))),
    )

pub settles : (k : Guarded) → IsGuarded k → IsGuarded (record k { base = k.server.world; events = [] })
settles k kept = ((λ t. [], history_begins (served_by k.server.schema) k.server.world, λ t r is. ends_nothing (texts r)), kept.1, kept.2)

-- ---- numbers that are still to be given

pub unused_opened : (m : Rings) (n : ℕ) (x : Ring) → AreUnused m n → AreUnused (insert m n x) (n + 1)
unused_opened m n x unused q above = get-insert m n x q ∙ by (eq_by_cmp nat_cmp q n) refl
  where
    by : (b : Bool) → eq_by_cmp nat_cmp q n ≡ b → cond b (Some x) (get m q) ≡ None
    by true e = absurd (let is : q ≡ n = same_key q n e in omega (arith, above, is))
    by false e = unused q (omega (arith, above))

pub unused_closed : (m : Rings) (s n : ℕ) → AreUnused m n → AreUnused (remove m s) n
unused_closed m s n unused q above = get-remove m s q ∙ by (eq_by_cmp nat_cmp q s)
  where
    by : (b : Bool) → cond b None (get m q) ≡ None
    by true = refl
    by false = unused q above

none_there : (o : Option Ring) → is_some o ≡ false → o ≡ None
none_there None e = refl
none_there (Some x) e = absurd (true≢false e)

pub unused_grown : (m k : Rings) (n : ℕ) (outs : ℕ → List Text) → ((s : ℕ) → Grows (outs s) (get m s) (get k s)) → AreUnused m n → AreUnused k n
unused_grown m k n outs grows unused q above = subst (λ (o : Option Ring). Grows (outs q) o (get k q)) (unused q above) (grows q)

pub unused_flushed : (m k : Rings) (n : ℕ) → ((s : ℕ) → IsFlushedAt (get m s) (get k s)) → AreUnused m n → AreUnused k n
unused_flushed m k n flushed unused q above = subst (λ (o : Option Ring). IsFlushedAt o (get k q)) (unused q above) (flushed q)

-- one that was put in under a number that isn't used, and taken out again
pub taken_out : (m : Rings) (n : ℕ) (x : Ring) → get m n ≡ None → remove (insert m n x) n ≡ m
taken_out m n x none = same_map _ _ (λ q. get-remove (insert m n x) n q ∙ ap (cond (eq_by_cmp nat_cmp q n) None) (get-insert m n x q) ∙ by q (eq_by_cmp nat_cmp q n) refl)
  where
    by : (q : ℕ) (b : Bool) → eq_by_cmp nat_cmp q n ≡ b → cond b None (cond b (Some x) (get m q)) ≡ get m q
    by q true e = sym (ap (get m) (same_key q n e) ∙ none)
    by q false e = refl

-- nothing is sent, and no event is taken
pub grown_kept : (old new : Guarded) → IsGuarded old → new.server ≡ old.server → new.base ≡ old.base → new.events ≡ old.events → ((s : ℕ) → Grows [] (get old.rings s) (get new.rings s)) → IsGuarded new
grown_kept old new kept server base events grows =
    let whole = kept.2 in
    let done : IsGuarded (record old { rings = new.rings }) = ((kept.0.0, kept.0.1, told), λ s. same (get old.rings s) (get new.rings s) (grows s) ∙ kept.1 s, (whole.0, whole.1, whole.2, whole.3, whole.4, sent)) in
    subst IsGuarded (λ i. let k : Guarded = record { server = sym server i; base = sym base i; events = sym events i; rings = new.rings } in k) done
  where
    same : (o p : Option Ring) → Grows [] o p → is_some p ≡ is_some o
    same None p e = ap is_some e
    same (Some a) p e = ap is_some e.1

    same_ring : (a b : Ring) → (let o : Option Ring = Some a in o) ≡ Some b → a ≡ b
    same_ring a b e = cc

    sent_by : (s : ℕ) (r : Ring) (o p : Option Ring) → get old.rings s ≡ o → Grows [] o p → p ≡ Some r → texts r ≡ map text_of (kept.2.3 s)
    sent_by s r None p at e there = absurd (true≢false (sym (sym (ap is_some e) ∙ ap is_some there)))
    sent_by s r (Some a) p at e there = ap texts (sym (same_ring e.0 r (sym e.1 ∙ there))) ∙ e.2 ∙ append-nil (texts a) ∙ kept.2.5 s a at

    sent : AreSent new.rings kept.2.3
    sent s r there = sent_by s r (get old.rings s) (get new.rings s) refl (grows s) there

    by : (s : ℕ) (r : Ring) (o p : Option Ring) → get old.rings s ≡ o → Grows [] o p → p ≡ Some r → EndsWith (texts r) (map text_of (kept.0.0 s))
    by s r None p at e there = absurd (true≢false (sym (sym (ap is_some e) ∙ ap is_some there)))
    by s r (Some a) p at e there =
        let is : texts r ≡ texts a = ap texts (sym (same_ring e.0 r (sym e.1 ∙ there))) ∙ e.2 ∙ append-nil (texts a) in
        subst (λ ts. EndsWith ts (map text_of (kept.0.0 s))) (sym is) (kept.0.2 s a at)

    told : AreTold new.rings kept.0.0
    told s r there = by s r (get old.rings s) (get new.rings s) refl (grows s) there

-- a flush alone
pub flushed_kept : (k : Guarded) (m : Rings) → IsGuarded k → ((s : ℕ) → IsFlushedAt (get k.rings s) (get m s)) → IsGuarded (record k { rings = m })
flushed_kept k m kept flushed = grown_kept k (record k { rings = m }) kept refl refl refl (λ s. grows (get k.rings s) (get m s) (flushed s))
  where
    grows : (o p : Option Ring) → IsFlushedAt o p → Grows [] o p
    grows None p e = e
    grows (Some a) p e = (e.0, e.1, flushed_texts a e.0 e.2 ∙ sym (append-nil (texts a)))

-- a flush alone, which takes no event
pub flushed_state : (k : Guarded) (m : Rings) (v : Server) (count : ℕ) → v ≡ k.server → ((s : ℕ) → IsFlushedAt (get k.rings s) (get m s)) → IsGuarded k → AreUnused k.rings k.server.opened → count ≡ counted k.events
    → IsGuarded (record k { server = v; rings = m }) × AreUnused m v.opened × (count ≡ counted k.events)
flushed_state k m v count same flushed kept unused counts =
    subst (λ (u : Server). IsGuarded (record k { server = u; rings = m }) × AreUnused m u.opened × (count ≡ counted k.events)) (sym same) (flushed_kept k m kept flushed, unused_flushed k.rings m k.server.opened flushed unused, counts)

-- ---- numbers

pub same_opened : (e : Event) (s t : Server) (outs : List (ℕ × Text)) → serve e s ≡ Ok (t, outs) → t.opened ≡ opened_after e s.opened
same_opened e s t outs is = sym (ap (λ (p : Server × List (ℕ × List ℕ)). p.0.opened) (step_of e s t outs is).2)

min_more : (m n : ℕ) → min (min n m + 1) m ≡ min (n + 1) m
min_more m n = by (nat_le n m) refl
  where
    by : (b : Bool) → nat_le n m ≡ b → min (min n m + 1) m ≡ min (n + 1) m
    by true e = grind (arith, nat_tests)
    by false e = grind (arith, nat_tests)

pub counted_more : (n : ℕ) (es all : List Event) (e : Event) → n ≡ counted es → all ≡ es ++ e ∷ [] → min (n + 1) (2 ^ 64 - 1) ≡ counted all
counted_more n es all e count is =
    ap (λ k. min (k + 1) (2 ^ 64 - 1)) count ∙ min_more (2 ^ 64 - 1) (length es)
    ∙ ap (λ k. min k (2 ^ 64 - 1)) (sym (length-append es (e ∷ [])))
    ∙ ap (λ es. min (length es) (2 ^ 64 - 1)) (sym is)
