-- Rounds for one session alone take it dry.
use Rattle.std.proofs.Common.{◌≡◌, ℕ, suc, ◌<◌, Bool, true, false, cond, List, [], ◌∷◌, ◌++◌, length, map, Option, Some, None, Result, Ok, refl, sym, ap, subst, ◌∙◌, arith, append-nil, append_assoc, slice_index_or}
use Rattle.std.proofs.lemmas.List.{length-append}
use Rattle.std.specs.List.{flat_map}
use Rattle.std.specs.Option.{option_to_list}
use Rattle.std.specs.Ordering.{eq_by_cmp, nat_cmp}
use Rattle.serde_json.specs.Written.{compact_text}
use Rattle.odb_atoms.specs.FinMap.{FinMap, get, insert}
use Rattle.odb_service.specs.Run.{Refusal, round, sent, take_each}
use Rattle.odb_service.specs.Server.{Server, printed, serve, served_by}
use Rattle.odb_service.specs.Session.{Out, Session, drained, owed, take}
use Rattle.odb_service.proofs.WhatIsOwed as owed_ones
use Rattle.odb_service.proofs.SessionMaps.{get-insert, key-itself, same_map}
use Rattle.odb_script.specs.Script.{line_of}
use Rattle.odb_script.specs.Represented.Draining.{drained_in, drain_if, lines_for, drained_session}
use Rattle.odb_service.specs.World.{revision_of}

abbrev Sends : Type 0
Sends = List (ℕ × List ℕ)

-- how many messages a session of this number is owed
abbrev owed_if : Server → Option Session → ℕ
owed_if s None = 0
owed_if s (Some x) = length (owed (served_by s.schema) (revision_of s.world) x)

abbrev pub owed_count : ℕ → Server → ℕ
owed_count n s = owed_if s (get s.world.sessions n)

insert_again : (m : FinMap nat_cmp Session) (k : ℕ) (x y : Session) → insert (insert m k x) k y ≡ insert m k y
insert_again m k x y = same_map _ _ (λ q. get-insert (insert m k x) k y q ∙ ap (cond (eq_by_cmp nat_cmp q k) (Some y)) (get-insert m k x q) ∙ shadowed (eq_by_cmp nat_cmp q k) _ ∙ sym (get-insert m k y q))
  where
    shadowed : (b : Bool) (o : Option Session) → cond b (Some y) (cond b (Some x) o) ≡ cond b (Some y) o
    shadowed true o = refl
    shadowed false o = refl

get-itself : (m : FinMap nat_cmp Session) (k : ℕ) (x : Session) → get (insert m k x) k ≡ Some x
get-itself m k x = get-insert m k x k ∙ ap (λ b. cond b (Some x) (get m k)) (key-itself k)

-- one taking for each of these sessions that is open, and what they are sent as it is printed
abbrev takes : List ℕ → Server → Server × Sends
takes ss s =
    let r = take_each (served_by s.schema) ss s.world in
    (record s { world = r.0 }, map printed r.1)

-- one round for one session
pub one_round : (n : ℕ) (p q : Server) (os : Sends) → serve (round (n ∷ [])) p ≡ Ok (q, os) → takes (n ∷ []) p ≡ (q, os)
one_round n p q os e = same_Ok _ _ e
  where
    same_Ok : (a b : Server × Sends) → ◌≡◌ {A = Result (Server × Sends) Refusal} (Ok a) (Ok b) → a ≡ b
    same_Ok a b r = cc

module _ (name : List ℕ) (n : ℕ) (p : Server) (t : List ℕ) where
  -- where the session took once
  abbrev after_one : Session → Server
  after_one y = record p { world = record (p.world) { sessions = insert p.world.sessions n y } }

  took : (x : Session) → get p.world.sessions n ≡ Some x → takes (n ∷ []) p ≡ (after_one (take (served_by p.schema) (revision_of p.world) x).1, map printed (sent n (take (served_by p.schema) (revision_of p.world) x).0 ++ []))
  took x there = rw there refl

  took_none : get p.world.sessions n ≡ None → takes (n ∷ []) p ≡ (p, [])
  took_none absent = rw absent refl

  dry-some : (x : Session) → get p.world.sessions n ≡ Some x → drained_session name n (p, t) ≡ (drained_in n p x, t ++ lines_for name p x)
  dry-some x there = ap (λ o. drain_if name n o (p, t)) there

  -- a taking that gives nothing is the last
  pub ends : (x : Session) → get p.world.sessions n ≡ Some x → (take (served_by p.schema) (revision_of p.world) x).0 ≡ None → drained_session name n (p, t) ≡ (after_one (take (served_by p.schema) (revision_of p.world) x).1, t)
  ends x there none =
      let h = served_by p.schema in
      dry-some x there
      ∙ (λ i. let r : Server × List ℕ = (after_one (sym ((owed_ones.takes h (revision_of p.world) x).none none) i), t ++ flat_map (λ o. line_of name (compact_text o.message)) (owed_ones.none_owed h (revision_of p.world) x none i)) in r)
      ∙ ap (λ u. let r : Server × List ℕ = (after_one (take h (revision_of p.world) x).1, u) in r) (append-nil t)

  -- one that gives a message leaves the others owed
  goes_on : (x : Session) (o : Out) → get p.world.sessions n ≡ Some x → (take (served_by p.schema) (revision_of p.world) x).0 ≡ Some o
      → drained_session name n (p, t) ≡ drained_session name n (after_one (take (served_by p.schema) (revision_of p.world) x).1, t ++ line_of name (compact_text o.message))
  goes_on x o there gives =
      let h = served_by p.schema in
      let revision = revision_of p.world in
      let y = (take h revision x).1 in
      let k = owed_ones.takes h revision x in
      let owes : owed h revision x ≡ o ∷ owed h revision y = k.owes ∙ ap (λ a. option_to_list a ++ owed h revision y) gives in
      let back : get (after_one y).world.sessions n ≡ Some y = get-itself p.world.sessions n y in
      let stays : insert p.world.sessions n (drained h revision.db x) ≡ insert (insert p.world.sessions n y) n (drained h revision.db y) = ap (insert p.world.sessions n) (sym k.ends) ∙ sym (insert_again p.world.sessions n y (drained h revision.db y)) in
      let line = line_of name (compact_text o.message) in
      let told : t ++ flat_map (λ a. line_of name (compact_text a.message)) (owed h revision x) ≡ (t ++ line) ++ flat_map (λ a. line_of name (compact_text a.message)) (owed h revision y) = ap (λ os. t ++ flat_map (λ a. line_of name (compact_text a.message)) os) owes ∙ sym (append_assoc t line _) in
      dry-some x there
      ∙ (λ i. let r : Server × List ℕ = (record p { world = record (p.world) { sessions = stays i } }, told i) in r)
      ∙ ap (λ a. drain_if name n a (after_one y, t ++ line)) (sym back)

  -- fewer are owed then
  fewer : (x : Session) (o : Out) → get p.world.sessions n ≡ Some x → (take (served_by p.schema) (revision_of p.world) x).0 ≡ Some o
      → owed_count n (after_one (take (served_by p.schema) (revision_of p.world) x).1) < owed_count n p
  fewer x o there gives =
      let h = served_by p.schema in
      let revision = revision_of p.world in
      let y = (take h revision x).1 in
      let k = owed_ones.takes h revision x in
      let owes : owed h revision x ≡ o ∷ owed h revision y = k.owes ∙ ap (λ a. option_to_list a ++ owed h revision y) gives in
      let now : owed_count n (after_one y) ≡ length (owed h revision y) = ap (owed_if (after_one y)) (get-itself p.world.sessions n y) in
      let before : owed_count n p ≡ suc (length (owed h revision y)) = ap (owed_if p) there ∙ ap length owes in
      omega (arith, now, before)

  -- what a round says of a session that is drained
  pub record Rests (q : Server) (os : Sends) : Type 0 where
    pub last : os ≡ [] → drained_session name n (p, t) ≡ (q, t)
    pub more : (rest : Sends) (k : ℕ) (line : List ℕ) → os ≡ rest ++ (k, line) ∷ [] → (drained_session name n (p, t) ≡ drained_session name n (q, t ++ line_of name line)) × (owed_count n q < owed_count n p)

  -- of a list that has one member at most, the last is the only one
  only : (o : Option Out) (rest : Sends) (k : ℕ) (line : List ℕ) → map printed (sent n o ++ []) ≡ rest ++ (k, line) ∷ [] → (a : Out) × (o ≡ Some a) × (compact_text a.message ≡ line)
  only None rest k line e = absurd (omega (arith, ap length e, length-append rest ((k, line) ∷ [])))
  only (Some a) [] k line e = (a, refl, ap (λ (os : Sends). (slice_index_or {A = ℕ × List ℕ} os 0 (k, line)).1) e)
  only (Some a) (r ∷ rest) k line e = absurd (omega (arith, ap length e, length-append rest ((k, line) ∷ [])))

  rests_by : (x : Session) → get p.world.sessions n ≡ Some x → Rests (after_one (take (served_by p.schema) (revision_of p.world) x).1) (map printed (sent n (take (served_by p.schema) (revision_of p.world) x).0 ++ []))
  rests_by x there = record {
    last = λ none. ends x there (nothing (take (served_by p.schema) (revision_of p.world) x).0 none);
    more = λ rest k line e.
        let one = only (take (served_by p.schema) (revision_of p.world) x).0 rest k line e in
        (goes_on x one.0 there one.1 ∙ ap (λ u. drained_session name n (after_one (take (served_by p.schema) (revision_of p.world) x).1, t ++ line_of name u)) one.2, fewer x one.0 there one.1);
  }
    where
      nothing : (o : Option Out) → map printed (sent n o ++ []) ≡ [] → o ≡ None
      nothing None e = refl
      nothing (Some a) e = absurd (cons_nil e)
        where
          cons_nil : ◌≡◌ {A = Sends} (printed (n, a) ∷ []) [] → ⊥
          cons_nil f = cc

  pub rests : (q : Server) (os : Sends) → takes (n ∷ []) p ≡ (q, os) → Rests q os
  rests q os e = by (get p.world.sessions n) refl
    where
      by : (o : Option Session) → get p.world.sessions n ≡ o → Rests q os
      by None absent =
          let r : ◌≡◌ {A = Server × Sends} (p, []) (q, os) = sym (took_none absent) ∙ e in
          subst (λ (u : Server × Sends). Rests u.0 u.1) r (record { last = λ _. ap (λ o. drain_if name n o (p, t)) absent; more = λ rest k line f. absurd (no_last rest k line f) })
        where
          no_last : (rest : Sends) (k : ℕ) (line : List ℕ) → ◌≡◌ {A = Sends} [] (rest ++ (k, line) ∷ []) → ⊥
          no_last rest k line f = omega (arith, ap length f, length-append rest ((k, line) ∷ []))
      by (Some x) there = subst (λ (u : Server × Sends). Rests u.0 u.1) (sym (took x there) ∙ e) (rests_by x there)
