-- Which events are refused, and that sessions open and close by their events alone.
use Rattle.std.proofs.Common.{◌≡◌, ℕ, ◌==◌, ◌||◌, Bool, true, false, cond, not, ◌&&◌, List, [], Option, Some, None, Result, Ok, Err, is_some, refl, sym, ◌∙◌, ap}
use Rattle.std.specs.Prelude.{nat_lt}
use Rattle.std.specs.Result.{result_err}
use Rattle.std.specs.Ordering.{nat_cmp, eq_by_cmp}
use borrow.Author.Tests.{eq-eqb}
use Rattle.serde_json.specs.Data.{Data}
use Rattle.odb_atoms.specs.FinMap.{get, len}
use Rattle.odb_law.proofs.Calls.{reads, replies}
use Rattle.odb_service.proofs.SessionMaps.{get-insert, same_key}
use Rattle.odb_law.proofs.EventSteps.{Stepped, next_is, opened_world}
use Rattle.odb_law.specs.Law.{TakesEvents, open_after, refusal}
use Rattle.odb_service.specs.Run.{Event, Refusal, Sent, State, after, busy, closed, gone, if_ok, in_use, max_owed, max_sessions, once, opened, round, step, submit, submitted, ticked, too_many}
use Rattle.odb_wire.specs.Message.{is_request}
use Rattle.odb_service.specs.Service.{Service}
use Rattle.odb_service.specs.Session.{Session}
use Rattle.odb_service.specs.World.{World, at_moment, close, handle, owed_replies}
use Rattle.odb_rpc.specs.Message.{Call, call_of, has_reply}
use Rattle.odb_atoms.specs.Uuid.{Uuid}
use Rattle.odb_service.proofs.OnlyPosts.{Rest, takes_each}
use Rattle.odb_service.proofs.SessionMaps.{other}
use Rattle.odb_service.proofs.WhoIsOpen.{closes, handles, ticks}

err_if_ok : {A B E : Type 0} (f : A → B) (r : Result A E) → result_err (if_ok (λ x. let y : Result B E = Ok (f x) in y) r) ≡ result_err r
err_if_ok f (Ok x) = refl
err_if_ok f (Err e) = refl

module _ (h : Service) where
  -- ---- refusals

  opening : (b c : Bool) (r : World × List Sent) → result_err (cond b (Err too_many) (cond c (Err in_use) (Ok r))) ≡ cond b (Some too_many) (cond c (Some in_use) None)
  opening true c r = refl
  opening false true r = refl
  opening false false r = refl

  accepting : (b : Bool) (w : World) → result_err (cond b (Err busy) (Ok w)) ≡ cond b (Some busy) None
  accepting true w = refl
  accepting false w = refl

  submitting : (s : ℕ) (d : Data) (fresh : List Uuid) (now : ℕ) (w : World) (o : Option Session)
      → result_err (submit h s o d fresh now w) ≡ (elim o as (λ _. Option Refusal) [ None ↦ Some gone | Some x ↦ cond (is_request d && not (nat_lt (owed_replies h s x w) max_owed)) (Some busy) None ])
  submitting s d fresh now w None = refl
  submitting s d fresh now w (Some x) =
      let c : Call = call_of h.db_name h.schema h.serves d in
      accepting (has_reply c && not (nat_lt (owed_replies h s x w) max_owed)) (handle h s d fresh c (at_moment h now w))
      ∙ ap (λ b. cond (b && not (nat_lt (owed_replies h s x w) max_owed)) (Some busy) None) (replies h (is_request d) d c (reads h d))

  closing : (b : Bool) (r : World × List Sent) → result_err (cond b (Ok r) (Err gone)) ≡ cond b None (Some gone)
  closing true r = refl
  closing false r = refl

  refuses : (st : State) (e : Event) → result_err (step h e st.world) ≡ refusal h st e
  refuses st (opened s) = opening (not (nat_lt (len st.world.sessions) max_sessions)) (is_some (get st.world.sessions s)) (opened_world h s st.world, [])
  refuses st (submitted s d fresh now) = err_if_ok (λ v. let p : World × List Sent = (v, []) in p) (submit h s (get st.world.sessions s) d fresh now st.world) ∙ submitting s d fresh now st.world (get st.world.sessions s)
  refuses st (closed s) = closing (is_some (get st.world.sessions s)) (close h s st.world, [])
  refuses st (ticked now) = refl
  refuses st (round ss) = refl

  opens : (t : ℕ) (w : World) (s : ℕ) → is_some (get (opened_world h t w).sessions s) ≡ ((t == s) || is_some (get w.sessions s))
  opens t w s =
      ap is_some (get-insert w.sessions t (record { queue = []; monitors = [] }) s)
      ∙ elim (eq_by_cmp nat_cmp s t) as (λ b. eq_by_cmp nat_cmp s t ≡ b → is_some (cond b (Some (let x : Session = record { queue = []; monitors = [] } in x)) (get w.sessions s)) ≡ ((t == s) || is_some (get w.sessions s))) [
        | true ↦ λ tie. ap (λ b. b || is_some (get w.sessions s)) (sym (eq-eqb t s (sym (same_key s t tie))))
        | false ↦ λ apart. ap (λ b. b || is_some (get w.sessions s)) (sym (other s t apart))
      ] refl

  stepped_open : (e : Event) (w : World) (r : World × List Sent) → Stepped h e w r → (s : ℕ) → is_some (get r.0.sessions s) ≡ open_after e s (is_some (get w.sessions s))
  stepped_open (opened t) w r is s = ap (λ (p : World × List Sent). is_some (get p.0.sessions s)) (sym is.1) ∙ opens t w s
  stepped_open (submitted t d fresh now) w r is s = ap (λ (p : World × List Sent). is_some (get p.0.sessions s)) (sym is.2) ∙ handles h t d fresh (call_of h.db_name h.schema h.serves d) (at_moment h now w) s
  stepped_open (ticked now) w r is s = ap (λ (p : World × List Sent). is_some (get p.0.sessions s)) (sym is) ∙ ticks h now w s
  stepped_open (closed t) w r is s = ap (λ (p : World × List Sent). is_some (get p.0.sessions s)) (sym is) ∙ closes h t w s
  stepped_open (round ss) w r is s = ap (λ (p : World × List Sent). is_some (get p.0.sessions s)) (sym is) ∙ ap (λ (r : Rest). r.3 s) (takes_each h (once ss) w)

  pub takes_events : TakesEvents h
  takes_events = record {
    refused = λ st e. err_if_ok (after h e st) (step h e st.world) ∙ refuses st e;
    sessions = λ st now e is s.
        let n : (r : World × List Sent) × Stepped h e st.world r × (after h e st r ≡ now) = next_is h e st now is in
        ap (λ (m : State). is_some (get m.world.sessions s)) (sym n.2) ∙ stepped_open e st.world n.0 n.1 s;
  }
