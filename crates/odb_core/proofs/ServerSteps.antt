-- What a server does at each event.
use Rattle.std.proofs.Common.{◌≡◌, ℕ, Bool, true, false, not, nat_lt, ◌&&◌, List, [], map, Some, None, is_some, Result, Ok, Err, refl, sym, ap, ◌∙◌}
use Rattle.odb_atoms.specs.FinMap.{get, len}
use Rattle.odb_atoms.specs.Uuid.{Uuid}
use Rattle.odb_schema.specs.Json.{Data}
use Rattle.odb_service.specs.Run.{Refusal, busy, closed, gone, max_owed, max_sessions, once, opened, round, submitted, take_each}
use Rattle.odb_service.specs.Server.{Server, printed, serve, served_by}
use Rattle.odb_service.specs.Session.{Session}
use Rattle.odb_service.specs.World.{World, at_moment, close, handle, owed_replies}
use Rattle.odb_rpc.specs.Message.{has_reply}
use Rattle.odb_queue.specs.Represented.Answer.{call_at}
use Rattle.odb_core.specs.Represented.Core.{with_session}
use Rattle.odb_core.specs.Represented.Rounds.{IsRoundOf}
use Rattle.odb_core.specs.Represented.Steps.{by_service}

abbrev pub placed : Server → World → Server
placed v w = record v { world = w }

-- where nothing but the world changed
pub framed : (v u : Server) (w : World) → placed v w ≡ u → placed v u.world ≡ u
framed v u w e = λ j. record { schema = (e j).schema; world = u.world; opened = (e j).opened }

abbrev pub Served : Type 0
Served = Result (Server × List (ℕ × List ℕ)) Refusal

module _ (v : Server) where
  pub opens : nat_lt (len v.world.sessions) max_sessions ≡ true → get v.world.sessions v.opened ≡ None → serve (opened v.opened) v ≡ Ok (with_session v, [])
  opens fits free =
      let vacant : is_some (get v.world.sessions v.opened) ≡ false = ap is_some free in
      rw (fits, vacant) refl

  pub closes : (s : ℕ) → is_some (get v.world.sessions s) ≡ true → serve (closed s) v ≡ Ok (by_service (λ h. close h s) v, [])
  closes s there = rw there refl

  pub is_gone : (s : ℕ) → is_some (get v.world.sessions s) ≡ false → serve (closed s) v ≡ Err gone
  is_gone s absent = rw absent refl

  module _ (s : ℕ) (d : Data) (fresh : List Uuid) (t : ℕ) where
    abbrev result : Served
    result = serve (submitted s d fresh t) v

    abbrev is_busy : Session → Bool
    is_busy x = has_reply (call_at v.schema d) && not (nat_lt (owed_replies (served_by v.schema) s x v.world) max_owed)

    pub submit-gone : get v.world.sessions s ≡ None → result ≡ Err gone
    submit-gone absent = rw absent refl

    pub submit-busy : (x : Session) → get v.world.sessions s ≡ Some x → is_busy x ≡ true → result ≡ Err busy
    submit-busy x there is = rw (there, is) refl

    pub submit-ok : (x : Session) → get v.world.sessions s ≡ Some x → is_busy x ≡ false → result ≡ Ok (by_service (λ h w. handle h s d fresh (call_at v.schema d) (at_moment h t w)) v, [])
    submit-ok x there free = rw (there, free) refl

  -- a round, by what it makes of the server and what it gives
  pub rounds : (ready listed : List ℕ) (u : Server) (outs : List (ℕ × List ℕ)) → listed ≡ once ready → IsRoundOf listed v u outs → serve (round ready) v ≡ Ok (u, outs)
  rounds ready listed u outs is h =
      ap (λ (ss : List ℕ). let t = take_each (served_by v.schema) ss v.world in let r : Served = Ok (placed v t.0, map printed t.1) in r) (sym is)
      ∙ (λ i. let r : Served = Ok (h.0 i, h.1 i) in r)
