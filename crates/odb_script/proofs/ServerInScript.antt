-- What a server's steps say of the machine in a script.
use Rattle.std.proofs.Common.{◌≡◌, ℕ, List, map, Result, Ok, Err, refl, ap, sym, ◌∙◌}
use Rattle.odb_service.specs.Run.{Event, Refusal, Sent, if_ok, step}
use Rattle.odb_service.specs.Server.{Server, opened_after, printed, serve, served_by}
use Rattle.odb_service.specs.World.{World}

abbrev pub Sends : Type 0
Sends = List (ℕ × List ℕ)

-- a step that was taken
pub record Took (e : Event) (s t : Server) : Type 0 where
  pub world : if_ok (λ (r : World × List Sent). let w : Result World Refusal = Ok r.0 in w) (step (served_by s.schema) e s.world) ≡ Ok t.world
  pub schema : t.schema ≡ s.schema
  pub opened : t.opened ≡ opened_after e s.opened

abbrev served : Event → Server → Result (World × List Sent) Refusal → Result (Server × Sends) Refusal
served e s r = if_ok (λ a. Ok (record { schema = s.schema; world = a.0; opened = opened_after e s.opened }, map printed a.1)) r

pub took : (e : Event) (s t : Server) (os : Sends) → serve e s ≡ Ok (t, os) → Took e s t
took e s t os is = by (step (served_by s.schema) e s.world) refl is
  where
    same_Ok : (a b : Server × Sends) → ◌≡◌ {A = Result (Server × Sends) Refusal} (Ok a) (Ok b) → a ≡ b
    same_Ok a b r = cc

    by : (r : Result (World × List Sent) Refusal) → step (served_by s.schema) e s.world ≡ r → served e s r ≡ Ok (t, os) → Took e s t
    by (Ok a) stepped f =
        let q : Server × Sends = (record { schema = s.schema; world = a.0; opened = opened_after e s.opened }, map printed a.1) in
        let same : q ≡ (t, os) = same_Ok q (t, os) f in record {
          world = ap (if_ok (λ (v : World × List Sent). let w : Result World Refusal = Ok v.0 in w)) stepped ∙ ap (λ (u : Server × Sends). let w : Result World Refusal = Ok u.0.world in w) same;
          schema = sym (ap (λ u. u.0.schema) same);
          opened = sym (ap (λ u. u.0.opened) same);
        }
    by (Err why) stepped f = absurd (apart f)
      where
        apart : ◌≡◌ {A = Result (Server × Sends) Refusal} (Err why) (Ok (t, os)) → ⊥
        apart g = cc

-- a step that was refused
pub refused : (e : Event) (s : Server) (why : Refusal) → serve e s ≡ Err why → if_ok (λ (r : World × List Sent). let w : Result World Refusal = Ok r.0 in w) (step (served_by s.schema) e s.world) ≡ Err why
refused e s why is = by (step (served_by s.schema) e s.world) refl is
  where
    by : (r : Result (World × List Sent) Refusal) → step (served_by s.schema) e s.world ≡ r → served e s r ≡ Err why → if_ok (λ (v : World × List Sent). let w : Result World Refusal = Ok v.0 in w) (step (served_by s.schema) e s.world) ≡ Err why
    by (Ok a) stepped f = absurd (apart f)
      where
        apart : ◌≡◌ {A = Result (Server × Sends) Refusal} (Ok (record { schema = s.schema; world = a.0; opened = opened_after e s.opened }, map printed a.1)) (Err why) → ⊥
        apart g = cc
    by (Err other) stepped f = ap (if_ok (λ (v : World × List Sent). let w : Result World Refusal = Ok v.0 in w)) stepped ∙ ap (λ x. let w : Result World Refusal = Err x in w) (same_Err other why f)
      where
        same_Err : (a b : Refusal) → ◌≡◌ {A = Result (Server × Sends) Refusal} (Err a) (Err b) → a ≡ b
        same_Err a b g = cc
