-- What the lock guards, and how many submits its seats were answered.
use Rattle.std.specs.Prelude.{◌≡◌, ◌⊎◌, ℕ, ◌+◌, List, [], ◌∷◌, Err, refl}
use Rattle.std.specs.Coded.{Coded, code_by, coded×, coded_ℕ}
use Rattle.odb_atoms.specs.FinMap.{remove}
use Rattle.odb_service.specs.Run.{Event, closed, gone, opened, round, submitted, ticked}
use Rattle.odb_service.specs.Server.{serve}
use Rattle.odb_hub.specs.Guarded.{Guarded, Takes, guarded_code}

-- a session's right to submit, and how many submits it was answered
pub record Seat : Type 0 where
  pub session : ℕ
  pub answered : ℕ

abbrev pub seat_code : Coded Seat
seat_code = code_by (ℕ × ℕ) (coded× coded_ℕ coded_ℕ) (λ s. (s.session, s.answered)) (λ p. record { session = p.0; answered = p.1 }) (λ _. refl)

-- the state, how many submits came before the base, and how many all seats together were answered, also those that left
pub record Counted : Type 0 where
  pub guarded : Guarded
  pub before_base : ℕ
  pub answered : ℕ

abbrev pub counted_code : Coded Counted
counted_code = code_by (Guarded × (ℕ × ℕ)) (coded× guarded_code (coded× coded_ℕ coded_ℕ)) (λ c. (c.guarded, (c.before_base, c.answered))) (λ p. record { guarded = p.0; before_base = p.1.0; answered = p.1.1 }) (λ _. refl)

abbrev pub submits_in : Event → ℕ
submits_in (opened s) = 0
submits_in (submitted s d fresh now) = 1
submits_in (ticked now) = 0
submits_in (closed s) = 0
submits_in (round ss) = 0

-- how many of the events are submits
abbrev pub submits : List Event → ℕ
submits [] = 0
submits (e ∷ es) = submits_in e + submits es

-- the submits in the journal, with those before the base, are as many as all seats were answered
abbrev pub IsCounted : Counted → Type 0
IsCounted c = c.answered ≡ c.before_base + submits c.guarded.events

-- nobody was answered anything, and the base stayed
abbrev pub SameCount : Counted → Counted → Type 0
SameCount old new = (new.answered ≡ old.answered) × (new.before_base ≡ old.before_base)

-- the session is closed; or nothing changes, since none of that number is open
abbrev pub Closes : ℕ → Guarded → Guarded → Type 0
Closes s old new = (Takes (closed s) old new [] × (new.rings ≡ remove old.rings s)) ⊎ ((new ≡ old) × (serve (closed s) old.server ≡ Err gone))
