-- A code of events, so that a list of them can be what contracts see of a type. Not for reading aloud: that each code has its inverse is all that it says.
use Rattle.std.specs.Prelude.{◌≡◌, ◌⊎◌, ℕ, List, refl}
use mathlib.Core.Logic.{inl, inr}
use Rattle.std.specs.Coded.{Coded, code_by, coded×, coded⊎, coded_ℕ, coded_list}
use Rattle.odb_atoms.specs.Uuid.{Uuid, uuid_code}
use Rattle.odb_schema.specs.Json.{Data}
use Rattle.odb_schema.specs.JsonCode.{data_code}
use Rattle.odb_service.specs.Run.{Event, closed, opened, round, submitted, ticked}

abbrev Parts : Type 0
Parts = ℕ ⊎ ((ℕ × (Data × (List Uuid × ℕ))) ⊎ (ℕ ⊎ (ℕ ⊎ List ℕ)))

abbrev parts_of : Event → Parts
parts_of (opened s) = inl s
parts_of (submitted s d fresh now) = inr (inl (s, (d, (fresh, now))))
parts_of (ticked now) = inr (inr (inl now))
parts_of (closed s) = inr (inr (inr (inl s)))
parts_of (round ss) = inr (inr (inr (inr ss)))

abbrev event_with : Parts → Event
event_with (inl s) = opened s
event_with (inr (inl p)) = submitted p.0 p.1.0 p.1.1.0 p.1.1.1
event_with (inr (inr (inl now))) = ticked now
event_with (inr (inr (inr (inl s)))) = closed s
event_with (inr (inr (inr (inr ss)))) = round ss

pub event_with-parts_of : (e : Event) → event_with (parts_of e) ≡ e
event_with-parts_of (opened s) = refl
event_with-parts_of (submitted s d fresh now) = refl
event_with-parts_of (ticked now) = refl
event_with-parts_of (closed s) = refl
event_with-parts_of (round ss) = refl

abbrev pub event_code : Coded Event
event_code =
    code_by Parts
    (coded⊎ coded_ℕ (coded⊎ (coded× coded_ℕ (coded× data_code (coded× (coded_list uuid_code) coded_ℕ))) (coded⊎ coded_ℕ (coded⊎ coded_ℕ (coded_list coded_ℕ)))))
    parts_of event_with event_with-parts_of

abbrev pub events_code : Coded (List Event)
events_code = coded_list event_code
