-- Why a call did nothing, held against what the machine makes of its event.
use Rattle.std.specs.Prelude.{◌≡◌, Result, Err, IsOk}
use Rattle.odb_service.specs.Run.{Refusal, busy, gone, too_many}
use Rattle.odb_core.specs.declared.refused.EventRefusal.{EventRefusal}
use Rattle.odb_core.specs.declared.refused.EventRefusal.TheVariants.{Busy, Gone, Memory, TooMany}

-- for want of memory an event is refused that the machine takes, and for each other reason one that the machine refuses for it
abbrev pub IsReason : {A : Type 0} → EventRefusal → Result A Refusal → Type 0
IsReason Memory r = IsOk r
IsReason TooMany r = r ≡ Err too_many
IsReason Busy r = r ≡ Err busy
IsReason Gone r = r ≡ Err gone
