-- What the commands of the code stand for.
use Rattle.std.specs.Prelude.{ℕ, nat_lt, if◌then◌else◌, Option, Some, None}
use Rattle.odb_script.specs.Script as model
use Rattle.odb_script.specs.declared.command.Command.{Command}
use Rattle.odb_script.specs.declared.command.Command.TheVariants as command

abbrev pub command_in : Command → model.Command
command_in (command.Piece name bytes) = model.piece name.now bytes.now
command_in (command.Open name) = model.open_session name.now
command_in (command.Close name) = model.close_session name.now
command_in (command.Hold name) = model.hold name.now
command_in (command.Take name) = model.drain name.now
command_in (command.Tick now) = model.tick_to now

-- the number, if it is below the limit
abbrev pub below : ℕ → ℕ → Option ℕ
below limit n = if nat_lt n limit then Some n else None
