-- What the types of the code stand for.
use Rattle.odb_waking.specs.Loop as loop
use Rattle.odb_waking.specs.Pump as pump
use Rattle.odb_waking.specs.Teller as teller
use Rattle.odb_waking.specs.declared.stage.GiverStep.{GiverStep}
use Rattle.odb_waking.specs.declared.stage.GiverStep.TheVariants as giver_at
use Rattle.odb_waking.specs.declared.stage.LoopStep.{LoopStep}
use Rattle.odb_waking.specs.declared.stage.LoopStep.TheVariants as loop_at
use Rattle.odb_waking.specs.declared.stage.PumpStep.{PumpStep}
use Rattle.odb_waking.specs.declared.stage.PumpStep.TheVariants as pump_at
use Rattle.odb_waking.specs.declared.stage.RouserStep.{RouserStep}
use Rattle.odb_waking.specs.declared.stage.RouserStep.TheVariants as rouser_at
use Rattle.odb_waking.specs.declared.stage.TellerStep.{TellerStep}
use Rattle.odb_waking.specs.declared.stage.TellerStep.TheVariants as teller_at

abbrev pub pump_stage_of : PumpStep → pump.Stage
pump_stage_of pump_at.Begins = pump.begins
pump_stage_of pump_at.Forgets = pump.forgets
pump_stage_of pump_at.Gives = pump.gives
pump_stage_of pump_at.Decides = pump.decides
pump_stage_of pump_at.Pauses = pump.pauses
pump_stage_of pump_at.LiesDown = pump.lies_down
pump_stage_of pump_at.LooksAgain = pump.looks_again
pump_stage_of pump_at.Sleeps = pump.sleeps

abbrev pub teller_of : TellerStep → teller.Teller
teller_of teller_at.Tells = teller.tells
teller_of teller_at.Looks = teller.looks
teller_of teller_at.Calls = teller.calls
teller_of teller_at.Wakes = teller.wakes
teller_of teller_at.Done = teller.done

abbrev pub loop_stage_of : LoopStep → loop.Stage
loop_stage_of loop_at.Begins = loop.begins
loop_stage_of loop_at.Collects = loop.collects
loop_stage_of loop_at.LiesDown = loop.lies_down
loop_stage_of loop_at.LooksAgain = loop.looks_again
loop_stage_of loop_at.Sleeps = loop.sleeps
loop_stage_of loop_at.Rises = loop.rises

abbrev pub rouser_of : RouserStep → teller.Rouser
rouser_of rouser_at.Flags = teller.flags
rouser_of rouser_at.Swaps = teller.swaps
rouser_of rouser_at.Rouses = teller.rouses
rouser_of rouser_at.Ended = teller.ended

abbrev pub giver_of : GiverStep → loop.Giver
giver_of giver_at.Idle = loop.idle
giver_of giver_at.Refused = loop.refused
giver_of giver_at.Marked = loop.marked
giver_of giver_at.Sent = loop.sent
giver_of giver_at.Calls = loop.calls
giver_of giver_at.Tells = loop.tells
