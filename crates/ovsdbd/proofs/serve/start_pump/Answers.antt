use Rattle.ovsdbd.proofs.Crosses.{crosses}
use Rattle.ovsdbd.proofs.serve.start_pump.Goals as goal

pub spawn_scoped-requires-send-F : goal.spawn_scoped-requires-send-F
spawn_scoped-requires-send-F g c κs within = search crosses depth 20
