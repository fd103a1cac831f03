use Rattle.ovsdbd.proofs.Crosses.{crosses}
use Rattle.ovsdbd.proofs.serve.fn.serve_with.scope.Goals as goal

pub spawn_scoped-notices-requires-send-F : goal.spawn_scoped-notices-requires-send-F
spawn_scoped-notices-requires-send-F g c κs within = search crosses depth 20
