use denote.Param.{param}
use denote.Param.Send.{IsSync}
use Rattle.odb_par.proofs.Crossing.{crosses}
use Rattle.odb_par.proofs.composing.shares_of.Goals as goal

pub map_indices-requires-sync-F : goal.map_indices-requires-sync-F
map_indices-requires-sync-F g c κs within = let gate : IsSync (param 1 g.row.G) = c.type_bounds.sync-G in search crosses depth 20
