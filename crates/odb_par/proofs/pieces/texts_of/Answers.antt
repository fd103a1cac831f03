use Rattle.odb_par.proofs.Crossing.{crosses}
use Rattle.odb_par.proofs.pieces.texts_of.Goals as goal

pub map_indices-requires-sync-F : goal.map_indices-requires-sync-F
map_indices-requires-sync-F g c κs within = search crosses depth 20
