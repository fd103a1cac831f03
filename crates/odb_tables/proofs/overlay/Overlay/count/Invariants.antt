use Rattle.std.proofs.Common.{◌≡◌, map, sum_by}
use Rattle.std.specs.Map.Iter.{deref_pair}
use Rattle.odb_tables.specs.Represented.Counted.{gain, loss}
use Rattle.odb_tables.specs.Represented.Keyed.{shown}
use Rattle.odb_tables.specs.Represented.Overlay.{row_of}
use Rattle.odb_tables.proofs.overlay.Overlay.count.Given as goal

abbrev pub invariant-loop-key : goal.invariant-loop-key
invariant-loop-key l = record {
  gained : l.gained ≡ sum_by (gain l.base) (map (shown row_of) (map deref_pair l.yielded));
  lost : l.lost ≡ sum_by (loss l.base) (map (shown row_of) (map deref_pair l.yielded));
}
