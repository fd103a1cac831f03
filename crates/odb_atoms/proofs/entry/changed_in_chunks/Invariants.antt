use Rattle.std.proofs.Common.{◌≡◌, ◌++◌, drop, length, map}
use Rattle.odb_atoms.specs.Represented.Entry.{IsRising, merged}
use Rattle.odb_chunks.specs.Represented.Chunks.{AreFilled, items_in}
use Rattle.odb_atoms.proofs.entry.changed_in_chunks.Given as goal

abbrev pub invariant-loop-chunks_left : goal.invariant-loop-chunks_left
invariant-loop-chunks_left g l =
    let entries = map g.E.Entry.entry in
    record {
      done : entries l.list ++ merged (entries (items_in l.chunks_left)) (entries l.few_left) ≡ merged (entries (items_in l.fn.chunks)) (entries l.fn.few);
      rising : IsRising (entries (items_in l.chunks_left));
      few_rising : IsRising (entries l.few_left);
      filled : AreFilled (drop 1 l.chunks_left);
    }

abbrev pub decreases-loop-chunks_left : goal.decreases-loop-chunks_left
decreases-loop-chunks_left g l = length l.chunks_left
