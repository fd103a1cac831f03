use Rattle.std.proofs.Common.{rules}
use Rattle.odb_script.proofs.AppendedParts.{wrote_more, appends_kept}
use Rattle.odb_script.proofs.latch.FailureLatchWrite.write_all.Goals.{in-Ok, in-Err+else-ne}
use Rattle.odb_script.proofs.latch.FailureLatchWrite.write_all.Goals as goal

pub loop-preserved : goal.loop-preserved
loop-preserved g c =
    let so_far = c.loop.invariant in
    elim c.match-write.branch [
      | in-Ok w ↦ wrote_more c.args.buf.now so_far.0 c.loop.rest.now c.match-write.rest.now _ _ _ w.in-Ok.taken so_far.1 so_far.2 w.in-Ok.ensures.bytes (search rules)
      | in-Err+else-ne w ↦ rw (w.rest-is) (so_far.0, so_far.1, appends_kept _ _ _ so_far.0 so_far.2 w.in-Err.ensures.bytes)
    ]
