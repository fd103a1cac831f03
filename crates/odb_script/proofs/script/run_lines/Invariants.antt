use Rattle.std.proofs.Common.{IfSome}
use Rattle.std.specs.Io.Buffered.{reader_remaining}
use Rattle.odb_service.specs.Server.{served_by}
use Rattle.odb_script.specs.Script.{lines_of, perform_lines, command_of}
use Rattle.odb_script.specs.Represented.Latch.{inner_of}
use Rattle.odb_script.proofs.ScriptRuns.{Going}
use Rattle.odb_script.proofs.script.run_lines.Given as goal

abbrev pub invariant-loop-number : goal.invariant-loop-number
invariant-loop-number g l =
    IfSome (reader_remaining (λ w. g.R.Read.remaining (inner_of w)) l.fn.reader)
    (λ text. Going (served_by l.engine.schema) (perform_lines (served_by l.fn.engine.schema) command_of 1 (lines_of text) l.fn.engine.script)
    (g.W.Write.contents (inner_of l.fn.writer)) (g.W.Write.contents (inner_of l.writer)) (reader_remaining (λ w. g.R.Read.remaining (inner_of w)) l.reader) l.number l.engine.script)
