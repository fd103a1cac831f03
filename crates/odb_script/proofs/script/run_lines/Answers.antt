use Rattle.std.proofs.Common.{◌≡◌, ◌∙◌, sym, subst, ap}
use Rattle.std.specs.Io.Buffered.{reader_remaining}
use Rattle.std.specs.Io.BufRead.{strip_last}
use Rattle.std.proofs.lemmas.Result.{err_from_is_err_and}
use Rattle.odb_service.specs.Server.{served_by}
use Rattle.odb_script.specs.Script.{lines_of, perform_lines, command_of}
use Rattle.odb_script.specs.Represented.Latch.{inner_of}
use Rattle.odb_script.proofs.ScriptRuns.{begun_if, unread_if, goes_on_if, stops_if, Taken}
use Rattle.odb_script.proofs.script.run_lines.Goals as goal

pub loop-number-init : goal.loop-number-init
loop-number-init g c =
    begun_if (served_by c.args.engine.now.schema) (g.W.Write.contents (inner_of c.args.writer.now)) (reader_remaining (λ w. g.R.Read.remaining (inner_of w)) c.args.reader.now) c.args.engine.now.script

pub returns-in-Err-clause-ends : goal.returns-in-Err-clause-ends
returns-in-Err-clause-ends g c =
    unread_if (reader_remaining (λ w. g.R.Read.remaining (inner_of w)) c.args.reader.now) (λ text. perform_lines (served_by c.args.engine.now.schema) command_of 1 (lines_of text) c.args.engine.now.script)
    (served_by c.loop-number.engine.schema) (g.W.Write.contents (inner_of c.args.writer.now)) (g.W.Write.contents (inner_of c.loop-number.writer))
    (reader_remaining (λ w. g.R.Read.remaining (inner_of w)) c.loop-number.reader) c.loop-number.number c.loop-number.engine.script c.in-Err.fault c.loop-number.invariant c.in-Err.ensures.err

pub returns-in_err-carry_out-clause-ends : goal.returns-in_err-carry_out-clause-ends
returns-in_err-carry_out-clause-ends g c =
    let left = reader_remaining (λ w. g.R.Read.remaining (inner_of w)) c.loop-number.reader in
    let new = reader_remaining (λ w. g.R.Read.remaining (inner_of w)) c.next_line.new.reader in
    let line : c.without_line_feed.result.now ≡ strip_last 10 c.in-Ok-Some.line.items = c.without_line_feed.ensures ∙ ap (strip_last 10) c.deref.ensures.value in
    let taken : Taken left new c.without_line_feed.result.now = subst (Taken left new) (sym line) (rw c.in-Ok-Some.field-0-is at c.in-Ok-Some.ensures.line) in
    let p = err_from_is_err_and c.from_residual.result c.from_residual.ensures.1 in
    rw (p.1, p.2) (
    stops_if (reader_remaining (λ w. g.R.Read.remaining (inner_of w)) c.args.reader.now) (λ text. perform_lines (served_by c.args.engine.now.schema) command_of 1 (lines_of text) c.args.engine.now.script)
    (served_by c.loop-number.engine.schema) (g.W.Write.contents (inner_of c.args.writer.now)) (g.W.Write.contents (inner_of c.loop-number.writer)) left c.loop-number.number c.loop-number.engine.script
    (g.W.Write.contents (inner_of c.carry_out.new.writer)) new c.carry_out.new.engine.script c.without_line_feed.result.now c.in_err-carry_out.field-0.0 c.loop-number.invariant taken c.in_err-carry_out.ensures.done
    )

pub loop-number-preserved : goal.loop-number-preserved
loop-number-preserved g c =
    let left = reader_remaining (λ w. g.R.Read.remaining (inner_of w)) c.loop-number.reader in
    let new = reader_remaining (λ w. g.R.Read.remaining (inner_of w)) c.next_line.new.reader in
    let line : c.without_line_feed.result.now ≡ strip_last 10 c.in-Ok-Some.line.items = c.without_line_feed.ensures ∙ ap (strip_last 10) c.deref.ensures.value in
    let taken : Taken left new c.without_line_feed.result.now = subst (Taken left new) (sym line) (rw c.in-Ok-Some.field-0-is at c.in-Ok-Some.ensures.line) in
    rw c.in_ok-carry_out.ensures.schema (
    goes_on_if (reader_remaining (λ w. g.R.Read.remaining (inner_of w)) c.args.reader.now) (λ text. perform_lines (served_by c.args.engine.now.schema) command_of 1 (lines_of text) c.args.engine.now.script)
    (served_by c.loop-number.engine.schema) (g.W.Write.contents (inner_of c.args.writer.now)) (g.W.Write.contents (inner_of c.loop-number.writer)) left c.loop-number.number c.loop-number.engine.script
    (g.W.Write.contents (inner_of c.carry_out.new.writer)) new c.carry_out.new.engine.script c.without_line_feed.result.now c.loop-number.invariant taken c.in_ok-carry_out.ensures.done
    )
