use Rattle.std.proofs.Common.{rules, ◌≡◌, ◌∙◌, Some, sym, ap, [], refl}
use Rattle.odb_service.specs.Server.{served_by}
use Rattle.odb_script.specs.Represented.Command.{command_in}
use Rattle.odb_script.specs.Script.{command_of, perform}
use Rattle.odb_script.proofs.LineStep.{step_is, carried}
use Rattle.odb_script.proofs.AppendedParts.{appends_nothing}
use Rattle.odb_script.proofs.script.carry_out.Goals as goal

pub returns-clause-done : goal.returns-clause-done
returns-clause-done g c =
    let h = served_by c.args.engine.now.schema in
    let read : command_of c.args.line.now ≡ Some (command_in c.in-Some.command) = sym c.in-Some.ensures in
    let step = step_is h c.args.line.now c.args.engine.now.script (command_in c.in-Some.command) (search rules) read in
    carried c.args.number _ c.perform.new.self.script c.in-Ok.text.items _ _ _ (step ∙ ap Some c.in-Ok.ensures.text)
    (rw c.deref.ensures.value at c.print.ensures.ok) (rw c.deref.ensures.value at c.print.ensures.front) c.print.ensures.err

pub returns-in_default-perform-clause-done : goal.returns-in_default-perform-clause-done
returns-in_default-perform-clause-done g c =
    let h = served_by c.args.engine.now.schema in
    let k = command_in c.in-Some.command in
    let read : command_of c.args.line.now ≡ Some k = sym c.in-Some.ensures in
    (perform h k c.args.engine.now.script, step_is h c.args.line.now c.args.engine.now.script k (search rules) read, ([], (perform h k c.args.engine.now.script).1, refl, appends_nothing _))
