use Rattle.std.proofs.Common.{rules, ◌≡◌, ◌++◌, OnOk, [], Some, None, codes, slice_index_or}
use Rattle.odb_service.specs.Server.{served_by}
use Rattle.odb_script.specs.Script.{ScriptSession, line_of, shut}
use Rattle.odb_script.proofs.OpenedSessions.{IsPlaceOf, closes, gone_away}
use Rattle.std.proofs.lemmas.Result.{on_ok_weaker}
use Rattle.odb_script.proofs.engine.Engine.close_named.Goals as goal

pub returns-in_default-clause-done : goal.returns-in_default-clause-done
returns-in_default-clause-done c =
    let none : IsPlaceOf c.args.name.now c.args.self.now.script.sessions None = search rules in
    let text : OnOk c.print_line.result (c.print_line.new.text.items ≡ c.args.text.now.items ++ line_of c.args.name.now (codes "!gone")) = search rules in
    on_ok_weaker c.print_line.result (λ e. gone_away (served_by c.args.self.now.schema) c.args.name.now (λ (x : ScriptSession) q. (shut (served_by c.args.self.now.schema) x.name x.session q, [])) c.args.self.now.script _ _ none e) text

pub returns-clause-done : goal.returns-clause-done
returns-clause-done c =
    let place : IsPlaceOf c.args.name.now c.args.self.now.script.sessions (Some c.in-Some.place) = search rules in
    let at : c.index.result.now ≡ slice_index_or c.args.self.now.script.sessions c.in-Some.place c.index.result.now = search rules in
    let number : c.behind-self.inside.session ≡ c.index.result.now.session = search rules in
    let ended : OnOk c.shut.result (c.shut.new.self.script ≡ shut (served_by c.args.self.now.schema) c.args.name.now c.behind-self.inside.session c.args.self.now.script) = search rules in
    on_ok_weaker c.shut.result (λ e. closes (served_by c.args.self.now.schema) c.args.name.now c.args.self.now.script c.shut.new.self.script c.args.text.now.items c.in-Some.place c.behind-self.inside.session c.index.result.now place at number e) ended
