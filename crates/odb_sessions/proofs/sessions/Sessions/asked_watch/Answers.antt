use Rattle.std.proofs.Common.{rules, ◌≡◌, Some, None, find, option_map, sym, ap, ◌∙◌}
use Rattle.odb_atoms.specs.FinMap as finite
use Rattle.odb_schema.specs.Json.{Data}
use Rattle.odb_service.specs.Server.{served_by}
use Rattle.odb_service.specs.Session.{asked}
use Rattle.odb_service.specs.World.{asked_of, watched}
use Rattle.odb_sessions.specs.Asked.{is_same}
use Rattle.odb_sessions.specs.Book.{Book}
use Rattle.odb_sessions.specs.Marked.{MarkedSession, Sessions, seen}
use Rattle.odb_sessions.specs.Named.{Named, named}
use Rattle.odb_sessions.proofs.NamedReplays.{asked_named, found_named}
use Rattle.odb_sessions.proofs.Ties.{get-seen}
use Rattle.odb_sessions.proofs.sessions.Sessions.asked_watch.Goals as goal

pub returns-in_default : goal.returns-in_default
returns-in_default c = λ schema.
    let m : Sessions = c.self.inside.sessions in
    let none : finite.get m c.args.session ≡ None = search rules in
    ap (λ o. option_map named (watched (served_by schema) c.args.id.now (asked_of (served_by schema) o))) (sym (get-seen m c.args.session ∙ ap (option_map seen) none))
    ∙ ap (λ (b : Book). option_map named (watched (served_by schema) c.args.id.now (asked_of (served_by schema) (finite.get b.sessions c.args.session)))) c.self.view_is

pub returns : goal.returns
returns c = λ schema.
    let m : Sessions = c.self.inside.sessions in
    let i : Data = c.args.id.now in
    let x : MarkedSession = c.in-Some.of.now in
    let there : finite.get m c.args.session ≡ Some x = search rules in
    let first : c.first_of.result ≡ find (λ (n : Named). is_same i n.id) c.in_ok-named.named.items = search rules in
    first ∙ ap (find (λ (n : Named). is_same i n.id)) (c.in_ok-named.ensures ∙ sym (asked_named schema (seen x)))
    ∙ found_named schema i (asked (served_by schema) (seen x))
    ∙ ap (λ o. option_map named (watched (served_by schema) i (asked_of (served_by schema) o))) (sym (get-seen m c.args.session ∙ ap (option_map seen) there))
    ∙ ap (λ (b : Book). option_map named (watched (served_by schema) i (asked_of (served_by schema) (finite.get b.sessions c.args.session)))) c.self.view_is
