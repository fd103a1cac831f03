use Rattle.std.proofs.Common.{rules, ◌≡◌, List, map, Option, None, Some, option_map, sym, ap, ◌∙◌}
use Rattle.odb_atoms.specs.FinMap.{get}
use Rattle.odb_service.specs.Session.{Session}
use Rattle.odb_sessions.specs.Marked.{MarkedItem, MarkedSession, Sessions, all_seen, item_seen, seen}
use Rattle.odb_sessions.proofs.Ties.{get-seen}
use Rattle.odb_round.specs.Taken.{begins_finished, is_finished}
use Rattle.odb_round.proofs.round.is_finished.Goals as goal

pub returns : goal.returns
returns c =
    let n = c.args.session in
    let m : Sessions = c.sessions-numbered.result.now in
    let x : MarkedSession = c.in-Some.of.now in
    let book : all_seen m ≡ c.args.sessions.now.sessions = ap all_seen c.sessions-numbered.ensures ∙ c.told-told.ensures.of.1 in
    let there : get m n ≡ Some x = search rules in
    let at : option_map seen (get m n) ≡ get c.args.sessions.now.sessions n = sym (get-seen m n) ∙ ap (λ s. get s n) book in
    c.begins_finished.ensures ∙ ap (λ (qs : List MarkedItem). begins_finished (map item_seen qs)) c.items.ensures
    ∙ ap (λ (o : Option MarkedSession). is_finished (option_map seen o)) (sym there) ∙ ap is_finished at

pub returns-in_default : goal.returns-in_default
returns-in_default c =
    let n = c.args.session in
    let m : Sessions = c.sessions-numbered.result.now in
    let book : all_seen m ≡ c.args.sessions.now.sessions = ap all_seen c.sessions-numbered.ensures ∙ c.told-told.ensures.of.1 in
    let shut : get m n ≡ None = search rules in
    let at : option_map seen (get m n) ≡ get c.args.sessions.now.sessions n = sym (get-seen m n) ∙ ap (λ s. get s n) book in
    ap (λ (o : Option MarkedSession). is_finished (option_map seen o)) (sym shut) ∙ ap is_finished at
