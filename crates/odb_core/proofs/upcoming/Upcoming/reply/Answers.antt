use Rattle.std.proofs.Common.{rules, ◌≡◌, List, [], ◌∷◌, ◌++◌, map, None, sym, ap, subst, ◌∙◌}
use Rattle.odb_service.specs.Server.{Server}
use Rattle.odb_sessions.specs.Committed.{Ending}
use Rattle.odb_sessions.specs.Represented.Ended.{ending_of}
use Rattle.odb_core.specs.Represented.Steps.{by_service}
use Rattle.odb_core.specs.Represented.Upcoming.{Agrees, Upcoming, after_ended, server_with}
use Rattle.odb_core.specs.Represented.Waiting.{ends, reply_with}
use Rattle.std.proofs.lemmas.List.{map-append}
use Rattle.odb_core.proofs.Upcomings.{replied, reply_next}
use Rattle.odb_core.proofs.upcoming.Upcoming.reply.Goals as goal

pub returns-clause-ok : goal.returns-clause-ok
returns-clause-ok c =
    let i = c.self.inside in
    let a = c.args.asked.now in
    let v : Server = server_with i.setting.schema.now i.setting.locks.now i.setting.now i.opened i.sessions.now in
    let es : List Ending = map ending_of i.ended.items in
    let e : Ending = (a.session, (reply_with a c.args.results, None)) in
    let same : after_ended v es i.waiting ≡ c.args.self.now.next = ap (λ (u : Upcoming). u.next) c.self.view_is in
    let pushed : c.push.new.self.items ≡ i.ended.items ++ c.in_ok-ended.ended ∷ [] = search rules in
    let more : map ending_of c.push.new.self.items ≡ es ++ ending_of c.in_ok-ended.ended ∷ [] = ap (map ending_of) pushed ∙ map-append ending_of i.ended.items (c.in_ok-ended.ended ∷ []) in
    ap (by_service (ends a c.args.results None)) (sym same) ∙ reply_next v es i.waiting a c.args.results
    ∙ ap (λ (xs : List Ending). after_ended v xs i.waiting) (sym (more ∙ ap (λ (x : Ending). es ++ x ∷ []) c.in_ok-ended.ensures))

pub invariant_of-self-2 : goal.invariant_of-self-2
invariant_of-self-2 c =
    let i = c.self.inside in
    let s = i.setting.schema.now in
    let a = c.args.asked.now in
    let es : List Ending = map ending_of i.ended.items in
    let e : Ending = (a.session, (reply_with a c.args.results, None)) in
    let pushed : c.push.new.self.items ≡ i.ended.items ++ c.in_ok-ended.ended ∷ [] = search rules in
    let more : map ending_of c.push.new.self.items ≡ es ++ e ∷ [] =
    ap (map ending_of) pushed ∙ map-append ending_of i.ended.items (c.in_ok-ended.ended ∷ []) ∙ ap (λ (x : Ending). es ++ x ∷ []) c.in_ok-ended.ensures in
    subst (λ (xs : List Ending). Agrees i.is_spoilt s i.sessions.now i.pending i.commits xs i.marks.items i.waiting) (sym more)
    (replied s i.sessions.now i.is_spoilt i.pending i.commits es i.marks.items i.waiting c.self.invariant a.session (reply_with a c.args.results))
