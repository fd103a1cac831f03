use Rattle.std.proofs.Common.{rules, ◌≡◌, ap, ◌∙◌}
use Rattle.std.specs.Arc.{arc_value}
use Rattle.odb_interest.specs.Keys.{Interests, asked_at}
use Rattle.odb_interest.specs.Represented.Lists.{Asks, with_filter}
use Rattle.odb_sessions.specs.Marked.{Watched}
use Rattle.odb_sessions.specs.Owed.{filter_asked}
use Rattle.odb_sessions.proofs.Interests.{asks_it, puts_one}
use Rattle.odb_sessions.proofs.interest.put_table.Goals as goal

pub returns-clause-ok : goal.returns-clause-ok
returns-clause-ok c =
    let s = c.args.session in
    let place = c.args.place in
    let old : Interests = c.args.interest.now in
    let new : Interests = c.put.new.self in
    let w : Watched = c.args.table.now in
    let made : arc_value c.filter.result.now ≡ c.table.inside.request.filter = search rules in
    let filter : arc_value c.filter.result.now ≡ w.request.filter = made ∙ ap (λ (u : Watched). u.request.filter) c.table.view_is in
    let asks : Asks old new s (with_filter (asked_at old s) place (arc_value c.filter.result.now)) = search rules in
    puts_one (asked_at old s) (asked_at new s) place (filter_asked w)
    (asks_it old new s (with_filter (asked_at old s) place (arc_value c.filter.result.now)) asks ∙ ap (with_filter (asked_at old s) place) filter)
