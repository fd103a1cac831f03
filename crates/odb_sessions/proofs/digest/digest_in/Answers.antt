use Rattle.std.proofs.Common.{◌≡◌, [], Option, None, Some, option_map, unwrap_or, sym, ap, ◌∙◌}
use Rattle.odb_service.specs.Session.{filter_of}
use Rattle.odb_sessions.specs.Filtered.{Filters}
use Rattle.odb_sessions.specs.Marked.{Watched}
use Rattle.odb_sessions.specs.Represented.Digest.{asked_digest}
use Rattle.odb_sessions.specs.Represented.Job.{filters_by}
use Rattle.odb_sessions.specs.Represented.Under.{filters_in}
use Rattle.odb_sessions.proofs.digest.digest_in.Goals as goal

pub returns-in-None : goal.returns-in-None
returns-in-None c =
    let w : Watched = c.args.table.now in
    let own : None ≡ filters_by c.args.way = ap (option_map filters_in) (sym c.in-None.is) ∙ c.under.ensures in
    c.digest.ensures ∙ ap (λ (o : Option Filters). asked_digest w.request.place (filter_of (unwrap_or o []) w.request.shape.name w.request.filter)) own

pub returns-in-Some : goal.returns-in-Some
returns-in-Some c =
    let w : Watched = c.args.table.now in
    let own : Some (filters_in c.in-Some.under) ≡ filters_by c.args.way = ap (option_map filters_in) (sym c.in-Some.is) ∙ c.under.ensures in
    c.digest_under.ensures ∙ ap (λ (o : Option Filters). asked_digest w.request.place (filter_of (unwrap_or o []) w.request.shape.name w.request.filter)) own
