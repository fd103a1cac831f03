use Rattle.std.proofs.Common.{◌∙◌, ◌∷◌, ap, sym}
use Rattle.std.specs.Arc.{arc_value}
use Rattle.serde_json.specs.View.{members_view, view}
use Rattle.odb_atoms.specs.First.{each}
use Rattle.odb_schema.specs.Json.{members_list}
use Rattle.odb_schema.proofs.Eachs.{after, each_more}
use Rattle.odb_request.specs.Represented.Notation.{notation_of}
use Rattle.odb_request.specs.Requests.{read_request}
use Rattle.odb_request.proofs.read.read_all.Goals as goal

pub loop-name-preserved : goal.loop-name-preserved
loop-name-preserved c =
    let f = read_request (arc_value c.args.schema.now) (notation_of c.args.notation) in
    let done = c.loop-name.requests.items in
    let rest = members_list (members_view c.next.new.self) in
    rw c.in_ok-push.ensures.items
    (each_more f (each f (members_list (members_view c.args.members.now.entries))) done (c.as_str.result.now, view c.in-Some.value.now) rest c.in_ok-read_request.field-0
    (c.loop-name.invariant ∙ ap (λ es. after done (each f (members_list (members_view es)))) c.in-Some.ensures.steps ∙ ap (λ n. after done (each f ((n, view c.in-Some.value.now) ∷ rest))) (sym c.as_str.ensures.value))
    c.in_ok-read_request.ensures)
