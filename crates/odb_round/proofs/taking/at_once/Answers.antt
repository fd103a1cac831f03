use Rattle.std.proofs.Common.{rules, ◌≡◌, ◌<◌, true, List, is_some, length, slice_index_or}
use Rattle.odb_sessions.specs.Carried.{finished_text}
use Rattle.odb_sessions.specs.declared.item.Item.{Item}
use Rattle.odb_round.proofs.Leading.{first_items, first_monitors, first_text, seen_item}
use Rattle.odb_round.proofs.taking.at_once.Goals as goal
use Rattle.odb_service.specs.Session.{Revision, nothing_earlier}

pub returns-clause-items : goal.returns-clause-items
returns-clause-items c = λ s db ms.
    let xs : List Item = c.args.items.now.items in
    let x : Item = c.in_ok-first.first.now in
    let low : 0 < length xs = search rules in
    let at : x ≡ slice_index_or xs 0 x = search rules in
    let e : is_some (finished_text (seen_item x)) ≡ true = search rules in
    let revision : Revision = record { db = db; commits = 0; earlier = nothing_earlier 0 0 } in
    first_items s revision ms xs x low at e

pub returns-clause-monitors : goal.returns-clause-monitors
returns-clause-monitors c = λ s db ms.
    let xs : List Item = c.args.items.now.items in
    let x : Item = c.in_ok-first.first.now in
    let low : 0 < length xs = search rules in
    let at : x ≡ slice_index_or xs 0 x = search rules in
    let e : is_some (finished_text (seen_item x)) ≡ true = search rules in
    let revision : Revision = record { db = db; commits = 0; earlier = nothing_earlier 0 0 } in
    first_monitors s revision ms xs x low at e

pub returns-clause-text : goal.returns-clause-text
returns-clause-text c = λ s revision ms all.
    let xs : List Item = c.args.items.now.items in
    let x : Item = c.in_ok-first.first.now in
    let low : 0 < length xs = search rules in
    let at : x ≡ slice_index_or xs 0 x = search rules in
    let e : is_some (finished_text (seen_item x)) ≡ true = search rules in
    first_text s revision ms xs x low at e
