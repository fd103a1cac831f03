use mathlib.Core.Path.{ap, ◌∙◌}
use Rattle.std.proofs.Common.{Ok}
use Rattle.std.proofs.lemmas.Result.{IfOk-weaker}
use Rattle.odb_atoms.specs.Difference.{changed}
use Rattle.odb_mutate.proofs.Inserted.{elements_fault, elements_inserted, pairs_fault, pairs_inserted}
use Rattle.odb_mutate.proofs.mutation.insert.Goals as goal

pub set_of-lacking-requires : goal.set_of-lacking-requires
set_of-lacking-requires c =
    let here = c.in-Set-Set in
    elements_fault here.elements here.others _ _ c.append_others.new.list.items here.ensures.listed here.ensures'.listed (c.requires.1.0, c.requires.1.1, c.requires.1.3) (rw c.new-new.ensures.items at c.in_ok-append_others-in-Set-Set.ensures)

pub map_of-lacking-requires : goal.map_of-lacking-requires
map_of-lacking-requires c =
    let here = c.in-Map-Map in
    pairs_fault here.others _ _ c.append_others-in-Map-Map.new.list.items here.ensures'.listed (c.requires.1.0, c.requires.1.1, c.requires.1.3) (rw c.new-new-in-Map-Map.ensures.items at c.in_ok-append_others-in-Map-Map.ensures)

pub returns-in_ok-append_others-in-Set-Set : goal.returns-in_ok-append_others-in-Set-Set
returns-in_ok-append_others-in-Set-Set c =
    let here = c.in-Set-Set in
    IfOk-weaker c.changed.result _ _ (λ d is.
    ap Ok (is ∙ ap (changed c.args.value.now) c.set_of-lacking.ensures)
    ∙ elements_inserted here.elements here.others _ _ c.append_others.new.list.items here.ensures.listed here.ensures'.listed (rw c.new-new.ensures.items at c.in_ok-append_others-in-Set-Set.ensures)) c.changed.ensures

pub returns-in_ok-append_others-in-Map-Map : goal.returns-in_ok-append_others-in-Map-Map
returns-in_ok-append_others-in-Map-Map c =
    let here = c.in-Map-Map in
    IfOk-weaker c.changed-in-Map-Map.result _ _ (λ d is.
    ap Ok (is ∙ ap (changed c.args.value.now) c.map_of-lacking.ensures)
    ∙ pairs_inserted here.pairs here.others _ _ c.append_others-in-Map-Map.new.list.items here.ensures.listed here.ensures'.listed (rw c.new-new-in-Map-Map.ensures.items at c.in_ok-append_others-in-Map-Map.ensures)) c.changed-in-Map-Map.ensures
