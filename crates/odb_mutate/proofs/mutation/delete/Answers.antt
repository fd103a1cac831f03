use mathlib.Core.Path.{ap, ◌∙◌}
use Rattle.std.proofs.Common.{Ok}
use Rattle.std.proofs.lemmas.Result.{IfOk-weaker}
use Rattle.odb_atoms.specs.Difference.{changed}
use Rattle.odb_mutate.proofs.Deleted.{elements_deleted, elements_fault, keys_deleted, keys_fault, pairs_deleted, pairs_fault}
use Rattle.odb_mutate.proofs.mutation.delete.Goals as goal

pub set_of-present-requires : goal.set_of-present-requires
set_of-present-requires c =
    let here = c.in-Set-Set in
    elements_fault here.field-0-0 here.elements _ _ c.append_common.new.list.items here.ensures.listed here.ensures'.listed c.requires.kinds (rw c.new-common.ensures.items at c.in_ok-append_common-in-Set-Set.ensures)

pub map_of-present-requires : goal.map_of-present-requires
map_of-present-requires c =
    let here = c.in-Map-Set in
    keys_fault here.field-0-0 here.keys _ _ c.append_at.new.list.items here.ensures.listed here.ensures'.listed c.requires.kinds (rw c.new-common-in-Map-Set.ensures.items at c.in_ok-append_at-in-Map-Set.ensures)

pub map_of-present-requires-in-Map-Map : goal.map_of-present-requires-in-Map-Map
map_of-present-requires-in-Map-Map c =
    let here = c.in-Map-Map in
    pairs_fault here.field-0-0 here.pairs _ _ c.append_common-in-Map-Map.new.list.items here.ensures.listed here.ensures'.listed c.requires.kinds (rw c.new-common-in-Map-Map.ensures.items at c.in_ok-append_common-in-Map-Map.ensures)

pub returns-in_ok-append_common-in-Set-Set : goal.returns-in_ok-append_common-in-Set-Set
returns-in_ok-append_common-in-Set-Set c =
    let here = c.in-Set-Set in
    IfOk-weaker c.changed.result _ _ (λ d is.
    ap Ok (is ∙ ap (changed c.args.value.now) c.set_of-present.ensures)
    ∙ elements_deleted here.field-0-0 here.elements _ _ c.append_common.new.list.items here.ensures.listed here.ensures'.listed (rw c.new-common.ensures.items at c.in_ok-append_common-in-Set-Set.ensures)) c.changed.ensures

pub returns-in_ok-append_at-in-Map-Set : goal.returns-in_ok-append_at-in-Map-Set
returns-in_ok-append_at-in-Map-Set c =
    let here = c.in-Map-Set in
    IfOk-weaker c.changed-in-Map-Set.result _ _ (λ d is.
    ap Ok (is ∙ ap (changed c.args.value.now) c.map_of-present.ensures)
    ∙ keys_deleted here.field-0-0 here.keys _ _ c.append_at.new.list.items here.ensures.listed here.ensures'.listed (rw c.new-common-in-Map-Set.ensures.items at c.in_ok-append_at-in-Map-Set.ensures)) c.changed-in-Map-Set.ensures

pub returns-in_ok-append_common-in-Map-Map : goal.returns-in_ok-append_common-in-Map-Map
returns-in_ok-append_common-in-Map-Map c =
    let here = c.in-Map-Map in
    IfOk-weaker c.changed-in-Map-Map.result _ _ (λ d is.
    ap Ok (is ∙ ap (changed c.args.value.now) c.map_of-present-in-Map-Map.ensures)
    ∙ pairs_deleted here.field-0-0 here.pairs _ _ c.append_common-in-Map-Map.new.list.items here.ensures.listed here.ensures'.listed (rw c.new-common-in-Map-Map.ensures.items at c.in_ok-append_common-in-Map-Map.ensures)) c.changed-in-Map-Map.ensures
