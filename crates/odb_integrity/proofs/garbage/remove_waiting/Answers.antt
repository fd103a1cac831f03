use Rattle.std.proofs.Common.{rules, ◌≡◌, length}
use Rattle.std.proofs.lemmas.List.{nil_from_length}
use Rattle.odb_integrity.proofs.Held.{none_waits}
use Rattle.odb_integrity.proofs.garbage.remove_waiting.Goals as goal

pub returns-then-is_empty-clause-kept : goal.returns-then-is_empty-clause-kept
returns-then-is_empty-clause-kept c =
    let waiting = c.args.waiting.items in
    let none : length waiting ≡ 0 = search rules in
    none_waits c.args.schema.now c.args.draft.now.now waiting c.requires (nil_from_length waiting none)
