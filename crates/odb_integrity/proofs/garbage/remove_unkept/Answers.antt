use Rattle.odb_integrity.proofs.Held.{all_kept, all_root, all_wait}
use Rattle.odb_integrity.proofs.garbage.remove_unkept.Goals as goal

pub returns-then-is_all_root-clause-kept : goal.returns-then-is_all_root-clause-kept
returns-then-is_all_root-clause-kept c =
    let s = c.args.schema.now in
    let db = c.args.draft.now.now in
    all_kept s db (all_root s db c.requires.typed.0 (c.is_all_root.ensures c.if-is_all_root.true))

pub remove_waiting-requires : goal.remove_waiting-requires
remove_waiting-requires c = all_wait c.args.schema.now c.args.draft.now.now c.in_ok-all.all.items c.in_ok-all.ensures
