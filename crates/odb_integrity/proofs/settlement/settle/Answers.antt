use Rattle.std.proofs.Common.{rules, ◌≡◌, ◌++◌, length, Some, subst, sym, ap, ◌∙◌}
use Rattle.odb_integrity.specs.Represented.Reference.{MentionGone, references_of}
use Rattle.odb_integrity.specs.Settled.{IsSettled}
use Rattle.odb_integrity.specs.Settlement.{pruned_row}
use Rattle.odb_integrity.proofs.Concerned.{covers_dangling}
use Rattle.odb_integrity.proofs.Databases.{length-each_row}
use Rattle.odb_integrity.proofs.Settled.{kept_typed}
use Rattle.odb_tables.specs.Typed.{IsTyped}
use Rattle.odb_integrity.proofs.settlement.settle.Goals as goal

pub has_dangling-requires : goal.has_dangling-requires
has_dangling-requires c =
    let s = c.args.schema.now in
    let old = c.collect_garbage.new.draft.old in
    let now = c.collect_garbage.new.draft.now in
    let touched = c.in_ok-touched.touched.items in
    let mentioning = c.in_ok-mentioning.mentioning.items in
    let gaining = c.in_ok-suspects.suspects.items in
    let settled : IsSettled s old = subst (IsSettled s) (sym c.in_ok-suspects.ensures.base) c.requires.base in
    let mention : MentionGone (references_of s) now touched mentioning = search rules in
    let is : c.deref-3.result.now ≡ gaining ++ mentioning = search rules in
    covers_dangling s old now touched mentioning c.in_ok-touched.ensures mention settled.joined gaining c.deref-3.result.now c.in_ok-suspects.ensures.gaining is

pub prune-requires-clause-settled : goal.prune-requires-clause-settled
prune-requires-clause-settled c = subst (IsSettled c.args.schema.now) (sym c.in_ok-suspects.ensures.base) c.requires.base

pub prune-requires-clause-typed : goal.prune-requires-clause-typed
prune-requires-clause-typed c =
    let s = c.args.schema.now in
    subst (IsTyped s) (sym c.in_ok-suspects.ensures.kept) (kept_typed s c.args.draft.now.now c.requires.typed)

pub constrained-requires-clause-length : goal.constrained-requires-clause-length
constrained-requires-clause-length c =
    let s = c.args.schema.now in
    let db = c.args.draft.now.now in
    let rest = c.collect_garbage.new.draft.now in
    ap length c.in_ok-prune.ensures.pruned ∙ length-each_row (λ x r. Some (pruned_row s rest x r)) rest ∙ ap length c.in_ok-suspects.ensures.kept ∙ (kept_typed s db c.requires.typed).0

pub constrained-requires-clause-base : goal.constrained-requires-clause-base
constrained-requires-clause-base c = subst (IsSettled c.args.schema.now) (sym (c.in_ok-prune.ensures.base ∙ c.in_ok-suspects.ensures.base)) c.requires.base
