use Rattle.std.proofs.Common.{rules, ◌≡◌, [], length, replicate, sym, ap, ◌∙◌}
use Rattle.std.proofs.lemmas.List.{length-replicate}
use Rattle.odb_atoms.specs.FinMap as finite
use Rattle.odb_tables.specs.Database.{Db}
use Rattle.odb_tables.specs.Draft.{draft_of}
use Rattle.odb_tables.specs.Represented.Draft.{grounds}
use Rattle.odb_tables.proofs.Drafts.{drafted-none}
use Rattle.odb_tables.proofs.KeptColumns.{new-draft}
use Rattle.odb_tables.proofs.Grounds.{grounds-none, length-grounds}
use Rattle.odb_tables.proofs.draft.Draft.new.Goals as goal

pub invariant_of-result : goal.invariant_of-result
invariant_of-result c =
    let db : Db = grounds c.args.base.now [] in
    let all : c.in_ok-overlays.overlays.items ≡ replicate (length c.args.base.now) finite.empty = search rules in
    let marks : length c.in_ok-changed.changed.items ≡ length c.args.base.now = search rules in
    let long : length db ≡ length c.args.base.now = length-grounds c.args.base.now [] in
    new-draft db c.in_ok-overlays.overlays.items c.in_ok-changed.changed.items (all ∙ ap (λ n. replicate n finite.empty) (sym long)) (marks ∙ sym long)

pub returns : goal.returns
returns c =
    let db : Db = grounds c.args.base.now [] in
    let all : c.in_ok-overlays.overlays.items ≡ replicate (length c.args.base.now) finite.empty = search rules in
    drafted-none db c.in_ok-overlays.overlays.items (all ∙ ap (λ n. replicate n finite.empty) (sym (length-grounds c.args.base.now []))) ∙ ap draft_of (grounds-none c.args.base.now)
