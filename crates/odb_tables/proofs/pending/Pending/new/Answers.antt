use Rattle.std.proofs.Common.{rules, ◌≡◌, length, replicate, ap, ◌∙◌}
use Rattle.std.proofs.lemmas.List.{length-replicate}
use Rattle.odb_atoms.specs.FinMap as finite
use Rattle.odb_tables.specs.Database.{Db}
use Rattle.odb_tables.specs.Pending.{Pending}
use Rattle.odb_tables.specs.Represented.Draft.{all_overlaid}
use Rattle.odb_tables.proofs.Overlays.{all_untouched}
use Rattle.odb_tables.proofs.pending.Pending.new.Goals as goal

pub invariant_of-result : goal.invariant_of-result
invariant_of-result c =
    let all : c.in_ok-overlays.overlays.items ≡ replicate (length c.args.base.now) finite.empty = search rules in
    ap length all ∙ length-replicate (length c.args.base.now) finite.empty

pub returns : goal.returns
returns c =
    let db : Db = c.args.base.now in
    let all : c.in_ok-overlays.overlays.items ≡ replicate (length db) finite.empty = search rules in
    let now = ap (all_overlaid db) all ∙ all_untouched db in
    λ i. let p : Pending = record { old = db; now = now i } in p
