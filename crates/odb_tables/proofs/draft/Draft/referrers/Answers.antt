use Rattle.std.proofs.Common.{◌∙◌}
use Rattle.std.proofs.lemmas.Result.{IfOk-weaker}
use Rattle.odb_atoms.specs.FinMap as finite
use Rattle.odb_atoms.specs.Represented.Atom.{uuid_of}
use Rattle.odb_atoms.specs.Row.{cell, declared}
use Rattle.odb_atoms.specs.Uuid.{zero_uuid}
use Rattle.odb_tables.specs.Database.{table_at}
use Rattle.odb_tables.specs.Indexed.{mentions}
use Rattle.odb_tables.proofs.Found.{matches}
use Rattle.odb_tables.proofs.Twins.{mentions_now}
use Rattle.odb_tables.proofs.draft.Draft.referrers.Goals as goal

pub returns-clause-referrers : goal.returns-clause-referrers
returns-clause-referrers c =
    let t = table_at c.args.self.now.now c.args.table in
    let u = uuid_of c.args.uuid in
    IfOk-weaker c.find.result _ _ (λ uuids listed v. listed.1 v ∙ matches (λ _ s. mentions u (cell zero_uuid s (declared c.args.place))) t v ∙ mentions_now (λ s. mentions u (cell zero_uuid s (declared c.args.place))) v (finite.get t v)) c.find.ensures
