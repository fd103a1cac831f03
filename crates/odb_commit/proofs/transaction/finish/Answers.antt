use Rattle.std.proofs.Common.{rules, ◌≡◌, Ok, sym, ap, subst, ◌∙◌}
use Rattle.odb_atoms.specs.Represented.Atom.{uuid_of}
use Rattle.odb_atoms.specs.Uuid.{uuid_from}
use Rattle.odb_integrity.specs.Settlement.{settle}
use Rattle.odb_commit.proofs.Outcomes.{done}
use Rattle.odb_commit.proofs.Sound.{sound_settled}
use Rattle.odb_commit.proofs.transaction.finish.Goals as goal
use Rattle.odb_tables.specs.Change.{all_changed_by, change_between}
use Rattle.odb_tables.specs.Database.{Db}
use Rattle.odb_tables.specs.Installing.{IsChangeOf}
use Rattle.odb_tables.specs.Stamped.{stamped}

pub returns-in_ok-commit-in-Ok : goal.returns-in_ok-commit-in-Ok
returns-in_ok-commit-in-Ok c =
    let old : Db = c.args.draft.old in
    let new : Db = c.settle.new.draft.now in
    let base : c.settle.new.draft.old ≡ old = c.in_ok-settle.ensures.base in
    let settled : settle c.args.schema.now c.args.max_rows c.args.draft.now ≡ Ok new = sym (search rules) in
    let version : uuid_of c.version.result ≡ uuid_from c.args.number = c.version.ensures in
    done c.args.schema.now c.args.max_rows c.args.number old c.args.draft.now c.args.results c.in_ok-commit-in-Ok.field-0 new c.requires.old c.requires.now settled
    (c.in_ok-commit-in-Ok.ensures.changes ∙ (λ i. change_between (base i) (stamped (version i) (base i) new)))
    (subst (λ db. IsChangeOf db c.in_ok-commit-in-Ok.field-0) base c.in_ok-commit-in-Ok.ensures.change_of)
    (sym (ap (λ db. all_changed_by db c.in_ok-commit-in-Ok.field-0) base) ∙ c.in_ok-commit-in-Ok.ensures.leads_to ∙ (λ i. stamped (version i) (base i) new))

pub settle-requires-clause-base : goal.settle-requires-clause-base
settle-requires-clause-base c = sound_settled c.args.schema.now c.args.draft.old c.requires.old
