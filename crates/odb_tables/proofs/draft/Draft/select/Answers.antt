use Rattle.std.proofs.Common.{rules, ◌≡◌, IfOk, map, ap, subst, ◌∙◌}
use Rattle.std.proofs.lemmas.Result.{IfOk-weaker}
use Rattle.odb_atoms.specs.FinMap as finite
use Rattle.odb_atoms.specs.Represented.Atom.{uuid_of}
use Rattle.odb_cond.specs.Condition.{holds_all}
use Rattle.odb_tables.specs.Database.{Table, table_at}
use Rattle.odb_tables.specs.Matching.{matching}
use Rattle.odb_tables.specs.Represented.Table.{entries_at, listed}
use Rattle.odb_tables.proofs.Selected.{passing-found}
use Rattle.odb_tables.proofs.draft.Draft.select.Goals as goal

pub returns-in-Some : goal.returns-in-Some
returns-in-Some c =
    let whole : c.in-Some.walked.now ≡ table_at c.args.self.now.now c.args.table = search rules in
    subst (λ (t : Table). IfOk c.walk.result (λ rows. map listed rows.items ≡ finite.entries_of (matching c.args.conditions.now t))) whole c.walk.ensures

pub returns-in_ok-uuids-in-None : goal.returns-in_ok-uuids-in-None
returns-in_ok-uuids-in-None c =
    let clauses = c.args.conditions.now in
    let t : Table = table_at c.args.self.now.now c.args.table in
    let keys : map uuid_of c.deref.result.now ≡ finite.keys (matching clauses t) = search rules in
    IfOk-weaker c.rows_of.result _ _ (λ rows e. e ∙ ap (entries_at t) keys ∙ passing-found (holds_all clauses) t) c.rows_of.ensures
