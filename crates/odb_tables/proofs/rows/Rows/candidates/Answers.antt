use Rattle.std.proofs.Common.{rules, ◌≡◌, ◌==◌, false, List, length, map, sym, ◌∙◌}
use Rattle.std.proofs.lemmas.Option.{IfSome_then}
use Rattle.std.proofs.lemmas.Result.{IfOk-weaker}
use Rattle.odb_cond.specs.Filter.{Filter, selects}
use Rattle.odb_cond.specs.Represented.Filter.{member_of}
use Rattle.odb_cond.specs.Represented.Prepared.{some_holds}
use Rattle.odb_cond.specs.declared.filter.Member.{Member}
use Rattle.odb_tables.specs.Database.{Table}
use Rattle.odb_tables.proofs.Covering.{covered, covers, selects-some}
use Rattle.odb_tables.proofs.rows.Rows.candidates.Goals as goal

pub returns : goal.returns
returns c =
    let t : Table = c.args.self.now in
    let f : Filter = c.args.filter.now in
    let ms : List Member = c.members-members.result.now in
    let is : map member_of ms ≡ f = search rules in
    let some : (length ms == 0) ≡ false = search rules in
    IfOk-weaker c.candidates_of.result _ _ (λ found given. IfSome_then found given (λ keys h.
    covers keys.keys (selects f) t (λ u r at e. covered keys.keys (λ v s. some_holds v s ms) t h u r at (sym (selects-some f ms is some u r) ∙ e)))) c.candidates_of.ensures
