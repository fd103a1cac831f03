use Rattle.std.proofs.Common.{rules, ◌≡◌, ◌++◌, List, ℕ, Ok, Option, Result, option_map, string_bytes, unwrap_or, sym, ap, subst, ◌∙◌}
use Rattle.odb_atoms.specs.Error.{Error}
use Rattle.odb_atoms.specs.Represented.Atom.{uuid_of}
use Rattle.odb_json.specs.Represented.Fault.{Reads}
use Rattle.odb_ops.specs.Execution as model
use Rattle.odb_ops.specs.Represented.Draft.{naming}
use Rattle.odb_ops.specs.Represented.Parts.{AreTaken, claimed, insert_row}
use Rattle.odb_ops.proofs.Inserts.{claimed_free, inserted_is, reads_renamed, renamed, unwrap_or-map}
use Rattle.odb_schema.specs.Json.{Data}
use Rattle.odb_schema.specs.Notation.{Names}
use Rattle.odb_schema.specs.Schema.{columns_at}
use Rattle.odb_tables.specs.Draft.{Draft}
use Rattle.odb_ops.proofs.operation.insert_named.Goals as goal

pub returns-clause-ran : goal.returns-clause-ran
returns-clause-ran c = λ named h.
    let s = c.args.setting.now.schema.now in
    let d : Draft = c.args.draft.now in
    let new : Draft = c.insert.new.draft in
    let t = c.args.new.table in
    let own = option_map uuid_of c.args.new.uuid in
    let taken_as : uuid_of c.unwrap_or-uuid.result ≡ unwrap_or own (uuid_of c.args.uuid) = ap uuid_of c.unwrap_or-uuid.ensures ∙ sym (unwrap_or-map uuid_of c.args.new.uuid c.args.uuid) in
    let u = uuid_of c.unwrap_or-uuid.result in
    let given = c.args.new.row.items in
    let name : Option (List ℕ) = option_map string_bytes c.args.new.name in
    let taken : Names = c.args.taken.now in
    let after : Names = c.claim.new.taken in
    let claim : claimed name u taken ≡ Ok after = search rules in
    let columns : c.target.result.columns.now ≡ columns_at s t = c.target.ensures.columns in
    let free = claimed_free taken after named name u d h claim in
    let named_after = model.name_list name ++ named in
    let reads = reads_renamed named_after (λ v. (new, v)) c.insert.result (insert_row c.target.result.columns.now c.target.result.table u given d) c.insert.ensures.row in
    let same : renamed named_after (insert_row c.target.result.columns.now c.target.result.table u given d) ≡ model.inserted s (naming named d) (unwrap_or own (uuid_of c.args.uuid)) t given name = (λ i. renamed named_after (insert_row (columns i) (c.target.ensures.table i) u given d)) ∙ sym (inserted_is s d named u t given name free.0) ∙ ap (λ x. model.inserted s (naming named d) x t given name) taken_as in
    subst (λ (r : Result (model.Draft × Data) Error). Reads (λ v. (naming named_after new, v)) c.insert.result r) same reads

pub returns-clause-taken : goal.returns-clause-taken
returns-clause-taken c =
    let u = uuid_of c.unwrap_or-uuid.result in
    let name : Option (List ℕ) = option_map string_bytes c.args.new.name in
    let taken : Names = c.args.taken.now in
    let after : Names = c.claim.new.taken in
    let claim : claimed name u taken ≡ Ok after = search rules in
    let all : (named : List (List ℕ)) → AreTaken taken named → AreTaken after (model.name_list name ++ named) = λ named h. (claimed_free taken after named name u c.args.draft.now h claim).1 in
    search (rules, all)
