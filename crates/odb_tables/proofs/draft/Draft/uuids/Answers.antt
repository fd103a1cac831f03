use Rattle.std.proofs.Common.{◌≡◌, [], map, IfOk, ap, subst, ◌∙◌}
use Rattle.odb_atoms.specs.FinMap as finite
use Rattle.odb_atoms.specs.Represented.Atom.{uuid_of}
use Rattle.odb_tables.specs.Database.{Table, table_at}
use Rattle.odb_tables.specs.Matching.{matching}
use Rattle.odb_tables.proofs.Found.{all-match}
use Rattle.odb_tables.proofs.draft.Draft.uuids.Goals as goal

pub returns : goal.returns
returns c =
    let t = table_at c.args.self.now.now c.args.table in
    let nothing : c.new-everything.result ≡ [] = c.new-everything.ensures ∙ c.new.ensures.items in
    let all : matching c.new-everything.result t ≡ t = ap (λ cs. matching cs t) nothing ∙ all-match t in
    subst (λ (u : Table). IfOk c.scan.result (λ uuids. map uuid_of uuids.items ≡ finite.keys u)) all c.scan.ensures
