use Rattle.std.proofs.Common.{rules, ◌≡◌, ◌∷◌, [], map, sym, ap, ◌∙◌}
use Rattle.odb_atoms.specs.Represented.Atom.{uuid_of}
use Rattle.odb_cond.specs.Condition.{holds_all}
use Rattle.odb_tables.specs.Database.{table_at}
use Rattle.odb_tables.proofs.Found.{none-matches, one-matches}
use Rattle.odb_tables.proofs.draft.Draft.look_up.Goals as goal

pub returns-then-not-has_match : goal.returns-then-not-has_match
returns-then-not-has_match c =
    let t = table_at c.args.self.now.now c.args.table in
    ap (map uuid_of) c.new-found.ensures.items ∙ none-matches (holds_all c.args.conditions.now) t (uuid_of c.args.uuid) c.requires (sym c.has_match.ensures ∙ c.if-not-has_match.true)

pub returns : goal.returns
returns c =
    let t = table_at c.args.self.now.now c.args.table in
    let one : c.push.new.self.items ≡ c.args.uuid ∷ [] = search rules in
    ap (map uuid_of) one ∙ one-matches (holds_all c.args.conditions.now) t (uuid_of c.args.uuid) c.requires (sym c.has_match.ensures ∙ c.if-not-has_match.false)
