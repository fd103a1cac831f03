use Rattle.std.proofs.Common.{rules, ◌≡◌, map, ap, ◌∙◌}
use Rattle.std.specs.Arc.{arc_value}
use Rattle.odb_request.specs.Represented.Change.{change_of}
use Rattle.odb_schema.specs.Schema.{Schema}
use Rattle.odb_sessions.proofs.Copies.{changes_again}
use Rattle.odb_sessions.proofs.item.ChangesClone.clone.Goals as goal

pub returns : goal.returns
returns c =
    let same : arc_value c.in_ok-schema.schema ≡ arc_value c.args.self.now.schema = search rules in
    record {
      cases = ap (λ (s : Schema). map (change_of s) c.in_ok-changes.changes.items) same
          ∙ changes_again (arc_value c.args.self.now.schema) c.args.self.now.changes.items c.in_ok-changes.changes.items c.in_ok-changes.ensures.cases.0;
    }
