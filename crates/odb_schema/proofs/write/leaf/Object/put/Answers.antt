use Rattle.std.proofs.Common.{◌∙◌, ap}
use Rattle.serde_json.proofs.Views.{members_view-insert_entry}
use Rattle.serde_json.specs.Data.{put}
use Rattle.serde_json.specs.View.{members_view, view}
use Rattle.odb_schema.specs.Json.{Members}
use Rattle.odb_schema.proofs.write.leaf.Object.put.Goals as goal

pub returns : goal.returns
returns c =
    ap members_view c.in_ok-insert.ensures.entries
    ∙ members_view-insert_entry c.self.inside.members.entries c.in_ok-key.key c.args.value
    ∙ ap (λ key. put key (view c.args.value) (members_view c.self.inside.members.entries)) c.in_ok-key.ensures.ok
    ∙ ap (λ (ms : Members). put c.args.key.now (view c.args.value) ms) c.self.view_is
