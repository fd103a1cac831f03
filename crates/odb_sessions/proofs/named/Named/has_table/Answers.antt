use Rattle.std.proofs.Common.{rules, ◌≡◌, bytes_eq, ap, ◌∙◌}
use Rattle.std.specs.List.{list_any}
use Rattle.odb_sessions.specs.Marked.{Watched}
use Rattle.odb_sessions.specs.Named.{Named}
use Rattle.odb_sessions.proofs.NamedReplays.{any_shape}
use Rattle.odb_sessions.proofs.named.Named.has_table.Goals as goal

pub returns : goal.returns
returns c =
    let any : c.has_table.result ≡ list_any (λ (w : Watched). bytes_eq c.args.name.now w.request.shape.name) c.self.inside.monitor.now.tables = search rules in
    any ∙ any_shape c.args.name.now c.self.inside.monitor.now.tables ∙ ap (λ (n : Named). list_any (λ s. bytes_eq c.args.name.now s.name) n.shapes) c.self.view_is
