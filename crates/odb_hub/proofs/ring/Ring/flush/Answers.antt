use Rattle.std.proofs.Common.{rules, ◌≡◌, List, ℕ, [], Some, inr, sym, ap, ◌∙◌}
use Rattle.std.specs.Prelude.{option_map}
use Rattle.odb_sessions.specs.Represented.Out.{text_of_out}
use Rattle.odb_hub.specs.Rings.{Ring}
use Rattle.odb_hub.proofs.HandingOver.{retried}
use Rattle.odb_hub.proofs.ring.Ring.flush.Goals as goal

pub returns : goal.returns
returns c =
    let text : List ℕ = text_of_out c.in-Some.out in
    let held : option_map text_of_out c.self.inside.held ≡ Some text = search rules in
    inr (
      text,
      ap (λ (r : Ring). r.held) (sym c.self.view_is) ∙ held,
      retried text c.args.self.now _ c.put.new.self (ap (λ (r : Ring). r.name) c.self.view_is) (ap (λ (r : Ring). r.sent) c.self.view_is) ([], ap (λ (r : Ring). r.waiting) (sym c.self.view_is)) c.put.ensures,
    )
