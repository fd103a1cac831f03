use Rattle.std.proofs.Common.{ℕ, [], ap, sym, ◌∙◌}
use Rattle.odb_wire.specs.Framed.{Framed}
use Rattle.odb_wire.proofs.Fronts.{max_message-is}
use Rattle.odb_wire.proofs.framer.Framer.with_default_limit.Goals as goal

pub returns : goal.returns
returns c =
    let limited : ℕ → Framed = λ most. record { most = most; bytes = [] } in
    c.new.ensures ∙ ap limited (sym max_message-is)
