use Rattle.std.proofs.Common.{ap, sym, ◌∙◌}
use Rattle.std.specs.Hash.{le_bytes}
use Rattle.odb_tables.proofs.Keys.{number_is}
use Rattle.odb_tables.proofs.key.KeyHash.hash.Goals as goal

pub returns : goal.returns
returns g c = c.hash.ensures ∙ ap (λ n. g.H.Hasher.write c.args.state.now (le_bytes 16 n)) (sym (number_is c.self.inside.number c.args.self.now c.self.invariant c.self.view_is))
