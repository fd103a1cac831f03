use Rattle.std.proofs.Common.{rules, ◌≡◌, sym, ap, ◌∙◌}
use Rattle.std.specs.BTreeMap.{btree_map_len}
use Rattle.odb_atoms.specs.FinMap as finite
use Rattle.odb_sessions.proofs.Numbers.{len-under}
use Rattle.odb_sessions.proofs.numbered.Numbered.len.Goals as goal

pub returns : goal.returns
returns c =
    let counted : c.len.result ≡ btree_map_len c.self.inside.keys = search rules in
    counted ∙ sym (len-under c.self.inside.keys.entries c.self.inside.sessions.slots c.len.ensures.ordered c.self.invariant.0) ∙ ap finite.len c.self.view_is
