use mathlib.Core.Path.{sym, subst, ◌∙◌}
use Rattle.std.proofs.Common.{arith}
use Rattle.odb_atoms.specs.Represented.Atom.{atom_of}
use Rattle.odb_atoms.proofs.Chunks.{filled_drop, filled_take, found_high, found_low, rising_high, rising_low}
use Rattle.odb_chunks.specs.Represented.Chunks.{AreFilled}
use Rattle.odb_atoms.proofs.entry.half_with.Goals as goal

pub returns-then-starts_after : goal.returns-then-starts_after
returns-then-starts_after g c =
    let entry = g.E.Entry.entry in
    let key = atom_of c.args.key.now in
    let chunks = c.args.chunks.now in
    let cut = c.split_at.ensures in
    let lows = c.split_at.result.0.now in
    let highs = c.split_at.result.1.now in
    record {
      found = found_low entry key _ chunks lows highs cut.front cut.back c.requires.rising (sym c.if-starts_after.true ∙ c.starts_after.ensures);
      rising = rising_low entry key _ chunks lows highs cut.front cut.back c.requires.rising;
      filled = subst AreFilled (sym cut.front) (filled_take _ chunks c.requires.filled);
      fewer = omega (arith, cut.front_len, c.requires.several);
    }

pub returns : goal.returns
returns g c =
    let entry = g.E.Entry.entry in
    let key = atom_of c.args.key.now in
    let chunks = c.args.chunks.now in
    let cut = c.split_at.ensures in
    let lows = c.split_at.result.0.now in
    let highs = c.split_at.result.1.now in
    record {
      found = found_high entry key _ chunks lows highs cut.front cut.back c.requires.rising (sym c.if-starts_after.false ∙ c.starts_after.ensures);
      rising = rising_high entry key _ chunks lows highs cut.front cut.back c.requires.rising;
      filled = subst AreFilled (sym cut.back) (filled_drop _ chunks c.requires.filled);
      fewer = omega (arith, cut.back_len, c.requires.several);
    }

pub starts_after-requires : goal.starts_after-requires
starts_after-requires g c = subst AreFilled (sym c.split_at.ensures.back) (filled_drop _ c.args.chunks.now c.requires.filled)
