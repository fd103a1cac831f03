use Rattle.std.proofs.Common.{◌≡◌, ◌≤◌, ◌&&◌, filter, length, map}
use Rattle.std.specs.Prelude.{nat_le}
use Rattle.odb_atoms.specs.FinMap.{get}
use Rattle.odb_hub.specs.Rings.{is_free_at}
use Rattle.odb_hub.proofs.rings.Rings.free_among.Given as goal

abbrev pub invariant-loop-session : goal.invariant-loop-session
invariant-loop-session l = (l.listed.items ≡ filter (λ q. nat_le l.from q && is_free_at (get l.self q)) (map (λ k. k.now) l.yielded)) × (length l.listed.items ≤ l.most)
