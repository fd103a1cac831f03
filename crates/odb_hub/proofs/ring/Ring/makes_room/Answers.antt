use Rattle.std.proofs.Common.{[], refl}
use Rattle.odb_hub.proofs.ring.Ring.makes_room.Goals as goal

pub returns-then-has_room-clause-looked : goal.returns-then-has_room-clause-looked
returns-then-has_room-clause-looked c = (c.args.self.now.waiting, ([], refl), refl)
