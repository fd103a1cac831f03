use Rattle.std.proofs.Common.{rules, ◌≡◌, ◌==◌, ◌∷◌, [], length, true, ◌++◌}
use Rattle.odb_hub.specs.Outbox.{bytes_of}
use Rattle.odb_hub.specs.Represented.Mailbox.{name_of, taken}
use Rattle.odb_hub.proofs.Writing.{nothing, takes_one}
use Rattle.odb_hub.proofs.outbox.Outbox.has_next.Goals as goal

pub returns : goal.returns
returns c =
    let none : (length (bytes_of c.self.inside.message) == 0) ≡ true = search rules in
    let more : taken c.next.new.self ≡ taken c.self.inside.mailbox ++ c.in-Some.out ∷ [] = search rules in
    takes_one (name_of c.self.inside.mailbox) (name_of c.next.new.self) (taken c.self.inside.mailbox) (taken c.next.new.self) c.in-Some.out c.self.inside.buffer (bytes_of c.self.inside.message) c.new.result c.args.self.now c.self.view_is c.next.ensures.ring more (nothing (bytes_of c.self.inside.message) none) c.new.ensures
