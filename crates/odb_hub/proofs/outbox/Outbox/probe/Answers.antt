use Rattle.std.proofs.Common.{rules, ◌≡◌, ◌==◌, [], length, map, true, false, refl, subst}
use Rattle.std.specs.Prelude.{◌≢◌}
use Rattle.odb_sessions.specs.Represented.Out.{text_of_out}
use Rattle.odb_hub.specs.Outbox.{bytes_of}
use Rattle.odb_hub.specs.Represented.Mailbox.{name_of, taken}
use Rattle.odb_hub.proofs.Writing.{asked, longer_after, nothing, probe_bytes, something}
use Rattle.odb_hub.proofs.outbox.Outbox.probe.Goals as goal

pub returns-then-not-is_whole-clause-ok : goal.returns-then-not-is_whole-clause-ok
returns-then-not-is_whole-clause-ok c =
    let some : (length (bytes_of c.self.inside.message) == 0) ≡ false = search rules in
    (subst (λ o. o.left ≢ []) c.self.view_is (longer_after c.self.inside.buffer (bytes_of c.self.inside.message) (something (bytes_of c.self.inside.message) some)), refl)

pub returns-clause-ok : goal.returns-clause-ok
returns-clause-ok c =
    let none : (length (bytes_of c.self.inside.message) == 0) ≡ true = search rules in
    asked c.args.self.now (name_of c.self.inside.mailbox) (map text_of_out (taken c.self.inside.mailbox)) c.self.inside.buffer (bytes_of c.self.inside.message) c.put.new.self _ c.self.view_is c.in_ok-put.ensures.ok probe_bytes (nothing (bytes_of c.self.inside.message) none)
