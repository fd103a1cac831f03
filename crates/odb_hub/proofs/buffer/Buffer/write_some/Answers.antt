use Rattle.std.proofs.Common.{◌≡◌, ◌-◌, ◌≤◌, ℕ, ◌∙◌, sym, ap, take, drop, length, subst}
use Rattle.std.specs.Prelude.{◌≢◌}
use Rattle.std.specs.Io.KnownBytes.{Appends}
use Rattle.odb_hub.specs.Outbox.{Sends}
use Rattle.odb_hub.proofs.Writing.{from_place, sent}
use Rattle.odb_hub.proofs.buffer.Buffer.write_some.Goals as goal

pub returns-clause-ok : goal.returns-clause-ok
returns-clause-ok g c =
    let a = g.W.Write.contents c.args.writer.now in
    let b = g.W.Write.contents c.write_once.new.writer in
    let shown : take (length c.deref.result.now - c.self.inside.written) (drop c.self.inside.written c.deref.result.now) ≡ c.args.self.now = from_place c.deref.result.now c.self.inside.written ∙ ap (λ l. drop c.self.inside.written l) c.deref.ensures.value ∙ c.self.view_is in
    let count : ℕ = c.in_ok-count.count in
    let wrote : (count ≢ 0) × (count ≤ length c.args.self.now) × Appends a b (take count c.args.self.now) = subst (λ l. (count ≢ 0) × (count ≤ length l) × Appends a b (take count l)) shown c.in_ok-count.ensures.ok in
    subst (λ l. Sends c.args.self.now l a b) (sym c.forget_written.ensures)
    (sent c.args.self.now c.self.inside.bytes.items c.self.inside.written count a b c.self.view_is wrote.0 wrote.1 wrote.2)
