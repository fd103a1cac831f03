use Rattle.std.proofs.Common.{rules, ◌≡◌, ◌≤◌, ◌+◌, ◌-◌, ◌++◌, take, drop, length, ap, ◌∙◌}
use Rattle.odb_hub.proofs.Writing.{added}
use Rattle.odb_hub.proofs.buffer.Buffer.add.Goals as goal

pub returns-clause-ok : goal.returns-clause-ok
returns-clause-ok c =
    let fits : c.args.moved + c.min-count.result ≤ length c.args.part.now = search rules in
    let put : c.put.new.self ≡ c.args.self.now ++ take (c.args.moved + c.min-count.result - c.args.moved) (drop c.args.moved c.args.part.now) = search rules in
    (fits, ap (λ l. l ++ drop (c.args.moved + c.min-count.result) c.args.part.now) put ∙ added c.args.self.now c.args.part.now c.args.moved c.min-count.result)
