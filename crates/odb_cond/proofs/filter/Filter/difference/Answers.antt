use Rattle.std.proofs.Common.{rules, ◌≡◌, ◌||◌, ◌==◌, false, length}
use Rattle.std.proofs.lemmas.Result.{IfOk-weaker}
use Rattle.odb_cond.proofs.Lacking.{lacking_apart}
use Rattle.odb_cond.proofs.filter.Filter.difference.Goals as goal

pub returns : goal.returns
returns c =
    let f = c.args.self.now in
    let g = c.args.other.now in
    let some : ((length f == 0) || (length g == 0)) ≡ false = search rules in
    IfOk-weaker c.new-2.result _ _
    (λ d is. lacking_apart f g d c.push.new.self.items c.append_lacking.new.list.items c.append_lacking-2.new.list.items some c.in_ok-append_lacking.ensures c.in_ok-append_lacking-2.ensures is)
    c.new-2.ensures
