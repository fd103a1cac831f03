use Rattle.std.proofs.Common.{rules, ◌≡◌, false, length, ap, ◌∙◌}
use Rattle.std.specs.Prelude.{◌==◌}
use Rattle.odb_interest.specs.Represented.Key.{among, has_key}
use Rattle.odb_interest.proofs.Agreeing.{among-has_key, uncovers_by}
use Rattle.odb_interest.proofs.index.SessionsByKey.uncover.Goals as goal

pub returns : goal.returns
returns c =
    let ms = c.members-members.result.now in
    let some : (length ms == 0) ≡ false = search rules in
    uncovers_by c.args.table c.args.session c.args.self.now c.uncover_each.new.self (among ms) (λ k. has_key k c.args.filter.now) c.args.others.now
    (λ k. among-has_key ms k some ∙ ap (has_key k) c.members-members.ensures)
    c.uncover_each.ensures
