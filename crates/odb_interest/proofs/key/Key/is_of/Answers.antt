use Rattle.std.proofs.Common.{rules, ◌≡◌, false, length, ap, ◌∙◌}
use Rattle.std.specs.Prelude.{◌==◌}
use Rattle.odb_interest.specs.Represented.Key.{has_key, key_in}
use Rattle.odb_interest.proofs.Agreeing.{among-has_key}
use Rattle.odb_interest.proofs.key.Key.is_of.Goals as goal

pub returns : goal.returns
returns c =
    let some : (length c.members-members.result.now == 0) ≡ false = search rules in
    c.is_among.ensures ∙ among-has_key c.members-members.result.now (key_in c.args.self) some ∙ ap (has_key (key_in c.args.self)) c.members-members.ensures
