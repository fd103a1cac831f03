use Rattle.std.proofs.Common.{rules, ◌≡◌, ◌++◌, ◌<◌, length, map, option_to_list, sym, ◌∙◌}
use Rattle.std.specs.Option.{option_copied}
use Rattle.odb_recent.specs.Recent.{kept_undo}
use Rattle.odb_sessions.specs.Represented.Ended.{ending_of}
use Rattle.odb_sessions.proofs.InTurn.{prepared_more}
use Rattle.odb_sessions.proofs.sessions.Sessions.prepare_all.Goals as goal

pub loop-one-preserved : goal.loop-one-preserved
loop-one-preserved c =
    let all = c.args.ended.now in
    let i = c.loop-one.one-index in
    let x = c.one-item.result in
    let most = c.args.self.now.earlier.most in
    let inside : i < length all = search rules in
    let lent : option_copied c.as_ref.result ≡ x.change = search rules in
    let more : c.prepare.new.undos.items ≡ c.loop-one.undos.items ++ map (kept_undo most) (option_to_list (option_copied c.as_ref.result)) = search rules in
    more ∙ (λ j. c.loop-one.invariant j ++ map (kept_undo most) (option_to_list (lent j)))
    ∙ sym (prepared_more ending_of most all i x inside c.one-item.is)
