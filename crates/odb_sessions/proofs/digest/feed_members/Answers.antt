use Rattle.std.proofs.Common.{rules, ◌≡◌, ◌<◌, ◌≤◌, ◌+◌, length, get_or, drop, map, sym, ap, ◌∙◌}
use Rattle.std.proofs.lemmas.List.{drop_all}
use Rattle.odb_cond.specs.Represented.Filter.{member_of}
use Rattle.odb_sessions.specs.Represented.Digest.{after_member, after_filter}
use Rattle.odb_sessions.proofs.Steps.{front}
use Rattle.odb_sessions.proofs.digest.feed_members.Goals as goal

pub loop-member-preserved : goal.loop-member-preserved
loop-member-preserved c =
    let ms = c.args.members.now in
    let i = c.loop-member.member-index in
    let m = c.member-item.result in
    let low : i < length ms = search rules in
    let at : m ≡ get_or ms i m = search rules in
    let fed : c.feed_member.new.state ≡ after_member c.loop-member.state (member_of m) = search rules in
    ap (λ h. after_filter h (map member_of (drop (i + 1) ms))) fed ∙ ap (λ xs. after_filter c.loop-member.state (map member_of xs)) (sym (front ms i m low at)) ∙ c.loop-member.invariant

pub returns : goal.returns
returns c =
    let ms = c.args.members.now in
    let past : length ms ≤ c.loop-member.member-index = search rules in
    ap (λ xs. after_filter c.loop-member.state (map member_of xs)) (sym (drop_all c.loop-member.member-index ms past)) ∙ c.loop-member.invariant
