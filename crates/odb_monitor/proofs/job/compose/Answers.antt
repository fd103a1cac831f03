use Rattle.std.proofs.Common.{rules, ◌≡◌, ◌++◌, ◌∷◌, ◌||◌, [], None, Some, false, flat_map, not, option_map, subst, true}
use Rattle.std.specs.List.{list_any}
use Rattle.json.specs.Print.{print}
use Rattle.json.specs.Token.{begin_object, end_object}
use Rattle.serde_json.specs.Written.{compact_text}
use Rattle.odb_monitor.specs.Job.{Job, updates_of}
use Rattle.odb_monitor.specs.Represented.Part.{is_silent, part_tokens}
use Rattle.odb_monitor.proofs.Joined.{none_sent, some_sent}
use Rattle.odb_request.specs.Represented.Notation.{notation_of}
use Rattle.odb_monitor.proofs.job.compose.Goals as goal

pub returns-then-not-is_sent : goal.returns-then-not-is_sent
returns-then-not-is_sent c =
    let i = c.job.inside in
    let j : Job = record { notation = notation_of i.notation; first = i.first; reply = i.reply; parts = i.parts.items } in
    let shown : c.in_ok-shown.shown ≡ list_any (λ p. not (is_silent j.first p)) j.parts = search rules in
    let sent : (j.reply || c.in_ok-shown.shown) ≡ false = search rules in
    subst (λ (x : Job). None ≡ option_map compact_text (updates_of x)) c.job.view_is (none_sent j c.in_ok-shown.shown shown sent)

pub returns : goal.returns
returns c =
    let i = c.job.inside in
    let j : Job = record { notation = notation_of i.notation; first = i.first; reply = i.reply; parts = i.parts.items } in
    let ts = flat_map (part_tokens j.notation j.first) j.parts in
    let shown : c.in_ok-shown.shown ≡ list_any (λ p. not (is_silent j.first p)) j.parts = search rules in
    let sent : (j.reply || c.in_ok-shown.shown) ≡ true = search rules in
    let text : c.finish.result.items ≡ print (begin_object ∷ (ts ++ end_object ∷ [])) = search rules in
    subst (λ (x : Job). Some c.finish.result.items ≡ option_map compact_text (updates_of x)) c.job.view_is (some_sent j c.in_ok-shown.shown c.finish.result.items shown sent text)
