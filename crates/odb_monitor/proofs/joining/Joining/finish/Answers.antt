use Rattle.std.proofs.Common.{rules, ◌≡◌, ◌∙◌, ◌∷◌, ◌++◌, ◌||◌, [], ℕ, List, Some, ap, false, length, nat_lt, true}
use Rattle.odb_monitor.specs.Represented.Part.{tables_text}
use Rattle.odb_monitor.proofs.Finished.{nothing_sent, text_sent}
use Rattle.odb_monitor.proofs.joining.Joining.finish.Goals as goal

pub returns-then-not-is_sent : goal.returns-then-not-is_sent
returns-then-not-is_sent c =
    let j = c.args.job.now in
    let text : List ℕ = c.self.inside.text.items in
    let is : text ≡ tables_text j.notation j.first j.parts = c.self.view_is ∙ c.requires in
    let long : c.len.result ≡ length text = search rules in
    let stays : (j.reply || nat_lt 1 c.len.result) ≡ false = search rules in
    nothing_sent j text is (nat_lt 1 c.len.result) (ap (nat_lt 1) long) stays

pub returns : goal.returns
returns c =
    let j = c.args.job.now in
    let text : List ℕ = c.self.inside.text.items in
    let is : text ≡ tables_text j.notation j.first j.parts = c.self.view_is ∙ c.requires in
    let long : c.len.result ≡ length text = search rules in
    let goes : (j.reply || nat_lt 1 c.len.result) ≡ true = search rules in
    let pushed : c.push.new.self.items ≡ text ++ 125 ∷ [] = search rules in
    ap Some pushed ∙ text_sent j text is (nat_lt 1 c.len.result) (ap (nat_lt 1) long) goes
