use Rattle.std.proofs.Common.{rules, ◌≡◌, not, ap, ◌∙◌, filter}
use Rattle.std.proofs.lemmas.Fn.{filter_same}
use Rattle.odb_front.specs.Front.{Ids, Text, is_reply_to}
use Rattle.odb_front.proofs.ids.Ids.note_reply.Goals as goal

pub returns : goal.returns
returns c =
    let left : c.retain.new.self.items ≡ filter (λ (t : Text). not (is_reply_to c.args.reply.now t)) c.self.inside.waiting.items = filter_same _ _ _ (λ x b f' k. search rules) _ _ c.retain.ensures.filtered in
    λ i. record { first = (c.self.view_is i).first; second = (c.self.view_is i).second; server = (c.self.view_is i).server; waiting = (left ∙ ap (λ (x : Ids). filter (λ (t : Text). not (is_reply_to c.args.reply.now t)) x.waiting) c.self.view_is) i; unanswered = (c.self.view_is i).unanswered }
