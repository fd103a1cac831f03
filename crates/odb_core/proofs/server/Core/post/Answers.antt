use Rattle.std.proofs.Common.{rules, ◌≡◌, ℕ, List, [], ◌∷◌, map, sym, subst, ap, ◌∙◌}
use Rattle.odb_queue.specs.Represented.Item.{item_of}
use Rattle.odb_queue.specs.Represented.Post.{post_of}
use Rattle.odb_service.specs.Session.{Item}
use Rattle.odb_sessions.specs.Book.{Book}
use Rattle.odb_sessions.specs.Posts.{all_posted}
use Rattle.odb_core.specs.Represented.Core.{IsWhole}
use Rattle.odb_core.proofs.ValidSteps.{whole_posted}
use Rattle.odb_core.proofs.server.Core.post.Goals as goal

pub invariant_of-self : goal.invariant_of-self
invariant_of-self c = subst (λ (b : Book). IsWhole c.self.inside.served b c.self.inside.waiting c.self.inside.locks c.self.inside.moment c.self.inside.opened) (sym c.in_err-post_all.ensures.err) c.self.invariant

pub invariant_of-self-2 : goal.invariant_of-self-2
invariant_of-self-2 c =
    let i = c.self.inside in
    let n = c.args.session in
    let item : Item = item_of c.args.item in
    let one : map post_of c.push_reserved.new.self.items ≡ (let p : ℕ × Item = (n, item) in p) ∷ [] = search rules in
    let told : c.post_all.new.self ≡ record (i.sessions) { sessions = all_posted i.sessions.sessions ((n, item) ∷ []) } =
    c.in_ok-post_all.ensures.ok ∙ ap (λ (xs : List (ℕ × Item)). let b : Book = record (i.sessions) { sessions = all_posted i.sessions.sessions xs } in b) one
    in
    whole_posted i.served i.sessions i.waiting i.locks i.moment i.opened n (item ∷ []) c.post_all.new.self (tt, tt) told c.self.invariant
