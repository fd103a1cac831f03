use Rattle.std.proofs.Common.{◌≡◌, ℕ, true, false, cond, List, Option, is_some, sym, ap, ◌∙◌}
use Rattle.std.proofs.lemmas.Result.{IfOk-weaker}
use Rattle.odb_queue.specs.Represented.Item.{item_of}
use Rattle.odb_schema.specs.Schema.{Schema}
use Rattle.odb_service.specs.Session.{Item}
use Rattle.odb_sessions.specs.Asked.{ended_in}
use Rattle.odb_sessions.specs.Book.{Book, Sessions}
use Rattle.odb_sessions.specs.Committed.{end_posted}
use Rattle.odb_sessions.specs.Posts.{at_number, posted}
use Rattle.odb_tables.specs.Change.{Changes}
use Rattle.odb_sessions.proofs.sessions.Sessions.post_ended.Goals as goal

-- one that made a change
after_syncs : (s : Schema) (m : Sessions) (n k : ℕ) (i j : Item) (o : Option (List Changes)) → n ≡ k → i ≡ j → is_some o ≡ true → at_number (ended_in s i) m n ≡ end_posted s m (k, (j, o))
after_syncs s m n k i j o session reply there = (λ x. at_number (ended_in s (reply x)) m (session x)) ∙ sym (ap (λ b. cond b (at_number (ended_in s j) m k) (posted m (k, j))) there)

-- one that made none
alone : (s : Schema) (m : Sessions) (n k : ℕ) (i j : Item) (o : Option (List Changes)) → n ≡ k → i ≡ j → is_some o ≡ false → posted m (n, i) ≡ end_posted s m (k, (j, o))
alone s m n k i j o session reply none = (λ x. posted m (session x, reply x)) ∙ sym (ap (λ b. cond b (at_number (ended_in s j) m k) (posted m (k, j))) none)

pub returns-then-has_changed-clause-ok : goal.returns-then-has_changed-clause-ok
returns-then-has_changed-clause-ok c =
    let old : Book = c.args.self.now in
    let parts = c.into_parts-session.result in
    let is = c.into_parts-session.ensures in
    let e = c.args.ended in
    IfOk-weaker c.post_end.result _ _
    (λ p done s. done s ∙ ap (λ (m : Sessions). let b : Book = record old { sessions = m } in b) (after_syncs s old.sessions parts.0 e.session (item_of parts.1) (item_of e.reply) e.change is.session (ap item_of is.reply) (sym is.change ∙ c.if-has_changed.true)))
    c.post_end.ensures.ok

pub returns-clause-ok : goal.returns-clause-ok
returns-clause-ok c =
    let old : Book = c.args.self.now in
    let parts = c.into_parts-session.result in
    let is = c.into_parts-session.ensures in
    let e = c.args.ended in
    IfOk-weaker c.post_reply.result _ _
    (λ p done s. done ∙ ap (λ (m : Sessions). let b : Book = record old { sessions = m } in b) (alone s old.sessions parts.0 e.session (item_of parts.1) (item_of e.reply) e.change is.session (ap item_of is.reply) (sym is.change ∙ c.if-has_changed.false)))
    c.post_reply.ensures.ok
