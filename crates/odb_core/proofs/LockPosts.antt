-- What a call on locks posts: the notices, and then the reply.
use Rattle.std.proofs.Common.{◌≡◌, ℕ, Bool, true, false, List, [], ◌∷◌, ◌++◌, map, Result, Ok, Err, sym, ◌∙◌, ap, true≢false}
use Rattle.std.specs.Prelude.{OnErr}
use Rattle.std.specs.Result.{IfOk, is_err}
use Rattle.odb_locks.specs.Locks.{Answered, Locks, Notice}
use Rattle.odb_locks.specs.Represented.Locks.{answer_of}
use Rattle.odb_rpc.specs.Message.{reply}
use Rattle.odb_schema.specs.Json.{Data}
use Rattle.odb_wire.specs.Message.{id_of}
use Rattle.odb_core.proofs.Attempts.{post_as}
use Rattle.odb_core.proofs.WorldPosts.{notices_as, posted_append}
use Rattle.odb_service.specs.Service.{Service}
use Rattle.odb_service.specs.Session.{Item, say, to}
use Rattle.odb_service.specs.World.{World, on_lock, post, post_notices, succeed}
use Rattle.odb_queue.specs.Represented.Post.{told_of}
use Rattle.odb_sessions.specs.Book.{Sessions}
use Rattle.odb_sessions.specs.Posts.{all_posted}

-- what is posted
abbrev pub answers_to : List Notice → ℕ → Data → Data → List (ℕ × Item)
answers_to ns n d r = map told_of ns ++ (n, say (to d) (reply (id_of d) r)) ∷ []

told_as : (ns : List Notice) (n : ℕ) (d r : Data) (w : World) → succeed n d r (post_notices ns w) ≡ record w { sessions = all_posted w.sessions (answers_to ns n d r) }
told_as ns n d r w =
    let i : Item = say (to d) (reply (id_of d) r) in
    let v : World = record w { sessions = all_posted w.sessions (map told_of ns) } in
    ap (post n (i ∷ [])) (notices_as ns w) ∙ post_as n (i ∷ []) v
    ∙ ap (λ m. record w { sessions = m }) (sym (posted_append w.sessions (map told_of ns) ((n, i) ∷ [])))

pub answers_as : (ns : List Notice) (n : ℕ) (d r : Data) (w : World) (ps : List (ℕ × Item)) (m : Sessions) → ps ≡ answers_to ns n d r → m ≡ all_posted w.sessions ps → succeed n d r (post_notices ns w) ≡ record w { sessions = m }
answers_as ns n d r w ps m are is = told_as ns n d r w ∙ ap (λ m. record w { sessions = m }) (sym (is ∙ ap (all_posted w.sessions) are))

-- what a call gave that went through
pub given : {A E : Type 0} (r : Result A E) (P : A → Type 0) → is_err r ≡ false → IfOk r P → (x : A) × P x
given (Ok x) P e p = (x, p)
given (Err f) P e p = absurd (true≢false e)

-- and what one left that was refused
pub refused : {A E P : Type 0} (r : Result A E) → is_err r ≡ true → OnErr r P → P
refused (Ok x) e p = absurd (true≢false (sym e))
refused (Err f) e p = p

abbrev Told : Type 0
Told = List Notice × Bool

answered : (a : Answered) (m : Locks) (l t : Told) → answer_of a ≡ Ok t → a ≡ Ok (m, l.0, l.1) → a ≡ Ok (m, t.0, t.1)
answered a m l t says is =
    let same : (let r : Result Told _ = Ok l in r) ≡ Ok t = sym (ap answer_of is) ∙ says in
    is ∙ ap (λ (t : Told). let b : Answered = Ok (m, t.0, t.1) in b) cc

-- what it does, once it is known what it will answer
pub locks_as : (h : Service) (n : ℕ) (d : Data) (result : Bool → Data) (a : Answered) (w v : World) (r : Data) (ns : List Notice) (owns : Bool) (m : Locks) (l : Told)
    → answer_of a ≡ Ok (ns, owns) → a ≡ Ok (m, l.0, l.1) → r ≡ result owns → succeed n d r (post_notices ns w) ≡ v → on_lock h n d result a w ≡ record v { locks = m }
locks_as h n d result a w v r ns owns m l says is shows e =
    let at : World → World = λ u. record u { locks = m } in
    let shown : succeed n d (result owns) (post_notices ns w) ≡ v = ap (λ r. succeed n d r (post_notices ns w)) (sym shows) ∙ e in
    ap (λ a. on_lock h n d result a w) (answered a m l (ns, owns) says is)
    ∙ told_as ns n d (result owns) (at w)
    ∙ sym (ap at (told_as ns n d (result owns) w))
    ∙ ap at shown
