use Rattle.std.proofs.Common.{◌≡◌, ℕ, List, Option, option_map, ap, ◌∙◌}
use Rattle.std.specs.Prelude.{option_and_then}
use Rattle.odb_atoms.specs.FinMap.{get}
use Rattle.odb_queue.specs.declared.finished.Finished.{Finished}
use Rattle.odb_service.specs.Server.{served_by}
use Rattle.odb_service.specs.Session.{Item, Session}
use Rattle.odb_sessions.specs.Book.{Book, revision_in}
use Rattle.odb_round.specs.Foreseen.{last_used}
use Rattle.odb_sessions.specs.Represented.Composed.{bytes_in}
use Rattle.odb_round.specs.Represented.Taking.{ready_of, text_coming}
use Rattle.odb_round.specs.Taken.{last_text, text_from, text_taken}
use Rattle.odb_round.proofs.Rounds.{book_ready, queued_text, text_is, text_ready, uses_of}
use Rattle.odb_round.proofs.round.take.Goals as goal

pub carry_out-queued-requires : goal.carry_out-queued-requires
carry_out-queued-requires c = λ s x there. uses_of s (revision_in c.args.sessions.now) (get c.args.sessions.now.sessions c.args.planned.session) x (ready_of c.args.planned) there (c.requires s)

abbrev as_sent : ℕ → Option (List ℕ) → Option (ℕ × List ℕ)
as_sent n t = option_map (λ t. let p : ℕ × List ℕ = (n, t) in p) t

pub returns-clause-book : goal.returns-clause-book
returns-clause-book c = λ s.
    let b : Book = c.args.sessions.now in
    c.carry_out-queued.ensures.book s ∙ ap (λ m. record b { sessions = m }) (book_ready s (revision_in b) b.sessions c.args.planned.session (ready_of c.args.planned) (c.requires s))

pub returns-clause-out : goal.returns-clause-out
returns-clause-out c = λ s.
    let b : Book = c.args.sessions.now in
    let p = c.args.planned in
    let n = p.taking.items in
    let o : Option Session = get b.sessions p.session in
    let last : Option Item = option_and_then (λ x. last_used n x.queue) o in
    let ready : text_from (text_coming p.taking.coming (bytes_in p.body)) last ≡ text_taken (served_by s) (revision_in b) o = text_ready s (revision_in b) o (ready_of p) (c.requires s) in
    let queued : option_map (λ (f : Finished). f.text.items) c.carry_out-queued.result ≡ text_from last_text last = queued_text n o c.carry_out-queued.result c.carry_out-queued.ensures.text in
    c.message.ensures ∙ ap (as_sent p.session) (text_is p.taking.coming (option_map (λ (f : Finished). f.text.items) c.carry_out-queued.result) (bytes_in p.body) last queued ∙ ready)
