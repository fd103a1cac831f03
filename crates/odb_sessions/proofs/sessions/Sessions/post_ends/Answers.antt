use Rattle.std.proofs.Common.{rules, ◌≡◌, List, [], ◌∷◌, length, map, sym, ap, ◌∙◌}
use Rattle.std.proofs.lemmas.List.{nil_from_length}
use Rattle.odb_schema.specs.Schema.{Schema}
use Rattle.odb_sessions.specs.Book.{Book}
use Rattle.odb_sessions.specs.Committed.{end_posted, ends_posted, without_posts}
use Rattle.odb_sessions.specs.Represented.Ended.{ending_of}
use Rattle.odb_sessions.specs.declared.ended.Ended.{Ended}
use Rattle.odb_sessions.proofs.sessions.Sessions.post_ends.Goals as goal

pub loop-one-preserved : goal.loop-one-preserved
loop-one-preserved c =
    let old = c.loop-one in
    let rest : List Ended = c.next.new.self.rest.items in
    let step : old.one-iterator.rest.items ≡ c.in-Some.one ∷ rest = search rules in
    let back : without_posts c.post_next.new.posted_to.items c.post_next.new.self ≡ without_posts old.posted_to.items old.self = search rules in
    let posted : (s : Schema) → c.post_next.new.self ≡ (let b : Book = record (old.self) { sessions = end_posted s old.self.sessions (ending_of c.in-Some.one) } in b) = search rules in
    record {
      posted = λ s.
          ap (ends_posted s (map ending_of rest)) (posted s)
          ∙ ap (λ (es : List Ended). ends_posted s (map ending_of es) old.self) (sym step) ∙ old.invariant.posted s;
      back = back ∙ old.invariant.back;
    }

pub returns-clause-ok : goal.returns-clause-ok
returns-clause-ok c = λ s.
    let old = c.loop-one in
    let all : c.into_iter-one-iterator.result.rest.items ≡ c.args.ended.items = search rules in
    let long : length old.one-iterator.rest.items ≡ old.one-iterator.rest.len = search rules in
    let none : old.one-iterator.rest.items ≡ [] = nil_from_length old.one-iterator.rest.items (long ∙ c.in-None.ensures.steps.0) in
    sym (ap (λ (es : List Ended). ends_posted s (map ending_of es) old.self) none) ∙ old.invariant.posted s
    ∙ ap (λ (es : List Ended). ends_posted s (map ending_of es) c.args.self.now) all
