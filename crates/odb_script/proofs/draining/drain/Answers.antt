use Rattle.std.proofs.Common.{rules, ◌≡◌, ℕ, List, [], ◌∷◌, ◌++◌, Ok, map, sym, ap, ◌∙◌}
use Rattle.std.proofs.lemmas.List.{map-append}
use Rattle.odb_service.specs.Run.{round}
use Rattle.odb_service.specs.Server.{Server, serve}
use Rattle.odb_sessions.specs.Represented.Out.{sent_in, text_of_out}
use Rattle.odb_script.specs.Script.{line_of}
use Rattle.odb_script.specs.Represented.Draining.{drained_session}
use Rattle.odb_script.proofs.DrainOne.{Rests, one_round, rests}
use Rattle.odb_script.proofs.draining.drain.Goals as goal

pub loop-out-smaller : goal.loop-out-smaller
loop-out-smaller c =
    let served : serve (round (c.args.session ∷ [])) c.loop-out.core ≡ Ok (c.round.new.self, map sent_in c.in_ok-round.field-0.items) = search rules in
    let popped : c.in_ok-round.field-0.items ≡ c.pop.new.self.items ++ c.in-Some.out ∷ [] = search rules in
    let r : Rests c.args.name.now c.args.session c.loop-out.core c.loop-out.text.items c.round.new.self (map sent_in c.in_ok-round.field-0.items) = rests c.args.name.now c.args.session c.loop-out.core c.loop-out.text.items _ _ (one_round _ _ _ _ served) in
    (r.more (map sent_in c.pop.new.self.items) c.in-Some.out.session (text_of_out c.in-Some.out) (ap (map sent_in) popped ∙ map-append sent_in c.pop.new.self.items (c.in-Some.out ∷ []))).1

pub loop-out-preserved : goal.loop-out-preserved
loop-out-preserved c =
    let served : serve (round (c.args.session ∷ [])) c.loop-out.core ≡ Ok (c.round.new.self, map sent_in c.in_ok-round.field-0.items) = search rules in
    let popped : c.in_ok-round.field-0.items ≡ c.pop.new.self.items ++ c.in-Some.out ∷ [] = search rules in
    let r : Rests c.args.name.now c.args.session c.loop-out.core c.loop-out.text.items c.round.new.self (map sent_in c.in_ok-round.field-0.items) = rests c.args.name.now c.args.session c.loop-out.core c.loop-out.text.items _ _ (one_round _ _ _ _ served) in
    let wrote : c.print_out.new.text.items ≡ c.loop-out.text.items ++ line_of c.args.name.now (text_of_out c.in-Some.out) = search rules in (
      c.loop-out.invariant.0
          ∙ (r.more (map sent_in c.pop.new.self.items) c.in-Some.out.session (text_of_out c.in-Some.out) (ap (map sent_in) popped ∙ map-append sent_in c.pop.new.self.items (c.in-Some.out ∷ []))).0
          ∙ ap (λ t. drained_session c.args.name.now c.args.session (c.round.new.self, t)) (sym wrote),
      sym (ap (λ (v : Server × List (ℕ × List ℕ)). v.0.opened) (one_round _ _ _ _ served)) ∙ c.loop-out.invariant.1,
    )

pub returns-clause-done : goal.returns-clause-done
returns-clause-done c =
    let served : serve (round (c.args.session ∷ [])) c.loop-out.core ≡ Ok (c.round.new.self, map sent_in c.in_ok-round.field-0.items) = search rules in
    let none : c.in_ok-round.field-0.items ≡ [] = search rules in
    let r : Rests c.args.name.now c.args.session c.loop-out.core c.loop-out.text.items c.round.new.self (map sent_in c.in_ok-round.field-0.items) = rests c.args.name.now c.args.session c.loop-out.core c.loop-out.text.items _ _ (one_round _ _ _ _ served) in
    c.loop-out.invariant.0 ∙ r.last (ap (map sent_in) none)
