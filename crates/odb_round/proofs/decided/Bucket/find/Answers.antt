use Rattle.std.proofs.Common.{rules, ◌≡◌, ◌<◌, true, false, List, length, slice_index_or, subst, sym, ap}
use Rattle.std.specs.List.{All}
use Rattle.std.proofs.lemmas.List.Elements.{All-more}
use Rattle.odb_sessions.specs.Alike.{Likeness}
use Rattle.odb_round.specs.Jobs.{Decision}
use Rattle.odb_sessions.specs.Represented.Alike.{likeness_in}
use Rattle.odb_round.specs.Represented.Decided.{Differs, IsAmong, IsDecisionOf}
use Rattle.odb_round.proofs.decided.Bucket.find.Goals as goal

pub returns-then-serves-clause-some : goal.returns-then-serves-clause-some
returns-then-serves-clause-some c = λ s of other.
    let xs : List Decision = c.self.inside.decisions.items in
    let i = c.loop-decision.decision-index in
    let x : Decision = c.decision-item.result in
    let l : Likeness = likeness_in c.args.monitor.now c.args.way in
    let d : Decision = record { likeness = l; place = c.decision.inside.place } in
    let inside : i < length xs = search rules in
    let at : x ≡ slice_index_or xs i x = search rules in
    let serves : c.serves.result ≡ true = search rules in
    let place : c.decision.inside.place ≡ x.place = ap (λ (e : Decision). e.place) c.decision.view_is in
    let all : All (IsDecisionOf s) xs = subst (All (IsDecisionOf s)) (sym c.self.view_is) of in
    let alike : x.likeness ≡ l = c.serves.ensures.same serves s (subst (IsDecisionOf s) (sym at) (all i x inside)) other in
    let same : x ≡ d = λ j. let e : Decision = record { likeness = alike j; place = sym place j } in e in
    subst (λ (ys : List Decision). IsAmong ys d) c.self.view_is (subst (IsAmong xs) same (i, inside, at))

pub loop-decision-preserved : goal.loop-decision-preserved
loop-decision-preserved c =
    let xs : List Decision = c.deref-decision-items.result.now in
    let i = c.loop-decision.decision-index in
    let x : Decision = c.decision-item.result in
    let l : Likeness = likeness_in c.args.monitor.now c.args.way in
    let inside : i < length xs = search rules in
    let at : x ≡ slice_index_or xs i x = search rules in
    let differ : c.serves.result ≡ false = search rules in
    let own : Differs l x = c.serves.ensures.differs differ in
    All-more (Differs l) xs i x inside c.loop-decision.invariant (subst (Differs l) at own)
