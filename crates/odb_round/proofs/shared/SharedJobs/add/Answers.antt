use Rattle.std.proofs.Common.{rules, ◌≡◌, ◌++◌, List, [], ◌∷◌, subst, sym}
use Rattle.std.specs.List.{All}
use Rattle.std.proofs.lemmas.List.Elements.{All-push}
use Rattle.odb_round.specs.Jobs.{Shared}
use Rattle.odb_round.specs.Represented.Decided.{ArePlacesOf, AreSharedPlaced, IsPlaceOf, IsSharedIn}
use Rattle.odb_round.specs.Represented.Served.{IsAtPlace}
use Rattle.odb_round.proofs.shared.SharedJobs.add.Goals as goal

pub returns-clause-shared : goal.returns-clause-shared
returns-clause-shared c = λ m own all.
    let old : List Shared = c.self.inside.jobs.items in
    let e : Shared = c.args.job in
    let more : c.push_reserved.new.self.items ≡ old ++ e ∷ [] = search rules in
    subst (λ (es : List Shared). All (IsSharedIn m) es) (sym more) (All-push (IsSharedIn m) old e (subst (λ (es : List Shared). All (IsSharedIn m) es) (sym c.self.view_is) all) own)

pub returns-clause-places : goal.returns-clause-places
returns-clause-places c = λ k us js own all.
    let old : List Shared = c.self.inside.jobs.items in
    let e : Shared = c.args.job in
    let more : c.push_reserved.new.self.items ≡ old ++ e ∷ [] = search rules in
    subst (ArePlacesOf k us js) (sym more) (All-push (λ (d : Shared). IsPlaceOf k us js d.likeness d.place) old e (subst (ArePlacesOf k us js) (sym c.self.view_is) all) own)

pub returns-then-is_err-clause-shared : goal.returns-then-is_err-clause-shared
returns-then-is_err-clause-shared c = λ m own all.
    let same : c.reserve.new.self.items ≡ c.self.inside.jobs.items = search rules in
    subst (λ (es : List Shared). All (IsSharedIn m) es) (sym same) (subst (λ (es : List Shared). All (IsSharedIn m) es) (sym c.self.view_is) all)

pub returns-then-is_err-clause-places : goal.returns-then-is_err-clause-places
returns-then-is_err-clause-places c = λ k us js own all.
    let same : c.reserve.new.self.items ≡ c.self.inside.jobs.items = search rules in
    subst (ArePlacesOf k us js) (sym same) (subst (ArePlacesOf k us js) (sym c.self.view_is) all)

pub returns-clause-placed : goal.returns-clause-placed
returns-clause-placed c = λ ls own all.
    let old : List Shared = c.self.inside.jobs.items in
    let e : Shared = c.args.job in
    let more : c.push_reserved.new.self.items ≡ old ++ e ∷ [] = search rules in
    subst (AreSharedPlaced ls) (sym more) (All-push (λ (d : Shared). IsAtPlace ls d.likeness d.place) old e (subst (AreSharedPlaced ls) (sym c.self.view_is) all) own)

pub returns-then-is_err-clause-placed : goal.returns-then-is_err-clause-placed
returns-then-is_err-clause-placed c = λ ls own all.
    let same : c.reserve.new.self.items ≡ c.self.inside.jobs.items = search rules in
    subst (AreSharedPlaced ls) (sym same) (subst (AreSharedPlaced ls) (sym c.self.view_is) all)
