use Rattle.std.proofs.Common.{rules, ◌≡◌, ◌<◌, true, List, length, slice_index_or, subst, sym, ap}
use Rattle.std.specs.List.{All}
use Rattle.odb_sessions.specs.Alike.{Likeness}
use Rattle.odb_round.specs.Jobs.{Shared}
use Rattle.odb_sessions.specs.Represented.Alike.{likeness_in}
use Rattle.odb_round.specs.Represented.Decided.{ArePlacesOf, AreSharedPlaced, IsPlaceOf, IsSharedIn}
use Rattle.odb_round.specs.Represented.Served.{IsAtPlace}
use Rattle.odb_sessions.specs.declared.way.Way.TheVariants as way
use Rattle.odb_round.proofs.shared.SharedJobs.find.Goals as goal

pub returns-then-serves-clause-job : goal.returns-then-serves-clause-job
returns-then-serves-clause-job c = λ m k us js alike shared known all.
    let xs : List Shared = c.self.inside.jobs.items in
    let i = c.loop-job.job-index in
    let x : Shared = c.job-item.result in
    let inside : i < length xs = search rules in
    let is : x ≡ slice_index_or xs i x = search rules in
    let own : IsSharedIn m x = subst (IsSharedIn m) (sym is) (subst (λ (es : List Shared). All (IsSharedIn m) es) (sym c.self.view_is) shared i x inside) in
    let one : IsPlaceOf k us js x.likeness x.place = subst (λ (e : Shared). IsPlaceOf k us js e.likeness e.place) (sym is) (subst (ArePlacesOf k us js) (sym c.self.view_is) all i x inside) in
    let serves : c.serves.result ≡ true = search rules in
    let place : x.place ≡ c.job.inside.place = sym (ap (λ (e : Shared). e.place) c.job.view_is) in
    subst (IsPlaceOf k us js (likeness_in c.args.monitor.now way.Asked)) place (subst (λ (l : Likeness). IsPlaceOf k us js l x.place) (c.serves.ensures serves m alike own known) one)

pub returns-then-serves-clause-likeness : goal.returns-then-serves-clause-likeness
returns-then-serves-clause-likeness c = λ m ls alike shared known all.
    let xs : List Shared = c.self.inside.jobs.items in
    let i = c.loop-job.job-index in
    let x : Shared = c.job-item.result in
    let inside : i < length xs = search rules in
    let is : x ≡ slice_index_or xs i x = search rules in
    let own : IsSharedIn m x = subst (IsSharedIn m) (sym is) (subst (λ (es : List Shared). All (IsSharedIn m) es) (sym c.self.view_is) shared i x inside) in
    let one : IsAtPlace ls x.likeness x.place = subst (λ (e : Shared). IsAtPlace ls e.likeness e.place) (sym is) (subst (AreSharedPlaced ls) (sym c.self.view_is) all i x inside) in
    let serves : c.serves.result ≡ true = search rules in
    let place : x.place ≡ c.job.inside.place = sym (ap (λ (e : Shared). e.place) c.job.view_is) in
    subst (IsAtPlace ls (likeness_in c.args.monitor.now way.Asked)) place (subst (λ (l : Likeness). IsAtPlace ls l x.place) (c.serves.ensures serves m alike own known) one)
