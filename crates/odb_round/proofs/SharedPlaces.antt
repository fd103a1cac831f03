-- Places of jobs that are found by numbers: what was decided of one client serves another that asks the same.
use Rattle.std.proofs.Common.{◌≡◌, ℕ, false, List, [], ◌∷◌, map, slice_get, slice_index_or, Option, Some, None, refl, sym, ap, subst, ◌∙◌}
use Rattle.std.proofs.lemmas.List.Elements.{All-from_recursion}
use Rattle.std.proofs.lemmas.Option.{same_Some}
use Rattle.odb_chain.specs.Chains.{Chains}
use Rattle.odb_monitor.specs.Job.{Job}
use Rattle.odb_recent.specs.Undo.{Undo}
use Rattle.odb_request.specs.Request.{Notation, Request}
use Rattle.odb_sessions.specs.Alike.{Likeness, Stand}
use Rattle.odb_sessions.specs.Composed.{asked_of}
use Rattle.odb_sessions.specs.Marked.{MarkedMonitor, Sessions, Watched}
use Rattle.odb_round.specs.Jobs.{Keeps, Shared}
use Rattle.odb_sessions.specs.Represented.Alike.{likeness_in, stand_in}
use Rattle.odb_round.specs.Represented.Decided.{AreShared, AreSharedPlaced, IsPlaceOf, IsSharedIn}
use Rattle.odb_round.specs.Represented.Served.{IsAtPlace}
use Rattle.odb_sessions.specs.Watches.{AreAlike, asking_in}
use Rattle.odb_round.specs.Known.{Basis, IsKnownAs}
use Rattle.odb_sessions.specs.declared.way.Way.TheVariants as way
use Rattle.odb_round.proofs.Places.{keeps_on}
use Rattle.odb_round.proofs.Served.{at_later}

pub none_shared : (g : Basis) (k : Chains) (us : List Undo) (js : List Job) (es : List Shared) → es ≡ [] → AreAlike g.sessions → AreShared g k us js es
none_shared g k us js es none alike =
    subst (AreShared g k us js) (sym none) (alike, All-from_recursion (IsSharedIn g.sessions) [] tt, All-from_recursion (λ (e : Shared). IsPlaceOf k us js e.likeness e.place) [] tt)

-- among more jobs
pub still_shared : (g : Basis) (k : Chains) (us : List Undo) (a b : List Job) (es : List Shared) → Keeps a b → AreShared g k us a es → AreShared g k us b es
still_shared g k us a b es keeps h = (h.0, h.1, λ i e low all kept. h.2 i e low all (keeps_on a b all keeps kept))

-- none stands anywhere
pub none_placed : (ls : List Likeness) (es : List Shared) → es ≡ [] → AreSharedPlaced ls es
none_placed ls es none = subst (AreSharedPlaced ls) (sym none) (All-from_recursion (λ (e : Shared). IsAtPlace ls e.likeness e.place) [] tt)

-- among more likenesses
pub still_shared_placed : (a b : List Likeness) (es : List Shared) → Keeps a b → AreSharedPlaced a es → AreSharedPlaced b es
still_shared_placed a b es kept h i e low = at_later a b (slice_index_or es i e).likeness (slice_index_or es i e).place kept (h i e low)

-- what a monitor asks is what the likeness of its client asks
pub asked_stands : (ws : List Watched) → map (λ (t : Stand). t.request) (map (stand_in way.Asked) ws) ≡ asked_of ws
asked_stands [] = refl
asked_stands (w ∷ ws) = ap (λ (qs : List Request). w.request ∷ qs) (asked_stands ws)

pub shared_known : (m : Sessions) (w : ℕ × ℕ) (x : MarkedMonitor) (place : Option ℕ) → IsKnownAs m (Some w) x → IsSharedIn m (record { watch = w; likeness = likeness_in x way.Asked; place = place })
shared_known m w x place h = (h.0, h.1, h.2, h.3, h.4 ∙ ap (λ (qs : List Request). let p : Notation × List Request = (x.notation, qs) in Some p) (sym (asked_stands x.tables)))

-- of two that are known by one number and place, where the client of one stands to its tables as that of the other if both ask the same
pub serves_like : (m : Sessions) (e : Shared) (x y : MarkedMonitor) (w : ℕ × ℕ) → AreAlike m → IsSharedIn m e → IsKnownAs m (Some w) y → e.watch ≡ w → e.likeness ≡ likeness_in x way.Asked
    → (asked_of x.tables ≡ asked_of y.tables → map (stand_in way.Asked) x.tables ≡ map (stand_in way.Asked) y.tables) → likeness_in x way.Asked ≡ likeness_in y way.Asked
serves_like m e x y w alike shared known same is stands =
    let number : shared.1.watch ≡ Some w.0 = shared.3 ∙ ap (λ (v : ℕ × ℕ). Some v.0) same in
    let asking : asking_in shared.1 ≡ asking_in known.1 = alike shared.0 known.0 w.0 shared.1 known.1 shared.2 known.2 number known.3 in
    let pair : (let p : Notation × List Request = (e.likeness.notation, map (λ (t : Stand). t.request) e.likeness.stands) in p) ≡ (y.notation, asked_of y.tables) =
    same_Some _ _ (sym shared.4 ∙ (λ i. slice_get (asking i) (same i).1) ∙ known.4)
    in
    let notation : x.notation ≡ y.notation = ap (λ (l : Likeness). l.notation) (sym is) ∙ ap (λ (p : Notation × List Request). p.0) pair in
    let asked : asked_of x.tables ≡ asked_of y.tables = sym (asked_stands x.tables) ∙ ap (λ (l : Likeness). map (λ (t : Stand). t.request) l.stands) (sym is) ∙ ap (λ (p : Notation × List Request). p.1) pair in
    λ i. record { notation = notation i; first = false; ago = None; stands = stands asked i }
