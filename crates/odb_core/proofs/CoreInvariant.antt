-- The invariant of a core: at its beginning, and where a session takes or closes.
use Rattle.std.proofs.Common.{◌≡◌, ℕ, Bool, true, false, cond, not, ◌&&◌, ◌==◌, List, [], ◌∷◌, Option, Some, None, is_some, Result, Ok, Err, IfOk, refl, sym, ◌∙◌, ap, subst}
use Rattle.std.specs.Prelude.{OnErr}
use Rattle.std.specs.Ordering.{eq_by_cmp, nat_cmp}
use Rattle.odb_atoms.specs.FinMap.{get}
use Rattle.odb_schema.specs.Schema.{Schema}
use Rattle.odb_service.specs.Server.{Server, served_by}
use Rattle.odb_service.specs.Service.{Service}
use Rattle.odb_service.specs.Run.{take_each, take_of}
use Rattle.odb_service.specs.Session.{Session, take}
use Rattle.odb_service.specs.World.{World, close, revision_of, untried}
use Rattle.odb_sessions.specs.Book.{fresh_session}
use Rattle.odb_core.specs.Represented.Core.{AreUnused, IsValid, new_server, with_session}
use Rattle.odb_core.specs.Represented.Rounds.{IsRoundOf}
use Rattle.odb_core.specs.Represented.Steps.{AreTried, OnlySessions, by_service}
use Rattle.odb_service.proofs.WhoIsOpen as open_ones
use Rattle.odb_service.proofs.SessionMaps.{get-insert, same_key}
use Rattle.odb_core.proofs.SessionNumbers.{unused_in_none, unused_opened, unused_same}
use Rattle.odb_core.proofs.SessionsOfSchema.{Keeps, closes_of, none_of, put_of, takes_of}
use Rattle.odb_round.specs.OfSchema.{AreSessionsOf}

pub new_valid : (run most : ℕ) (s : Schema) → IsValid (new_server run most s)
new_valid run most s = (λ h. refl, unused_in_none, none_of s)

-- a taking leaves who is open
takes_one : (h : Service) (s q : ℕ) (w : World) (o : Option Session) → get w.sessions s ≡ o → is_some (get (take_of h s o w).0.sessions q) ≡ is_some (get w.sessions q)
takes_one h s q w None e = refl
takes_one h s q w (Some x) e = ap is_some (get-insert w.sessions s (take h (revision_of w) x).1 q) ∙ here (eq_by_cmp nat_cmp q s) refl
  where
    here : (b : Bool) → eq_by_cmp nat_cmp q s ≡ b → is_some (cond b (Some (take h (revision_of w) x).1) (get w.sessions q)) ≡ is_some (get w.sessions q)
    here true is = ap is_some (sym (ap (get w.sessions) (same_key q s is) ∙ e))
    here false is = refl

takes_all : (h : Service) (ss : List ℕ) (w : World) (q : ℕ) → is_some (get (take_each h ss w).0.sessions q) ≡ is_some (get w.sessions q)
takes_all h [] w q = refl
takes_all h (s ∷ ss) w q = takes_all h ss (take_of h s (get w.sessions s) w).0 q ∙ takes_one h s q w (get w.sessions s) refl

pub unused_taken : (h : Service) (ss : List ℕ) (w v : World) (n : ℕ) → (take_each h ss w).0 ≡ v → AreUnused w.sessions n → AreUnused v.sessions n
unused_taken h ss w v n e = unused_same w.sessions v.sessions n (λ q. ap (λ (u : World). is_some (get u.sessions q)) (sym e) ∙ takes_all h ss w q)

pub valid_taken : (ss : List ℕ) (v u : Server) (outs : List (ℕ × List ℕ)) → OnlySessions v u → IsRoundOf ss v u outs → IsValid v → IsValid u
valid_taken ss v u outs rest round h =
    let opened : u.opened ≡ v.opened = ap (λ (x : Server). x.opened) rest in
    let unused : AreUnused u.world.sessions v.opened = unused_taken (served_by v.schema) ss v.world u.world v.opened (ap (λ (x : Server). x.world) round.0) h.1 in
    let of : AreSessionsOf v.schema u.world.sessions =
    subst (λ (w : World). AreSessionsOf v.schema w.sessions) (ap (λ (x : Server). x.world) round.0) (takes_of v.schema ss v.world h.2)
    in
    (λ k. ap (λ (x : Server). untried k x.world) rest ∙ h.0 k, subst (AreUnused u.world.sessions) (sym opened) unused, subst (λ (s : Schema). AreSessionsOf s u.world.sessions) (sym (ap (λ (x : Server). x.schema) rest)) of)

-- a step that leaves who is open, and what is asked of the schema
pub valid_after : (f : Service → World → World) → ((h : Service) (w : World) (q : ℕ) → is_some (get (f h w).sessions q) ≡ is_some (get w.sessions q))
    → (v u : Server) → Keeps v.schema v.world (f (served_by v.schema) v.world) → by_service f v ≡ u → AreTried u → IsValid v → IsValid u
valid_after f leaves v u keeps e tried h =
    let unused : AreUnused u.world.sessions v.opened =
    unused_same v.world.sessions u.world.sessions v.opened (λ q. ap (λ (x : Server). is_some (get x.world.sessions q)) (sym e) ∙ leaves (served_by v.schema) v.world q) h.1
    in
    (tried, subst (AreUnused u.world.sessions) (ap (λ (x : Server). x.opened) e) unused, subst (λ (x : Server). AreSessionsOf x.schema x.world.sessions) e (keeps h.2))

pub valid_opened : (v : Server) → IsValid v → IsValid (with_session v)
valid_opened v h = (h.0, unused_opened v.world.sessions v.opened fresh_session h.1, put_of v.schema v.world.sessions v.opened fresh_session (tt, tt) h.2)

none_then : (a b : Bool) → b ≡ false → (a && b) ≡ false
none_then true b e = e
none_then false b e = refl

absent : (o : Option Session) → is_some o ≡ false → o ≡ None
absent None e = refl
absent (Some x) e = cc

pub unused_closed : (h : Service) (s n : ℕ) (w v : World) → close h s w ≡ v → AreUnused w.sessions n → AreUnused v.sessions n
unused_closed h s n w v e unused q above =
    absent (get v.sessions q) (ap (λ (u : World). is_some (get u.sessions q)) (sym e) ∙ open_ones.closes h s w q ∙ none_then (not (s == q)) (is_some (get w.sessions q)) (ap is_some (unused q above)))

pub valid_closed : (s : ℕ) (v u : Server) → by_service (λ h. close h s) v ≡ u → AreTried u → IsValid v → IsValid u
valid_closed s v u e tried h =
    let unused : AreUnused u.world.sessions v.opened = unused_closed (served_by v.schema) s v.opened v.world u.world (ap (λ (x : Server). x.world) e) h.1 in
    (tried, subst (AreUnused u.world.sessions) (ap (λ (x : Server). x.opened) e) unused, subst (λ (x : Server). AreSessionsOf x.schema x.world.sessions) e (closes_of v.schema s v.world h.2))

-- what holds however a call ended
pub either_if : {A E G Q : Type 0} (P : A → Type 0) (r : Result A E) → IfOk r P → OnErr r Q → ((a : A) → P a → G) → (Q → G) → G
either_if P (Ok a) ok err f g = f a ok
either_if P (Err e) ok err f g = g err

-- two facts of what a call gives, as one
pub if_both : {A E : Type 0} {P Q R : A → Type 0} (r : Result A E) → IfOk r P → IfOk r Q → ((a : A) → P a → Q a → R a) → IfOk r R
if_both (Ok a) p q f = f a p q
if_both (Err e) p q f = tt
