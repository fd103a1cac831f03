-- A round takes once for each session that it lists.
use Rattle.std.proofs.Common.{◌≡◌, ℕ, ◌==◌, Bool, true, false, cond, List, [], ◌∷◌, ◌++◌, Option, Some, None, refl, sym, ◌∙◌, ap, subst, not, ◌||◌, true≢false, ◌⊎◌, inl, inr, append-nil}
use Rattle.std.specs.Prelude.{option_to_list, filter}
use Rattle.std.specs.List.{list_any}
use borrow.Author.Tests.{eqb-true}
use Rattle.odb_atoms.specs.FinMap.{get}
use Rattle.odb_law.proofs.HeadlineRuns.{sent_to-append, sent_to_itself, sent_to_other}
use Rattle.odb_service.proofs.SessionMaps.{get-insert, key-itself}
use Rattle.odb_service.specs.Run.{once, sent_to, take_each, take_of}
use Rattle.odb_service.specs.Service.{Service}
use Rattle.odb_service.specs.Session.{Out, Revision, Session, take}
use Rattle.odb_service.specs.World.{World, revision_of}
use Rattle.odb_service.proofs.SessionMaps.{apart_keys}

-- ---- a round takes once for each session

abbrev pub IsIn : ℕ → List ℕ → Bool
IsIn s ss = list_any (λ t. t == s) ss

abbrev pub AreOnce : List ℕ → Type 0
AreOnce [] = Unit {0}
AreOnce (s ∷ ss) = (IsIn s ss ≡ false) × AreOnce ss

neither : (a b : Bool) → (a || b) ≡ false → (a ≡ false) × (b ≡ false)
neither true b e = absurd (true≢false e)
neither false b e = (refl, e)

not_in_filter : (s t : ℕ) (ss : List ℕ) → IsIn t ss ≡ false → IsIn t (filter (λ u. not (u == s)) ss) ≡ false
not_in_filter s t [] e = refl
not_in_filter s t (u ∷ ss) e =
    let n : (u == t ≡ false) × (IsIn t ss ≡ false) = neither (u == t) (IsIn t ss) e in
    elim (u == s) as (λ b. IsIn t (cond (not b) (u ∷ filter (λ u. not (u == s)) ss) (filter (λ u. not (u == s)) ss)) ≡ false) [
      | true ↦ not_in_filter s t ss n.1
      | false ↦ ap (λ b. b || IsIn t (filter (λ u. not (u == s)) ss)) n.0 ∙ not_in_filter s t ss n.1
    ]

filtered_out : (s : ℕ) (ss : List ℕ) → IsIn s (filter (λ u. not (u == s)) ss) ≡ false
filtered_out s [] = refl
filtered_out s (u ∷ ss) =
    elim (u == s) as (λ b. (u == s) ≡ b → IsIn s (cond (not b) (u ∷ filter (λ u. not (u == s)) ss) (filter (λ u. not (u == s)) ss)) ≡ false) [
      | true ↦ λ _. filtered_out s ss
      | false ↦ λ n. ap (λ b. b || IsIn s (filter (λ u. not (u == s)) ss)) n ∙ filtered_out s ss
    ] refl

filter_once : (s : ℕ) (ss : List ℕ) → AreOnce ss → AreOnce (filter (λ u. not (u == s)) ss)
filter_once s [] a = tt
filter_once s (u ∷ ss) a =
    elim (u == s) as (λ b. AreOnce (cond (not b) (u ∷ filter (λ u. not (u == s)) ss) (filter (λ u. not (u == s)) ss))) [
      | true ↦ filter_once s ss a.1
      | false ↦ (not_in_filter s u ss a.0, filter_once s ss a.1)
    ]

pub once_once : (ss : List ℕ) → AreOnce (once ss)
once_once [] = tt
once_once (s ∷ ss) = (filtered_out s (once ss), filter_once s (once ss) (once_once ss))

-- who isn't listed isn't listed once
pub not_in_once : (t : ℕ) (ss : List ℕ) → IsIn t ss ≡ false → IsIn t (once ss) ≡ false
not_in_once t [] e = refl
not_in_once t (s ∷ ss) e =
    let n : (s == t ≡ false) × (IsIn t ss ≡ false) = neither (s == t) (IsIn t ss) e in
    ap (λ b. b || IsIn t (filter (λ u. not (u == s)) (once ss))) n.0 ∙ not_in_filter s t (once ss) (not_in_once t ss n.1)

module _ (h : Service) where
  pub of_db : (s : ℕ) (o : Option Session) (w : World) → (take_of h s o w).0.db ≡ w.db
  of_db s None w = refl
  of_db s (Some x) w = refl

  -- a taking leaves what takings look at
  of_revision : (s : ℕ) (o : Option Session) (w : World) → revision_of (take_of h s o w).0 ≡ revision_of w
  of_revision s None w = refl
  of_revision s (Some x) w = refl

  pub each_db : (ss : List ℕ) (w : World) → (take_each h ss w).0.db ≡ w.db
  each_db [] w = refl
  each_db (s ∷ ss) w = each_db ss (take_of h s (get w.sessions s) w).0 ∙ of_db s (get w.sessions s) w

  pub of_other : (t s : ℕ) (o : Option Session) (w : World) → (s == t) ≡ false → (get (take_of h s o w).0.sessions t ≡ get w.sessions t) × (sent_to t (take_of h s o w).1 ≡ [])
  of_other t s None w e = (refl, refl)
  of_other t s (Some x) w e =
      (get-insert w.sessions s (take h (revision_of w) x).1 t ∙ ap (λ b. cond b (Some (take h (revision_of w) x).1) (get w.sessions t)) (apart_keys t s e), sent_to_other t s (take h (revision_of w) x).0 (apart_keys t s e))

  pub each_other : (t : ℕ) (ss : List ℕ) (w : World) → IsIn t ss ≡ false → (get (take_each h ss w).0.sessions t ≡ get w.sessions t) × (sent_to t (take_each h ss w).1 ≡ [])
  each_other t [] w e = (refl, refl)
  each_other t (s ∷ ss) w e =
      let n : (s == t ≡ false) × (IsIn t ss ≡ false) = neither (s == t) (IsIn t ss) e in
      let a : (get (take_of h s (get w.sessions s) w).0.sessions t ≡ get w.sessions t) × (sent_to t (take_of h s (get w.sessions s) w).1 ≡ []) = of_other t s (get w.sessions s) w n.0 in
      let b : (get (take_each h ss (take_of h s (get w.sessions s) w).0).0.sessions t ≡ get (take_of h s (get w.sessions s) w).0.sessions t) × (sent_to t (take_each h ss (take_of h s (get w.sessions s) w).0).1 ≡ []) = each_other t ss (take_of h s (get w.sessions s) w).0 n.1 in
      (b.0 ∙ a.0, sent_to-append t (take_of h s (get w.sessions s) w).1 (take_each h ss (take_of h s (get w.sessions s) w).0).1 ∙ (λ i. a.1 i ++ b.1 i))

  -- a session is sent nothing, or took once
  abbrev pub Took : List ℕ → World → ℕ → Type 0
  Took ss w t =
      (sent_to t (take_each h ss w).1 ≡ [])
      ⊎ ((x : Session) × (get w.sessions t ≡ Some x) × (sent_to t (take_each h ss w).1 ≡ option_to_list (take h (revision_of w) x).0) × (get (take_each h ss w).0.sessions t ≡ Some (take h (revision_of w) x).1))

  abbrev Got : Option Session → World → List Out → Option Session → Type 0
  Got o w os p = (os ≡ []) ⊎ ((x : Session) × (o ≡ Some x) × (os ≡ option_to_list (take h (revision_of w) x).0) × (p ≡ Some (take h (revision_of w) x).1))

  of_itself : (s : ℕ) (o : Option Session) (w : World) → get w.sessions s ≡ o → Got o w (sent_to s (take_of h s o w).1) (get (take_of h s o w).0.sessions s)
  of_itself s None w e = inl refl
  of_itself s (Some x) w e =
      inr (x, refl, sent_to_itself s (take h (revision_of w) x).0, get-insert w.sessions s (take h (revision_of w) x).1 s ∙ ap (λ b. cond b (Some (take h (revision_of w) x).1) (get w.sessions s)) (key-itself s))

  first_took : (s : ℕ) (ss : List ℕ) (w : World) → IsIn s ss ≡ false → Took (s ∷ ss) w s
  first_took s ss w a =
      let v : World = (take_of h s (get w.sessions s) w).0 in
      let b : (get (take_each h ss v).0.sessions s ≡ get v.sessions s) × (sent_to s (take_each h ss v).1 ≡ []) = each_other s ss v a in
      subst (λ os. Got (get w.sessions s) w os (get (take_each h ss v).0.sessions s))
      (sym (sent_to-append s (take_of h s (get w.sessions s) w).1 (take_each h ss v).1 ∙ ap (λ os. sent_to s (take_of h s (get w.sessions s) w).1 ++ os) b.1 ∙ append-nil (sent_to s (take_of h s (get w.sessions s) w).1)))
      (subst (Got (get w.sessions s) w (sent_to s (take_of h s (get w.sessions s) w).1)) (sym b.0) (of_itself s (get w.sessions s) w refl))

  later_took : (s t : ℕ) (ss : List ℕ) (w : World) → (s == t) ≡ false → Took ss (take_of h s (get w.sessions s) w).0 t → Took (s ∷ ss) w t
  later_took s t ss w apart k =
      let v : World = (take_of h s (get w.sessions s) w).0 in
      let p : Option Session = get (take_each h ss v).0.sessions t in
      let a : (get v.sessions t ≡ get w.sessions t) × (sent_to t (take_of h s (get w.sessions s) w).1 ≡ []) = of_other t s (get w.sessions s) w apart in
      subst (λ os. Got (get w.sessions t) w os p)
      (sym (sent_to-append t (take_of h s (get w.sessions s) w).1 (take_each h ss v).1 ∙ ap (λ os. os ++ sent_to t (take_each h ss v).1) a.1))
      (subst (λ o. Got o w (sent_to t (take_each h ss v).1) p) a.0
      (subst (λ (revision : Revision). (sent_to t (take_each h ss v).1 ≡ []) ⊎ ((x : Session) × (get v.sessions t ≡ Some x) × (sent_to t (take_each h ss v).1 ≡ option_to_list (take h revision x).0) × (p ≡ Some (take h revision x).1))) (of_revision s (get w.sessions s) w) k))

  pub take_once : (ss : List ℕ) (w : World) → AreOnce ss → (t : ℕ) → Took ss w t
  take_once [] w a t = inl refl
  take_once (s ∷ ss) w a t =
      elim (s == t) as (λ b. (s == t) ≡ b → Took (s ∷ ss) w t) [
        | true ↦ λ is. subst (λ (u : ℕ). Took (s ∷ ss) w u) (eqb-true s t is) (first_took s ss w a.0)
        | false ↦ λ isnt. later_took s t ss w isnt (take_once ss (take_of h s (get w.sessions s) w).0 a.1 t)
      ] refl
