-- Sessions that are drained one by one, as the definition of scripts has it.
use Rattle.std.proofs.Common.{◌≡◌, ℕ, Bool, true, false, cond, List, [], ◌∷◌, ◌++◌, Option, Some, None, refl, sym, ap, ◌∙◌, append-nil, append_assoc}
use Rattle.odb_atoms.specs.FinMap.{get}
use Rattle.odb_service.specs.Server.{Server, served_by}
use Rattle.odb_service.specs.Session.{Session}
use Rattle.odb_schema.specs.Schema.{Schema}
use Rattle.odb_script.specs.Script.{ScriptSession, Script, drain_all, drain_each, drain_one}
use Rattle.odb_script.specs.Represented.Draining.{all_drained, drain_if, drained_session}

module _ (schema : Schema) (n : ℕ) where
  -- the server of a script
  abbrev pub server_of : Script → Server
  server_of p = record { schema = schema; world = p.world; opened = n }

  abbrev Printed : Type 0
  Printed = Server × List ℕ

  pub one_dry : (x : ScriptSession) (o : Option Session) (p : Script) (t : List ℕ) → drain_if x.name x.session o (server_of p, t) ≡ (let r : Printed = (server_of (drain_one (served_by schema) x o p).0, t ++ (drain_one (served_by schema) x o p).1) in r)
  one_dry x None p t = ap (λ u. let r : Printed = (server_of p, u) in r) (sym (append-nil t))
  one_dry x (Some s) p t = refl

  abbrev one_of : Bool → ScriptSession → Script → Script × List ℕ
  one_of held x p = cond held (p, []) (drain_one (served_by schema) x (get p.world.sessions x.session) p)

  -- a session that is held is passed over
  next_dry : (held : Bool) (x : ScriptSession) (p : Script) (t : List ℕ) → cond held (server_of p, t) (drained_session x.name x.session (server_of p, t)) ≡ (let r : Printed = (server_of (one_of held x p).0, t ++ (one_of held x p).1) in r)
  next_dry true x p t = ap (λ u. let r : Printed = (server_of p, u) in r) (sym (append-nil t))
  next_dry false x p t = one_dry x (get p.world.sessions x.session) p t

  pub each_dry : (xs : List ScriptSession) (p : Script) (t : List ℕ) → all_drained xs (server_of p, t) ≡ (let r : Printed = (server_of (drain_each (served_by schema) xs p).0, t ++ (drain_each (served_by schema) xs p).1) in r)
  each_dry [] p t = ap (λ u. let r : Printed = (server_of p, u) in r) (sym (append-nil t))
  each_dry (x ∷ xs) p t =
      let one = one_of x.held x p in
      ap (all_drained xs) (next_dry x.held x p t)
      ∙ each_dry xs one.0 (t ++ one.1)
      ∙ ap (λ u. let r : Printed = (server_of (drain_each (served_by schema) xs one.0).0, u) in r) (append_assoc t one.1 (drain_each (served_by schema) xs one.0).1)

  -- nothing but the machine changes
  pub one_same : (x : ScriptSession) (o : Option Session) (p : Script) → (drain_one (served_by schema) x o p).0 ≡ record p { world = (drain_one (served_by schema) x o p).0.world }
  one_same x None p = refl
  one_same x (Some s) p = refl

  same_of : (held : Bool) (x : ScriptSession) (p : Script) → (one_of held x p).0 ≡ record p { world = (one_of held x p).0.world }
  same_of true x p = refl
  same_of false x p = one_same x (get p.world.sessions x.session) p

  pub each_same : (xs : List ScriptSession) (p : Script) → (drain_each (served_by schema) xs p).0 ≡ record p { world = (drain_each (served_by schema) xs p).0.world }
  each_same [] p = refl
  each_same (x ∷ xs) p =
      each_same xs (one_of x.held x p).0
      ∙ ap {A = Script} (λ q. record q { world = (drain_each (served_by schema) xs (one_of x.held x p).0).0.world }) (same_of x.held x p)

-- all sessions of a script, as its server tells it
pub dry_all_is : (schema : Schema) (xs : List ScriptSession) (p : Script) (t : List ℕ) (q : Server) (u : List ℕ) → xs ≡ p.sessions → all_drained xs (server_of schema p.opened_so_far p, t) ≡ (q, u)
    → (drain_all (served_by schema) (p, t) ≡ (let r : Script × List ℕ = (record { world = q.world; sessions = p.sessions; opened_so_far = q.opened; inserts = p.inserts; moment = p.moment }, u) in r)) × (q.schema ≡ schema)
dry_all_is schema xs p t q u same e =
    let n = p.opened_so_far in
    let d = drain_each (served_by schema) p.sessions p in
    let r : (let printed : Server × List ℕ = (server_of schema n d.0, t ++ d.1) in printed) ≡ (q, u) = sym (each_dry schema n p.sessions p t) ∙ ap (λ ys. all_drained ys (server_of schema n p, t)) (sym same) ∙ e in
    let world : d.0.world ≡ q.world = ap (λ (v : Server × List ℕ). v.0.world) r in
    let opened : n ≡ q.opened = ap (λ (v : Server × List ℕ). v.0.opened) r in
    let text : t ++ d.1 ≡ u = ap (λ (v : Server × List ℕ). v.1) r in (
      (λ i. let both : Script × List ℕ = (each_same schema n p.sessions p i, t ++ d.1) in both)
          ∙ (λ i. let both : Script × List ℕ = (record { world = world i; sessions = p.sessions; opened_so_far = opened i; inserts = p.inserts; moment = p.moment }, text i) in both),
      sym (ap (λ (v : Server × List ℕ). v.0.schema) r),
    )
