-- A session is held, or drained and no longer held.
use Rattle.std.proofs.Common.{◌≡◌, ℕ, Bool, List, [], ◌++◌, None, Some, codes, false, true, slice_index_or, slice_set, ap, sym, ◌∙◌}
use Rattle.std.proofs.lemmas.List.{append-nil}
use Rattle.odb_atoms.specs.FinMap.{get}
use Rattle.odb_service.specs.Server.{Server, served_by}
use Rattle.odb_service.specs.Service.{Service}
use Rattle.odb_schema.specs.Schema.{Schema}
use Rattle.odb_script.specs.Script.{ScriptSession, Script, at_name, drain_one, hold_named, line_of, set_held, take_named, with_held}
use Rattle.odb_script.specs.Represented.Draining.{drained_session}
use Rattle.odb_script.specs.Represented.Names.{AreApart}
use Rattle.odb_script.specs.Represented.Steps.{Does}
use Rattle.odb_script.proofs.DrainAll.{one_dry, one_same, server_of}
use Rattle.odb_script.proofs.OpenedSessions.{IsPlaceOf, acts, gone_away, standing}
use Rattle.odb_script.proofs.NamePlaces.{at_place}

module _ (n : List ℕ) (p : Script) (k : ℕ) (x : ScriptSession) (is : IsPlaceOf n p.sessions (Some k)) (at : x ≡ slice_index_or p.sessions k x) (apart : AreApart p.sessions) where
  -- whether the session at the place of the name is held
  placed : (b : Bool) → at_name n (with_held b) p.sessions ≡ slice_set p.sessions k (with_held b x)
  placed b = let st = standing n p.sessions k x is at in at_place n (with_held b) p.sessions k x apart st.1 st.0

  pub holds : (h : Service) (ys : List ScriptSession) (t : List ℕ) → ys ≡ slice_set p.sessions k (with_held true x) → Does (hold_named h n) p t (record p { sessions = ys }) t
  holds h ys t set =
      let a = acts h n (λ y q. (set_held true n q, [])) p k x is at in
      let same : at_name n (with_held true) p.sessions ≡ ys = placed true ∙ sym set in
      (ap (λ (r : Script × List ℕ). r.0) a.1 ∙ (λ i. let q : Script = record p { sessions = same i } in q), ap (λ (r : Script × List ℕ). t ++ r.1) a.1 ∙ append-nil t)

  abbrev taking : Service → ScriptSession → Script → Script × List ℕ
  taking h y r = let d = drain_one h y (get r.world.sessions y.session) r in (set_held false n d.0, d.1)

  pub takes : (schema : Schema) (m : ℕ) (q : Server) (ys : List ScriptSession) (t u : List ℕ) → m ≡ x.session → ys ≡ slice_set p.sessions k (with_held false x) → drained_session n m (server_of schema p.opened_so_far p, t) ≡ (q, u)
      → Does (take_named (served_by schema) n) p t (record { world = q.world; sessions = ys; opened_so_far = q.opened; inserts = p.inserts; moment = p.moment }) u × (q.schema ≡ schema)
  takes schema m q ys t u number set e =
      let h = served_by schema in
      let count = p.opened_so_far in
      let a = acts h n (taking h) p k x is at in
      let d = drain_one h x (get p.world.sessions x.session) p in
      let name : x.name ≡ n = (standing n p.sessions k x is at).2 in
      let one : (let r : Server × List ℕ = (server_of schema count d.0, t ++ d.1) in r) ≡ (q, u) =
      sym (one_dry schema count x (get p.world.sessions x.session) p t) ∙ (λ i. drained_session (name i) (sym number i) (server_of schema count p, t)) ∙ e in
      let world : d.0.world ≡ q.world = ap (λ (v : Server × List ℕ). v.0.world) one in
      let opened : count ≡ q.opened = ap (λ (v : Server × List ℕ). v.0.opened) one in
      let text : t ++ d.1 ≡ u = ap (λ (v : Server × List ℕ). v.1) one in
      let same : at_name n (with_held false) p.sessions ≡ ys = placed false ∙ sym set in
      let script : set_held false n d.0 ≡ record { world = q.world; sessions = ys; opened_so_far = q.opened; inserts = p.inserts; moment = p.moment } =
      ap (set_held false n) (one_same schema count x (get p.world.sessions x.session) p) ∙ (λ i. let r : Script = record { world = world i; sessions = same i; opened_so_far = opened i; inserts = p.inserts; moment = p.moment } in r) in
      ((ap (λ (r : Script × List ℕ). r.0) a.1 ∙ script, ap (λ (r : Script × List ℕ). t ++ r.1) a.1 ∙ text), sym (ap (λ (v : Server × List ℕ). v.0.schema) one))

-- a name that isn't open
pub holds_none : (h : Service) (n : List ℕ) (p : Script) (t u : List ℕ) → IsPlaceOf n p.sessions None → u ≡ t ++ line_of n (codes "!gone") → Does (hold_named h n) p t p u
holds_none h n p t u none text = gone_away h n (λ y q. (set_held true n q, [])) p t u none text

pub takes_none : (h : Service) (n : List ℕ) (p : Script) (t u : List ℕ) → IsPlaceOf n p.sessions None → u ≡ t ++ line_of n (codes "!gone") → Does (take_named h n) p t p u
takes_none h n p t u none text = gone_away h n (λ y q. let d = drain_one h y (get q.world.sessions y.session) q in (set_held false n d.0, d.1)) p t u none text
