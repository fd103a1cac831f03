-- A script at which a session is to be opened or closed, or is delivered a message, by the name that it has.
use Rattle.std.proofs.Common.{◌≡◌, ℕ, ◌≤◌, Bool, true, false, not, cond, nat_lt, List, [], ◌∷◌, ◌++◌, None, Some, is_some, slice_get, bytes_eq, slice_index_or, Result, Ok, Err, codes, refl, ap, sym, subst, ◌∙◌, arith}
use Rattle.std.proofs.lemmas.List.{append-nil}
use Rattle.std.proofs.lemmas.Option.{get_or_from_slice_get}
use Rattle.std.specs.declared.option.Option.{Option}
use Rattle.std.specs.List.{position}
use Rattle.odb_atoms.specs.FinMap.{len}
use Rattle.odb_service.specs.Run.{Refusal, Sent, if_ok, max_sessions, opened, step, too_many}
use Rattle.odb_service.specs.Server.{Server, serve, served_by}
use Rattle.odb_service.specs.Service.{Service}
use Rattle.odb_service.specs.World.{World}
use Rattle.odb_script.specs.Script.{ScriptSession, Script, line_of, open_as, close_named, open_named, shut, world_after, when_open}
use Rattle.odb_script.specs.Represented.Names.{place_in}
use Rattle.odb_script.specs.Represented.Steps.{Does}
use Rattle.odb_script.proofs.NamePlaces.{Absent, Stands, nowhere, place_position, stands}
use Rattle.odb_script.proofs.ServerInScript.{Sends, Took, took}

abbrev pub script_of : Server → List ScriptSession → ℕ → ℕ → Script
script_of s xs inserts moment = record { world = s.world; sessions = xs; opened_so_far = s.opened; inserts = inserts; moment = moment }

-- what a search for a name's place says
abbrev pub IsPlaceOf : List ℕ → List ScriptSession → Option ℕ → Type 0
IsPlaceOf n xs o = o ≡ position (λ x. bytes_eq x.name n) xs

pub absent : (n : List ℕ) (xs : List ScriptSession) (o : Option ℕ) → IsPlaceOf n xs o → is_some o ≡ false → Absent n xs
absent n xs None is e = nowhere n xs (sym (is ∙ place_position n xs))
absent n xs (Some k) is e = absurd (clash e)
  where
    clash : true ≡ false → ⊥
    clash f = cc

pub present : (n : List ℕ) (xs : List ScriptSession) (k : ℕ) → IsPlaceOf n xs (Some k) → Stands n xs k
present n xs k is = stands n xs k (sym (is ∙ place_position n xs))

abbrev opening : Service → List ℕ → Script → Option ScriptSession → Script × List ℕ
opening h n p o = elim o [ None ↦ open_as h n (world_after h (opened p.opened_so_far) p) p | Some x ↦ (p, line_of n (codes "!open")) ]

pub opens_there : (h : Service) (n : List ℕ) (p : Script) (o : Option ℕ) (t u : List ℕ) → IsPlaceOf n p.sessions o → is_some o ≡ true → u ≡ t ++ line_of n (codes "!open") → Does (open_named h n) p t p u
opens_there h n p None t u is e text = absurd (clash e)
  where
    clash : false ≡ true → ⊥
    clash f = cc
opens_there h n p (Some k) t u is e text =
    let done : open_named h n p ≡ (p, line_of n (codes "!open")) = ap (opening h n p) (present n p.sessions k is).first in
    (ap (λ r. r.0) done, ap (λ r. t ++ r.1) done ∙ sym text)

not_open : (h : Service) (n : List ℕ) (p : Script) (o : Option ℕ) → IsPlaceOf n p.sessions o → is_some o ≡ false → open_named h n p ≡ open_as h n (world_after h (opened p.opened_so_far) p) p
not_open h n p o is e = ap (opening h n p) (absent n p.sessions o is e)

module _ (s : Server) (xs : List ScriptSession) (inserts moment : ℕ) (n : List ℕ) (o : Option ℕ) where
  pub opens_new : (q : Server) (os : Sends) (k : ℕ) (ys : List ScriptSession) (t : List ℕ) → IsPlaceOf n xs o → is_some o ≡ false → k ≡ s.opened → serve (opened k) s ≡ Ok (q, os)
      → ys ≡ xs ++ record { name = n; session = k; bytes = []; delivered = 0; held = false } ∷ [] → Does (open_named (served_by s.schema) n) (script_of s xs inserts moment) t (script_of q ys inserts moment) t
  opens_new q os k ys t is e number served grown =
      let p = script_of s xs inserts moment in
      let k_is : serve (opened s.opened) s ≡ Ok (q, os) = ap (λ m. serve (opened m) s) (sym number) ∙ served in
      let k_took : Took (opened s.opened) s q = took (opened s.opened) s q os k_is in
      let done : open_named (served_by s.schema) n p ≡ open_as (served_by s.schema) n (Ok q.world) p = not_open (served_by s.schema) n p o is e ∙ ap (λ w. open_as (served_by s.schema) n w p) k_took.world in
      let same : xs ++ record { name = n; session = s.opened; bytes = []; delivered = 0; held = false } ∷ [] ≡ ys = ap (λ m. xs ++ record { name = n; session = m; bytes = []; delivered = 0; held = false } ∷ []) (sym number) ∙ sym grown in (
        ap (λ r. r.0) done ∙ (λ i. record { world = q.world; sessions = same i; opened_so_far = sym k_took.opened i; inserts = inserts; moment = moment }),
        ap (λ r. t ++ r.1) done ∙ append-nil t,
      )

  is_full : (m : ℕ) → max_sessions ≤ m → not (nat_lt m max_sessions) ≡ true
  is_full m full = grind (arith, full)

  if_full : (b : Bool) (r : Result (World × List Sent) Refusal) → b ≡ true → cond b (Err too_many) r ≡ Err too_many
  if_full true r is = refl
  if_full false r is = absurd (clash is)
    where
      clash : false ≡ true → ⊥
      clash f = cc

  pub opens_full : (t u : List ℕ) → IsPlaceOf n xs o → is_some o ≡ false → max_sessions ≤ len s.world.sessions → u ≡ t ++ line_of n (codes "!toomany") → Does (open_named (served_by s.schema) n) (script_of s xs inserts moment) t (script_of s xs inserts moment) u
  opens_full t u is e full text =
      let p = script_of s xs inserts moment in
      let stepped : step (served_by s.schema) (opened s.opened) s.world ≡ Err too_many = if_full (not (nat_lt (len s.world.sessions) max_sessions)) _ (is_full (len s.world.sessions) full) in
      let after : world_after (served_by s.schema) (opened s.opened) p ≡ Err too_many = ap (if_ok (λ (r : World × List Sent). let w : Result World Refusal = Ok r.0 in w)) stepped in
      let done : open_named (served_by s.schema) n p ≡ (p, line_of n (codes "!toomany")) = not_open (served_by s.schema) n p o is e ∙ ap (λ w. open_as (served_by s.schema) n w p) after in
      (ap (λ r. r.0) done, ap (λ r. t ++ r.1) done ∙ sym text)

-- ---- where the name must be open

abbrev acting : Service → List ℕ → Script → (ScriptSession → Script → Script × List ℕ) → Option ScriptSession → Script × List ℕ
acting h n p f o = elim o [ None ↦ (p, line_of n (codes "!gone")) | Some x ↦ f x p ]

pub gone_away : (h : Service) (n : List ℕ) (f : ScriptSession → Script → Script × List ℕ) (p : Script) (t u : List ℕ) → IsPlaceOf n p.sessions None → u ≡ t ++ line_of n (codes "!gone") → Does (when_open h n f) p t p u
gone_away h n f p t u is text =
    let done : when_open h n f p ≡ (p, line_of n (codes "!gone")) = ap (acting h n p f) (absent n p.sessions None is refl) in
    (ap (λ r. r.0) done, ap (λ r. t ++ r.1) done ∙ sym text)

pub acts : (h : Service) (n : List ℕ) (f : ScriptSession → Script → Script × List ℕ) (p : Script) (k : ℕ) (x : ScriptSession) → IsPlaceOf n p.sessions (Some k) → x ≡ slice_index_or p.sessions k x → (x.name ≡ n) × (when_open h n f p ≡ f x p)
acts h n f p k x is at =
    let s = present n p.sessions k is in
    let same : s.who ≡ x = sym (at ∙ get_or_from_slice_get p.sessions k s.who x s.there) in
    (subst (λ (y : ScriptSession). y.name ≡ n) same s.called, ap (acting h n p f) s.first ∙ ap (λ y. f y p) same)

pub closes : (h : Service) (n : List ℕ) (p q : Script) (t : List ℕ) (k m : ℕ) (x : ScriptSession) → IsPlaceOf n p.sessions (Some k) → x ≡ slice_index_or p.sessions k x → m ≡ x.session → q ≡ shut h n m p → Does (close_named h n) p t q t
closes h n p q t k m x is at number ended =
    let a = acts h n (λ y r. (shut h y.name y.session r, [])) p k x is at in
    (ap (λ r. r.0) a.1 ∙ (λ i. shut h (a.0 i) (sym number i) p) ∙ sym ended, ap (λ r. t ++ r.1) a.1 ∙ append-nil t)

-- who stands where the name was found
pub standing : (n : List ℕ) (xs : List ScriptSession) (k : ℕ) (x : ScriptSession) → IsPlaceOf n xs (Some k) → x ≡ slice_index_or xs k x → (slice_get xs k ≡ Some x) × (place_in n xs ≡ Some k) × (x.name ≡ n)
standing n xs k x is at =
    let s = present n xs k is in
    let same : s.who ≡ x = sym (at ∙ get_or_from_slice_get xs k s.who x s.there) in
    (s.there ∙ ap Some same, sym (is ∙ place_position n xs), subst (λ (y : ScriptSession). y.name ≡ n) same s.called)
