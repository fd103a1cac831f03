-- What the calls about monitors come to, by what is found and read for them.
use Rattle.std.proofs.Common.{◌≡◌, ℕ, Bool, true, false, not, ◌&&◌, ◌||◌, cond, List, [], ◌∷◌, Option, None, Some, Result, Ok, Err, is_some, refl, sym, ap, ◌∙◌, bytes_eq, true≢false}
use Rattle.std.specs.Prelude.{option_map, map}
use Rattle.std.specs.List.{list_all, list_any}
use Rattle.std.proofs.lemmas.List.Folds.{list_all-map}
use Rattle.odb_atoms.specs.Error.{Error, syntax_error}
use Rattle.odb_atoms.specs.FinMap.{get}
use Rattle.odb_request.specs.Represented.Change as requested
use Rattle.odb_request.specs.Represented.Shape.{table_name}
use Rattle.odb_request.specs.Request.{Notation, Request, Shape, is_conditional}
use Rattle.odb_request.specs.declared.change.Change.{Change}
use Rattle.odb_rpc.specs.Message.{Failure, failed, unknown_monitor}
use Rattle.odb_schema.specs.Json.{Data}
use Rattle.odb_schema.specs.Schema.{Schema}
use Rattle.odb_atoms.specs.Uuid.{Uuid}
use Rattle.odb_service.specs.Service.{Service}
use Rattle.odb_service.specs.Session.{Watch, renamed, shapes, shift, stopped, sync}
use Rattle.odb_service.specs.World.{World, asked_of, change_of, fail, on_cancel_monitor, on_monitor, post, shift_with, start_with, watched}
use Rattle.odb_sessions.specs.Named.{Named, named}
use Rattle.odb_core.specs.Represented.Monitors.{Filters, are_among, change_for, changed_by, filters_for, is_taken}

-- ---- a monitor that is asked for

module _ (h : Service) (s : ℕ) (d : Data) (n : Notation) (i : Data) (since : Option Uuid) (requests : Data) (w : World) where
  abbrev used : Bool
  used = is_some (watched h i (asked_of h (get w.sessions s)))

  abbrev unless_used : Bool → World
  unless_used b = cond b (fail s d (failed syntax_error) w) (start_with h s d n i since (h.read_requests n requests) w)

  pub used_fails : used ≡ true → on_monitor h s d n i since requests w ≡ fail s d (failed syntax_error) w
  used_fails is = ap unless_used is

  pub reads_on : (r : Result (List Request) Error) → used ≡ false → h.read_requests n requests ≡ r → on_monitor h s d n i since requests w ≡ start_with h s d n i since r w
  reads_on r isnt e = ap unless_used isnt ∙ ap (λ r. start_with h s d n i since r w) e

-- ---- a cancel

module _ (h : Service) (s : ℕ) (d i : Data) (w : World) where
  pub cancels_none : (o : Option Watch) → is_some o ≡ false → on_cancel_monitor h s d i o w ≡ fail s d unknown_monitor w
  cancels_none None e = refl
  cancels_none (Some k) e = absurd (true≢false e)

  pub cancels_one : (o : Option Watch) → is_some o ≡ true → on_cancel_monitor h s d i o w ≡ post s (sync i ∷ stopped d i ∷ []) w
  cancels_one None e = absurd (true≢false (sym e))
  cancels_one (Some k) e = refl

-- ---- a change

among_one : (name : List ℕ) (qs : List Request) → list_any (λ q. bytes_eq name q.shape.name) qs ≡ list_any (λ s. bytes_eq name s.name) (shapes qs)
among_one name [] = refl
among_one name (q ∷ qs) = ap (λ b. bytes_eq name q.shape.name || b) (among_one name qs)

among_all : (qs : List Request) (fs : Filters) → list_all (λ f. list_any (λ q. bytes_eq f.0 q.shape.name) qs) fs ≡ are_among (shapes qs) fs
among_all qs [] = refl
among_all qs (f ∷ fs) = λ i. among_one f.0 qs i && among_all qs fs i

module _ (h : Service) (s : ℕ) (d old new : Data) (w : World) where
  shifted : (k : Watch) (r : Result Filters Error) → shift_with h s d old new k r w ≡ changed_by s d old new (filters_for (shapes k.requests) r) w
  shifted k (Err e) = refl
  shifted k (Ok fs) = ap (λ b. cond b (post s (shift old fs ∷ renamed d old new fs ∷ []) w) (fail s d (failed syntax_error) w)) (among_all k.requests fs) ∙ by (are_among (shapes k.requests) fs)
    where
      by : (b : Bool) → cond b (post s (shift old fs ∷ renamed d old new fs ∷ []) w) (fail s d (failed syntax_error) w) ≡ changed_by s d old new (cond b (Ok fs) (Err (failed syntax_error))) w
      by true = refl
      by false = refl

  of_watch : (k : Watch) (c taken : Bool) (r : Result Filters Error)
      → cond (not c) (fail s d unknown_monitor w) (cond taken (fail s d (failed syntax_error) w) (shift_with h s d old new k r w))
      ≡ changed_by s d old new (cond (not c) (Err unknown_monitor) (cond taken (Err (failed syntax_error)) (filters_for (shapes k.requests) r))) w
  of_watch k false taken r = refl
  of_watch k true true r = refl
  of_watch k true false r = shifted k r

  pub change_is : (filters : Data) (o : Option Watch)
      → change_of h s d old new filters o w ≡ changed_by s d old new (change_for h (is_taken h old new (get w.sessions s)) (h.read_filters filters) (option_map named o)) w
  change_is filters None = refl
  change_is filters (Some k) = of_watch k (is_conditional k.notation) (is_taken h old new (get w.sessions s)) (h.read_filters filters)

module _ (h : Service) (taken : Bool) (r : Result Filters Error) where
  pub not_found : (o : Option Named) → None ≡ o → Err unknown_monitor ≡ change_for h taken r o
  not_found o e = ap (change_for h taken r) e

  abbrev for_found : Named → Bool → Bool → Result Filters Failure
  for_found k c t = cond (not c) (Err unknown_monitor) (cond t (Err (failed syntax_error)) (filters_for k.shapes r))

  pub not_conditional : (o : Option Named) (k : Named) → Some k ≡ o → is_conditional k.notation ≡ false → Err unknown_monitor ≡ change_for h taken r o
  not_conditional o k e plain = sym (ap (λ c. for_found k c taken) plain) ∙ ap (change_for h taken r) e

  pub new_taken : (o : Option Named) (k : Named) → Some k ≡ o → is_conditional k.notation ≡ true → taken ≡ true → Err (failed syntax_error) ≡ change_for h taken r o
  new_taken o k e conditional is = sym ((λ i. for_found k (conditional i) (is i))) ∙ ap (change_for h taken r) e

  pub goes_by_filters : (o : Option Named) (k : Named) → Some k ≡ o → is_conditional k.notation ≡ true → taken ≡ false → filters_for k.shapes r ≡ change_for h taken r o
  goes_by_filters o k e conditional isnt = sym ((λ i. for_found k (conditional i) (isnt i))) ∙ ap (change_for h taken r) e

-- ---- the tables of a change

pub changes_among : (s : Schema) (ss : List Shape) (cs : List Change) → list_all (λ c. list_any (λ t. bytes_eq (table_name s c.table) t.name) ss) cs ≡ are_among ss (map (requested.change_of s) cs)
changes_among s ss cs = sym (list_all-map (λ f. list_any (λ t. bytes_eq f.0 t.name) ss) (requested.change_of s) cs)

abbrev judged : Filters → Bool → Result Filters Failure
judged fs b = cond b (Ok fs) (Err (failed syntax_error))

pub not_among : (ss : List Shape) (fs : Filters) (b : Bool) → b ≡ are_among ss fs → b ≡ false → Err (failed syntax_error) ≡ filters_for ss (Ok fs)
not_among ss fs b e isnt = ap (judged fs) (sym isnt ∙ e)

pub all_among : (ss : List Shape) (fs : Filters) (b : Bool) → b ≡ are_among ss fs → b ≡ true → Ok fs ≡ filters_for ss (Ok fs)
all_among ss fs b e is = ap (judged fs) (sym is ∙ e)
