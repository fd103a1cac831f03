-- A client, which knows its own requests, the messages that it was given, and the view that it held where it named a commit, and nothing else: it keeps a view for each of its monitors. It shares with the server how JSON, monitor requests and filters are read, how an id is printed, and the notation of table updates. What the server makes of a request it reads from its own. [P 9.7, 9.8]
use Rattle.std.specs.Prelude.{ℕ, Bool, true, false, not, ◌&&◌, if◌then◌else◌, List, [], ◌∷◌, ◌++◌, map, Option, Some, None, is_some, option_map, option_and_then, unwrap_or, Result, Ok, Err, codes, bytes_eq}
use Rattle.std.specs.List.{list_all}
use Rattle.std.specs.Cmp.Lexicographic.{pointwise}
use Rattle.serde_json.specs.Data.{Data, null}
use Rattle.odb_cond.specs.Filter.{Filter}
use Rattle.odb_service.specs.Service.{Service}
use Rattle.odb_service.specs.Session.{Answers, Out, no_request, to}
use Rattle.odb_monitor.specs.Fold.{as_object, fold, is_null, pairs}
use Rattle.odb_monitor.specs.View.{View, nothing}
use Rattle.odb_request.specs.Request.{Notation, Request, update, update2}
use Rattle.odb_schema.specs.Json.{as_array, as_bool, as_str, items_list}
use Rattle.odb_wire.specs.Message.{at_key, has_left_out}
use Rattle.odb_atoms.specs.Error.{Error}
use Rattle.odb_atoms.specs.Uuid.{Uuid, uuid_of_text}

-- what a client has of a monitor; no view where it switched a kind of change off, since it then can't follow
pub record Picture : Type 0 where
  pub id : Data
  pub notation : Notation
  pub requests : List Request
  -- the commit that it named, where messages name commits
  pub since : Option Uuid
  pub view : Option View

-- what a request, once granted, does to the monitors of the one that submitted it
pub data Wish : Type 0 where
  adds : Notation → Option Uuid → Data → Data → Wish
  changes : Data → Data → Data → Wish
  drops : Data → Wish
  nothing_else : Wish

abbrev pub wish_to_add : Notation → List Data → Wish
wish_to_add n (db ∷ i ∷ requests ∷ []) = adds n None i requests
wish_to_add n _ = nothing_else

-- with the identifier of the commit of which it has the content
abbrev pub wish_to_resume : List Data → Wish
wish_to_resume (db ∷ i ∷ requests ∷ last ∷ []) = elim (option_and_then uuid_of_text (as_str last)) [ None ↦ nothing_else | Some v ↦ adds update2 (Some v) i requests ]
wish_to_resume _ = nothing_else

abbrev pub wish_to_change : List Data → Wish
wish_to_change (old ∷ new ∷ filters ∷ []) = changes old new filters
wish_to_change _ = nothing_else

abbrev pub wish_to_drop : List Data → Wish
wish_to_drop (i ∷ []) = drops i
wish_to_drop _ = nothing_else

-- by method and `params`
abbrev pub wish : List ℕ → List Data → Wish
wish m ds =
    if bytes_eq m (codes "monitor") then wish_to_add update ds
    else (if bytes_eq m (codes "monitor_cond") then wish_to_add update2 ds
    else (if bytes_eq m (codes "monitor_cond_since") then wish_to_resume ds
    else (if bytes_eq m (codes "monitor_cond_change") then wish_to_change ds
    else (if bytes_eq m (codes "monitor_cancel") then wish_to_drop ds
    else nothing_else))))

abbrev pub params_of : Data → List Data
params_of d = unwrap_or (option_map items_list (as_array (at_key (codes "params") d))) []

abbrev pub method_in : Data → List ℕ
method_in d = unwrap_or (as_str (at_key (codes "method") d)) []

abbrev pub wish_of : Data → Wish
wish_of d = wish (method_in d) (params_of d)

-- the id that an answer has: the request's, or null where that holds a number that is left out
abbrev pub answer_id : Data → Data
answer_id d = if has_left_out (at_key (codes "id") d) then null else at_key (codes "id") d

-- an object with just these members
abbrev pub has_members : List (List ℕ) → Data → Bool
has_members ns d = unwrap_or (option_map (λ ms. pointwise bytes_eq ns (map (λ e. e.0) (pairs ms))) (as_object d)) false

-- all four kinds of change are sent
abbrev pub can_follow : List Request → Bool
can_follow qs = list_all (λ q. q.select.initial && (q.select.insert && (q.select.delete && q.select.modify))) qs

-- the filters of the tables that are named, the others as they were
abbrev pub new_filter : List (List ℕ × Filter) → Request → Filter
new_filter [] q = q.filter
new_filter (f ∷ fs) q = if bytes_eq f.0 q.shape.name then f.1 else new_filter fs q

abbrev pub new_filters : List (List ℕ × Filter) → List Request → List Request
new_filters fs qs = map {A = Request} (λ q. record q { filter = new_filter fs q }) qs

-- f at the first element that passes the test, if there is one and f is defined there
abbrev pub try_first : {A : Type 0} → (A → Bool) → (A → Option A) → List A → Option (List A)
try_first p f [] = None
try_first p f (x ∷ xs) = if p x then option_map (λ y. y ∷ xs) (f x) else option_map (λ ys. x ∷ ys) (try_first p f xs)

-- without the first element that passes the test, if there is one
abbrev pub try_drop : {A : Type 0} → (A → Bool) → List A → Option (List A)
try_drop p [] = None
try_drop p (x ∷ xs) = if p x then Some xs else option_map (λ ys. x ∷ ys) (try_drop p xs)

abbrev pub is_of_notation : Notation → Notation → Bool
is_of_notation update update = true
is_of_notation update update2 = false
is_of_notation update2 update = false
is_of_notation update2 update2 = true

module _ (h : Service) where
  abbrev pub is_id_of : Data → Picture → Bool
  is_id_of i p = bytes_eq (h.printed i) (h.printed p.id)

  -- ---- notifications

  abbrev pub followed : Data → Picture → Option (Option View)
  followed d p = by p.view
    where
      by : Option View → Option (Option View)
      by None = Some None
      by (Some V) = option_map Some (fold p.notation false (map (λ q. q.shape) p.requests) V d)

  abbrev pub with_followed : Data → Picture → Option Picture
  with_followed d p = option_map (λ V. record { id = p.id; notation = p.notation; requests = p.requests; since = p.since; view = V }) (followed d p)

  -- table updates of a monitor, under the method that is the monitor's own
  abbrev pub follow : Notation → Data → Picture → Option Picture
  follow n d p = if is_of_notation n p.notation && not (is_some p.since) then with_followed d p else None

  abbrev pub on_update : Notation → List Data → List Picture → Option (List Picture)
  on_update n (i ∷ d ∷ []) ps = try_first (is_id_of i) (follow n d) ps
  on_update n _ ps = None

  -- those of a monitor whose messages name commits
  abbrev pub follow_numbered : Data → Picture → Option Picture
  follow_numbered d p = if is_some p.since then with_followed d p else None

  abbrev pub on_numbered : List Data → List Picture → Option (List Picture)
  on_numbered (i ∷ newest ∷ d ∷ []) ps = try_first (is_id_of i) (follow_numbered d) ps
  on_numbered _ ps = None

  abbrev pub on_method : List ℕ → List Data → List Picture → Option (List Picture)
  on_method m ds ps =
      if bytes_eq m (codes "update") then on_update update ds ps
      else (if bytes_eq m (codes "update2") then on_update update2 ds ps
      else (if bytes_eq m (codes "update3") then on_numbered ds ps
      else (if bytes_eq m (codes "locked") then Some ps
      else (if bytes_eq m (codes "stolen") then Some ps
      else None))))

  abbrev pub on_notification : Data → List Picture → Option (List Picture)
  on_notification m ps =
      if has_members (codes "id" ∷ codes "method" ∷ codes "params" ∷ []) m && is_null (at_key (codes "id") m) then on_method (method_in m) (params_of m) ps
      else None

  -- ---- replies

  -- the first reply folds into the empty view
  abbrev pub first_view : Notation → List Request → Data → Option (Option View)
  first_view n qs d = if can_follow qs then option_map Some (fold n true (map (λ q. q.shape) qs) (nothing qs) d) else Some None

  -- where the commit was found, what changed since folds into the view that the client held; it may be nothing
  abbrev pub resumed_view : Notation → List Request → Data → View → Option (Option View)
  resumed_view n qs d V =
      if can_follow qs then (if has_members [] d then Some (Some V) else option_map Some (fold n false (map (λ q. q.shape) qs) V d))
      else Some None

  -- whether the commit was found comes first, and the number of the newest commit
  abbrev pub numbered_view : Notation → List Request → Option View → List Data → Option (Option View)
  numbered_view n qs held (found ∷ newest ∷ d ∷ []) = elim (as_bool found) [
    | None ↦ None
    | Some b ↦ (if b then option_and_then (resumed_view n qs d) held else first_view n qs d)
  ]
  numbered_view n qs held _ = None

  abbrev pub begun_view : Notation → Option Uuid → List Request → Option View → Data → Option (Option View)
  begun_view n None qs held d = first_view n qs d
  begun_view n (Some v) qs held d = option_and_then (λ ds. numbered_view n qs held (items_list ds)) (as_array d)

  abbrev pub added : Notation → Option Uuid → Data → Result (List Request) Error → Option View → Data → List Picture → Option (List Picture)
  added n since i (Ok qs) held d ps = option_map (λ V. ps ++ record { id = i; notation = n; requests = qs; since = since; view = V } ∷ []) (begun_view n since qs held d)
  added n since i (Err e) held d ps = None

  abbrev pub with_changes : Data → List (List ℕ × Filter) → Picture → Picture
  with_changes new fs p = record { id = new; notation = p.notation; requests = new_filters fs p.requests; since = p.since; view = p.view }

  abbrev pub refiltered : Data → Data → Result (List (List ℕ × Filter)) Error → List Picture → Option (List Picture)
  refiltered old new (Ok fs) ps = try_first (is_id_of old) (λ p. Some (with_changes new fs p)) ps
  refiltered old new (Err e) ps = None

  -- what a reply without error does to the pictures
  abbrev pub on_granted : Wish → Option View → Data → List Picture → Option (List Picture)
  on_granted (adds n since i requests) held result ps = added n since i (h.read_requests n requests) held result ps
  on_granted (changes old new filters) held result ps = refiltered old new (h.read_filters filters) ps
  on_granted (drops i) held result ps = try_drop (is_id_of i) ps
  on_granted nothing_else held result ps = Some ps

  abbrev pub is_reply_to : Data → Data → Bool
  is_reply_to d m = has_members (codes "error" ∷ codes "id" ∷ codes "result" ∷ []) m && bytes_eq (h.printed (answer_id d)) (h.printed (at_key (codes "id") m))

  abbrev pub on_reply : Data → Option View → Data → List Picture → Option (List Picture)
  on_reply d held m ps =
      if is_reply_to d m then (if is_null (at_key (codes "error") m) then on_granted (wish_of d) held (at_key (codes "result") m) ps else Some ps)
      else None

  abbrev pub client_step : List Picture → Out → Option (List Picture)
  client_step ps o = by o.answers
    where
      by : Answers → Option (List Picture)
      by no_request = on_notification o.message ps
      by (to d) = on_reply d o.held o.message ps

  abbrev pub client_from : List Picture → List Out → Option (List Picture)
  client_from ps [] = Some ps
  client_from ps (o ∷ os) = option_and_then (λ qs. client_from qs os) (client_step ps o)

  -- what a client has after these messages; none where it meets one that it must refuse
  abbrev pub client : List Out → Option (List Picture)
  client os = client_from [] os
