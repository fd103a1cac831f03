-- What a request asks: the server and its client read the same in it.
use Rattle.std.proofs.Common.{◌≡◌, ℕ, Bool, true, false, cond, not, ◌&&◌, ◌||◌, List, [], ◌∷◌, Option, Some, None, is_some, refl, sym, ◌∙◌, ap, true≢false, codes}
use Rattle.std.specs.Prelude.{bytes_eq, option_map, unwrap_or, if◌then◌else◌}
use Rattle.std.specs.Ordering.{nat_cmp, match_ordering}
use Rattle.std.specs.declared.cmp.Ordering.TheVariants.{Less, Equal, Greater}
use Rattle.std.specs.Cmp.Lexicographic.{slice_cmp}
use Rattle.std.proofs.lemmas.Slice.Eq.{bytes_eq-Decides}
use Rattle.serde_json.specs.Data.{Data, null, boolean, number, string, array, object, no_items, item, Members, no_members, member}
use Rattle.serde_json.specs.Find.{get_member}
use Rattle.odb_rpc.specs.Message as message
use Rattle.odb_atoms.specs.Text.{is_id}
use Rattle.odb_atoms.specs.Uuid.{Uuid}
use Rattle.odb_law.specs.Client.{Picture, Wish, adds, answer_id, changes, client_step, drops, nothing_else, on_granted, params_of, wish, wish_of}
use Rattle.odb_law.specs.Headline.{about, begun_by}
use Rattle.odb_wire.specs.Message.{is_request}
use Rattle.odb_service.specs.Service.{Service}
use Rattle.odb_service.specs.Session.{to}
use Rattle.odb_wire.specs.Message.{id_of}
use Rattle.odb_monitor.proofs.Lists.{bytes_eq-itself}
use Rattle.odb_monitor.specs.Fold.{is_null}
use Rattle.odb_monitor.specs.View.{View}
use Rattle.odb_request.specs.Request.{update, update2}
use Rattle.odb_rpc.specs.Message.{Call, call_of, commit_of, failure, fault, has_reply, is_object, of_change, of_db, of_lock, of_monitor, of_monitor_since, of_none, of_notification, of_one, of_request, of_transact, reply}
use Rattle.odb_schema.specs.Json.{as_array, as_str, items_list}
use Rattle.odb_wire.specs.Message.{at_key, has_left_out, members_left_out}
use Rattle.odb_atoms.specs.Error.{syntax_error}
use Rattle.odb_rpc.specs.Message.{Failure, failed, unknown_monitor, canceled, failure_data, unknown_method, unknown_database}
use Rattle.odb_schema.specs.Json.{items_of}

neither : (a b : Bool) → (a || b) ≡ false → (a ≡ false) × (b ≡ false)
neither true b e = absurd (true≢false e)
neither false b e = (refl, e)

-- a part of a message without numbers that are left out has none
members_whole : (k : List ℕ) (ms : Members) → members_left_out ms ≡ false → has_left_out (unwrap_or (get_member k ms) null) ≡ false
members_whole k no_members e = refl
members_whole k (member l d ms) e =
    let n : (has_left_out d ≡ false) × (members_left_out ms ≡ false) = neither (has_left_out d) (members_left_out ms) e in
    elim (slice_cmp nat_cmp k l) as (λ o. has_left_out (unwrap_or (match_ordering o (get_member k ms) (Some d) (get_member k ms)) null) ≡ false) [
      | Less ↦ members_whole k ms n.1
      | Equal ↦ n.0
      | Greater ↦ members_whole k ms n.1
    ]

part_whole : (k : List ℕ) (d : Data) → has_left_out d ≡ false → has_left_out (at_key k d) ≡ false
part_whole k null e = refl
part_whole k (boolean b) e = refl
part_whole k (number n) e = refl
part_whole k (string s) e = refl
part_whole k (array ds) e = refl
part_whole k (object ms) e = members_whole k ms e

by_name : (m name : List ℕ) (P : Bool → Type 0) → (m ≡ name → P true) → P false → P (bytes_eq m name)
by_name m name P here away = elim (bytes_eq m name) as (λ b. bytes_eq m name ≡ b → P b) [ true ↦ λ is. here ((bytes_eq-Decides m name).0 is) | false ↦ λ _. away ] refl

module _ (h : Service) where
  -- what the client makes of a reply
  pub reply_heard : (d e id r : Data) (held : Option View) (ps : List Picture) → id ≡ answer_id d
      → client_step h ps (record { answers = to d; message = message.message e id r; held = held }) ≡ (if is_null e then on_granted h (wish_of d) held r ps else Some ps)
  reply_heard d e id r held ps same =
      ap (λ b. cond b (if is_null e then on_granted h (wish_of d) held r ps else Some ps) None) (ap (λ k. bytes_eq (h.printed (answer_id d)) (h.printed k)) same ∙ bytes_eq-itself (h.printed (answer_id d)))

  -- an answer that does nothing to the pictures
  abbrev pub IsHarmless : Data → Data → Type 0
  IsHarmless d m = ((ps : List Picture) → client_step h ps (record { answers = to d; message = m; held = None }) ≡ Some ps) × (about (record { answers = to d; message = m; held = None }) ≡ None)

  -- a request that isn't about monitors, and has the id of its answer
  abbrev pub IsPlain : Data → Type 0
  IsPlain d = (wish_of d ≡ nothing_else) × (answer_id d ≡ id_of d)

  pub plain_reply : (d r : Data) → IsPlain d → IsHarmless d (reply (id_of d) r)
  plain_reply d r p = (λ ps. reply_heard d null (id_of d) r None ps (sym p.1) ∙ ap (λ w. on_granted h w None r ps) p.0, ap begun_by p.0)

  error_harmless : (d e id : Data) → is_null e ≡ false → id ≡ answer_id d → IsHarmless d (message.message e id null)
  error_harmless d e id some same = (
    λ ps. reply_heard d e id null None ps same ∙ ap (λ b. cond b (on_granted h (wish_of d) None null ps) (Some ps)) some,
    ap (λ b. cond b (begun_by (wish_of d)) None) some,
  )

  error_some : (f : Failure) → is_null (failure_data f) ≡ false
  error_some unknown_method = refl
  error_some unknown_database = refl
  error_some unknown_monitor = refl
  error_some canceled = refl
  error_some (failed e) = refl

  pub failure_harmless : (d id : Data) (name : Failure) → id ≡ answer_id d → IsHarmless d (failure id name)
  failure_harmless d id name same = error_harmless d (failure_data name) id (error_some name) same

  -- what a call says of its request
  abbrev pub Asks : Data → Wish → Type 0
  Asks d w = (wish_of d ≡ w) × (answer_id d ≡ id_of d)

  abbrev pub IsAsked : Data → Call → Type 0
  IsAsked d (message.answered m) = IsHarmless d m
  IsAsked d (message.transact id ops) = Asks d nothing_else
  IsAsked d (message.monitor id n i requests since) = Asks d (adds n since i requests)
  IsAsked d (message.change_filters id old new filters) = Asks d (changes old new filters)
  IsAsked d (message.cancel_monitor id i) = Asks d (drops i)
  IsAsked d (message.lock id name) = Asks d nothing_else
  IsAsked d (message.steal id name) = Asks d nothing_else
  IsAsked d (message.unlock id name) = Asks d nothing_else
  IsAsked d (message.cancel id) = ⊥
  IsAsked d message.passed_over = ⊥

  abbrev pub IsQuiet : Call → Type 0
  IsQuiet (message.cancel id) = Unit {0}
  IsQuiet message.passed_over = Unit {0}
  IsQuiet (message.answered m) = ⊥
  IsQuiet (message.transact id ops) = ⊥
  IsQuiet (message.monitor id n i requests since) = ⊥
  IsQuiet (message.change_filters id old new filters) = ⊥
  IsQuiet (message.cancel_monitor id i) = ⊥
  IsQuiet (message.lock id name) = ⊥
  IsQuiet (message.steal id name) = ⊥
  IsQuiet (message.unlock id name) = ⊥

  abbrev pub Reads : Bool → Data → Call → Type 0
  Reads true d c = IsAsked d c
  Reads false d c = IsQuiet c

  -- a message without an id, or that isn't a request
  quiet_pick : (b : Bool) (c : Call) → IsQuiet c → IsQuiet (cond b c message.passed_over)
  quiet_pick true c q = q
  quiet_pick false c q = tt

  quiet_cancel : (b : Bool) (i : Data) → IsQuiet (cond b message.passed_over (message.cancel i))
  quiet_cancel true i = tt
  quiet_cancel false i = tt

  quiet : (m : List ℕ) (params : Data) → IsQuiet (of_notification m params)
  quiet m null = quiet_pick (bytes_eq m (codes "cancel")) message.passed_over tt
  quiet m (boolean b) = quiet_pick (bytes_eq m (codes "cancel")) message.passed_over tt
  quiet m (number n) = quiet_pick (bytes_eq m (codes "cancel")) message.passed_over tt
  quiet m (string s) = quiet_pick (bytes_eq m (codes "cancel")) message.passed_over tt
  quiet m (object ms) = quiet_pick (bytes_eq m (codes "cancel")) message.passed_over tt
  quiet m (array no_items) = quiet_pick (bytes_eq m (codes "cancel")) message.passed_over tt
  quiet m (array (item i no_items)) = quiet_pick (bytes_eq m (codes "cancel")) (if has_left_out i then message.passed_over else message.cancel i) (quiet_cancel (has_left_out i) i)
  quiet m (array (item i (item j ds))) = quiet_pick (bytes_eq m (codes "cancel")) message.passed_over tt

  -- ---- a request of a known method

  module _ (d : Data) (m : List ℕ) (read : as_str (at_key (codes "method") d) ≡ Some m) (own : answer_id d ≡ id_of d) where
    abbrev F : Failure → Call
    F name = fault (id_of d) name

    faulty : (name : Failure) → IsAsked d (F name)
    faulty name = failure_harmless d (id_of d) name (sym own)

    -- the wish is that of the method and the parameters
    wished : (name : List ℕ) (ds : List Data) → m ≡ name → params_of d ≡ ds → wish_of d ≡ wish name ds
    wished name ds is p i = wish ((ap (λ o. unwrap_or o []) read ∙ is) i) (p i)

    pick : (b : Bool) (c e : Call) → IsAsked d c → IsAsked d e → IsAsked d (cond b c e)
    pick true c e x y = x
    pick false c e x y = y

    in_db : (name : Data) (c : Call) → IsAsked d c → IsAsked d (of_db h.db_name (id_of d) name c)
    in_db null c x = faulty (failed syntax_error)
    in_db (boolean b) c x = faulty (failed syntax_error)
    in_db (number n) c x = faulty (failed syntax_error)
    in_db (string s) c x = pick (bytes_eq s h.db_name) c (F unknown_database) x (faulty unknown_database)
    in_db (array ds) c x = faulty (failed syntax_error)
    in_db (object ms) c x = faulty (failed syntax_error)

    abbrev Suits : (List Data → Call) → Type 0
    Suits call = (ds : List Data) → params_of d ≡ ds → IsAsked d (call ds)

    abbrev P : Option (List Data → Call) → Type 0
    P r = IsAsked d (elim r as (λ _. Call) [
      | None ↦ F unknown_method
      | Some call ↦ elim (as_array (at_key (codes "params") d)) as (λ _. Call) [ None ↦ F (failed syntax_error) | Some ds ↦ call (items_list ds) ]
    ])

    suited : (call : List Data → Call) → Suits call → P (Some call)
    suited call f =
        elim (as_array (at_key (codes "params") d)) as (λ o. as_array (at_key (codes "params") d) ≡ o → IsAsked d (elim o as (λ _. Call) [ None ↦ F (failed syntax_error) | Some ds ↦ call (items_list ds) ])) [
          | None ↦ λ _. faulty (failed syntax_error)
          | Some ds ↦ λ e. f (items_list ds) (ap (λ o. unwrap_or (option_map items_list o) []) e)
        ] refl

    with_none : (c : Call) → IsAsked d c → Suits (of_none (id_of d) c)
    with_none c x [] e = x
    with_none c x (a ∷ ds) e = faulty (failed syntax_error)

    with_one : (call : Data → Call) → ((a : Data) → params_of d ≡ a ∷ [] → IsAsked d (call a)) → Suits (of_one (id_of d) call)
    with_one call f [] e = faulty (failed syntax_error)
    with_one call f (a ∷ []) e = f a e
    with_one call f (a ∷ b ∷ ds) e = faulty (failed syntax_error)

    locks : (call : List ℕ → Call) (a : Data) → ((n : List ℕ) → IsAsked d (call n)) → IsAsked d (of_lock (id_of d) call a)
    locks call null f = faulty (failed syntax_error)
    locks call (boolean b) f = faulty (failed syntax_error)
    locks call (number n) f = faulty (failed syntax_error)
    locks call (string s) f = pick (is_id s) (call s) (F (failed syntax_error)) (f s) (faulty (failed syntax_error))
    locks call (array ds) f = faulty (failed syntax_error)
    locks call (object ms) f = faulty (failed syntax_error)

    transacts : m ≡ codes "transact" → Suits (of_transact h.db_name (id_of d))
    transacts is [] e = faulty (failed syntax_error)
    transacts is (a ∷ ds) e = in_db a (message.transact (id_of d) ds) (wished (codes "transact") (a ∷ ds) is e, own)

    monitors : m ≡ codes "monitor" → Suits (of_monitor h.db_name (id_of d) update)
    monitors is [] e = faulty (failed syntax_error)
    monitors is (a ∷ []) e = faulty (failed syntax_error)
    monitors is (a ∷ b ∷ []) e = faulty (failed syntax_error)
    monitors is (a ∷ b ∷ c ∷ []) e =
        pick (is_object c) (of_db h.db_name (id_of d) a (message.monitor (id_of d) update b c None)) (F (failed syntax_error)) (in_db a (message.monitor (id_of d) update b c None) (wished (codes "monitor") (a ∷ b ∷ c ∷ []) is e, own)) (faulty (failed syntax_error))
    monitors is (a ∷ b ∷ c ∷ x ∷ ds) e = faulty (failed syntax_error)

    conditional : m ≡ codes "monitor_cond" → Suits (of_monitor h.db_name (id_of d) update2)
    conditional is [] e = faulty (failed syntax_error)
    conditional is (a ∷ []) e = faulty (failed syntax_error)
    conditional is (a ∷ b ∷ []) e = faulty (failed syntax_error)
    conditional is (a ∷ b ∷ c ∷ []) e =
        pick (is_object c) (of_db h.db_name (id_of d) a (message.monitor (id_of d) update2 b c None)) (F (failed syntax_error)) (in_db a (message.monitor (id_of d) update2 b c None) (wished (codes "monitor_cond") (a ∷ b ∷ c ∷ []) is e, own)) (faulty (failed syntax_error))
    conditional is (a ∷ b ∷ c ∷ x ∷ ds) e = faulty (failed syntax_error)

    resuming_from : (a b c x : Data) (o : Option Uuid) → wish_of d ≡ elim o as (λ _. Wish) [ None ↦ nothing_else | Some v ↦ adds update2 (Some v) b c ]
        → IsAsked d (elim o as (λ _. Call) [ None ↦ F (failed syntax_error) | Some v ↦ of_db h.db_name (id_of d) a (message.monitor (id_of d) update2 b c (Some v)) ])
    resuming_from a b c x None e = faulty (failed syntax_error)
    resuming_from a b c x (Some v) e = in_db a (message.monitor (id_of d) update2 b c (Some v)) (e, own)

    resuming : m ≡ codes "monitor_cond_since" → Suits (of_monitor_since h.db_name (id_of d))
    resuming is [] e = faulty (failed syntax_error)
    resuming is (a ∷ []) e = faulty (failed syntax_error)
    resuming is (a ∷ b ∷ []) e = faulty (failed syntax_error)
    resuming is (a ∷ b ∷ c ∷ []) e = faulty (failed syntax_error)
    resuming is (a ∷ b ∷ c ∷ x ∷ []) e =
        pick (is_object c) (elim (commit_of x) as (λ _. Call) [ None ↦ F (failed syntax_error) | Some v ↦ of_db h.db_name (id_of d) a (message.monitor (id_of d) update2 b c (Some v)) ]) (F (failed syntax_error))
        (resuming_from a b c x (commit_of x) (wished (codes "monitor_cond_since") (a ∷ b ∷ c ∷ x ∷ []) is e)) (faulty (failed syntax_error))
    resuming is (a ∷ b ∷ c ∷ x ∷ y ∷ ds) e = faulty (failed syntax_error)

    changing : m ≡ codes "monitor_cond_change" → Suits (of_change (id_of d))
    changing is [] e = faulty (failed syntax_error)
    changing is (a ∷ []) e = faulty (failed syntax_error)
    changing is (a ∷ b ∷ []) e = faulty (failed syntax_error)
    changing is (a ∷ b ∷ c ∷ []) e =
        pick (is_object c) (message.change_filters (id_of d) a b c) (F (failed syntax_error)) (wished (codes "monitor_cond_change") (a ∷ b ∷ c ∷ []) is e, own) (faulty (failed syntax_error))
    changing is (a ∷ b ∷ c ∷ x ∷ ds) e = faulty (failed syntax_error)

    plainly : (name : List ℕ) → ((ds : List Data) → wish name ds ≡ nothing_else) → m ≡ name → (ds : List Data) → params_of d ≡ ds → IsPlain d
    plainly name none is ds e = (wished name ds is e ∙ none ds, own)

    -- the methods, from the last to the first
    abbrev from_echo : Option (List Data → Call)
    from_echo = if bytes_eq m (codes "echo") then Some (λ params. message.answered (reply (id_of d) (array (items_of params)))) else None

    abbrev from_unlock : Option (List Data → Call)
    from_unlock = if bytes_eq m (codes "unlock") then Some (of_one (id_of d) (of_lock (id_of d) (message.unlock (id_of d)))) else from_echo

    abbrev from_steal : Option (List Data → Call)
    from_steal = if bytes_eq m (codes "steal") then Some (of_one (id_of d) (of_lock (id_of d) (message.steal (id_of d)))) else from_unlock

    abbrev from_lock : Option (List Data → Call)
    from_lock = if bytes_eq m (codes "lock") then Some (of_one (id_of d) (of_lock (id_of d) (message.lock (id_of d)))) else from_steal

    abbrev from_cancel : Option (List Data → Call)
    from_cancel = if bytes_eq m (codes "monitor_cancel") then Some (of_one (id_of d) (message.cancel_monitor (id_of d))) else from_lock

    abbrev from_change : Option (List Data → Call)
    from_change = if bytes_eq m (codes "monitor_cond_change") then Some (of_change (id_of d)) else from_cancel

    abbrev from_monitor_cond_since : Option (List Data → Call)
    from_monitor_cond_since = if bytes_eq m (codes "monitor_cond_since") then Some (of_monitor_since h.db_name (id_of d)) else from_change

    abbrev from_monitor_cond : Option (List Data → Call)
    from_monitor_cond = if bytes_eq m (codes "monitor_cond") then Some (of_monitor h.db_name (id_of d) update2) else from_monitor_cond_since

    abbrev from_monitor : Option (List Data → Call)
    from_monitor = if bytes_eq m (codes "monitor") then Some (of_monitor h.db_name (id_of d) update) else from_monitor_cond

    abbrev from_transact : Option (List Data → Call)
    from_transact = if bytes_eq m (codes "transact") then Some (of_transact h.db_name (id_of d)) else from_monitor

    abbrev from_get_schema : Option (List Data → Call)
    from_get_schema = if bytes_eq m (codes "get_schema") then Some (of_one (id_of d) (λ name. of_db h.db_name (id_of d) name (message.answered (reply (id_of d) h.schema)))) else from_transact

    abbrev from_list_dbs : Option (List Data → Call)
    from_list_dbs = if bytes_eq m (codes "list_dbs") then Some (of_none (id_of d) (message.answered (reply (id_of d) (array (item (string h.db_name) no_items))))) else from_get_schema

    holds_from_echo : P from_echo
    holds_from_echo = by_name m (codes "echo") (λ b. P (cond b (Some (λ params. message.answered (reply (id_of d) (array (items_of params))))) None))
        (λ is. suited (λ params. message.answered (reply (id_of d) (array (items_of params)))) (λ ds e. plain_reply d (array (items_of ds)) (plainly (codes "echo") (λ ds. refl) is ds e)))
        (faulty unknown_method)

    holds_from_unlock : P from_unlock
    holds_from_unlock = by_name m (codes "unlock") (λ b. P (cond b (Some (of_one (id_of d) (of_lock (id_of d) (message.unlock (id_of d))))) from_echo))
        (λ is. suited _ (with_one (of_lock (id_of d) (message.unlock (id_of d))) (λ a e. locks (message.unlock (id_of d)) a (λ n. plainly (codes "unlock") (λ ds. refl) is (a ∷ []) e)))) holds_from_echo

    holds_from_steal : P from_steal
    holds_from_steal = by_name m (codes "steal") (λ b. P (cond b (Some (of_one (id_of d) (of_lock (id_of d) (message.steal (id_of d))))) from_unlock))
        (λ is. suited _ (with_one (of_lock (id_of d) (message.steal (id_of d))) (λ a e. locks (message.steal (id_of d)) a (λ n. plainly (codes "steal") (λ ds. refl) is (a ∷ []) e)))) holds_from_unlock

    holds_from_lock : P from_lock
    holds_from_lock = by_name m (codes "lock") (λ b. P (cond b (Some (of_one (id_of d) (of_lock (id_of d) (message.lock (id_of d))))) from_steal))
        (λ is. suited _ (with_one (of_lock (id_of d) (message.lock (id_of d))) (λ a e. locks (message.lock (id_of d)) a (λ n. plainly (codes "lock") (λ ds. refl) is (a ∷ []) e)))) holds_from_steal

    holds_from_cancel : P from_cancel
    holds_from_cancel = by_name m (codes "monitor_cancel") (λ b. P (cond b (Some (of_one (id_of d) (message.cancel_monitor (id_of d)))) from_lock))
        (λ is. suited _ (with_one (message.cancel_monitor (id_of d)) (λ a e. (wished (codes "monitor_cancel") (a ∷ []) is e, own)))) holds_from_lock

    holds_from_change : P from_change
    holds_from_change = by_name m (codes "monitor_cond_change") (λ b. P (cond b (Some (of_change (id_of d))) from_cancel)) (λ is. suited _ (changing is)) holds_from_cancel

    holds_from_monitor_cond_since : P from_monitor_cond_since
    holds_from_monitor_cond_since = by_name m (codes "monitor_cond_since") (λ b. P (cond b (Some (of_monitor_since h.db_name (id_of d))) from_change)) (λ is. suited _ (resuming is)) holds_from_change

    holds_from_monitor_cond : P from_monitor_cond
    holds_from_monitor_cond = by_name m (codes "monitor_cond") (λ b. P (cond b (Some (of_monitor h.db_name (id_of d) update2)) from_monitor_cond_since)) (λ is. suited _ (conditional is)) holds_from_monitor_cond_since

    holds_from_monitor : P from_monitor
    holds_from_monitor = by_name m (codes "monitor") (λ b. P (cond b (Some (of_monitor h.db_name (id_of d) update)) from_monitor_cond)) (λ is. suited _ (monitors is)) holds_from_monitor_cond

    holds_from_transact : P from_transact
    holds_from_transact = by_name m (codes "transact") (λ b. P (cond b (Some (of_transact h.db_name (id_of d))) from_monitor)) (λ is. suited _ (transacts is)) holds_from_monitor

    holds_from_get_schema : P from_get_schema
    holds_from_get_schema = by_name m (codes "get_schema") (λ b. P (cond b (Some (of_one (id_of d) (λ name. of_db h.db_name (id_of d) name (message.answered (reply (id_of d) h.schema))))) from_transact))
        (λ is. suited _ (with_one (λ name. of_db h.db_name (id_of d) name (message.answered (reply (id_of d) h.schema))) (λ a e. in_db a (message.answered (reply (id_of d) h.schema)) (plain_reply d h.schema (plainly (codes "get_schema") (λ ds. refl) is (a ∷ []) e))))) holds_from_transact

    known : P from_list_dbs
    known = by_name m (codes "list_dbs") (λ b. P (cond b (Some (of_none (id_of d) (message.answered (reply (id_of d) (array (item (string h.db_name) no_items)))))) from_get_schema))
        (λ is. suited _ (λ ds e. with_none (message.answered (reply (id_of d) (array (item (string h.db_name) no_items)))) (plain_reply d (array (item (string h.db_name) no_items)) (plainly (codes "list_dbs") (λ ds. refl) is ds e)) ds e)) holds_from_get_schema

  -- the id of an answer is the request's where no number is left out
  own_id : (d : Data) → has_left_out d ≡ false → answer_id d ≡ id_of d
  own_id d e = ap (λ b. cond b null (id_of d)) (part_whole (codes "id") d e)

  -- a method that isn't served is unknown
  served : (d : Data) (m : List ℕ) (read : as_str (at_key (codes "method") d) ≡ Some m) (own : answer_id d ≡ id_of d) → IsAsked d (of_request h.db_name h.schema h.serves (id_of d) m (at_key (codes "params") d))
  served d m read own = elim (h.serves m) as (λ b. P d m read own (cond b (from_list_dbs d m read own) None)) [ true ↦ known d m read own | false ↦ faulty d m read own unknown_method ]

  requested : (d : Data) (m : List ℕ) → as_str (at_key (codes "method") d) ≡ Some m
      → IsAsked d (cond (has_left_out d) (fault (if has_left_out (id_of d) then null else id_of d) (failed syntax_error)) (of_request h.db_name h.schema h.serves (id_of d) m (at_key (codes "params") d)))
  requested d m read =
      elim (has_left_out d) as (λ b. has_left_out d ≡ b → IsAsked d (cond b (fault (if has_left_out (id_of d) then null else id_of d) (failed syntax_error)) (of_request h.db_name h.schema h.serves (id_of d) m (at_key (codes "params") d)))) [
        | true ↦ λ _. failure_harmless d (if has_left_out (id_of d) then null else id_of d) (failed syntax_error) refl
        | false ↦ λ e. served d m read (own_id d e)
      ] refl

  -- the call of a message, and whether it has a reply
  pub reads : (d : Data) → Reads (is_request d) d (call_of h.db_name h.schema h.serves d)
  reads d =
      elim (as_str (at_key (codes "method") d)) as (λ o. as_str (at_key (codes "method") d) ≡ o → Reads (is_some o && not (is_null (id_of d))) d (elim o as (λ _. Call) [
        | None ↦ message.passed_over
        | Some m ↦ (if is_null (id_of d) then of_notification m (at_key (codes "params") d)
            else (if has_left_out d then fault (if has_left_out (id_of d) then null else id_of d) (failed syntax_error)
            else of_request h.db_name h.schema h.serves (id_of d) m (at_key (codes "params") d)))
      ])) [
        | None ↦ λ _. tt
        | Some m ↦ λ read. elim (is_null (id_of d)) as (λ b. Reads (not b) d (if b then of_notification m (at_key (codes "params") d)
            else (if has_left_out d then fault (if has_left_out (id_of d) then null else id_of d) (failed syntax_error)
            else of_request h.db_name h.schema h.serves (id_of d) m (at_key (codes "params") d)))) [ true ↦ quiet m (at_key (codes "params") d) | false ↦ requested d m read ]
      ] refl

  pub replies : (b : Bool) (d : Data) (c : Call) → Reads b d c → has_reply c ≡ b
  replies true d (message.answered m) r = refl
  replies true d (message.transact id ops) r = refl
  replies true d (message.monitor id n i requests since) r = refl
  replies true d (message.change_filters id old new filters) r = refl
  replies true d (message.cancel_monitor id i) r = refl
  replies true d (message.lock id name) r = refl
  replies true d (message.steal id name) r = refl
  replies true d (message.unlock id name) r = refl
  replies true d (message.cancel id) r = absurd r
  replies true d message.passed_over r = absurd r
  replies false d (message.answered m) r = absurd r
  replies false d (message.transact id ops) r = absurd r
  replies false d (message.monitor id n i requests since) r = absurd r
  replies false d (message.change_filters id old new filters) r = absurd r
  replies false d (message.cancel_monitor id i) r = absurd r
  replies false d (message.lock id name) r = absurd r
  replies false d (message.steal id name) r = absurd r
  replies false d (message.unlock id name) r = absurd r
  replies false d (message.cancel id) r = refl
  replies false d message.passed_over r = refl
