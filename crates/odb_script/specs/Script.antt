-- Scripts: lines of commands for named sessions, and the text that they print. [P 15.1]
use Rattle.std.specs.Prelude.{ℕ, zero, suc, ◌+◌, ◌-◌, ◌*◌, ◌%◌, ◌^◌, ◌==◌, nat_lt, nat_le, length, Bool, true, false, not, ◌&&◌, ◌||◌, if◌then◌else◌, List, [], ◌∷◌, ◌++◌, map, filter, find, flat_map, drop, Option, Some, None, is_some, Result, Ok, Err, codes, bytes_eq}
use Rattle.std.specs.List.{list_all}
use Rattle.serde_json.specs.Data.{Data}
use Rattle.odb_atoms.specs.FinMap as finmap
use Rattle.odb_service.specs.Run.{Event, Refusal, busy, closed, gone, if_ok, in_use, opened, step, beginning, submitted, ticked, too_many}
use Rattle.odb_service.specs.Server.{served_by}
use Rattle.odb_service.specs.Service.{Service, service}
use Rattle.odb_schema.specs.Schema.{Schema}
use Rattle.odb_service.specs.Session.{Session, drained, owed}
use Rattle.odb_service.specs.World.{World, revision_of}
use Rattle.odb_wire.specs.Stream.{Ending, fault_bad, fault_too_long, goes_on, max_message, messages}
use Rattle.odb_atoms.specs.Text.{is_digit}
use Rattle.odb_atoms.specs.Uuid.{Uuid, uuid_from}
use Rattle.odb_rpc.specs.Message.{inserts_of}
use Rattle.odb_wire.specs.Message.{method_of}

-- a session of the script: its name, its identifier, the bytes that came, how many of its messages were delivered on, and whether it is held
pub record ScriptSession : Type 0 where
  pub name : List ℕ
  pub session : ℕ
  pub bytes : List ℕ
  pub delivered : ℕ
  pub held : Bool

-- open sessions in order of opening; how many were opened; how many inserts were counted; the moment
pub record Script : Type 0 where
  pub world : World
  pub sessions : List ScriptSession
  pub opened_so_far : ℕ
  pub inserts : ℕ
  pub moment : ℕ

pub data Command : Type 0 where
  piece : List ℕ → List ℕ → Command
  open_session : List ℕ → Command
  close_session : List ℕ → Command
  hold : List ℕ → Command
  drain : List ℕ → Command
  tick_to : ℕ → Command

-- ---- lines

abbrev pub is_letter_or_digit : ℕ → Bool
is_letter_or_digit c = (nat_le 97 c && nat_le c 122) || ((nat_le 65 c && nat_le c 90) || (nat_le 48 c && nat_le c 57))

abbrev pub is_name : List ℕ → Bool
is_name n = nat_le 1 (length n) && (nat_le (length n) 16 && list_all is_letter_or_digit n)

-- before the first byte c, and what follows it
abbrev pub split_at : ℕ → List ℕ → List ℕ × Option (List ℕ)
split_at c [] = ([], None)
split_at c (x ∷ xs) = if x == c then ([], Some xs) else (x ∷ (split_at c xs).0, (split_at c xs).1)

abbrev pub with_name : (List ℕ → Command) → List ℕ → Option Command
with_name f n = if is_name n then Some (f n) else None

abbrev pub number_in : ℕ → List ℕ → ℕ
number_in n [] = n
number_in n (c ∷ cs) = number_in (10 * n + (c - 48)) cs

abbrev pub tick_of : List ℕ → Option Command
tick_of ds = if nat_le 1 (length ds) && (nat_le (length ds) 20 && (list_all is_digit ds && nat_lt (number_in 0 ds) (2 ^ 64))) then Some (tick_to (number_in 0 ds)) else None

-- what a line of a word and of what follows its space stands for
abbrev pub command_by : List ℕ → Option (List ℕ) → Option Command
command_by word None = None
command_by word (Some rest) =
    if bytes_eq word (codes "!open") then with_name open_session rest
    else (if bytes_eq word (codes "!close") then with_name close_session rest
    else (if bytes_eq word (codes "!hold") then with_name hold rest
    else (if bytes_eq word (codes "!take") then with_name drain rest
    else (if bytes_eq word (codes "!tick") then tick_of rest
    else with_name (λ n. piece n rest) word))))

abbrev pub command_of : List ℕ → Option Command
command_of line = command_by (split_at 32 line).0 (split_at 32 line).1

-- ---- what is printed

abbrev pub line_of : List ℕ → List ℕ → List ℕ
line_of name text = name ++ (32 ∷ text) ++ 10 ∷ []

-- the UUID of the k-th insert
abbrev pub script_uuid : ℕ → Uuid
script_uuid k = uuid_from (16384 * 2 ^ 64 + 32768 * 2 ^ 48 + k % 2 ^ 48)

abbrev pub fresh_from : ℕ → ℕ → List Uuid
fresh_from k zero = []
fresh_from k (suc n) = script_uuid (k + 1) ∷ fresh_from (k + 1) n

abbrev pub at_name : List ℕ → (ScriptSession → ScriptSession) → List ScriptSession → List ScriptSession
at_name n f xs = map (λ x. if bytes_eq x.name n then f x else x) xs

-- a session to which bytes came, all of whose messages are delivered on
abbrev pub with_bytes : List ℕ → ScriptSession → ScriptSession
with_bytes bytes x = record { name = x.name; session = x.session; bytes = x.bytes ++ bytes; delivered = length (messages max_message (x.bytes ++ bytes)).0; held = x.held }

-- a session whose messages are kept back, or no longer
abbrev pub with_held : Bool → ScriptSession → ScriptSession
with_held b x = record { name = x.name; session = x.session; bytes = x.bytes; delivered = x.delivered; held = b }

abbrev pub set_held : Bool → List ℕ → Script → Script
set_held b n p = record p { sessions = at_name n (with_held b) p.sessions }

module _ (h : Service) where
  -- every open session that isn't held is drained, in order of opening
  abbrev pub drain_one : ScriptSession → Option Session → Script → Script × List ℕ
  drain_one x None p = (p, [])
  drain_one x (Some s) p = (
    record p { world = record (p.world) { sessions = finmap.insert p.world.sessions x.session (drained h p.world.db s) } },
    flat_map (λ o. line_of x.name (h.printed o.message)) (owed h (revision_of p.world) s),
  )

  abbrev pub drain_each : List ScriptSession → Script → Script × List ℕ
  drain_each [] p = (p, [])
  drain_each (x ∷ xs) p =
      let one = if x.held then (p, []) else drain_one x (finmap.get p.world.sessions x.session) p in
      let rest = drain_each xs one.0 in
      (rest.0, one.1 ++ rest.1)

  abbrev pub drain_all : Script × List ℕ → Script × List ℕ
  drain_all r = let d = drain_each r.0.sessions r.0 in (d.0, r.1 ++ d.1)

  abbrev pub in_world : Result World Refusal → Script → Script
  in_world (Err e) p = p
  in_world (Ok w) p = record p { world = w }

  abbrev pub world_after : Event → Script → Result World Refusal
  world_after e p = if_ok (λ r. Ok r.0) (step h e p.world)

  -- how a refusal is printed
  abbrev pub refusal_text : Refusal → List ℕ
  refusal_text too_many = codes "!toomany"
  refusal_text gone = codes "!gone"
  refusal_text busy = codes "!busy"
  refusal_text in_use = codes "!open"

  -- a message of the session of this name and identifier goes in, or is refused; a response does nothing
  abbrev pub submit_result : List ℕ → Result World Refusal → Script → Script × List ℕ
  submit_result n (Err e) p = (p, line_of n (refusal_text e))
  submit_result n (Ok w) p = (record p { world = w }, [])

  -- with an identifier for each of its inserts
  abbrev pub submit_as : List ℕ → ℕ → Data → Script → Script × List ℕ
  submit_as n s d p =
      let q = record p { inserts = p.inserts + inserts_of d } in
      submit_result n (world_after (submitted s d (fresh_from p.inserts (inserts_of d)) p.moment) q) q

  abbrev pub dispatch : List ℕ → ℕ → Data → Script → Script × List ℕ
  dispatch n s d p = if is_some (method_of d) then submit_as n s d p else (p, [])

  abbrev pub deliver_all : List ℕ → ℕ → List Data → Script → Script × List ℕ
  deliver_all n s [] p = (p, [])
  deliver_all n s (d ∷ ds) p =
      let one = drain_all (dispatch n s d p) in
      let rest = deliver_all n s ds one.0 in
      (rest.0, one.1 ++ rest.1)

  -- the session of this name and identifier ends
  abbrev pub shut : List ℕ → ℕ → Script → Script
  shut n s p = record (in_world (world_after (closed s) p) p) { sessions = filter (λ y. not (bytes_eq y.name n)) p.sessions }

  abbrev pub shut_with : List ℕ → ℕ → List ℕ → Script × List ℕ → Script × List ℕ
  shut_with n s line r = let d = drain_all (shut n s r.0, line_of n line) in (d.0, r.1 ++ d.1)

  -- a stream that is at a fault ends its session
  abbrev pub at_ending : List ℕ → ℕ → Ending → Script × List ℕ → Script × List ℕ
  at_ending n s goes_on r = r
  at_ending n s fault_too_long r = shut_with n s (codes "!fault 2") r
  at_ending n s fault_bad r = shut_with n s (codes "!fault 3") r

  -- the bytes that came, and of their messages the ones that weren't delivered on yet
  abbrev pub receive : ScriptSession → List ℕ → Script → Script × List ℕ
  receive x bytes p =
      let ms = messages max_message (x.bytes ++ bytes) in
      let q = record p { sessions = at_name x.name (with_bytes bytes) p.sessions } in
      at_ending x.name x.session ms.1 (deliver_all x.name x.session (drop x.delivered ms.0) q)

  abbrev pub session_named : List ℕ → Script → Option ScriptSession
  session_named n p = find (λ x. bytes_eq x.name n) p.sessions

  abbrev pub when_open : List ℕ → (ScriptSession → Script → Script × List ℕ) → Script → Script × List ℕ
  when_open n f p = elim (session_named n p) [ None ↦ (p, line_of n (codes "!gone")) | Some x ↦ f x p ]

  abbrev pub open_as : List ℕ → Result World Refusal → Script → Script × List ℕ
  open_as n (Err e) p = (p, line_of n (refusal_text e))
  open_as n (Ok w) p =
      (record { world = w; sessions = p.sessions ++ record { name = n; session = p.opened_so_far; bytes = []; delivered = 0; held = false } ∷ []; opened_so_far = p.opened_so_far + 1; inserts = p.inserts; moment = p.moment }, [])

  -- a session of the name is opened, if none is open
  abbrev pub open_named : List ℕ → Script → Script × List ℕ
  open_named n p = elim (session_named n p) [ None ↦ open_as n (world_after (opened p.opened_so_far) p) p | Some x ↦ (p, line_of n (codes "!open")) ]

  -- the session of the name is closed, if one is open
  abbrev pub close_named : List ℕ → Script → Script × List ℕ
  close_named n = when_open n (λ x q. (shut x.name x.session q, []))

  -- the session of the name is held, if one is open
  abbrev pub hold_named : List ℕ → Script → Script × List ℕ
  hold_named n = when_open n (λ x q. (set_held true n q, []))

  -- it is given what it is owed, and is no longer held
  abbrev pub take_named : List ℕ → Script → Script × List ℕ
  take_named n = when_open n (λ x q. let d = drain_one x (finmap.get q.world.sessions x.session) q in (set_held false n d.0, d.1))

  -- the moment is this one
  abbrev pub at_moment : ℕ → Script → Script
  at_moment now p = in_world (world_after (ticked now) p) (record p { moment = now })

  abbrev pub perform : Command → Script → Script × List ℕ
  perform (piece n bytes) p = when_open n (λ x q. receive x bytes q) p
  perform (open_session n) p = drain_all (open_named n p)
  perform (close_session n) p = drain_all (close_named n p)
  perform (hold n) p = drain_all (hold_named n p)
  perform (drain n) p = drain_all (take_named n p)
  perform (tick_to now) p = drain_all (at_moment now p, [])

  -- the text of the lines, up to the first that isn't a command; its number, from 1
  abbrev pub perform_lines : (List ℕ → Option Command) → ℕ → List (List ℕ) → Script → List ℕ × Option ℕ
  perform_lines reads n [] p = ([], None)
  perform_lines reads n ([] ∷ lines) p = perform_lines reads (n + 1) lines p
  perform_lines reads n ((c ∷ cs) ∷ lines) p =
      elim (reads (c ∷ cs)) [
        | None ↦ ([], Some n)
        | Some k ↦ (let r = perform k p in let rest = perform_lines reads (n + 1) lines r.0 in (r.1 ++ rest.0, rest.1))
      ]

-- lines end in a line feed, which the last need not have
abbrev pub joined : ℕ → List (List ℕ) → List (List ℕ)
joined c [] = (c ∷ []) ∷ []
joined c (l ∷ ls) = (c ∷ l) ∷ ls

abbrev pub lines_of : List ℕ → List (List ℕ)
lines_of [] = []
lines_of (c ∷ cs) = if c == 10 then [] ∷ lines_of cs else joined c (lines_of cs)

-- a server of the schema with empty tables and no session
abbrev pub fresh_script : Schema → Script
fresh_script s = record { world = (beginning 0 100 (length s.tables)).world; sessions = []; opened_so_far = 0; inserts = 0; moment = 0 }

-- what a script on it prints, and the number of the first line that is no command
abbrev pub script_of : Schema → List ℕ → List ℕ × Option ℕ
script_of s text = perform_lines (service s) command_of 1 (lines_of text) (fresh_script s)

-- the same with the methods that are served so far
abbrev pub served_script : Schema → List ℕ → List ℕ × Option ℕ
served_script s text = perform_lines (served_by s) command_of 1 (lines_of text) (fresh_script s)
