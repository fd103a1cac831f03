-- Kinds of change that are switched off: what a session is sent is what it would be sent with all of them on, without these. [P 9.4]
use Rattle.std.specs.Prelude.{◌≡◌, ◌⊎◌, true, false, not, List, [], ◌∷◌, map, Option, Some, is_some, filter_map}
use Rattle.serde_json.specs.Data.{Data}
use Rattle.odb_monitor.specs.Update.{table_updates}
use Rattle.odb_monitor.specs.View.{Delta, View, shown}
use Rattle.odb_request.specs.Request.{Request, Select}
use Rattle.odb_rpc.specs.Message.{reply}
use Rattle.odb_service.specs.Service.{Service}
use Rattle.odb_service.specs.Session.{Item, Monitor, Out, Revision, Session, Watch, asks, drained, first_result, owed, renamed, say, shapes, shift, start, stopped, sync, to, told, told_of}
use Rattle.odb_tables.specs.Database.{Db}
use Rattle.odb_wire.specs.Message.{id_of}

-- ---- a session that asked for all kinds of change, and is the same else

abbrev pub everything : Select
everything = record { initial = true; insert = true; delete = true; modify = true }

abbrev pub all_kinds : List Request → List Request
all_kinds qs = map {A = Request} (λ q. record q { select = everything }) qs

abbrev pub full_watch : Watch → Watch
full_watch k = record { id = k.id; notation = k.notation; requests = all_kinds k.requests; since = k.since }

abbrev pub full_monitor : Monitor → Monitor
full_monitor m = record { watch = full_watch m.watch; view = m.view }

abbrev pub full_item : Item → Item
full_item (say a d) = say a d
full_item (start d k) = start d (full_watch k)
full_item (sync i) = sync i
full_item (shift i fs) = shift i fs
full_item (renamed d old new fs) = renamed d old new fs
full_item (stopped d i) = stopped d i

abbrev pub full : Session → Session
full x = record { queue = map full_item x.queue; monitors = map full_monitor x.monitors }

-- ---- what is sent of a message

abbrev pub IsAmong : Watch → List Watch → Type 0
IsAmong k [] = ⊥
IsAmong k (l ∷ ls) = (l ≡ k) ⊎ IsAmong k ls

module _ (h : Service) where
  -- a first reply with these rows, to a client that held this view, or none
  abbrev pub first_reply : Revision → Data → Watch → Option View → Delta → Out
  first_reply revision d k held D = record {
    answers = to d;
    message = reply (id_of d) (first_result h revision k held (table_updates k.notation (not (is_some held)) (shapes k.requests) D));
    held = held;
  }

  -- the first reply of one of these monitors: of its rows those of the kinds that are on
  abbrev pub IsFirstCut : Revision → List Watch → Option Out → Option Out → Type 0
  IsFirstCut revision ks all some =
      (d : Data) × (k : Watch) × IsAmong k ks × (held : Option View) × (D : Delta)
      × (all ≡ Some (first_reply revision d k held D)) × (some ≡ Some (first_reply revision d k held (shown (not (is_some held)) k.requests D)))

  -- an update of one of these monitors: of its rows those of the kinds that are on; none where no row is left
  abbrev pub IsUpdateCut : Revision → List Watch → Option Out → Option Out → Type 0
  IsUpdateCut revision ks all some = (k : Watch) × IsAmong k ks × (D : Delta) × (all ≡ told_of h revision k k.requests D) × (some ≡ told_of h revision k k.requests (shown false k.requests D))

  abbrev pub IsCut : Revision → List Watch → Option Out → Option Out → Type 0
  IsCut revision ks all some = (some ≡ all) ⊎ (IsFirstCut revision ks all some ⊎ IsUpdateCut revision ks all some)

  abbrev pub Pairs : Type 0
  Pairs = List (Option Out × Option Out)

  -- what each item of a queue gives, with the monitors as asked up to it; and then what monitors give
  abbrev pub AreEachCut : Revision → List Item → List Watch → Pairs → Type 0
  AreEachCut revision [] ks [] = Unit {0}
  AreEachCut revision [] ks (p ∷ ps) = IsCut revision ks p.0 p.1 × AreEachCut revision [] ks ps
  AreEachCut revision (i ∷ is) ks [] = ⊥
  AreEachCut revision (i ∷ is) ks (p ∷ ps) = IsCut revision (asks h i ks) p.0 p.1 × AreEachCut revision is (asks h i ks) ps

  -- message by message
  abbrev pub AreCut : Revision → List Item → List Watch → List Out → List Out → Type 0
  AreCut revision q ks all some = (pairs : Pairs) × (all ≡ filter_map (λ p. p.0) pairs) × (some ≡ filter_map (λ p. p.1) pairs) × AreEachCut revision q ks pairs

  -- What a session is owed is what it would be owed had it asked for all kinds of change, message by message without those that its monitor has off. What isn't sent counts as told: when nothing more is owed, the two sessions are the same again.
  pub record SendsKinds : Type 0 where
    pub cut : (revision : Revision) (x : Session) → AreCut revision x.queue (told h x) (owed h revision (full x)) (owed h revision x)
    pub counts : (db : Db) (x : Session) → full (drained h db x) ≡ drained h db (full x)
