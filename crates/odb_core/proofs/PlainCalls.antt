-- Calls that are over at once.
use Rattle.std.proofs.Common.{◌≡◌, ℕ, Bool, true, false, List, Option, Some, None, Bor, refl, sym, ap, ◌∙◌, true≢false}
use Rattle.std.specs.Prelude.{option_map, option_to_list}
use Rattle.odb_atoms.specs.Uuid.{Uuid}
use Rattle.odb_rpc.specs.Message as message
use Rattle.odb_rpc.specs.Message.{answered, cancel, cancel_monitor, change_filters, lock, monitor, passed_over, steal, transact, unlock}
use Rattle.odb_rpc.specs.Represented.Call.{called}
use Rattle.odb_rpc.specs.declared.call.Call.{Call}
use Rattle.odb_rpc.specs.declared.call.Call.TheVariants as call
use Rattle.odb_rpc.specs.declared.monitor.MonitorCall.{MonitorCall}
use Rattle.odb_rpc.specs.declared.printable.Printable.{Printable}
use Rattle.serde_json.specs.declared.value.Value.{Value}
use Rattle.odb_schema.specs.Json.{Data}
use Rattle.odb_service.specs.Server.{Server}
use Rattle.odb_service.specs.World.{handle, post}
use Rattle.odb_queue.specs.Represented.Answer.{at_once, said}
use Rattle.odb_core.specs.Represented.Steps.{by_service, in_world}
use Rattle.odb_core.proofs.ServerSteps.{placed}
use Rattle.odb_core.proofs.WorldPosts.{nothing_posted}

abbrev pub is_plain : message.Call → Bool
is_plain (answered d) = true
is_plain (transact id ops) = false
is_plain (monitor id n i requests since) = false
is_plain (change_filters id old new filters) = false
is_plain (cancel_monitor id i) = false
is_plain (lock id name) = false
is_plain (steal id name) = false
is_plain (unlock id name) = false
is_plain (cancel id) = false
is_plain passed_over = true

-- it is answered by what it is answered at once, if there is something
pub plain_as : (n : ℕ) (d : Data) (fresh : List Uuid) (w v : Server) (k : message.Call) → is_plain k ≡ true
    → ((found : Option Data) → at_once k ≡ Some found → in_world (post n (option_to_list (option_map (said d) found))) w ≡ v) → by_service (λ h. handle h n d fresh k) w ≡ v
plain_as n d fresh w v (answered text) e p = p (Some text) refl
plain_as n d fresh w v (transact id ops) e p = absurd (true≢false (sym e))
plain_as n d fresh w v (monitor id m i requests since) e p = absurd (true≢false (sym e))
plain_as n d fresh w v (change_filters id old new filters) e p = absurd (true≢false (sym e))
plain_as n d fresh w v (cancel_monitor id i) e p = absurd (true≢false (sym e))
plain_as n d fresh w v (lock id name) e p = absurd (true≢false (sym e))
plain_as n d fresh w v (steal id name) e p = absurd (true≢false (sym e))
plain_as n d fresh w v (unlock id name) e p = absurd (true≢false (sym e))
plain_as n d fresh w v (cancel id) e p = absurd (true≢false (sym e))
plain_as n d fresh w v passed_over e p = sym (ap (placed w) (nothing_posted n w.world)) ∙ p None refl

-- what is left beside locks, cancels and transactions
pub is_left : (db : List ℕ) (schema id : Data) (c : Call)
    → ((x : Bor (List Value)) → c ≡ call.Transact x → ⊥) → ((x : Bor (List ℕ)) → c ≡ call.Lock x → ⊥) → ((x : Bor (List ℕ)) → c ≡ call.Steal x → ⊥)
    → ((x : Bor (List ℕ)) → c ≡ call.Unlock x → ⊥) → ((x : Printable) → c ≡ call.Cancel x → ⊥) → ((x : MonitorCall) → c ≡ call.Monitor x → ⊥)
    → is_plain (called db schema id c) ≡ true
is_left db schema id call.ListDatabases t a b u x m = refl
is_left db schema id call.GetSchema t a b u x m = refl
is_left db schema id (call.Echo params) t a b u x m = refl
is_left db schema id (call.Transact operations) t a b u x m = absurd (t operations refl)
is_left db schema id (call.Monitor asked) t a b u x m = absurd (m asked refl)
is_left db schema id (call.Lock name) t a b u x m = absurd (a name refl)
is_left db schema id (call.Steal name) t a b u x m = absurd (b name refl)
is_left db schema id (call.Unlock name) t a b u x m = absurd (u name refl)
is_left db schema id (call.Cancel canceled) t a b u x m = absurd (x canceled refl)
is_left db schema id call.PassedOver t a b u x m = refl
