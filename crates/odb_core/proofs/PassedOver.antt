-- A transaction that is stuck comes to nothing new, and stays so when it is tried.
use Rattle.std.proofs.Common.{◌≡◌, ℕ, ◌+◌, [], ◌∷◌, ◌++◌, Option, Some, false, refl, sym, ap, subst}
use Rattle.std.proofs.lemmas.Option.{none-some, same_Some}
use Rattle.std.specs.Prelude.{option_to_list}
use Rattle.odb_commit.specs.Transaction as transaction
use Rattle.odb_locks.specs.Locks.{owns}
use Rattle.odb_schema.specs.Schema.{Schema}
use Rattle.odb_service.specs.Server.{Server, served_by}
use Rattle.odb_service.specs.Service.{outcome_of}
use Rattle.odb_service.specs.World.{Waiting, World, attempt, is_due, on_outcome}
use Rattle.odb_tables.specs.Database.{Db}
use Rattle.odb_core.specs.Stuck.{IsStuck, IsStuckIf, comes_to}
use Rattle.odb_core.specs.Represented.Steps.{by_service, let_wait, try_again}

abbrev Tried : Type 0
Tried = World × Option Waiting

-- whenever it was tried
pub stuck_again : (s : Schema) (db : Db) (p : Waiting) (n : ℕ) → IsStuck s db p → IsStuck s db (record p { tried = n })
stuck_again s db p n h = record { waits = h.waits; until = h.until }

-- before its deadline it waits again
pub waits_again : (s : Schema) (p : Waiting) (w : World) → IsStuck s w.db p → is_due w.now p.deadline ≡ false → attempt (served_by s) p w ≡ (w, Some (record p { tried = w.commits }))
waits_again s p w h before = ap (λ (o : transaction.Outcome). on_outcome (served_by s) p (outcome_of w.db o) w) (h.waits (w.commits + 1) w.now (owns w.locks p.session) before)

-- so it goes behind the others, untried
pub passes : (v : Server) (p : Waiting) → IsStuck v.schema v.world.db p → is_due v.world.now p.deadline ≡ false
    → by_service (try_again p) v ≡ let_wait (v.world.waiting ++ record p { tried = v.world.commits } ∷ []) v
passes v p h before =
    ap (λ (t : Tried). let_wait (v.world.waiting ++ option_to_list t.1) (record v { world = t.0 })) (waits_again v.schema p v.world h before)

-- what is left of it is stuck as it was
pub left_stuck : (s : Schema) (db : Db) (p q : Waiting) (w v : World) → IsStuckIf s db p → attempt (served_by s) p w ≡ (v, Some q) → IsStuckIf s db q
left_stuck s db p q w v h e = by (comes_to s p w.db (w.commits + 1) w.now (owns w.locks p.session)) refl e
  where
    again : (moment : Option ℕ) → comes_to s p w.db (w.commits + 1) w.now (owns w.locks p.session) ≡ transaction.waiting moment → IsStuckIf s db (record p { deadline = moment; tried = w.commits })
    again moment is rests =
        let k : IsStuck s db p = h rests in
        subst (λ (d : Option ℕ). IsStuck s db (record p { deadline = d; tried = w.commits })) (sym (k.until w.db (w.commits + 1) w.now (owns w.locks p.session) moment is)) (stuck_again s db p w.commits k)

    by : (o : transaction.Outcome) → comes_to s p w.db (w.commits + 1) w.now (owns w.locks p.session) ≡ o → on_outcome (served_by s) p (outcome_of w.db o) w ≡ (v, Some q) → IsStuckIf s db q
    by (transaction.done results new) is e = absurd (none-some q (ap (λ (t : Tried). t.1) e))
    by (transaction.refused results) is e = absurd (none-some q (ap (λ (t : Tried). t.1) e))
    by (transaction.waiting moment) is e = subst (IsStuckIf s db) (same_Some (record p { deadline = moment; tried = w.commits }) q (ap (λ (t : Tried). t.1) e)) (again moment is)
