use Rattle.std.proofs.Common.{◌≡◌, ℕ, ◌<◌, length}
use Rattle.odb_tables.specs.Database.{Db, table_at}
use Rattle.odb_tables.specs.Installing.{IsChangeOf}
use Rattle.odb_chain.specs.Represented.Chain.{IsReadyFor, StandsAsBefore, chain_at, change_at}
use Rattle.odb_chain.proofs.chains.prepare.Given as goal

abbrev pub invariant-loop-place : goal.invariant-loop-place
invariant-loop-place l = record {
  long : length l.chains.items ≡ length l.initial.chains.items;
  stands : (db : Db) → IsChangeOf db l.changes → (t : ℕ) → StandsAsBefore (table_at db t) (chain_at l.initial.chains.items t) (chain_at l.chains.items t);
  ready : (t : ℕ) → t < l.place → IsReadyFor (change_at l.changes t) (chain_at l.chains.items t);
}
