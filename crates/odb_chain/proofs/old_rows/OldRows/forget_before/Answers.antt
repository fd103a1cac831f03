use Rattle.std.proofs.Common.{rules, ◌≡◌, ℕ, ◌∷◌, nat_lt, true, subst}
use Rattle.odb_atoms.specs.FinMap as finite
use Rattle.odb_tables.specs.Represented.Keyed.{keyed}
use Rattle.odb_chain.specs.OldRows.{History, Rows}
use Rattle.odb_chain.specs.Represented.Log.{AreRecorded}
use Rattle.odb_chain.proofs.Keeps.{goes_further}
use Rattle.odb_chain.proofs.Recorded.{popped_noted}
use Rattle.odb_chain.proofs.old_rows.OldRows.forget_before.Goals as goal

abbrev same : History → History
same h = h

pub loop-key-preserved : goal.loop-key-preserved
loop-key-preserved c =
    let p = c.args.version in
    let rows : Rows = keyed same c.loop-key.self-inside.rows in
    let new : Rows = keyed same c.forget.new.rows in
    let first : (q : ℕ) × (nat_lt q p ≡ true) × (c.loop-key.self-inside.log ≡ (q, c.in-Some.key) ∷ c.next_before.new.self) = search rules in
    record {
      rows = λ u. goes_further p (finite.get c.args.self.now.rows u) (finite.get rows u) (finite.get new u) (c.loop-key.invariant.rows u) (c.forget.ensures.rows u);
      recorded = popped_noted rows new first.0 p c.in-Some.key c.next_before.new.self first.1 (subst (AreRecorded rows) first.2 c.loop-key.invariant.recorded) c.forget.ensures.row c.forget.ensures.rows;
    }
