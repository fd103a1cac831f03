use Rattle.std.proofs.Common.{◌≡◌, Bool, true, false, refl, subst, sym, ap, ◌∙◌, true≢false}
use Rattle.std.specs.BTreeSet.{contains}
use Rattle.odb_atoms.specs.FinMap as finite
use Rattle.odb_atoms.specs.Uuid.{uuid_cmp}
use Rattle.odb_chain.specs.OldRows.{Rows, is_reached}
use Rattle.odb_chain.specs.Represented.Log.{AreRecorded, OldRows, is_recorded}
use Rattle.odb_chain.proofs.Recorded.{reached_noted}
use Rattle.odb_chain.proofs.old_rows.OldRows.since.Goals as goal

pub changes-requires : goal.changes-requires
changes-requires c = λ u out.
    let m : Rows = c.args.self.now.rows in
    let recorded : AreRecorded m c.self.inside.log = subst (λ (x : Rows). AreRecorded x c.self.inside.log) (ap (λ (y : OldRows). y.rows) c.self.view_is) c.self.invariant in
    let listed : is_recorded c.args.version u c.self.inside.log ≡ true → contains uuid_cmp c.in_ok-keys.keys u ≡ true = c.in_ok-keys.ensures u in
    by (is_reached c.args.version (finite.get m u)) (λ e. sym out ∙ listed (reached_noted m c.self.inside.log c.args.version u recorded e))
  where
    by : (b : Bool) → (b ≡ true → false ≡ true) → b ≡ false
    by true f = absurd (true≢false (sym (f refl)))
    by false f = refl
