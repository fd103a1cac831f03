use Rattle.std.proofs.Common.{rules, ◌≡◌, Bool, true, false, cond, Some, None, option_map, refl, sym, ap, ◌∙◌, true≢false}
use mathlib.Core.Logic.{inl, inr}
use Rattle.std.specs.Ordering.{eq_by_cmp}
use Rattle.indexmap.specs.IndexMap.{Updates, get_by}
use Rattle.odb_atoms.proofs.Atoms.{uuid_cmp-IsAntisymmetric}
use Rattle.odb_atoms.proofs.FinMaps.{same_key}
use Rattle.odb_atoms.specs.FinMap as finite
use Rattle.odb_atoms.specs.Uuid.{Uuid, uuid_cmp}
use Rattle.odb_tables.proofs.KeyedMaps.{get-remove, removed}
use Rattle.odb_tables.specs.Represented.Keyed.{keyed}
use Rattle.odb_chain.specs.OldRows.{History, Rows, is_reached}
use Rattle.odb_chain.specs.Represented.MarkedVersions.{StaysOrGoes}
use Rattle.odb_chain.proofs.Keeps.{got, itself}
use Rattle.odb_chain.proofs.old_rows.forget.Goals as goal

abbrev same : History → History
same h = h

pub returns-in_default-clause-row : goal.returns-in_default-clause-row
returns-in_default-clause-row c = λ _.
    let m = c.args.rows.now in
    let none : get_by (eq_by_cmp uuid_cmp c.args.key) m ≡ None = search rules in
    got m (keyed same m) c.args.key refl ∙ ap (option_map same) none

pub returns-then-reaches-clause-row : goal.returns-then-reaches-clause-row
returns-then-reaches-clause-row c = λ un.
    let m = c.args.rows.now in
    let there : get_by (eq_by_cmp uuid_cmp c.args.key) m ≡ Some c.in-Some.history.now = search rules in
    let had : finite.get (keyed same m) c.args.key ≡ Some c.in-Some.history.now = got m (keyed same m) c.args.key refl ∙ ap (option_map same) there in
    let reached : is_reached c.args.version (Some c.in-Some.history.now) ≡ true = search rules in
    absurd (true≢false (sym (ap (is_reached c.args.version) had ∙ reached) ∙ un))

pub returns-clause-row : goal.returns-clause-row
returns-clause-row c = λ _.
    let m = c.args.rows.now in
    let n = c.swap_remove.new.self in
    let k = c.args.key in
    let changed : Updates (eq_by_cmp uuid_cmp) m n k None = search rules in
    ap (λ (x : Rows). finite.get x k) (removed same m n k changed) ∙ get-remove (keyed same m) k k ∙ ap (λ b. cond b None (finite.get (keyed same m) k)) (itself k)

pub returns-clause-rows : goal.returns-clause-rows
returns-clause-rows c = λ u.
    let m = c.args.rows.now in
    let n = c.swap_remove.new.self in
    let k = c.args.key in
    let there : get_by (eq_by_cmp uuid_cmp k) m ≡ Some c.in-Some.history.now = search rules in
    let had : finite.get (keyed same m) k ≡ Some c.in-Some.history.now = got m (keyed same m) k refl ∙ ap (option_map same) there in
    let unreached : is_reached c.args.version (Some c.in-Some.history.now) ≡ false = search rules in
    let changed : Updates (eq_by_cmp uuid_cmp) m n k None = search rules in
    let now : finite.get (keyed same n) u ≡ cond (eq_by_cmp uuid_cmp u k) None (finite.get (keyed same m) u) = ap (λ (x : Rows). finite.get x u) (removed same m n k changed) ∙ get-remove (keyed same m) k u in
    by u (eq_by_cmp uuid_cmp u k) refl now (ap (is_reached c.args.version) had ∙ unreached)
  where
    by : (u : Uuid) (b : Bool) → eq_by_cmp uuid_cmp u c.args.key ≡ b → finite.get (keyed same c.swap_remove.new.self) u ≡ cond b None (finite.get (keyed same c.args.rows.now) u)
        → is_reached c.args.version (finite.get (keyed same c.args.rows.now) c.args.key) ≡ false → StaysOrGoes c.args.version (finite.get (keyed same c.args.rows.now) u) (finite.get (keyed same c.swap_remove.new.self) u)
    by u true is now un = inr (now, ap (λ q. is_reached c.args.version (finite.get (keyed same c.args.rows.now) q)) (same_key uuid_cmp-IsAntisymmetric u c.args.key is) ∙ un)
    by u false is now un = inl now
