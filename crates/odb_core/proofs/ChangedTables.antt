-- A change of a table has rows where its list isn't empty.
use Rattle.std.proofs.Common.{◌≡◌, true, false, cond, nat_lt, List, [], ◌∷◌, length, Option, Some, refl, sym, ◌∙◌, ap, arith}
use Rattle.std.proofs.lemmas.Bool.Decides.{nat_tests}
use Rattle.std.specs.Cmp.{tied_itself}
use Rattle.std.specs.FinMap.Entries.{find}
use Rattle.std.specs.Ordering.{is_eq}
use Rattle.std.proofs.lemmas.Option.{none-some}
use Rattle.odb_atoms.specs.FinMap as finite
use Rattle.odb_atoms.specs.Row.{Row}
use Rattle.odb_atoms.specs.Uuid.{Uuid, uuid_cmp}
use Rattle.odb_atoms.proofs.FinMaps.{get-insert}
use Rattle.odb_tables.specs.Change.{Changes}
use Rattle.odb_tables.specs.Represented.Key.{uuid_cmp_total}

abbrev Sides : Type 0
Sides = Option Row × Option Row

there_is_one : (m : Changes) (k : Uuid) (x : Sides) → finite.get m k ≡ Some x → nat_lt 0 (finite.len m) ≡ true
unfolding finite.get finite.len
there_is_one m k x e = by m.entries refl
  where
    by : (es : List (Uuid × Sides)) → m.entries ≡ es → nat_lt 0 (length m.entries) ≡ true
    by [] is = absurd (none-some x (sym (ap (find uuid_cmp k) is) ∙ e))
    by (y ∷ ys) is =
        let long : nat_lt 0 (length (y ∷ ys)) ≡ true = grind (arith, nat_tests) in
        ap (λ es. nat_lt 0 (length es)) is ∙ long

none_is_there : nat_lt 0 (finite.len (finite.from_entries {R = uuid_cmp} (let es : List (Uuid × Sides) = [] in es))) ≡ false
unfolding finite.len finite.empty
none_is_there = refl

pub has_rows : (es : List (Uuid × Sides)) → nat_lt 0 (finite.len (finite.from_entries {R = uuid_cmp} es)) ≡ nat_lt 0 (length es)
has_rows [] = none_is_there
has_rows (e ∷ es) =
    let long : nat_lt 0 (length (e ∷ es)) ≡ true = grind (arith, nat_tests) in
    there_is_one (finite.from_entries (e ∷ es)) e.0 e.1
    (get-insert uuid_cmp_total (finite.from_entries es) e.0 e.1 e.0 ∙ ap (λ b. cond b (Some e.1) (finite.get (finite.from_entries {R = uuid_cmp} es) e.0)) (ap is_eq (tied_itself uuid_cmp_total e.0)))
    ∙ sym long
