-- What a row's update prints is what the client's step reads.
use Rattle.std.proofs.Common.{◌≡◌, Bool, true, false, cond, List, [], ◌∷◌, map, Option, Some, None, refl, sym, ◌∙◌, ap, not, ◌&&◌, ◌||◌, is_some, true≢false}
use Rattle.std.specs.Prelude.{option_map, option_and_then}
use Rattle.odb_atoms.specs.ColType.{default_of}
use Rattle.odb_atoms.specs.Value.{Value}
use Rattle.odb_request.specs.Request.{Column}
use Rattle.odb_monitor.specs.View.{Cells}
use Rattle.odb_request.specs.Request.{column_names}
use Rattle.odb_monitor.specs.Update.{all_cells, set_cells, old_cells, differences, row_object}
use Rattle.odb_monitor.specs.Fold.{read_cells, cells_of, all_given, all_filled, all_modified, all_replaced, names_some, filled, modified, replaced}
use Rattle.odb_monitor.specs.Names.{AreDistinct}
use Rattle.odb_atoms.proofs.Equal.{same_value-itself, difference-applied}
use Rattle.odb_atoms.proofs.Values.{same_value-equal}
use Rattle.odb_atoms.specs.Difference.{difference}
use Rattle.odb_atoms.specs.Value.{same_value, same_values}
use Rattle.odb_schema.specs.Notation.{write_value}
use Rattle.odb_monitor.proofs.ReadBack.{value_read-write_value}
use Rattle.odb_monitor.proofs.Lists.{IsAsLong, named-members}

pub all_given-all_cells : (vs : Cells) → all_given (all_cells vs) ≡ Some vs
all_given-all_cells [] = refl
all_given-all_cells (v ∷ vs) = ap (option_map (λ ws. v ∷ ws)) (all_given-all_cells vs)

pub names_long : {A B : Type 0} (f : A → B) {X : Type 0} (xs : List A) (ys : List X) → IsAsLong xs ys → IsAsLong (map f xs) ys
names_long f [] [] l = tt
names_long f [] (y ∷ ys) l = absurd l
names_long f (x ∷ xs) [] l = absurd l
names_long f (x ∷ xs) (y ∷ ys) l = names_long f xs ys l

pub long_map : {A B X : Type 0} (f : A → B) (ys : List X) (xs : List A) → IsAsLong ys xs → IsAsLong ys (map f xs)
long_map f [] [] l = tt
long_map f [] (y ∷ ys) l = absurd l
long_map f (x ∷ xs) [] l = absurd l
long_map f (x ∷ xs) (y ∷ ys) l = long_map f xs ys l

read_cells-written : (vs : List (Option Value)) → read_cells (map (option_map write_value) vs) ≡ Some vs
read_cells-written [] = refl
read_cells-written (None ∷ vs) = ap (option_map (λ ws. None ∷ ws)) (read_cells-written vs)
read_cells-written (Some v ∷ vs) =
    ap (option_and_then (λ w. option_map (λ ws. Some w ∷ ws) (read_cells (map (option_map write_value) vs)))) (value_read-write_value v)
    ∙ ap (option_map (λ ws. Some v ∷ ws)) (read_cells-written vs)

pub cells_of-row_object : (cs : List Column) (vs : List (Option Value)) → AreDistinct (column_names cs) → IsAsLong cs vs → cells_of cs (row_object cs vs) ≡ Some vs
cells_of-row_object cs vs a l =
    ap (option_and_then (read_cells)) (named-members (column_names cs) (map (option_map write_value) vs) a (names_long (λ c. c.name) cs _ (long_map (option_map write_value) cs vs l)))
    ∙ read_cells-written vs

filled-set : (c : Column) (v : Value) → filled c (cond (same_value v (default_of c.type)) None (Some v)) ≡ Some v
filled-set c v = by (same_value v (default_of c.type)) refl
  where
    by : (b : Bool) → same_value v (default_of c.type) ≡ b → filled c (cond b None (Some v)) ≡ Some v
    by true e = ap Some (sym (same_value-equal v (default_of c.type) e))
    by false e = ap (λ b. cond b None (Some v)) e

pub all_filled-set_cells : (cs : List Column) (vs : Cells) → IsAsLong cs vs → all_filled cs (set_cells cs vs) ≡ Some vs
all_filled-set_cells [] [] l = refl
all_filled-set_cells [] (v ∷ vs) l = absurd l
all_filled-set_cells (c ∷ cs) [] l = absurd l
all_filled-set_cells (c ∷ cs) (v ∷ vs) l =
    ap (option_and_then (λ w. option_map (λ ws. w ∷ ws) (all_filled cs (set_cells cs vs)))) (filled-set c v)
    ∙ ap (option_map (λ ws. v ∷ ws)) (all_filled-set_cells cs vs l)

modified-difference : (c : Column) (v w : Value) → modified c v (cond (same_value v w) None (Some (difference v w c.type))) ≡ Some w
modified-difference c v w = by (same_value v w) refl
  where
    by : (b : Bool) → same_value v w ≡ b → modified c v (cond b None (Some (difference v w c.type))) ≡ Some w
    by true e = ap Some (same_value-equal v w e)
    by false e = ap (λ n. cond (same_value v n) None (Some n)) (difference-applied v w c.type) ∙ ap (λ b. cond b None (Some w)) e

pub all_modified-differences : (cs : List Column) (vs ws : Cells) → IsAsLong cs vs → IsAsLong cs ws → all_modified cs vs (differences cs vs ws) ≡ Some ws
all_modified-differences [] vs [] l m = refl
all_modified-differences [] vs (w ∷ ws) l m = absurd m
all_modified-differences (c ∷ cs) [] ws l m = absurd l
all_modified-differences (c ∷ cs) (v ∷ vs) [] l m = absurd m
all_modified-differences (c ∷ cs) (v ∷ vs) (w ∷ ws) l m =
    ap (option_and_then (λ x. option_map (λ xs. x ∷ xs) (all_modified cs vs (differences cs vs ws)))) (modified-difference c v w)
    ∙ ap (option_map (λ xs. w ∷ xs)) (all_modified-differences cs vs ws l m)

replaced-old : (v w : Value) → replaced v w (cond (same_value v w) None (Some v)) ≡ Some w
replaced-old v w = by (same_value v w) refl
  where
    by : (b : Bool) → same_value v w ≡ b → replaced v w (cond b None (Some v)) ≡ Some w
    by true e = ap (λ b. cond b (Some w) None) e
    by false e = ap (λ b. cond (b && not (same_value v w)) (Some w) None) (same_value-itself v) ∙ ap (λ b. cond (not b) (Some w) None) e

pub all_replaced-old_cells : (cs : List Column) (vs ws : Cells) → IsAsLong cs vs → IsAsLong cs ws → all_replaced vs ws (old_cells vs ws) ≡ Some ws
all_replaced-old_cells [] [] [] l m = refl
all_replaced-old_cells [] [] (w ∷ ws) l m = absurd m
all_replaced-old_cells [] (v ∷ vs) ws l m = absurd l
all_replaced-old_cells (c ∷ cs) [] ws l m = absurd l
all_replaced-old_cells (c ∷ cs) (v ∷ vs) [] l m = absurd m
all_replaced-old_cells (c ∷ cs) (v ∷ vs) (w ∷ ws) l m =
    ap (option_and_then (λ x. option_map (λ xs. x ∷ xs) (all_replaced vs ws (old_cells vs ws)))) (replaced-old v w)
    ∙ ap (option_map (λ xs. w ∷ xs)) (all_replaced-old_cells cs vs ws l m)

-- where two rows differ, a column is named
pub names_some-differences : (cs : List Column) (vs ws : Cells) → IsAsLong cs vs → IsAsLong cs ws → same_values vs ws ≡ false → names_some (differences cs vs ws) ≡ true
names_some-differences [] [] [] l m e = absurd (true≢false e)
names_some-differences [] [] (w ∷ ws) l m e = absurd m
names_some-differences [] (v ∷ vs) ws l m e = absurd l
names_some-differences (c ∷ cs) [] ws l m e = absurd l
names_some-differences (c ∷ cs) (v ∷ vs) [] l m e = absurd m
names_some-differences (c ∷ cs) (v ∷ vs) (w ∷ ws) l m e =
    elim (same_value v w) as (λ b. (b && same_values vs ws) ≡ false → (is_some (cond b None (Some (difference v w c.type))) || names_some (differences cs vs ws)) ≡ true) [
      | true ↦ λ d. names_some-differences cs vs ws l m d
      | false ↦ λ _. refl
    ] e

pub names_some-old_cells : (cs : List Column) (vs ws : Cells) → IsAsLong cs vs → IsAsLong cs ws → same_values vs ws ≡ false → names_some (old_cells vs ws) ≡ true
names_some-old_cells [] [] [] l m e = absurd (true≢false e)
names_some-old_cells [] [] (w ∷ ws) l m e = absurd m
names_some-old_cells [] (v ∷ vs) ws l m e = absurd l
names_some-old_cells (c ∷ cs) [] ws l m e = absurd l
names_some-old_cells (c ∷ cs) (v ∷ vs) [] l m e = absurd m
names_some-old_cells (c ∷ cs) (v ∷ vs) (w ∷ ws) l m e =
    elim (same_value v w) as (λ b. (b && same_values vs ws) ≡ false → (is_some (cond b None (Some v)) || names_some (old_cells vs ws)) ≡ true) [
      | true ↦ λ d. names_some-old_cells cs vs ws l m d
      | false ↦ λ _. refl
    ] e

pub same_cells-itself : (vs : Cells) → same_values vs vs ≡ true
same_cells-itself [] = refl
same_cells-itself (v ∷ vs) = ap (λ b. b && same_values vs vs) (same_value-itself v) ∙ same_cells-itself vs

pub same_cells-is : (vs ws : Cells) → same_values vs ws ≡ true → vs ≡ ws
same_cells-is [] [] e = refl
same_cells-is [] (w ∷ ws) e = absurd (true≢false (sym e))
same_cells-is (v ∷ vs) [] e = absurd (true≢false (sym e))
same_cells-is (v ∷ vs) (w ∷ ws) e =
    elim (same_value v w) as (λ b. same_value v w ≡ b → (b && same_values vs ws) ≡ true → v ∷ vs ≡ w ∷ ws) [
      | true ↦ λ s d i. same_value-equal v w s i ∷ same_cells-is vs ws d i
      | false ↦ λ _ d. absurd (true≢false (sym d))
    ] refl e

pub set_cells_long : (cs : List Column) (vs : Cells) → IsAsLong cs vs → IsAsLong cs (set_cells cs vs)
set_cells_long [] [] l = tt
set_cells_long [] (v ∷ vs) l = absurd l
set_cells_long (c ∷ cs) [] l = absurd l
set_cells_long (c ∷ cs) (v ∷ vs) l = set_cells_long cs vs l

pub old_cells_long : (cs : List Column) (vs ws : Cells) → IsAsLong cs vs → IsAsLong cs ws → IsAsLong cs (old_cells vs ws)
old_cells_long [] [] ws l m = tt
old_cells_long [] (v ∷ vs) ws l m = absurd l
old_cells_long (c ∷ cs) [] ws l m = absurd l
old_cells_long (c ∷ cs) (v ∷ vs) [] l m = absurd m
old_cells_long (c ∷ cs) (v ∷ vs) (w ∷ ws) l m = old_cells_long cs vs ws l m

pub differences_long : (cs : List Column) (vs ws : Cells) → IsAsLong cs vs → IsAsLong cs ws → IsAsLong cs (differences cs vs ws)
differences_long [] vs ws l m = tt
differences_long (c ∷ cs) [] ws l m = absurd l
differences_long (c ∷ cs) (v ∷ vs) [] l m = absurd m
differences_long (c ∷ cs) (v ∷ vs) (w ∷ ws) l m = differences_long cs vs ws l m
