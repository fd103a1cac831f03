-- A row's update that the client's step takes is the one that is printed of the change it makes.
use Rattle.std.proofs.Common.{◌≡◌, ℕ, Bool, true, false, cond, not, ◌&&◌, ◌||◌, List, [], ◌∷◌, map, Option, Some, None, refl, sym, ◌∙◌, ap, subst, is_some, true≢false}
use Rattle.std.specs.Prelude.{option_map, option_and_then, bytes_eq, codes}
use Rattle.std.proofs.lemmas.Option.{none-some, same_Some}
use Rattle.std.proofs.lemmas.Slice.Eq.{bytes_eq-Decides}
use Rattle.serde_json.specs.Data.{Data, null, boolean, number, string, array, object, Members, no_members, member}
use Rattle.odb_atoms.proofs.Equal.{same_value-itself, same_values-equal, difference-applied}
use Rattle.odb_atoms.proofs.Lists.{both}
use Rattle.odb_atoms.proofs.Values.{same_value-equal}
use Rattle.odb_atoms.specs.ColType.{default_of}
use Rattle.odb_atoms.specs.Difference.{apply, difference}
use Rattle.odb_atoms.specs.Value.{Value, same_value, same_values}
use Rattle.odb_schema.specs.Notation.{write_value}
use Rattle.odb_request.specs.Request.{Column, Notation, update, update2, column_names}
use Rattle.odb_monitor.proofs.Lists.{IsAsLong}
use Rattle.odb_monitor.proofs.ReadBack.{write_value-value_read}
use Rattle.odb_monitor.proofs.Rows.{read_row}
use Rattle.odb_monitor.proofs.Views.{IsRowOf}
use Rattle.odb_monitor.specs.Fold.{as_object, is_null, pairs, named, read_cells, cells_of, all_given, all_filled, all_modified, all_replaced, filled, modified, replaced, names_some, comes, goes, deleted, modifies, replaces, step_one, step_two, step_row}
use Rattle.odb_monitor.specs.Reading.{value_read}
use Rattle.odb_monitor.specs.Update.{members, one, all_cells, set_cells, old_cells, differences, row_object, row_update}
use Rattle.odb_monitor.specs.View.{Cells, Change, comes_in, goes_out, differs, change}

-- ---- taking readings apart

pub and_then_is : {A B : Type 0} (f : A → Option B) (o : Option A) (y : B) → option_and_then f o ≡ Some y → (x : A) × (o ≡ Some x) × (f x ≡ Some y)
and_then_is f None y e = absurd (none-some y e)
and_then_is f (Some x) y e = (x, refl, e)

pub map_is : {A B : Type 0} (f : A → B) (o : Option A) (y : B) → option_map f o ≡ Some y → (x : A) × (o ≡ Some x) × (f x ≡ y)
map_is f None y e = absurd (none-some y e)
map_is f (Some x) y e = (x, refl, same_Some (f x) y e)

-- a test that lets a value through holds
pub then_is : {A : Type 0} (b : Bool) (o : Option A) (y : A) → cond b o None ≡ Some y → (b ≡ true) × (o ≡ Some y)
then_is true o y e = (refl, e)
then_is false o y e = absurd (none-some y e)

-- a test that holds one back fails
pub else_is : {A : Type 0} (b : Bool) (o : Option A) (y : A) → cond b None o ≡ Some y → (b ≡ false) × (o ≡ Some y)
else_is true o y e = absurd (none-some y e)
else_is false o y e = (refl, e)

-- ---- objects

of_pairs : List (List ℕ × Data) → Members
of_pairs [] = no_members
of_pairs (e ∷ es) = member e.0 e.1 (of_pairs es)

of_pairs-pairs : (ms : Members) → of_pairs (pairs ms) ≡ ms
unfolding of_pairs
of_pairs-pairs no_members = refl
of_pairs-pairs (member k d ms) = ap (member k d) (of_pairs-pairs ms)

-- members with the same names and data are the same
pub pairs-same : (ms ns : Members) → pairs ms ≡ pairs ns → ms ≡ ns
pairs-same ms ns e = sym (of_pairs-pairs ms) ∙ ap of_pairs e ∙ of_pairs-pairs ns

pub as_object-is : (d : Data) (ms : Members) → as_object d ≡ Some ms → d ≡ object ms
as_object-is null ms e = absurd (none-some ms e)
as_object-is (boolean b) ms e = absurd (none-some ms e)
as_object-is (number n) ms e = absurd (none-some ms e)
as_object-is (string s) ms e = absurd (none-some ms e)
as_object-is (array ds) ms e = absurd (none-some ms e)
as_object-is (object ns) ms e = ap object (same_Some ns ms e)

is_null-is : (d : Data) → is_null d ≡ true → d ≡ null
is_null-is null e = refl
is_null-is (boolean b) e = absurd (true≢false (sym e))
is_null-is (number n) e = absurd (true≢false (sym e))
is_null-is (string s) e = absurd (true≢false (sym e))
is_null-is (array ds) e = absurd (true≢false (sym e))
is_null-is (object ms) e = absurd (true≢false (sym e))

Named : List (List ℕ) → List (List ℕ × Data) → List (Option Data) → Type 0
Named ns es ds = (es ≡ pairs (members ns ds)) × IsAsLong ns ds

-- what stands at each of the names is all that stands there
pub named-is : (ns : List (List ℕ)) (es : List (List ℕ × Data)) (ds : List (Option Data)) → named ns es ≡ Some ds → (es ≡ pairs (members ns ds)) × IsAsLong ns ds
named-is [] [] ds e = subst (λ ds. (◌≡◌ {A = List (List ℕ × Data)} [] (pairs (members [] ds))) × IsAsLong {A = List ℕ} [] ds) (same_Some [] ds e) (refl, tt)
named-is [] (x ∷ es) ds e = absurd (none-some ds e)
named-is (n ∷ ns) [] ds e =
    let h = map_is (λ ds. let r : List (Option Data) = None ∷ ds in r) (named ns []) ds e in
    let rest : (◌≡◌ {A = List (List ℕ × Data)} [] (pairs (members ns h.0))) × IsAsLong ns h.0 = named-is ns [] h.0 h.1 in
    subst (λ ds. (◌≡◌ {A = List (List ℕ × Data)} [] (pairs (members (n ∷ ns) ds))) × IsAsLong (n ∷ ns) ds) h.2 (rest.0, rest.1)
named-is (n ∷ ns) (x ∷ es) ds e = by (bytes_eq n x.0) refl e (named-is ns es) (named-is ns (x ∷ es))
  where
    by : (b : Bool) → bytes_eq n x.0 ≡ b → cond b (option_map (λ ds. Some x.1 ∷ ds) (named ns es)) (option_map (λ ds. None ∷ ds) (named ns (x ∷ es))) ≡ Some ds
        → ((ds : List (Option Data)) → named ns es ≡ Some ds → (es ≡ pairs (members ns ds)) × IsAsLong ns ds)
        → ((ds : List (Option Data)) → named ns (x ∷ es) ≡ Some ds → (x ∷ es ≡ pairs (members ns ds)) × IsAsLong ns ds)
        → (x ∷ es ≡ pairs (members (n ∷ ns) ds)) × IsAsLong (n ∷ ns) ds
    by true is e here later =
        let h = map_is (λ ds. let r : List (Option Data) = Some x.1 ∷ ds in r) (named ns es) ds e in
        let rest : (es ≡ pairs (members ns h.0)) × IsAsLong ns h.0 = here h.0 h.1 in
        let same : n ≡ x.0 = (bytes_eq-Decides n x.0).0 is in
        subst (λ ds. (x ∷ es ≡ pairs (members (n ∷ ns) ds)) × IsAsLong (n ∷ ns) ds) h.2 ((λ i. let p : List ℕ × Data = (sym same i, x.1) in p ∷ rest.0 i), rest.1)
    by false is e here later =
        let h = map_is (λ ds. let r : List (Option Data) = None ∷ ds in r) (named ns (x ∷ es)) ds e in
        let rest : (x ∷ es ≡ pairs (members ns h.0)) × IsAsLong ns h.0 = later h.0 h.1 in
        subst (λ ds. (x ∷ es ≡ pairs (members (n ∷ ns) ds)) × IsAsLong (n ∷ ns) ds) h.2 (rest.0, rest.1)

read_cells-is : (ds : List (Option Data)) (vs : List (Option Value)) → read_cells ds ≡ Some vs → ds ≡ map (option_map write_value) vs
read_cells-is [] vs e = subst (λ vs. ◌≡◌ {A = List (Option Data)} [] (map (option_map write_value) vs)) (same_Some [] vs e) refl
read_cells-is (None ∷ ds) vs e =
    let h = map_is (λ vs. let r : List (Option Value) = None ∷ vs in r) (read_cells ds) vs e in
    subst (λ vs. None ∷ ds ≡ map (option_map write_value) vs) h.2 (ap (λ xs. None ∷ xs) (read_cells-is ds h.0 h.1))
read_cells-is (Some d ∷ ds) vs e =
    let h = and_then_is (λ v. option_map (λ vs. let r : List (Option Value) = Some v ∷ vs in r) (read_cells ds)) (value_read d) vs e in
    let g = map_is (λ vs. let r : List (Option Value) = Some (h.0) ∷ vs in r) (read_cells ds) vs h.2 in
    subst (λ vs. Some d ∷ ds ≡ map (option_map write_value) vs) g.2 (λ i. Some (write_value-value_read d h.0 h.1 i) ∷ read_cells-is ds g.0 g.1 i)

long_of_names : {X Y : Type 0} (f : X → Option Y) (cs : List Column) (vs : List X) → IsAsLong (column_names cs) (map f vs) → IsAsLong cs vs
long_of_names f [] [] l = tt
long_of_names f [] (v ∷ vs) l = absurd l
long_of_names f (c ∷ cs) [] l = absurd l
long_of_names f (c ∷ cs) (v ∷ vs) l = long_of_names f cs vs l

-- a row's object that is read is the one of what was read
pub cells_of-is : (cs : List Column) (d : Data) (vs : List (Option Value)) → cells_of cs d ≡ Some vs → (d ≡ row_object cs vs) × IsAsLong cs vs
cells_of-is cs d vs e =
    let h = and_then_is read_cells (option_and_then (λ ms. named (column_names cs) (pairs ms)) (as_object d)) vs e in
    let g = and_then_is (λ ms. named (column_names cs) (pairs ms)) (as_object d) h.0 h.1 in
    let n = named-is (column_names cs) (pairs g.0) h.0 g.2 in
    let r = read_cells-is h.0 vs h.2 in
    let members_are : g.0 ≡ members (column_names cs) (map (option_map write_value) vs) = pairs-same g.0 (members (column_names cs) (map (option_map write_value) vs)) (n.0 ∙ ap (λ ds. pairs (members (column_names cs) ds)) r) in
    (as_object-is d g.0 g.1 ∙ ap object members_are, long_of_names (option_map write_value) cs vs (subst (IsAsLong (column_names cs)) r n.1))

-- ---- the cells that a row's object names

all_given-is : (vs : List (Option Value)) (new : Cells) → all_given vs ≡ Some new → vs ≡ all_cells new
all_given-is [] new e = subst (λ new. ◌≡◌ {A = List (Option Value)} [] (all_cells new)) (same_Some [] new e) refl
all_given-is (None ∷ vs) new e = absurd (none-some new e)
all_given-is (Some v ∷ vs) new e =
    let h = map_is (λ ws. let r : Cells = v ∷ ws in r) (all_given vs) new e in
    subst (λ new. Some v ∷ vs ≡ all_cells new) h.2 (ap (λ xs. Some v ∷ xs) (all_given-is vs h.0 h.1))

all_cells-long : (cs : List Column) (new : Cells) → IsAsLong cs (all_cells new) → IsAsLong cs new
all_cells-long [] [] l = tt
all_cells-long [] (v ∷ vs) l = absurd l
all_cells-long (c ∷ cs) [] l = absurd l
all_cells-long (c ∷ cs) (v ∷ vs) l = all_cells-long cs vs l

filled-is : (c : Column) (v : Option Value) (w : Value) → filled c v ≡ Some w → v ≡ cond (same_value w (default_of c.type)) None (Some w)
filled-is c None w e = subst (λ w. ◌≡◌ {A = Option Value} None (cond (same_value w (default_of c.type)) None (Some w))) (same_Some (default_of c.type) w e) (ap (λ b. cond b None (Some (default_of c.type))) (sym (same_value-itself (default_of c.type))))
filled-is c (Some v) w e =
    let h = else_is (same_value v (default_of c.type)) (Some v) w e in
    subst (λ w. Some v ≡ cond (same_value w (default_of c.type)) None (Some w)) (same_Some v w h.1) (ap (λ b. cond b None (Some v)) (sym h.0))

all_filled-is : (cs : List Column) (vs : List (Option Value)) (new : Cells) → IsAsLong cs vs → all_filled cs vs ≡ Some new → (vs ≡ set_cells cs new) × IsAsLong cs new
all_filled-is [] [] new l e = subst (λ new. (◌≡◌ {A = List (Option Value)} [] (set_cells [] new)) × IsAsLong {A = Column} [] new) (same_Some [] new e) (refl, tt)
all_filled-is [] (v ∷ vs) new l e = absurd l
all_filled-is (c ∷ cs) [] new l e = absurd l
all_filled-is (c ∷ cs) (v ∷ vs) new l e =
    let h = and_then_is (λ w. option_map (λ ws. let r : Cells = w ∷ ws in r) (all_filled cs vs)) (filled c v) new e in
    let g = map_is (λ ws. let r : Cells = h.0 ∷ ws in r) (all_filled cs vs) new h.2 in
    let rest = all_filled-is cs vs g.0 l g.1 in
    subst (λ new. (v ∷ vs ≡ set_cells (c ∷ cs) new) × IsAsLong (c ∷ cs) new) g.2 ((λ i. filled-is c v h.0 h.1 i ∷ rest.0 i), rest.1)

modified-is : (c : Column) (v : Value) (d : Option Value) (w : Value) → modified c v d ≡ Some w → d ≡ cond (same_value v w) None (Some (difference v w c.type))
modified-is c v None w e = subst (λ w. ◌≡◌ {A = Option Value} None (cond (same_value v w) None (Some (difference v w c.type)))) (same_Some v w e) (ap (λ b. cond b None (Some (difference v v c.type))) (sym (same_value-itself v)))
modified-is c v (Some d) w e =
    let h = else_is (same_value v (apply v d c.type)) (Some (apply v d c.type)) w e in
    subst (λ w. Some d ≡ cond (same_value v w) None (Some (difference v w c.type))) (same_Some (apply v d c.type) w h.1)
    (ap Some (sym (difference-applied v d c.type)) ∙ ap (λ b. cond b None (Some (difference v (apply v d c.type) c.type))) (sym h.0))

all_modified-is : (cs : List Column) (old : Cells) (ds : List (Option Value)) (new : Cells) → IsAsLong cs old → IsAsLong cs ds → all_modified cs old ds ≡ Some new → (ds ≡ differences cs old new) × IsAsLong cs new
all_modified-is [] [] [] new l m e = subst (λ new. (◌≡◌ {A = List (Option Value)} [] (differences [] [] new)) × IsAsLong {A = Column} [] new) (same_Some [] new e) (refl, tt)
all_modified-is [] [] (d ∷ ds) new l m e = absurd m
all_modified-is [] (v ∷ old) ds new l m e = absurd l
all_modified-is (c ∷ cs) [] ds new l m e = absurd l
all_modified-is (c ∷ cs) (v ∷ old) [] new l m e = absurd m
all_modified-is (c ∷ cs) (v ∷ old) (d ∷ ds) new l m e =
    let h = and_then_is (λ w. option_map (λ ws. let r : Cells = w ∷ ws in r) (all_modified cs old ds)) (modified c v d) new e in
    let g = map_is (λ ws. let r : Cells = h.0 ∷ ws in r) (all_modified cs old ds) new h.2 in
    let rest = all_modified-is cs old ds g.0 l m g.1 in
    subst (λ new. (d ∷ ds ≡ differences (c ∷ cs) (v ∷ old) new) × IsAsLong (c ∷ cs) new) g.2 ((λ i. modified-is c v d h.0 h.1 i ∷ rest.0 i), rest.1)

replaced-is : (v n : Value) (o : Option Value) (w : Value) → replaced v n o ≡ Some w → (n ≡ w) × (o ≡ cond (same_value v n) None (Some v))
replaced-is v n None w e =
    let h = then_is (same_value v n) (Some n) w e in
    (same_Some n w h.1, ap (λ b. cond b None (Some v)) (sym h.0))
replaced-is v n (Some old) w e =
    let h = then_is (same_value v old && not (same_value v n)) (Some n) w e in
    let g = both (same_value v old) (not (same_value v n)) h.0 in
    (same_Some n w h.1, ap Some (sym (same_value-equal v old g.0)) ∙ ap (λ b. cond b None (Some v)) (sym (not_is (same_value v n) g.1)))
  where
    not_is : (b : Bool) → not b ≡ true → b ≡ false
    not_is true e = sym e
    not_is false e = refl

all_replaced-is : (cs : List Column) (held news : Cells) (olds : List (Option Value)) (new : Cells) → IsAsLong cs news → IsAsLong cs olds → all_replaced held news olds ≡ Some new → IsAsLong cs held → (news ≡ new) × (olds ≡ old_cells held new)
all_replaced-is [] [] [] [] new l m e k = subst (λ new. (◌≡◌ {A = Cells} [] new) × (◌≡◌ {A = List (Option Value)} [] (old_cells [] new))) (same_Some [] new e) (refl, refl)
all_replaced-is [] [] [] (o ∷ olds) new l m e k = absurd m
all_replaced-is [] [] (n ∷ news) olds new l m e k = absurd l
all_replaced-is [] (v ∷ held) news olds new l m e k = absurd k
all_replaced-is (c ∷ cs) [] news olds new l m e k = absurd k
all_replaced-is (c ∷ cs) (v ∷ held) [] olds new l m e k = absurd l
all_replaced-is (c ∷ cs) (v ∷ held) (n ∷ news) [] new l m e k = absurd m
all_replaced-is (c ∷ cs) (v ∷ held) (n ∷ news) (o ∷ olds) new l m e k =
    let h = and_then_is (λ w. option_map (λ ws. let r : Cells = w ∷ ws in r) (all_replaced held news olds)) (replaced v n o) new e in
    let g = map_is (λ ws. let r : Cells = h.0 ∷ ws in r) (all_replaced held news olds) new h.2 in
    let one = replaced-is v n o h.0 h.1 in
    let rest = all_replaced-is cs held news olds g.0 l m g.1 k in
    subst (λ new. (n ∷ news ≡ new) × (o ∷ olds ≡ old_cells (v ∷ held) new)) g.2
    ((λ i. one.0 i ∷ rest.0 i), (λ i. (one.1 ∙ ap (λ x. cond (same_value v x) None (Some v)) one.0) i ∷ rest.1 i))

-- a row that doesn't differ names no column
no_differences : (cs : List Column) (vs : Cells) → names_some (differences cs vs vs) ≡ false
no_differences [] vs = refl
no_differences (c ∷ cs) [] = refl
no_differences (c ∷ cs) (v ∷ vs) = ap (λ b. is_some (cond b None (Some (difference v v c.type))) || names_some (differences cs vs vs)) (same_value-itself v) ∙ no_differences cs vs

no_old_cells : (vs : Cells) → names_some (old_cells vs vs) ≡ false
no_old_cells [] = refl
no_old_cells (v ∷ vs) = ap (λ b. is_some (cond b None (Some v)) || names_some (old_cells vs vs)) (same_value-itself v) ∙ no_old_cells vs

-- where some column is named, two rows differ
rows_differ : (old new : Cells) (named_of : Cells → List (Option Value)) → names_some (named_of old) ≡ false → names_some (named_of new) ≡ true → same_values old new ≡ false
rows_differ old new named_of none some = by (same_values old new) refl
  where
    by : (b : Bool) → same_values old new ≡ b → same_values old new ≡ false
    by true e = absurd (true≢false (sym some ∙ ap (λ vs. names_some (named_of vs)) (sym (same_values-equal old new e)) ∙ none))
    by false e = e

-- ---- one row

-- the members of a row's update are those that are printed of the change that it makes
abbrev IsOnlyPairs : Notation → Bool → List Column → Option Cells → List (List ℕ × Data) → Option Cells → Type 0
IsOnlyPairs n first cs held es new = (c : Change) × (change held new ≡ Some c) × ((ms : Members) × (row_update n first cs c ≡ object ms) × (es ≡ pairs ms)) × IsRowOf cs new

only_one : (n : Notation) (first : Bool) (cs : List Column) (held : Option Cells) (k : List ℕ) (x : Data) (new : Option Cells) (c : Change) → change held new ≡ Some c
    → (name : List ℕ) (y : Data) → row_update n first cs c ≡ one name y → k ≡ name → x ≡ y → IsRowOf cs new → IsOnlyPairs n first cs held ((k, x) ∷ []) new
only_one n first cs held k x new c is name y prints k_is x_is fits = (c, is, (member name y no_members, prints, λ i. let p : List ℕ × Data = (k_is i, x_is i) in p ∷ []), fits)

differing : (old new : Cells) → same_values old new ≡ false → change (Some old) (Some new) ≡ Some (differs old new)
differing old new e = ap (λ b. cond b None (Some (differs old new))) e

given_is : (cs : List Column) (d : Data) (w : Cells) → option_and_then all_given (cells_of cs d) ≡ Some w → (d ≡ row_object cs (all_cells w)) × IsAsLong cs w
given_is cs d w e =
    let h = and_then_is all_given (cells_of cs d) w e in
    let g = cells_of-is cs d h.0 h.1 in
    let v = all_given-is h.0 w h.2 in
    (g.0 ∙ ap (row_object cs) v, all_cells-long cs w (subst (IsAsLong cs) v g.1))

filled_is : (cs : List Column) (d : Data) (w : Cells) → option_and_then (all_filled cs) (cells_of cs d) ≡ Some w → (d ≡ row_object cs (set_cells cs w)) × IsAsLong cs w
filled_is cs d w e =
    let h = and_then_is (all_filled cs) (cells_of cs d) w e in
    let g = cells_of-is cs d h.0 h.1 in
    let v = all_filled-is cs h.0 w g.1 h.2 in
    (g.0 ∙ ap (row_object cs) v.0, v.1)

coming : (n : Notation) (first : Bool) (cs : List Column) (held o : Option Cells) (k : List ℕ) (x : Data) (new : Option Cells) (name : List ℕ) (named_of : Cells → Data)
    → ((w : Cells) → row_update n first cs (comes_in w) ≡ one name (named_of w)) → k ≡ name → ((w : Cells) → o ≡ Some w → (x ≡ named_of w) × IsAsLong cs w)
    → comes held o ≡ Some new → IsOnlyPairs n first cs held ((k, x) ∷ []) new
coming n first cs None o k x new name named_of prints k_is is e =
    let h = map_is (λ w. let r : Option Cells = Some w in r) o new e in
    let g = is h.0 h.1 in
    subst (IsOnlyPairs n first cs None ((k, x) ∷ [])) h.2 (only_one n first cs None k x (Some h.0) (comes_in h.0) refl name (named_of h.0) (prints h.0) k_is g.0 g.1)
coming n first cs (Some old) o k x new name named_of prints k_is is e = absurd (none-some new e)

going : (cs : List Column) (held told : Option Cells) (k : List ℕ) (x : Data) (new : Option Cells) (first : Bool) → k ≡ codes "old" → ((w : Cells) → told ≡ Some w → (x ≡ row_object cs (all_cells w)) × IsAsLong cs w)
    → goes held told ≡ Some new → IsOnlyPairs update first cs held ((k, x) ∷ []) new
going cs None told k x new first k_is is e = absurd (none-some new e)
going cs (Some old) None k x new first k_is is e = absurd (none-some new e)
going cs (Some old) (Some told) k x new first k_is is e =
    let h = then_is (same_values old told) (Some None) new e in
    let same : old ≡ told = same_values-equal old told h.0 in
    subst (IsOnlyPairs update first cs (Some old) ((k, x) ∷ [])) (same_Some None new h.1)
    (only_one update first cs (Some old) k x None (goes_out old) refl (codes "old") (row_object cs (all_cells old)) refl k_is ((is told refl).0 ∙ ap (λ w. row_object cs (all_cells w)) (sym same)) tt)

deleting : (cs : List Column) (held : Option Cells) (k : List ℕ) (x : Data) (new : Option Cells) → k ≡ codes "delete" → deleted held (is_null x) ≡ Some new → IsOnlyPairs update2 false cs held ((k, x) ∷ []) new
deleting cs None k x new k_is e = absurd (none-some new e)
deleting cs (Some old) k x new k_is e =
    let h = then_is (is_null x) (Some None) new e in
    subst (IsOnlyPairs update2 false cs (Some old) ((k, x) ∷ [])) (same_Some None new h.1)
    (only_one update2 false cs (Some old) k x None (goes_out old) refl (codes "delete") null refl k_is (is_null-is x h.0) tt)

modifying : (cs : List Column) (held : Option Cells) (ds : List (Option Value)) (k : List ℕ) (x : Data) (new : Option Cells) → IsRowOf cs held → k ≡ codes "modify" → (x ≡ row_object cs ds) × IsAsLong cs ds
    → modifies cs held ds ≡ Some new → IsOnlyPairs update2 false cs held ((k, x) ∷ []) new
modifying cs None ds k x new l k_is is e = absurd (none-some new e)
modifying cs (Some old) ds k x new l k_is is e =
    let h = then_is (names_some ds) (option_map (λ w. let r : Option Cells = Some w in r) (all_modified cs old ds)) new e in
    let g = map_is (λ w. let r : Option Cells = Some w in r) (all_modified cs old ds) new h.1 in
    let m = all_modified-is cs old ds g.0 l is.1 g.1 in
    let differ = rows_differ old g.0 (differences cs old) (no_differences cs old) (ap names_some (sym m.0) ∙ h.0) in
    subst (IsOnlyPairs update2 false cs (Some old) ((k, x) ∷ [])) g.2
    (only_one update2 false cs (Some old) k x (Some g.0) (differs old g.0) (differing old g.0 differ) (codes "modify") (row_object cs (differences cs old g.0)) refl k_is (is.0 ∙ ap (row_object cs) m.0) m.1)

replacing : (cs : List Column) (held : Option Cells) (news : Cells) (olds : List (Option Value)) (k l : List ℕ) (x y : Data) (new : Option Cells) → IsRowOf cs held → k ≡ codes "new" → l ≡ codes "old"
    → (x ≡ row_object cs (all_cells news)) × IsAsLong cs news → (y ≡ row_object cs olds) × IsAsLong cs olds
    → replaces held news olds ≡ Some new → IsOnlyPairs update false cs held ((k, x) ∷ (l, y) ∷ []) new
replacing cs None news olds k l x y new fits k_is l_is x_is y_is e = absurd (none-some new e)
replacing cs (Some old) news olds k l x y new fits k_is l_is x_is y_is e =
    let h = then_is (names_some olds) (option_map (λ w. let r : Option Cells = Some w in r) (all_replaced old news olds)) new e in
    let g = map_is (λ w. let r : Option Cells = Some w in r) (all_replaced old news olds) new h.1 in
    let m = all_replaced-is cs old news olds g.0 x_is.1 y_is.1 g.1 fits in
    let differ = rows_differ old g.0 (old_cells old) (no_old_cells old) (ap names_some (sym m.1) ∙ h.0) in
    subst (IsOnlyPairs update false cs (Some old) ((k, x) ∷ (l, y) ∷ [])) g.2 (
      differs old g.0,
      differing old g.0 differ,
      (
        member (codes "new") (row_object cs (all_cells g.0)) (member (codes "old") (row_object cs (old_cells old g.0)) no_members),
        refl,
        λ i. let p : List ℕ × Data = (k_is i, (x_is.0 ∙ ap (λ w. row_object cs (all_cells w)) m.0) i) in let q : List ℕ × Data = (l_is i, (y_is.0 ∙ ap (row_object cs) m.1) i) in p ∷ q ∷ [],
      ),
      subst (IsAsLong cs) m.0 x_is.1,
    )

key_is : (k name : List ℕ) → bytes_eq k name ≡ true → k ≡ name
key_is k name e = (bytes_eq-Decides k name).0 e

not_is : (b : Bool) → not b ≡ true → b ≡ false
not_is true e = sym e
not_is false e = refl

one-update : (first : Bool) (cs : List Column) (held : Option Cells) (k : List ℕ) (x : Data) (new : Option Cells) → step_one update first cs held k x ≡ Some new → IsOnlyPairs update first cs held ((k, x) ∷ []) new
one-update first cs held k x new e = by (bytes_eq k (codes "new")) refl (bytes_eq k (codes "old") && not first) refl e
  where
    by : (b : Bool) → bytes_eq k (codes "new") ≡ b → (c : Bool) → (bytes_eq k (codes "old") && not first) ≡ c
        → cond b (comes held (option_and_then all_given (cells_of cs x))) (cond c (goes held (option_and_then all_given (cells_of cs x))) None) ≡ Some new → IsOnlyPairs update first cs held ((k, x) ∷ []) new
    by true b c is e = coming update first cs held (option_and_then all_given (cells_of cs x)) k x new (codes "new") (λ w. row_object cs (all_cells w)) (λ w. refl) (key_is k (codes "new") b) (given_is cs x) e
    by false b true c e = going cs held (option_and_then all_given (cells_of cs x)) k x new first (key_is k (codes "old") (both (bytes_eq k (codes "old")) (not first) c).0) (given_is cs x) e
    by false b false c e = absurd (none-some new e)

one-first : (cs : List Column) (held : Option Cells) (k : List ℕ) (x : Data) (new : Option Cells) → step_one update2 true cs held k x ≡ Some new → IsOnlyPairs update2 true cs held ((k, x) ∷ []) new
one-first cs held k x new e = by (bytes_eq k (codes "initial")) refl e
  where
    by : (b : Bool) → bytes_eq k (codes "initial") ≡ b → cond b (comes held (option_and_then (all_filled cs) (cells_of cs x))) None ≡ Some new → IsOnlyPairs update2 true cs held ((k, x) ∷ []) new
    by true b e = coming update2 true cs held (option_and_then (all_filled cs) (cells_of cs x)) k x new (codes "initial") (λ w. row_object cs (set_cells cs w)) (λ w. refl) (key_is k (codes "initial") b) (filled_is cs x) e
    by false b e = absurd (none-some new e)

one-update2 : (cs : List Column) (held : Option Cells) (k : List ℕ) (x : Data) (new : Option Cells) → IsRowOf cs held → step_one update2 false cs held k x ≡ Some new → IsOnlyPairs update2 false cs held ((k, x) ∷ []) new
one-update2 cs held k x new l e = by (bytes_eq k (codes "insert")) refl (bytes_eq k (codes "delete")) refl (bytes_eq k (codes "modify")) refl e
  where
    by : (b : Bool) → bytes_eq k (codes "insert") ≡ b → (c : Bool) → bytes_eq k (codes "delete") ≡ c → (d : Bool) → bytes_eq k (codes "modify") ≡ d
        → cond b (comes held (option_and_then (all_filled cs) (cells_of cs x))) (cond c (deleted held (is_null x)) (cond d (option_and_then (modifies cs held) (cells_of cs x)) None)) ≡ Some new → IsOnlyPairs update2 false cs held ((k, x) ∷ []) new
    by true b c ci d di e = coming update2 false cs held (option_and_then (all_filled cs) (cells_of cs x)) k x new (codes "insert") (λ w. row_object cs (set_cells cs w)) (λ w. refl) (key_is k (codes "insert") b) (filled_is cs x) e
    by false b true ci d di e = deleting cs held k x new (key_is k (codes "delete") ci) e
    by false b false ci true di e =
        let h = and_then_is (modifies cs held) (cells_of cs x) new e in
        modifying cs held h.0 k x new l (key_is k (codes "modify") di) (cells_of-is cs x h.0 h.1) h.2
    by false b false ci false di e = absurd (none-some new e)

two-update : (cs : List Column) (held : Option Cells) (k l : List ℕ) (x y : Data) (new : Option Cells) → IsRowOf cs held → k ≡ codes "new" → l ≡ codes "old"
    → option_and_then (λ news. option_and_then (replaces held news) (cells_of cs y)) (option_and_then all_given (cells_of cs x)) ≡ Some new → IsOnlyPairs update false cs held ((k, x) ∷ (l, y) ∷ []) new
two-update cs held k l x y new fits k_is l_is e =
    let h = and_then_is (λ news. option_and_then (replaces held news) (cells_of cs y)) (option_and_then all_given (cells_of cs x)) new e in
    let g = and_then_is (replaces held h.0) (cells_of cs y) new h.2 in
    replacing cs held h.0 g.0 k l x y new fits k_is l_is (given_is cs x h.0 h.1) (cells_of-is cs y g.0 g.1) g.2

step_row-only : (n : Notation) (first : Bool) (cs : List Column) (held : Option Cells) (es : List (List ℕ × Data)) (new : Option Cells) → IsRowOf cs held → step_row n first cs held es ≡ Some new → IsOnlyPairs n first cs held es new
step_row-only n first cs held [] new l e = absurd (none-some new e)
step_row-only update first cs held (x ∷ []) new l e = one-update first cs held x.0 x.1 new e
step_row-only update2 true cs held (x ∷ []) new l e = one-first cs held x.0 x.1 new e
step_row-only update2 false cs held (x ∷ []) new l e = one-update2 cs held x.0 x.1 new l e
step_row-only update true cs held (x ∷ y ∷ []) new l e = absurd (none-some new ((then_is (bytes_eq x.0 (codes "new") && bytes_eq y.0 (codes "old")) None new e).1))
step_row-only update false cs held (x ∷ y ∷ []) new l e =
    let h = then_is (bytes_eq x.0 (codes "new") && bytes_eq y.0 (codes "old")) (step_two update false cs held x.1 y.1) new e in
    let k = both (bytes_eq x.0 (codes "new")) (bytes_eq y.0 (codes "old")) h.0 in
    two-update cs held x.0 y.0 x.1 y.1 new l (key_is x.0 (codes "new") k.0) (key_is y.0 (codes "old") k.1) h.1
step_row-only update2 first cs held (x ∷ y ∷ []) new l e = absurd (none-some new ((then_is (bytes_eq x.0 (codes "new") && bytes_eq y.0 (codes "old")) None new e).1))
step_row-only n first cs held (x ∷ y ∷ z ∷ es) new l e = absurd (none-some new e)

-- the step took the update of the change that it makes
abbrev pub IsOnly : Notation → Bool → List Column → Option Cells → Data → Option Cells → Type 0
IsOnly n first cs held d new = (c : Change) × (change held new ≡ Some c) × (d ≡ row_update n first cs c) × IsRowOf cs new

pub read_row-only : (n : Notation) (first : Bool) (cs : List Column) (held : Option Cells) (d : Data) (new : Option Cells) → IsRowOf cs held → read_row n first cs held d ≡ Some new → IsOnly n first cs held d new
read_row-only n first cs held d new l e =
    let h = and_then_is (λ ms. step_row n first cs held (pairs ms)) (as_object d) new e in
    let g : IsOnlyPairs n first cs held (pairs h.0) new = step_row-only n first cs held (pairs h.0) new l h.2 in
    (g.0, g.1, as_object-is d h.0 h.1 ∙ ap object (pairs-same h.0 g.2.0 g.2.2) ∙ sym g.2.1, g.3)
