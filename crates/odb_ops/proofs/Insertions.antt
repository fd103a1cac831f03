-- Insertions of sets one after another, and the one insertion of all their elements.
use Rattle.std.proofs.Common.{◌≡◌, ℕ, zero, suc, ◌≤◌, ◌==◌, Bool, true, false, cond, not, ◌&&◌, ◌||◌, is_none, is_some, List, [], ◌∷◌, ◌++◌, IfSome, length, slice_get, slice_set, unwrap_or, nat_le, nat_lt, Option, Some, None, Result, Ok, Err, arith, refl, sym, ap, subst, ◌∙◌}
use Rattle.std.proofs.lemmas.Bool.{eqb-true, false≢true}
use Rattle.std.proofs.lemmas.Bool.Decides.{nat_tests}
use Rattle.std.proofs.lemmas.List.{append-nil, append_assoc}
use Rattle.std.proofs.lemmas.List.Folds.{list_all-append}
use Rattle.std.specs.List.{list_all}
use Rattle.odb_atoms.specs.FinSet as set
use Rattle.odb_atoms.specs.Atom.{Atom, Kind, integers, same_kind}
use Rattle.odb_atoms.specs.ColType.{ColType, admits, at_most, broken_constraint, has_kind, is_a, is_scalar, meets, meets_constraints, too_few, too_many, value_base, wrong_kind}
use Rattle.odb_atoms.specs.Error.{Error, constraint_violation, resources_exhausted}
use Rattle.odb_atoms.specs.First.{demand, each, ◌>>=◌, ◌>>◌}
use Rattle.odb_atoms.specs.Row.{Row, cell, declared}
use Rattle.odb_atoms.specs.Uuid.{zero_uuid}
use Rattle.odb_atoms.specs.Value.{Atoms, Pairs, Value, atoms, map_of, max_elements, set_of, size, within_limit}
use Rattle.odb_atoms.proofs.Lists.{both}
use Rattle.odb_json.specs.Suited.{are_taken}
use Rattle.odb_mutate.specs.Mutation.{Mutation, Mutator, add, admitted, calculate_atom, calculate_each, delete, divide, insert, multiply, mutate, remainder, set_of_results, subtract}
use Rattle.odb_mutate.specs.MutationTyping.{is_set_of, takes}
use Rattle.odb_ops.specs.Execution.{mutated}
use Rattle.odb_ops.specs.Represented.Merged.{Inserts, Replaces, StandsFor, all_of, all_take, are_at, insertion, needs_one_at_most, sets_of}
use Rattle.odb_ops.specs.Represented.Parts.{with_value}
use Rattle.odb_ops.proofs.Fits.{mutated_fit}
use Rattle.odb_ops.proofs.Unions.{IsWithin, each_united, each_within, no_elements, nothing_left, part_within, regrouped, size_of_nothing, united_grows, united_has, with_nothing}
use Rattle.odb_schema.specs.Schema.{Column, column_type}
use Rattle.odb_tables.specs.Typed.{fits}

-- ---- what a type admits

-- a value that went through
went_through : (t : ColType) (new w : Value) → admitted t new ≡ Ok w → (new ≡ w) × (within_limit w ≡ true) × (admits t w ≡ true)
went_through t new w h = by (within_limit new) refl (admits t new) refl h
  where
    by : (a : Bool) → within_limit new ≡ a → (b : Bool) → admits t new ≡ b → ◌>>◌ (demand a resources_exhausted) (◌>>◌ (demand b constraint_violation) (Ok new)) ≡ Ok w → (new ≡ w) × (within_limit w ≡ true) × (admits t w ≡ true)
    by true e true f is = let same : new ≡ w = cc in (same, subst (λ v. within_limit v ≡ true) same e, subst (λ v. admits t v ≡ true) same f)
    by true e false f is = let no : ⊥ = cc in absurd no
    by false e b f is = let no : ⊥ = cc in absurd no

goes_through : (t : ColType) (new : Value) → within_limit new ≡ true → admits t new ≡ true → admitted t new ≡ Ok new
goes_through t new e f = λ i. ◌>>◌ (demand (e i) resources_exhausted) (◌>>◌ (demand (f i) constraint_violation) (Ok new))

-- each test that a type makes
four : (a b c d : Bool) → is_none (cond (not a) (Some wrong_kind) (cond b (Some too_few) (cond (not c) (Some too_many) (cond (not d) (Some broken_constraint) None)))) ≡ true → (a ≡ true) × (b ≡ false) × (c ≡ true) × (d ≡ true)
four false b c d e = absurd (false≢true e)
four true true c d e = absurd (false≢true e)
four true false false d e = absurd (false≢true e)
four true false true false e = absurd (false≢true e)
four true false true true e = (refl, refl, refl, refl)

fewer : (n m k : ℕ) → n ≤ m → nat_le m k ≡ true → nat_le n k ≡ true
fewer n m k low h = grind (arith, nat_tests)

enough : (n k : ℕ) → 1 ≤ n → nat_le k 1 ≡ true → nat_lt n k ≡ false
enough n k some low = grind (arith, nat_tests)

at_most-fewer : (o : Option ℕ) (n m : ℕ) → n ≤ m → at_most nat_le o m ≡ true → at_most nat_le o n ≡ true
at_most-fewer None n m low h = refl
at_most-fewer (Some k) n m low h = fewer n m k low h

-- some of the elements of a set that it admits
part_admitted : (t : ColType) (s w : Atoms) → IsWithin s w → set.len s ≤ set.len w → 1 ≤ set.len s → nat_le t.min 1 ≡ true → admits t (set_of w) ≡ true → admits t (set_of s) ≡ true
part_admitted t s w part low some least h =
    let all = four (has_kind t (set_of w)) (nat_lt (set.len w) t.min) (at_most nat_le t.max (set.len w)) (meets_constraints t (set_of w)) h in
    let kinds : (cond (is_some t.value) false true ≡ true) × (list_all (is_a t.key.kind) (set.items w) ≡ true) = both (cond (is_some t.value) false true) (list_all (is_a t.key.kind) (set.items w)) all.0 in
    let kind : has_kind t (set_of s) ≡ true = λ i. kinds.0 i && each_within (is_a t.key.kind) s w part kinds.1 i in
    let few : nat_lt (set.len s) t.min ≡ false = enough (set.len s) t.min some least in
    let many : at_most nat_le t.max (set.len s) ≡ true = at_most-fewer t.max (set.len s) (set.len w) low all.2 in
    let constraints : meets_constraints t (set_of s) ≡ true = each_within (meets t.key) s w part all.3 in
    λ i. is_none (cond (not (kind i)) (Some wrong_kind) (cond (few i) (Some too_few) (cond (not (many i)) (Some too_many) (cond (not (constraints i)) (Some broken_constraint) None))))

-- ---- one insertion in two steps

two_steps : (t : ColType) (old w : Value) (a b : Atoms) → 1 ≤ set.len a → nat_le t.min 1 ≡ true → mutate insert (set_of (set.union a b)) t old ≡ Ok w → (v : Value) × (mutate insert (set_of a) t old ≡ Ok v) × (mutate insert (set_of b) t v ≡ Ok w)
two_steps t (map_of m) w a b some least h = let no : ⊥ = cc in absurd no
two_steps t (set_of s) w a b some least h =
    let part = set.union s a in
    let full = set.union part b in
    let went : (set_of (set.union s (set.union a b)) ≡ w) × (within_limit w ≡ true) × (admits t w ≡ true) = went_through t (set_of (set.union s (set.union a b))) w h in
    let same : set_of full ≡ w = ap (λ (x : Atoms). set_of x) (sym (regrouped s a b)) ∙ went.0 in
    let limit : nat_le (set.len full) max_elements ≡ true = subst (λ v. within_limit v ≡ true) (sym same) went.1 in
    let fine : admits t (set_of full) ≡ true = subst (λ v. admits t v ≡ true) (sym same) went.2 in
    let fewer_there : set.len part ≤ set.len full = united_grows part b in
    let has : set.len a ≤ set.len part = united_has s a in
    let some_there : 1 ≤ set.len part = omega (arith, some, has) in (
      set_of part,
      goes_through t (set_of part) (fewer (set.len part) (set.len full) max_elements fewer_there limit) (part_admitted t part full (part_within part b) fewer_there some_there least fine),
      goes_through t (set_of full) limit fine ∙ ap (λ (v : Value). Ok v) same,
    )

-- ---- of a row

set_twice : {A : Type 0} (xs : List A) (i : ℕ) (x y : A) → slice_set (slice_set xs i x) i y ≡ slice_set xs i y
set_twice [] i x y = refl
set_twice (z ∷ xs) zero x y = refl
set_twice (z ∷ xs) (suc i) x y = ap (λ ys. z ∷ ys) (set_twice xs i x y)

-- a column that takes insertions is one of the row's
column_set : (cs : List Column) (vs : List Value) (i : ℕ) (operand v : Value) → (length vs == length cs) ≡ true → takes (column_type cs i) insert operand ≡ true → slice_get (slice_set vs i v) i ≡ Some v
column_set [] vs i operand v long h = absurd (false≢true h)
column_set (c ∷ cs) [] i operand v long h = absurd (false≢true (sym (grind (arith, nat_tests)) ∙ long))
column_set (c ∷ cs) (x ∷ vs) zero operand v long h = refl
column_set (c ∷ cs) (x ∷ vs) (suc i) operand v long h = column_set cs vs i operand v (grind (arith, nat_tests)) h

-- what one mutation made
made_one : (r new : Row) (i : ℕ) (made : Result Value Error) → ◌>>=◌ made (λ v. Ok (with_value i v r)) ≡ Ok new → (v : Value) × (made ≡ Ok v) × (with_value i v r ≡ new)
made_one r new i (Ok v) e = let same : with_value i v r ≡ new = cc in (v, refl, same)
made_one r new i (Err x) e = let no : ⊥ = cc in absurd no

module _ (cs : List Column) (i : ℕ) (a b : Atoms) where
  pub row_steps : (r new : Row) → fits cs r ≡ true → takes (column_type cs i) insert (set_of a) ≡ true → 1 ≤ set.len a → needs_one_at_most cs i ≡ true
      → mutated cs (insertion i (set_of (set.union a b)) ∷ []) r ≡ Ok new
      → (q : Row) × (mutated cs (insertion i (set_of a) ∷ []) r ≡ Ok q) × (mutated cs (insertion i (set_of b) ∷ []) q ≡ Ok new)
  row_steps r new fit taken some least e =
      let t = column_type cs i in
      let old = cell zero_uuid r (declared i) in
      let one : (v : Value) × (mutate insert (set_of (set.union a b)) t old ≡ Ok v) × (with_value i v r ≡ new) = made_one r new i (mutate insert (set_of (set.union a b)) t old) e in
      let steps : (v : Value) × (mutate insert (set_of a) t old ≡ Ok v) × (mutate insert (set_of b) t v ≡ Ok one.0) = two_steps t old one.0 a b some least one.1 in
      let q : Row = with_value i steps.0 r in
      let there : cell zero_uuid q (declared i) ≡ steps.0 = ap (λ o. unwrap_or o (set_of set.empty)) (column_set cs r.columns i (set_of a) steps.0 (both (length r.columns == length cs) _ fit).0 taken) in
      let last : with_value i one.0 q ≡ new = (λ j. let p : Row = record { version = r.version; columns = set_twice r.columns i steps.0 one.0 j } in p) ∙ one.2 in (
        q,
        ap (λ made. ◌>>=◌ made (λ v. let p : Result Row Error = Ok (with_value i v r) in p)) steps.1,
        ap (λ x. ◌>>=◌ (mutate insert (set_of b) t x) (λ v. let p : Result Row Error = Ok (with_value i v q) in p)) there
            ∙ ap (λ made. ◌>>=◌ made (λ v. let p : Result Row Error = Ok (with_value i v q) in p)) steps.2
            ∙ ap (λ p. let s : Result Row Error = Ok p in s) last,
      )

-- ---- lists in two parts

pub mutated-++ : (cs : List Column) (ms ns : List Mutation) (r q : Row) → mutated cs ms r ≡ Ok q → mutated cs (ms ++ ns) r ≡ mutated cs ns q
mutated-++ cs [] ns r q e = let same : r ≡ q = cc in ap (mutated cs ns) same
mutated-++ cs (m ∷ ms) ns r q e = by (mutate m.mutator m.value (column_type cs m.column) (cell zero_uuid r (declared m.column))) (λ v. mutated-++ cs ms ns (with_value m.column v r) q) e
  where
    by : (made : Result Value Error) → ((v : Value) → mutated cs ms (with_value m.column v r) ≡ Ok q → mutated cs (ms ++ ns) (with_value m.column v r) ≡ mutated cs ns q)
        → ◌>>=◌ made (λ v. mutated cs ms (with_value m.column v r)) ≡ Ok q → ◌>>=◌ made (λ v. mutated cs (ms ++ ns) (with_value m.column v r)) ≡ mutated cs ns q
    by (Ok v) rest e = rest v e
    by (Err x) rest e = let no : ⊥ = cc in absurd no

pub mutated_fault-++ : (cs : List Column) (ms ns : List Mutation) (r : Row) (x : Error) → mutated cs ms r ≡ Err x → mutated cs (ms ++ ns) r ≡ Err x
mutated_fault-++ cs [] ns r x e = let no : ⊥ = cc in absurd no
mutated_fault-++ cs (m ∷ ms) ns r x e = by (mutate m.mutator m.value (column_type cs m.column) (cell zero_uuid r (declared m.column))) (λ v. mutated_fault-++ cs ms ns (with_value m.column v r) x) e
  where
    by : (made : Result Value Error) → ((v : Value) → mutated cs ms (with_value m.column v r) ≡ Err x → mutated cs (ms ++ ns) (with_value m.column v r) ≡ Err x)
        → ◌>>=◌ made (λ v. mutated cs ms (with_value m.column v r)) ≡ Err x → ◌>>=◌ made (λ v. mutated cs (ms ++ ns) (with_value m.column v r)) ≡ Err x
    by (Ok v) rest e = rest v e
    by (Err y) rest e = e

pub taken_parts : (cs : List Column) (ms ns : List Mutation) → are_taken cs (ms ++ ns) ≡ true → (are_taken cs ms ≡ true) × (are_taken cs ns ≡ true)
taken_parts cs ms ns h = both (are_taken cs ms) (are_taken cs ns) (sym (list_all-append (λ m. takes (column_type cs m.column) m.mutator m.value) ms ns) ∙ h)

-- ---- what stands for what

takes_united : (t : ColType) (a b : Atoms) → takes t insert (set_of a) ≡ true → takes t insert (set_of b) ≡ true → takes t insert (set_of (set.union a b)) ≡ true
takes_united t a b left right =
    let k = is_a t.key.kind in
    let l : (not (is_scalar t) ≡ true) × ((cond (is_some t.value) false true && list_all k (set.items a)) ≡ true) = both (not (is_scalar t)) _ left in
    let r : (not (is_scalar t) ≡ true) × ((cond (is_some t.value) false true && list_all k (set.items b)) ≡ true) = both (not (is_scalar t)) _ right in
    let m : (cond (is_some t.value) false true ≡ true) × (list_all k (set.items a) ≡ true) = both (cond (is_some t.value) false true) _ l.1 in
    let n : (cond (is_some t.value) false true ≡ true) × (list_all k (set.items b) ≡ true) = both (cond (is_some t.value) false true) _ r.1 in
    λ i. l.0 i && (m.0 i && each_united k a b m.1 n.1 i)

joined : (i : ℕ) (a b : Atoms) (ls rs : List Mutation) → 1 ≤ set.len a → StandsFor (insertion i (set_of a)) ls → StandsFor (insertion i (set_of b)) rs → StandsFor (insertion i (set_of (set.union a b))) (ls ++ rs)
joined i a b ls rs some left right = λ cs taken least.
    let parts : (are_taken cs ls ≡ true) × (are_taken cs rs ≡ true) = taken_parts cs ls rs taken in
    let one : Replaces cs (insertion i (set_of a)) ls = left cs parts.0 least in
    let two : Replaces cs (insertion i (set_of b)) rs = right cs parts.1 least in (
      takes_united (column_type cs i) a b one.0 two.0,
      λ r new fit e.
          let steps : (q : Row) × (mutated cs (insertion i (set_of a) ∷ []) r ≡ Ok q) × (mutated cs (insertion i (set_of b) ∷ []) q ≡ Ok new) = row_steps cs i a b r new fit one.0 some least e in
          mutated-++ cs ls rs r steps.0 (one.1 r steps.0 fit steps.1) ∙ two.1 steps.0 new (mutated_fit cs (insertion i (set_of a) ∷ []) r steps.0 fit steps.1) steps.2,
    )

-- a type without values doesn't take maps
no_map : (t : ColType) (m : Pairs) → t.value ≡ None → takes t insert (map_of m) ≡ true → ⊥
no_map t m flat h =
    let kind : has_kind t (map_of m) ≡ true = (both (not (is_scalar t)) _ h).1 in
    let shape : cond (is_some t.value) true false ≡ true = (both (cond (is_some t.value) true false) _ kind).0 in
    false≢true (ap (λ o. cond (is_some o) true false) (sym flat) ∙ shape)

-- the operands of two halves, united
pub united : (t : ColType) (ls rs : List Mutation) (x y v : Value) → t.value ≡ None → Inserts t ls x → Inserts t rs y → mutate insert y t x ≡ Ok v → Inserts t (ls ++ rs) v
united t ls rs (set_of a) (set_of b) v flat left right e =
    let went : (set_of (set.union a b) ≡ v) × (within_limit v ≡ true) × (admits t v ≡ true) = went_through t (set_of (set.union a b)) v e in
    let some : 1 ≤ set.len a = left.1 in
    let more : set.len a ≤ set.len (set.union a b) = united_grows a b in
    let long : 1 ≤ set.len (set.union a b) = omega (arith, some, more) in
    subst (Inserts t (ls ++ rs)) went.0 (
      takes_united t a b left.0 right.0,
      long,
      λ i at.
          let parts : (are_at i ls ≡ true) × (are_at i rs ≡ true) = both (are_at i ls) (are_at i rs) (sym (list_all-append (λ m. m.column == i) ls rs) ∙ at) in
          joined i a b ls rs some (left.2 i parts.0) (right.2 i parts.1),
    )
united t ls rs (map_of m) y v flat left right e = absurd (no_map t m flat left.0)
united t ls rs (set_of a) (map_of m) v flat left right e = absurd (no_map t m flat right.0)

-- ---- one mutation

-- of the empty set arithmetic makes no element
nothing_calculated : (m : Mutator) (ys : List Atom) (t : ColType) (v : Value) → ◌>>=◌ (calculate_each m set.empty ys) (admitted t) ≡ Ok v → 1 ≤ size v → ⊥
nothing_calculated m [] t v e some = let no : ⊥ = cc in no
nothing_calculated m (y ∷ z ∷ ys) t v e some = let no : ⊥ = cc in no
nothing_calculated m (y ∷ []) t v e some =
    by (set.len (atoms []) == 0) (ap (λ xs. ◌>>=◌ (◌>>=◌ (each (λ x. calculate_atom m x y) xs) set_of_results) (admitted t)) (sym no_elements) ∙ e)
  where
    by : (b : Bool) → ◌>>=◌ (◌>>◌ (demand b constraint_violation) (Ok (set_of set.empty))) (admitted t) ≡ Ok v → ⊥
    by false e = let no : ⊥ = cc in no
    by true e =
        let same : size v ≡ 0 = ap size (sym (went_through t (set_of set.empty) v e).0) ∙ size_of_nothing in
        omega (arith, some, same)

-- a mutation that makes elements of the empty set inserts them
operand_made : (m : Mutator) (operand : Value) (t : ColType) (v : Value) → mutate m operand t (set_of set.empty) ≡ Ok v → 1 ≤ size v → (m ≡ insert) × (operand ≡ v)
operand_made insert (set_of b) t v e some = (refl, ap (λ (x : Atoms). set_of x) (sym (with_nothing b)) ∙ (went_through t (set_of (set.union set.empty b)) v e).0)
operand_made delete (set_of b) t v e some =
    let same : size v ≡ 0 = ap size (sym (went_through t (set_of (set.difference set.empty b)) v e).0) ∙ ap set.len (nothing_left b) ∙ size_of_nothing in
    absurd (omega (arith, some, same))
operand_made add (set_of b) t v e some = absurd (nothing_calculated add (set.items b) t v e some)
operand_made subtract (set_of b) t v e some = absurd (nothing_calculated subtract (set.items b) t v e some)
operand_made multiply (set_of b) t v e some = absurd (nothing_calculated multiply (set.items b) t v e some)
operand_made divide (set_of b) t v e some = absurd (nothing_calculated divide (set.items b) t v e some)
operand_made remainder (set_of b) t v e some = absurd (nothing_calculated remainder (set.items b) t v e some)
operand_made insert (map_of n) t v e some = let no : ⊥ = cc in absurd no
operand_made delete (map_of n) t v e some = let no : ⊥ = cc in absurd no
operand_made add (map_of n) t v e some = let no : ⊥ = cc in absurd no
operand_made subtract (map_of n) t v e some = let no : ⊥ = cc in absurd no
operand_made multiply (map_of n) t v e some = let no : ⊥ = cc in absurd no
operand_made divide (map_of n) t v e some = let no : ⊥ = cc in absurd no
operand_made remainder (map_of n) t v e some = let no : ⊥ = cc in absurd no

itself : (m : Mutation) → StandsFor m (m ∷ [])
itself m = λ cs taken least. ((both (takes (column_type cs m.column) m.mutator m.value) true taken).0, λ r new fit e. e)

pub inserts_one : (t : ColType) (m : Mutation) (v : Value) → takes t m.mutator m.value ≡ true → mutate m.mutator m.value t (set_of set.empty) ≡ Ok v → 1 ≤ size v → Inserts t (m ∷ []) v
inserts_one t m v taken e some =
    let is : (m.mutator ≡ insert) × (m.value ≡ v) = operand_made m.mutator m.value t v e some in (
      (λ j. takes t (sym is.0 j) (sym is.1 j)) ∙ taken,
      some,
      λ i at.
          let here : m.column ≡ i = eqb-true m.column i (both (m.column == i) true at).0 in
          let same : m ≡ insertion i v = λ j. let n : Mutation = record { column = here j; mutator = is.0 j; value = is.1 j } in n in
          subst (λ n. StandsFor n (m ∷ [])) same (itself m),
    )

-- ---- the type of the sets

pub nothing_is_taken : (t : ColType) → t.value ≡ None → has_kind t (set_of set.empty) ≡ true
nothing_is_taken t flat = λ i. cond (is_some (flat i)) false true && list_all (is_a t.key.kind) (no_elements i)

-- two types of sets of the same atoms, of which the second isn't a scalar
module _ (t u : ColType) (flat : t.value ≡ None) (plain : u.value ≡ None) (kinds : t.key.kind ≡ u.key.kind) (many : is_scalar u ≡ false) where
  kind_alike : (v : Value) → has_kind u v ≡ has_kind t v
  kind_alike (set_of s) = (λ i. cond (is_some (plain i)) false true && list_all (is_a (sym kinds i)) (set.items s)) ∙ (λ i. cond (is_some (sym flat i)) false true && list_all (is_a t.key.kind) (set.items s))
  kind_alike (map_of m) = (λ i. cond (is_some (plain i)) true false && list_all (λ e. is_a u.key.kind e.0 && is_a (value_base u).kind e.1) m.entries) ∙ (λ i. cond (is_some (sym flat i)) true false && list_all (λ e. is_a t.key.kind e.0 && is_a (value_base t).kind e.1) m.entries)

  -- arithmetic
  calculated_alike : (v : Value) → ((same_kind u.key.kind integers && not (is_some u.value)) && (is_set_of integers v && (size v == 1))) ≡ ((same_kind t.key.kind integers && not (is_some t.value)) && (is_set_of integers v && (size v == 1)))
  calculated_alike v = λ i. (same_kind (sym kinds i) integers && not (is_some ((plain ∙ sym flat) i))) && (is_set_of integers v && (size v == 1))

  take_alike : (m : Mutator) (v : Value) → takes t m v ≡ true → takes u m v ≡ true
  take_alike insert v h = let kind = (both (not (is_scalar t)) (has_kind t v) h).1 in λ i. not (many i) && (kind_alike v ∙ kind) i
  take_alike delete v h = let kind = (both (not (is_scalar t)) (has_kind t v || is_set_of t.key.kind v) h).1 in λ i. not (many i) && ((λ j. kind_alike v j || is_set_of (sym kinds j) v) ∙ kind) i
  take_alike add v h = calculated_alike v ∙ h
  take_alike subtract v h = calculated_alike v ∙ h
  take_alike multiply v h = calculated_alike v ∙ h
  take_alike divide v h = calculated_alike v ∙ h
  take_alike remainder v h = calculated_alike v ∙ h

-- what a column of sets takes, sets of its atoms take
pub all_taken : (cs : List Column) (i : ℕ) (k : Kind) (ms : List Mutation) → (column_type cs i).value ≡ None → (column_type cs i).key.kind ≡ k → are_at i ms ≡ true → are_taken cs ms ≡ true → all_take (sets_of k) ms ≡ true
all_taken cs i k [] flat kind at taken = refl
all_taken cs i k (m ∷ ms) flat kind at taken =
    let here : (m.column ≡ i) × (are_at i ms ≡ true) = let parts = both (m.column == i) (are_at i ms) at in (eqb-true m.column i parts.0, parts.1) in
    let parts : (takes (column_type cs m.column) m.mutator m.value ≡ true) × (are_taken cs ms ≡ true) = both (takes (column_type cs m.column) m.mutator m.value) (are_taken cs ms) taken in
    let first : takes (column_type cs i) m.mutator m.value ≡ true = subst (λ n. takes (column_type cs n) m.mutator m.value ≡ true) here.0 parts.0 in
    let one : takes (sets_of k) m.mutator m.value ≡ true = take_alike (column_type cs i) (sets_of k) flat refl kind refl m.mutator m.value first in
    let rest = all_taken cs i k ms flat kind here.1 parts.1 in
    λ j. one j && rest j

pub some_left : (n : ℕ) → (n == 0) ≡ false → 1 ≤ n
some_left n h = grind (arith, nat_tests)

-- what two halves insert together, if it is within the limit
pub may_insert : (t : ColType) (ls rs ms : List Mutation) (x y : Value) (found : Option Value) → t.value ≡ None → ls ++ rs ≡ ms → Inserts t ls x → Inserts t rs y → IfSome found (λ v. mutate insert y t x ≡ Ok v) → IfSome found (Inserts t ms)
may_insert t ls rs ms x y None flat whole left right h = h
may_insert t ls rs ms x y (Some v) flat whole left right h = subst (λ ns. Inserts t ns v) whole (united t ls rs x y v flat left right h)

-- ---- runs

pub all_of-push : (runs : List (List Mutation)) (ms : List Mutation) → all_of (runs ++ ms ∷ []) ≡ all_of runs ++ ms
all_of-push [] ms = append-nil ms
all_of-push (run ∷ runs) ms = ap (λ ns. run ++ ns) (all_of-push runs ms) ∙ sym (append_assoc run (all_of runs) ms)
