-- One pass over two rising lists of entries: what each step of it finds, and the list of what differs.
use Rattle.std.specs.Prelude.{◌≡◌, ◌⊎◌, ◌<◌, Bool, true, false, cond, not, ◌&&◌, T, List, [], ◌∷◌, ◌++◌, length, map, Option, Some, None}
use Rattle.std.proofs.Common.{append-nil, append_assoc, arith, ⊎_elim}
use mathlib.Core.Path.{refl, sym, ap, subst, ◌∙◌}
use Rattle.std.specs.declared.cmp.Ordering.{Ordering}
use Rattle.std.specs.declared.cmp.Ordering.TheVariants.{Less, Equal, Greater}
use Rattle.std.specs.Ordering.{eq_by_cmp, is_eq, ordering_reverse}
use Rattle.std.specs.List.{list_all}
use Rattle.std.specs.Cmp.{alike_right, tied_back}
use Rattle.std.specs.FinMap.Entries.{below_all, by_order}
use Rattle.odb_atoms.specs.Atom.{Atom, atom_cmp}
use Rattle.odb_atoms.specs.Represented.Entry.{Entry, IsChange, IsRising, against, alike, changed_value, entry_at, has_entry, is_alike, merged}
use Rattle.odb_atoms.specs.Represented.AtomOrder.{atom_cmp_total}
use Rattle.odb_atoms.proofs.Rising.{before_all, both, equal, find-below, first, is_less, less, second, tied_before_all, turned}

-- ---- looking for each of a list

has_entry-earlier : (x : Entry) (es : List Entry) (w : Entry) → atom_cmp x.0 w.0 ≡ Less → has_entry (x ∷ es) w ≡ has_entry es w
has_entry-earlier x es w before = ap (λ r. is_alike (cond (is_eq r) (Some x.1) (entry_at es w.0)) w.1) (atom_cmp_total.antisymm w.0 x.0 ∙ ap ordering_reverse before)

has_entry-tied : (x : Entry) (es : List Entry) (w : Entry) → atom_cmp x.0 w.0 ≡ Equal → has_entry (x ∷ es) w ≡ alike x.1 w.1
has_entry-tied x es w tied = ap (λ r. is_alike (cond (is_eq r) (Some x.1) (entry_at es w.0)) w.1) (tied_back atom_cmp_total x.0 w.0 tied)

has_entry-later : (w : Entry) (es : List Entry) → T (below_all atom_cmp w.0 es) → has_entry es w ≡ false
has_entry-later w es below = ap (λ x. is_alike x w.1) (find-below atom_cmp_total w.0 es below)

-- an entry before all that is looked for may be passed over
all_earlier : (p : Bool → Bool) (x : Entry) (es ws : List Entry) → T (below_all atom_cmp x.0 ws) → list_all (λ w. p (has_entry (x ∷ es) w)) ws ≡ list_all (λ w. p (has_entry es w)) ws
all_earlier p x es [] below = refl
all_earlier p x es (w ∷ ws) below = λ i. p (has_entry-earlier x es w (less _ (first _ _ below)) i) && all_earlier p x es ws (second _ _ below) i

below_first : (x w : Entry) (ws : List Entry) → atom_cmp x.0 w.0 ≡ Less → IsRising (w ∷ ws) → T (below_all atom_cmp x.0 (w ∷ ws))
below_first x w ws before up = both _ _ (is_less before) (before_all atom_cmp_total x.0 w.0 ws before (first _ _ up))

-- the steps of a pass that looks for each of ws, with p the answer that goes on
pub all_less : (p : Bool → Bool) (x : Entry) (es : List Entry) (w : Entry) (ws : List Entry) → atom_cmp x.0 w.0 ≡ Less → IsRising (w ∷ ws) → list_all (λ v. p (has_entry (x ∷ es) v)) (w ∷ ws) ≡ list_all (λ v. p (has_entry es v)) (w ∷ ws)
all_less p x es w ws before up = all_earlier p x es (w ∷ ws) (below_first x w ws before up)

pub all_tied : (p : Bool → Bool) (x : Entry) (es : List Entry) (w : Entry) (ws : List Entry) → atom_cmp x.0 w.0 ≡ Equal → IsRising (w ∷ ws) → list_all (λ v. p (has_entry (x ∷ es) v)) (w ∷ ws) ≡ (p (alike x.1 w.1) && list_all (λ v. p (has_entry es v)) ws)
all_tied p x es w ws tied up = λ i. p (has_entry-tied x es w tied i) && all_earlier p x es ws (tied_before_all atom_cmp_total x.0 w.0 ws tied (first _ _ up)) i

pub all_greater : (p : Bool → Bool) (x : Entry) (es : List Entry) (w : Entry) (ws : List Entry) → atom_cmp x.0 w.0 ≡ Greater → IsRising (x ∷ es) → list_all (λ v. p (has_entry (x ∷ es) v)) (w ∷ ws) ≡ (p false && list_all (λ v. p (has_entry (x ∷ es) v)) ws)
all_greater p x es w ws after up = ap (λ b. p b && list_all (λ v. p (has_entry (x ∷ es) v)) ws) (has_entry-later w (x ∷ es) (below_first w x es (turned atom_cmp_total x.0 w.0 after) up))

-- what a pass finds, with p the answer that goes on
abbrev pub passes : (Bool → Bool) → List Entry → List Entry → Bool
passes p es ws = list_all (λ w. p (has_entry es w)) ws

pub rest_rises : (xs : List Entry) (x : Entry) (es : List Entry) → xs ≡ x ∷ es → IsRising xs → IsRising es
rest_rises xs x es is up = second _ _ (subst IsRising is up)

module _ (p : Bool → Bool) (xs ws : List Entry) (x w : Entry) (es vs : List Entry) (is_xs : xs ≡ x ∷ es) (is_ws : ws ≡ w ∷ vs) (up_xs : IsRising xs) (up_ws : IsRising ws) where
  opened : (b : Bool) → passes p (x ∷ es) (w ∷ vs) ≡ b → passes p xs ws ≡ b
  opened b e = (λ i. passes p (is_xs i) (is_ws i)) ∙ e

  pub passes-less : atom_cmp x.0 w.0 ≡ Less → passes p es ws ≡ passes p xs ws
  passes-less before = ap (passes p es) is_ws ∙ sym (opened _ (all_less p x es w vs before (subst IsRising is_ws up_ws)))

  pub passes-tied : (b : Bool) → atom_cmp x.0 w.0 ≡ Equal → alike x.1 w.1 ≡ b → passes p xs ws ≡ (p b && passes p es vs)
  passes-tied b tied same = opened _ (all_tied p x es w vs tied (subst IsRising is_ws up_ws)) ∙ ap (λ a. p a && passes p es vs) same

  pub passes-greater : atom_cmp x.0 w.0 ≡ Greater → passes p xs ws ≡ (p false && passes p xs vs)
  passes-greater after = opened _ (all_greater p x es w vs after (subst IsRising is_xs up_xs)) ∙ ap (λ zs. p false && passes p zs vs) (sym is_xs)

pub passes-nothing : (ws : List Entry) → passes not [] ws ≡ true
passes-nothing [] = refl
passes-nothing (w ∷ ws) = passes-nothing ws

-- ---- what differs

pub merged-nothing : (xs : List Entry) → merged xs [] ≡ xs
merged-nothing [] = refl
merged-nothing (x ∷ xs) = refl

-- where one list is at its end, what is left of both
pub merged-finished : {X : Type 0} (f : X → Entry) (xs ys : List X) → (length xs < 1) ⊎ (length ys < 1) → merged (map f xs) (map f ys) ≡ map f xs ++ map f ys
merged-finished f [] ys ends = refl
merged-finished f (x ∷ xs) [] ends = sym (append-nil (map f (x ∷ xs)))
merged-finished f (x ∷ xs) (y ∷ ys) ends = ⊎_elim (λ short. absurd (omega arith)) (λ short. absurd (omega arith)) ends

-- the last steps of a merge: what is left of the first list, and then of the second
pub merged-appended : {X : Type 0} (f : X → Entry) (xs ys : List X) (done once twice whole : List Entry) → done ++ merged (map f xs) (map f ys) ≡ whole → once ≡ done ++ map f xs → twice ≡ once ++ map f ys → (length xs < 1) ⊎ (length ys < 1) → twice ≡ whole
merged-appended f xs ys done once twice whole is one two ends =
    two ∙ ap (λ zs. zs ++ map f ys) one ∙ append_assoc done (map f xs) (map f ys) ∙ ap (λ zs. done ++ zs) (sym (merged-finished f xs ys ends)) ∙ is

module _ (x : Entry) (xs : List Entry) (y : Entry) (ys : List Entry) where
  step : Ordering → List Entry
  step r = by_order r (x ∷ merged xs (y ∷ ys)) (cond (alike x.1 y.1) (merged xs ys) (y ∷ merged xs ys)) (y ∷ merged (x ∷ xs) ys)

  pub merged-less : atom_cmp x.0 y.0 ≡ Less → merged (x ∷ xs) (y ∷ ys) ≡ x ∷ merged xs (y ∷ ys)
  unfolding step
  merged-less e = ap step e

  pub merged-greater : atom_cmp x.0 y.0 ≡ Greater → merged (x ∷ xs) (y ∷ ys) ≡ y ∷ merged (x ∷ xs) ys
  unfolding step
  merged-greater e = ap step e

  pub merged-alike : atom_cmp x.0 y.0 ≡ Equal → alike x.1 y.1 ≡ true → merged (x ∷ xs) (y ∷ ys) ≡ merged xs ys
  unfolding step
  merged-alike e a = ap step e ∙ ap (λ b. cond b (merged xs ys) (y ∷ merged xs ys)) a

  pub merged-different : atom_cmp x.0 y.0 ≡ Equal → alike x.1 y.1 ≡ false → merged (x ∷ xs) (y ∷ ys) ≡ y ∷ merged xs ys
  unfolding step
  merged-different e a = ap step e ∙ ap (λ b. cond b (merged xs ys) (y ∷ merged xs ys)) a

-- what is before all of two lists is before all by which they differ
below-against : (k : Atom) (x : Entry) (xs : List Entry) (rest : List Entry → List Entry) → ((ys : List Entry) → T (below_all atom_cmp k ys) → T (below_all atom_cmp k (rest ys))) → (ys : List Entry) → T (below_all atom_cmp k (x ∷ xs)) → T (below_all atom_cmp k ys) → T (below_all atom_cmp k (against x xs rest ys))
below-against k x xs rest h [] p q = p
below-against k x xs rest h (y ∷ ys) p q =
    elim (atom_cmp x.0 y.0) as (λ r. T (below_all atom_cmp k (by_order r (x ∷ rest (y ∷ ys)) (cond (alike x.1 y.1) (rest ys) (y ∷ rest ys)) (y ∷ against x xs rest ys)))) [
      | Less ↦ both _ _ (first _ _ p) (h (y ∷ ys) q)
      | Equal ↦ elim (alike x.1 y.1) as (λ a. T (below_all atom_cmp k (cond a (rest ys) (y ∷ rest ys)))) [ true ↦ h ys (second _ _ q) | false ↦ both _ _ (first _ _ q) (h ys (second _ _ q)) ]
      | Greater ↦ both _ _ (first _ _ q) (below-against k x xs rest h ys p (second _ _ q))
    ]

below-merged : (k : Atom) (xs ys : List Entry) → T (below_all atom_cmp k xs) → T (below_all atom_cmp k ys) → T (below_all atom_cmp k (merged xs ys))
below-merged k [] ys p q = q
below-merged k (x ∷ xs) ys p q = below-against k x xs (merged xs) (λ zs z. below-merged k xs zs (second _ _ p) z) ys p q

IsRising-against : (x : Entry) (xs ys : List Entry) → ((zs : List Entry) → IsRising zs → IsRising (merged xs zs)) → IsRising (x ∷ xs) → IsRising ys → IsRising (against x xs (merged xs) ys)
IsRising-against x xs [] h p q = p
IsRising-against x xs (y ∷ ys) h p q =
    elim (atom_cmp x.0 y.0) as (λ r. atom_cmp x.0 y.0 ≡ r → IsRising (by_order r (x ∷ merged xs (y ∷ ys)) (cond (alike x.1 y.1) (merged xs ys) (y ∷ merged xs ys)) (y ∷ against x xs (merged xs) ys))) [
      | Less ↦ λ e. both _ _ (below-merged x.0 xs (y ∷ ys) (first _ _ p) (below_first x y ys e q)) (h (y ∷ ys) q)
      | Equal ↦ λ e. elim (alike x.1 y.1) as (λ a. IsRising (cond a (merged xs ys) (y ∷ merged xs ys))) [
        | true ↦ h ys (second _ _ q)
        | false ↦ both _ _ (below-merged y.0 xs ys (tied_before_all atom_cmp_total y.0 x.0 xs (tied_back atom_cmp_total x.0 y.0 e) (first _ _ p)) (first _ _ q)) (h ys (second _ _ q))
      ]
      | Greater ↦ λ e. both _ _ (below-merged y.0 (x ∷ xs) ys (below_first y x xs (turned atom_cmp_total x.0 y.0 e) p) (first _ _ q)) (IsRising-against x xs ys h p (second _ _ q))
    ] refl

pub IsRising-merged : (xs ys : List Entry) → IsRising xs → IsRising ys → IsRising (merged xs ys)
IsRising-merged [] ys p q = q
IsRising-merged (x ∷ xs) ys p q = IsRising-against x xs ys (λ zs z. IsRising-merged xs zs (second _ _ p) z) p q

-- what stands at a key, by whether the key is that of the first entry
abbrev At : Type 0
At = Option (Option Atom)

changed-nothing : (x : At) → x ≡ changed_value x None
changed-nothing None = refl
changed-nothing (Some a) = refl

at_less : (b : Bool) (u : Option Atom) (es fs rest : At) → rest ≡ changed_value es fs → (b ≡ true → fs ≡ None) → cond b (Some u) rest ≡ changed_value (cond b (Some u) es) fs
at_less true u es fs rest is none = ap (changed_value (Some u)) (sym (none refl))
at_less false u es fs rest is none = is

at_greater : (b : Bool) (v : Option Atom) (es fs rest : At) → rest ≡ changed_value es fs → (b ≡ true → es ≡ None) → cond b (Some v) rest ≡ changed_value es (cond b (Some v) fs)
at_greater true v es fs rest is none = ap (λ x. changed_value x (Some v)) (sym (none refl))
at_greater false v es fs rest is none = is

at_alike : (b : Bool) (u v : Option Atom) (es fs rest : At) → alike u v ≡ true → rest ≡ changed_value es fs → (b ≡ true → es ≡ None) → (b ≡ true → fs ≡ None) → rest ≡ changed_value (cond b (Some u) es) (cond b (Some v) fs)
at_alike true u v es fs rest same is no_e no_f = is ∙ (λ i. changed_value (no_e refl i) (no_f refl i)) ∙ sym (ap (λ a. cond a None (Some v)) same)
at_alike false u v es fs rest same is no_e no_f = is

at_different : (b : Bool) (u v : Option Atom) (es fs rest : At) → alike u v ≡ false → rest ≡ changed_value es fs → cond b (Some v) rest ≡ changed_value (cond b (Some u) es) (cond b (Some v) fs)
at_different true u v es fs rest differ is = sym (ap (λ a. cond a None (Some v)) differ)
at_different false u v es fs rest differ is = is

absent_before : (q : Atom) (k : Atom) (es : List Entry) → T (below_all atom_cmp k es) → eq_by_cmp atom_cmp q k ≡ true → entry_at es q ≡ None
absent_before q k es below e = find-below atom_cmp_total q es (tied_before_all atom_cmp_total q k es (equal _ e) below)

IsChange-against : (x : Entry) (xs ys : List Entry) → ((zs : List Entry) → IsRising zs → IsChange xs zs (merged xs zs)) → IsRising (x ∷ xs) → IsRising ys → IsChange (x ∷ xs) ys (against x xs (merged xs) ys)
IsChange-against x xs [] h p q k = changed-nothing _
IsChange-against x xs (y ∷ ys) h p q k =
    elim (atom_cmp x.0 y.0) as (λ r. atom_cmp x.0 y.0 ≡ r → entry_at (by_order r (x ∷ merged xs (y ∷ ys)) (cond (alike x.1 y.1) (merged xs ys) (y ∷ merged xs ys)) (y ∷ against x xs (merged xs) ys)) k ≡ changed_value (entry_at (x ∷ xs) k) (entry_at (y ∷ ys) k)) [
      | Less ↦ λ e. at_less (eq_by_cmp atom_cmp k x.0) x.1 _ _ _ (h (y ∷ ys) q k) (absent_before k x.0 (y ∷ ys) (below_first x y ys e q))
      | Greater ↦ λ e. at_greater (eq_by_cmp atom_cmp k y.0) y.1 _ _ _ (IsChange-against x xs ys h p (second _ _ q) k) (absent_before k y.0 (x ∷ xs) (below_first y x xs (turned atom_cmp_total x.0 y.0 e) p))
      | Equal ↦ λ e.
          let b = eq_by_cmp atom_cmp k y.0 in
          let tied : eq_by_cmp atom_cmp k x.0 ≡ b = ap is_eq (alike_right atom_cmp_total x.0 y.0 k e) in
          let no_x : b ≡ true → entry_at xs k ≡ None = λ t. absent_before k x.0 xs (first _ _ p) (tied ∙ t) in
          let no_y : b ≡ true → entry_at ys k ≡ None = absent_before k y.0 ys (first _ _ q) in
          let rest = h ys (second _ _ q) k in
          (elim (alike x.1 y.1) as (λ a. alike x.1 y.1 ≡ a → entry_at (cond a (merged xs ys) (y ∷ merged xs ys)) k ≡ changed_value (cond b (Some x.1) (entry_at xs k)) (cond b (Some y.1) (entry_at ys k))) [
            | true ↦ λ a. at_alike b x.1 y.1 _ _ _ a rest no_x no_y
            | false ↦ λ a. at_different b x.1 y.1 _ _ _ a rest
          ] refl) ∙ ap (λ c. changed_value (cond c (Some x.1) (entry_at xs k)) (entry_at (y ∷ ys) k)) (sym tied)
    ] refl

-- at each key the merge has what the two lists make of it
pub IsChange-merged : (xs ys : List Entry) → IsRising xs → IsRising ys → IsChange xs ys (merged xs ys)
IsChange-merged [] ys p q k = refl
IsChange-merged (x ∷ xs) ys p q k = IsChange-against x xs ys (λ zs z. IsChange-merged xs zs (second _ _ p) z) p q k
