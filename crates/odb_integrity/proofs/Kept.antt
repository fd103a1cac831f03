-- What is kept is the largest supported set of rows.
use Rattle.std.specs.Prelude.{◌≡◌, ◌⊎◌, Bool, true, false, cond, not, ◌&&◌, ◌||◌, List, [], ◌∷◌, map as map_list, filter}
use Rattle.std.specs.List.{list_any}
use mathlib.Core.Path.{refl, sym, ap, subst, ◌∙◌}
use mathlib.Core.Logic.{inl, inr}
use Rattle.odb_atoms.proofs.Lists.{Member, all_gives, any-++, any-map, any_gives, both, either, gives_all, gives_any, in_filter, member-++, member-map, of_filter, or_right}
use Rattle.odb_integrity.specs.Settlement.{IsSupported, RowId, is_kept, is_supported, refers, row_ids, same_row, subsets}
use Rattle.odb_schema.specs.Schema.{Schema, is_root_at}
use Rattle.odb_integrity.proofs.Ids.{listed, member}
use Rattle.odb_tables.specs.Database.{Db}

-- every choice of members is among the subsets, and these are of members alone
some_subset : (p : RowId → Bool) (q : List RowId → Bool) (xs : List RowId) → q (filter p xs) ≡ true → list_any q (subsets xs) ≡ true
some_subset p q [] e = ap (λ b. b || false) e
some_subset p q (x ∷ xs) e = by (p x) (some_subset p (λ ys. q (x ∷ ys)) xs) (some_subset p q xs) e
  where
    by : (b : Bool) → (q (x ∷ filter p xs) ≡ true → list_any (λ ys. q (x ∷ ys)) (subsets xs) ≡ true) → (q (filter p xs) ≡ true → list_any q (subsets xs) ≡ true) → q (cond b (x ∷ filter p xs) (filter p xs)) ≡ true → list_any q (subsets (x ∷ xs)) ≡ true
    by true first rest e = any-++ q (map_list (λ ys. x ∷ ys) (subsets xs)) (subsets xs) (inl (any-map q (λ ys. x ∷ ys) (subsets xs) ∙ first e))
    by false first rest e = any-++ q (map_list (λ ys. x ∷ ys) (subsets xs)) (subsets xs) (inr (rest e))

of_members : (xs ys : List RowId) → Member ys (subsets xs) → (x : RowId) → Member x ys → Member x xs
of_members [] ys (inl h) x m = subst (Member x) h m
of_members [] ys (inr h) x m = absurd h
of_members (z ∷ zs) ys h x m = by (member-++ ys (map_list (λ ws. z ∷ ws) (subsets zs)) (subsets zs) h) (λ ws. of_members zs ws)
  where
    with_first : (ws : List RowId) → Member ws (subsets zs) → ys ≡ z ∷ ws → (Member x ws → Member x zs) → Member x (z ∷ zs)
    with_first ws k e rest = elim (subst (Member x) e m) as (λ _. Member x (z ∷ zs)) [ inl f ↦ inl f | inr n ↦ inr (rest n) ]

    by : Member ys (map_list (λ ws. z ∷ ws) (subsets zs)) ⊎ Member ys (subsets zs) → ((ws : List RowId) → Member ws (subsets zs) → (y : RowId) → Member y ws → Member y zs) → Member x (z ∷ zs)
    by (inl k) rest = let w = member-map (λ ws. z ∷ ws) (subsets zs) ys k in with_first w.0 w.1 w.2 (rest w.0 w.1 x)
    by (inr k) rest = inr (rest ys k x m)

-- ---- what is kept

module _ (s : Schema) (db : Db) where
  -- a supported list of rows that has x has another row that refers to x, unless x is of a root table
  supporter : (xs : List RowId) → is_supported s db xs ≡ true → (x : RowId) → Member x xs
      → (is_root_at s x.0 ≡ true) ⊎ ((y : RowId) × Member y xs × (same_row x y ≡ false) × (refers s db y x ≡ true))
  supporter xs e x m = by (either (is_root_at s x.0) (list_any other xs) (all_gives (λ z. is_root_at s z.0 || list_any (λ y. not (same_row z y) && refers s db y z) xs) xs e x m))
    where
      other : RowId → Bool
      other y = not (same_row x y) && refers s db y x

      not_true : (b : Bool) → not b ≡ true → b ≡ false
      not_true true e = sym e
      not_true false e = refl

      by : (is_root_at s x.0 ≡ true) ⊎ (list_any other xs ≡ true) → (is_root_at s x.0 ≡ true) ⊎ ((y : RowId) × Member y xs × (same_row x y ≡ false) × (refers s db y x ≡ true))
      by (inl root) = inl root
      by (inr one) =
          let w = any_gives other xs one in
          let h = both (not (same_row x w.0)) (refers s db w.0 x) w.2 in
          inr (w.0, w.1, not_true (same_row x w.0) h.0, h.1)

  -- a row of a supported list is kept
  kept_in : (xs : List RowId) → Member xs (subsets (row_ids db)) → is_supported s db xs ≡ true → (x : RowId) → Member x xs → is_kept s db x ≡ true
  unfolding is_kept
  kept_in xs k e x m = gives_any (λ ys. is_supported s db ys && list_any (same_row x) ys) (subsets (row_ids db)) xs k (λ i. e i && listed x xs m i)

  pub kept_is_supported : IsSupported s db (is_kept s db)
  unfolding is_kept
  kept_is_supported x kept =
      let w = any_gives (λ ys. is_supported s db ys && list_any (same_row x) ys) (subsets (row_ids db)) kept in
      let h = both (is_supported s db w.0) (list_any (same_row x) w.0) w.2 in
      let m = member x w.0 h.1 in (
        listed x (row_ids db) (of_members (row_ids db) w.0 w.1 x m),
        elim (supporter w.0 h.0 x m) as (λ _. (is_root_at s x.0 ≡ true) ⊎ ((y : RowId) × (is_kept s db y ≡ true) × (same_row x y ≡ false) × (refers s db y x ≡ true))) [
          | inl root ↦ inl root
          | inr v ↦ inr (v.0, kept_in w.0 w.1 h.0 v.0 v.1, v.2, v.3)
        ],
      )

  module _ (p : RowId → Bool) (supported : IsSupported s db p) where
    chosen : List RowId
    chosen = filter p (row_ids db)

    is_chosen : (x : RowId) → p x ≡ true → Member x chosen
    unfolding chosen
    is_chosen x e = in_filter p (row_ids db) x (member x (row_ids db) (supported x e).0) e

    chosen_supported : is_supported s db chosen ≡ true
    chosen_supported = gives_all (λ x. is_root_at s x.0 || list_any (λ y. not (same_row x y) && refers s db y x) chosen) chosen (λ x m. by x (supported x (passes x m)).1)
      where
        passes : (x : RowId) → Member x chosen → p x ≡ true
        passes x m = unfold chosen in of_filter p (row_ids db) x m

        by : (x : RowId) → (is_root_at s x.0 ≡ true) ⊎ ((y : RowId) × (p y ≡ true) × (same_row x y ≡ false) × (refers s db y x ≡ true)) → (is_root_at s x.0 || list_any (λ y. not (same_row x y) && refers s db y x) chosen) ≡ true
        by x (inl root) = ap (λ b. b || list_any (λ y. not (same_row x y) && refers s db y x) chosen) root
        by x (inr v) = or_right (is_root_at s x.0) _ (gives_any (λ y. not (same_row x y) && refers s db y x) chosen v.0 (is_chosen v.0 v.1) (λ i. not (v.2 i) && v.3 i))

    pub kept_is_largest : (x : RowId) → p x ≡ true → is_kept s db x ≡ true
    unfolding is_kept chosen
    kept_is_largest x e = some_subset p (λ ys. is_supported s db ys && list_any (same_row x) ys) (row_ids db) (λ i. chosen_supported i && listed x chosen (is_chosen x e) i)
