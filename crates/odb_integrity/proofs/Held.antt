-- Which rows have support after some were touched, and that all are kept where each has it.
use Rattle.std.specs.Prelude.{◌∷◌, flat_map, ◌≡◌, ◌⊎◌, ℕ, ◌<◌, Bool, true, false, cond, not, ◌&&◌, ◌||◌, List, [], filter, length, is_some, unwrap_or, Option, Some, None, option_map}
use Rattle.std.specs.BTreeSet.{BTreeSet, contains}
use Rattle.std.specs.List.{list_any}
use mathlib.Core.Path.{refl, sym, ap, subst, ◌∙◌}
use mathlib.Core.Logic.{inl, inr}
use mathlib.Core.Bool.{true≢false}
use Rattle.odb_atoms.proofs.Lists.{any_gives, both, either, gives_any, or_right}
use Rattle.odb_atoms.specs.Row.{Row}
use Rattle.odb_schema.specs.Schema.{Schema, is_root_at}
use Rattle.odb_tables.specs.Database.{Db}
use Rattle.odb_integrity.specs.Represented.RowId.{row_id_cmp, supports}
use Rattle.odb_integrity.specs.Settlement.{RowId, has_support, is_kept, is_referred, is_there, kept, refers, row_ids, row_of, same_row, strong_of_row}
use Rattle.odb_integrity.specs.Gained.{gained, gained_since}
use Rattle.odb_integrity.specs.Touched.{SameBut, SupportedBut, hanging, is_newly_referred}
use Rattle.odb_integrity.proofs.Gains.{gained_refers, referred_before}
use Rattle.odb_integrity.proofs.Databases.{any-row_ids, each_row_same, there_inside}
use Rattle.odb_integrity.proofs.Ids.{any-filter, member, own_row}
use Rattle.odb_integrity.proofs.Kept.{kept_is_largest, kept_is_supported}
use Rattle.odb_integrity.proofs.Settles.{any-flat_map}

-- where each row is kept, nothing goes
pub all_kept : (s : Schema) (db : Db) → ((x : RowId) → is_there db x ≡ true → is_kept s db x ≡ true) → db ≡ kept s db
all_kept s db h = sym (each_row_same (λ x r. cond (is_kept s db x) (Some r) None) db (λ x r there. ap (λ b. cond b (Some r) None) (h x (ap is_some there))))

-- all tables are root
pub all_root : (s : Schema) (db : Db) → length db ≡ length s.tables → ((t : ℕ) → t < length s.tables → is_root_at s t ≡ true) → (x : RowId) → is_there db x ≡ true → is_kept s db x ≡ true
all_root s db long root = kept_is_largest s db (is_there db) (λ x there. (any-row_ids db x ∙ there, inl (root x.0 (subst (λ n. x.0 < n) long (there_inside db x there)))))

-- who refers to a row is there
pub referrer_there : (s : Schema) (db : Db) (y x : RowId) → refers s db y x ≡ true → is_there db y ≡ true
referrer_there s db y x e = by (row_of db y) e
  where
    by : (o : Option Row) → unwrap_or (option_map (λ r. list_any (same_row x) (strong_of_row s y r)) o) false ≡ true → is_some o ≡ true
    by None e = absurd (true≢false (sym e))
    by (Some r) e = refl

not_true : (b : Bool) → not b ≡ true → b ≡ false
not_true true e = sym e
not_true false e = refl

not_false : (b : Bool) → not b ≡ false → b ≡ true
not_false true e = refl
not_false false e = absurd (true≢false e)

module _ (s : Schema) (db : Db) where
  -- another row refers to it
  pub supported_by : (x y : RowId) → same_row x y ≡ false → refers s db y x ≡ true → has_support s db (row_ids db) x ≡ true
  supported_by x y apart e = or_right (is_root_at s x.0) _ (gives_any (λ y. not (same_row x y) && refers s db y x) (row_ids db) y (member y (row_ids db) (any-row_ids db y ∙ referrer_there s db y x e)) (λ i. not (apart i) && e i))

  pub supported_root : (xs : List RowId) (x : RowId) → is_root_at s x.0 ≡ true → has_support s db xs x ≡ true
  supported_root xs x root = ap (λ b. b || is_referred s db xs x) root

  -- a row of the list that refers to it
  pub supporter_in : (xs : List RowId) (x : RowId) → has_support s db xs x ≡ true → (is_root_at s x.0 ≡ true) ⊎ ((y : RowId) × (list_any (same_row y) xs ≡ true) × (same_row x y ≡ false) × (refers s db y x ≡ true))
  supporter_in xs x e = by (either (is_root_at s x.0) (is_referred s db xs x) e)
    where
      by : (is_root_at s x.0 ≡ true) ⊎ (is_referred s db xs x ≡ true) → (is_root_at s x.0 ≡ true) ⊎ ((y : RowId) × (list_any (same_row y) xs ≡ true) × (same_row x y ≡ false) × (refers s db y x ≡ true))
      by (inl root) = inl root
      by (inr one) =
          let w = any_gives (λ y. not (same_row x y) && refers s db y x) xs one in
          let h = both (not (same_row x w.0)) (refers s db w.0 x) w.2 in
          inr (w.0, gives_any (same_row w.0) xs w.0 w.1 (own_row w.0), not_true (same_row x w.0) h.0, h.1)

  -- where each row has support, each is kept
  pub supported_kept : ((x : RowId) → is_there db x ≡ true → has_support s db (row_ids db) x ≡ true) → db ≡ kept s db
  supported_kept h = all_kept s db (kept_is_largest s db (is_there db) (λ x there. (any-row_ids db x ∙ there, by x (supporter_in (row_ids db) x (h x there)))))
    where
      by : (x : RowId) → (is_root_at s x.0 ≡ true) ⊎ ((y : RowId) × (list_any (same_row y) (row_ids db) ≡ true) × (same_row x y ≡ false) × (refers s db y x ≡ true)) → (is_root_at s x.0 ≡ true) ⊎ ((y : RowId) × (is_there db y ≡ true) × (same_row x y ≡ false) × (refers s db y x ≡ true))
      by x (inl root) = inl root
      by x (inr v) = inr (v.0, referrer_there s db v.0 x v.3, v.2, v.3)

  -- no row but listed ones may lack it, and none is listed
  pub none_waits : (waiting : List RowId) → SupportedBut s db waiting → waiting ≡ [] → db ≡ kept s db
  none_waits waiting h e = supported_kept (λ x there. h x there (ap (list_any (same_row x)) e))

  -- all rows are listed
  pub all_wait : (rows : List RowId) → rows ≡ row_ids db → SupportedBut s db rows
  all_wait rows all x there absent = absurd (true≢false (sym (ap (list_any (same_row x)) all ∙ any-row_ids db x ∙ there) ∙ absent))

-- ---- the rows that may have lost support

module _ (s : Schema) (old now : Db) (touched rows waiting : List RowId) (referred : BTreeSet RowId) (same : SameBut touched old now)
    (settled : (x : RowId) → is_there old x ≡ true → is_kept s old x ≡ true)
    (all : rows ≡ flat_map (hanging s old now) touched)
    (referring : (x : RowId) → contains row_id_cmp referred x ≡ is_newly_referred s old now touched x)
    (others : waiting ≡ filter (λ x. not (supports s referred x)) rows) where
  -- a touched row on which it hung would have it listed
  not_hanging : (x y : RowId) → list_any (same_row x) rows ≡ false → list_any (same_row y) touched ≡ true → list_any (same_row x) (hanging s old now y) ≡ false
  not_hanging x y absent listed = by (list_any (same_row x) (hanging s old now y)) refl
    where
      by : (b : Bool) → list_any (same_row x) (hanging s old now y) ≡ b → b ≡ false
      by true e =
          sym (gives_any (λ z. list_any (same_row x) (hanging s old now z)) touched y (member y touched listed) e)
          ∙ sym (any-flat_map (same_row x) (hanging s old now) touched)
          ∙ ap (list_any (same_row x)) (sym all)
          ∙ absent
      by false e = refl

  -- it isn't new: a new one would be listed
  was_there : (x : RowId) → is_there now x ≡ true → list_any (same_row x) rows ≡ false → is_there old x ≡ true
  was_there x there absent = by (list_any (same_row x) touched) refl (row_of old x) refl
    where
      by : (b : Bool) → list_any (same_row x) touched ≡ b → (o : Option Row) → row_of old x ≡ o → is_some o ≡ true
      by b listed (Some r) e = refl
      by false listed None e = sym (ap is_some e) ∙ sym (ap is_some (same x listed)) ∙ there
      by true listed None e =
          sym (not_hanging x x absent listed)
          ∙ ap (λ o. list_any (same_row x) (unwrap_or (option_map (gained_since s x (row_of now x)) o) (x ∷ []))) e
          ∙ ap (λ b. b || false) (own_row x)

  -- who referred to it does so still
  refers_still : (x y : RowId) → list_any (same_row x) rows ≡ false → refers s old y x ≡ true → refers s now y x ≡ true
  refers_still x y absent e = by (list_any (same_row y) touched) refl
    where
      lost : (o : Option Row) → unwrap_or (option_map (λ r. list_any (same_row x) (strong_of_row s y r)) o) false ≡ true
          → list_any (same_row x) (unwrap_or (option_map (gained_since s y (row_of now y)) o) (y ∷ [])) ≡ false
          → list_any (same_row x) (unwrap_or (option_map (gained_since s y (row_of now y)) o) []) ≡ false
      lost None e f = refl
      lost (Some r) e f = f

      by : (b : Bool) → list_any (same_row y) touched ≡ b → refers s now y x ≡ true
      by true listed = referred_before s now old y x e (lost (row_of old y) e (not_hanging x y absent listed))
      by false listed = ap (λ o. unwrap_or (option_map (λ r. list_any (same_row x) (strong_of_row s y r)) o) false) (same y listed) ∙ e

  supported_still : (x : RowId) → is_there now x ≡ true → list_any (same_row x) rows ≡ false → has_support s now (row_ids now) x ≡ true
  supported_still x there absent = by (kept_is_supported s old x (settled x (was_there x there absent))).1
    where
      by : (is_root_at s x.0 ≡ true) ⊎ ((y : RowId) × (is_kept s old y ≡ true) × (same_row x y ≡ false) × (refers s old y x ≡ true)) → has_support s now (row_ids now) x ≡ true
      by (inl root) = supported_root s now (row_ids now) x root
      by (inr v) = supported_by s now x v.0 v.2 (refers_still x v.0 absent v.3)

  -- to which a touched row gained a reference
  newly_supported : (x : RowId) → supports s referred x ≡ true → has_support s now (row_ids now) x ≡ true
  newly_supported x e = by (either (is_root_at s x.0) (contains row_id_cmp referred x) e)
    where
      by : (is_root_at s x.0 ≡ true) ⊎ (contains row_id_cmp referred x ≡ true) → has_support s now (row_ids now) x ≡ true
      by (inl root) = supported_root s now (row_ids now) x root
      by (inr one) =
          let w = any_gives (λ y. not (same_row x y) && list_any (same_row x) (gained s old now y)) touched (sym (referring x) ∙ one) in
          let h = both (not (same_row x w.0)) (list_any (same_row x) (gained s old now w.0)) w.2 in
          supported_by s now x w.0 (not_true (same_row x w.0) h.0) (gained_refers s old now w.0 x h.1)

  supported_but : SupportedBut s now waiting
  supported_but x there absent = by (list_any (same_row x) rows) refl
    where
      other : (b c : Bool) → (b && not c) ≡ false → b ≡ true → c ≡ true
      other true c e h = not_false c e
      other false c e h = absurd (true≢false (sym h))

      by : (b : Bool) → list_any (same_row x) rows ≡ b → has_support s now (row_ids now) x ≡ true
      by true listed = newly_supported x (other (list_any (same_row x) rows) (supports s referred x) (sym (any-filter (λ y. not (supports s referred y)) x rows) ∙ ap (list_any (same_row x)) (sym others) ∙ absent) listed)
      by false listed = supported_still x there listed

  -- the same rows in another list
  pub supported_but_each : (each : List RowId) → ((x : RowId) → list_any (same_row x) each ≡ list_any (same_row x) waiting) → SupportedBut s now each
  supported_but_each each alike x there absent = supported_but x there (sym (alike x) ∙ absent)
