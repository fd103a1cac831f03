-- New filters that are taken out one by one, each for its table.
use Rattle.std.proofs.Common.{◌≡◌, ℕ, zero, suc, ◌+◌, ◌<◌, ◌≤◌, arith, Bool, true, false, cond, not, ◌&&◌, nat_lt, List, [], ◌∷◌, length, map, slice_index_or, Option, Some, None, refl, sym, ap, ◌∙◌, true≢false}
use Rattle.std.specs.Prelude.{bytes_eq}
use Rattle.std.proofs.lemmas.List.Quantifiers.{position-Some}
use Rattle.std.proofs.lemmas.Bool.Decides.{nat_tests}
use Rattle.std.proofs.lemmas.Option.{none-some}
use Rattle.std.proofs.lemmas.Slice.Eq.{bytes_eq-Decides}
use Rattle.std.specs.Arc.{arc_value}
use Rattle.std.specs.List.{list_all, position, position_or_len, remove}
use Rattle.odb_cond.specs.Filter.{Filter}
use Rattle.odb_request.specs.Request.{Request}
use Rattle.odb_request.specs.Represented.Change.{change_of}
use Rattle.odb_request.specs.Represented.Shape.{table_name}
use Rattle.odb_request.specs.declared.change.Change.{Change}
use Rattle.odb_schema.specs.Schema.{Schema}
use Rattle.odb_service.specs.Session.{drop_first, filter_of}
use Rattle.odb_sessions.specs.Composed.{asked_of}
use Rattle.odb_sessions.specs.Marked.{Watched}
use Rattle.odb_sessions.specs.Started.{AreApart}
use Rattle.odb_sessions.proofs.NamedReplays.{gone_found}

abbrev pub Filters : Type 0
Filters = List (List ℕ × Filter)

-- ---- one that is taken out

module _ (s : Schema) (name : List ℕ) where
  abbrev pub is_for : Change → Bool
  is_for c = bytes_eq (table_name s c.table) name

  abbrev named : List Change → Filters
  named cs = map (change_of s) cs

  at_place : (cs : List Change) (k : ℕ) (d : Change) (f : Filter) → k < length cs → is_for (slice_index_or cs k d) ≡ true → ((j : ℕ) → j < k → is_for (slice_index_or cs j d) ≡ false) → arc_value (slice_index_or cs k d).filter ≡ filter_of (named cs) name f
  at_place [] k d f low here before = absurd (omega (arith, low))
  at_place (c ∷ cs) zero d f low here before = ap (λ b. cond b (arc_value c.filter) (filter_of (named cs) name f)) (sym here)
  at_place (c ∷ cs) (suc k) d f low here before =
      at_place cs k d f (omega (arith, low)) here (λ j early. before (suc j) (omega (arith, early)))
      ∙ ap (λ b. cond b (arc_value c.filter) (filter_of (named cs) name f)) (sym (before 0 (omega arith)))

  pub taken_filter : (cs : List Change) (k : ℕ) (c : Change) (f : Filter) → position is_for cs ≡ Some k → c ≡ slice_index_or cs k c → arc_value c.filter ≡ filter_of (named cs) name f
  taken_filter cs k c f e at =
      let found : (k < length cs) × (is_for (slice_index_or cs k c) ≡ true) × ((j : ℕ) → j < k → is_for (slice_index_or cs j c) ≡ false) = position-Some is_for cs k c e in
      ap (λ (d : Change). arc_value d.filter) at ∙ at_place cs k c f found.0 found.1 found.2

  not_there : (cs : List Change) (f : Filter) → length cs ≤ position_or_len is_for cs → f ≡ filter_of (named cs) name f
  not_there [] f past = refl
  not_there (c ∷ cs) f past = by (is_for c) past (not_there cs f)
    where
      n : ℕ
      n = position_or_len is_for cs

      by : (b : Bool) → suc (length cs) ≤ cond (not b) (1 + n) 0 → (length cs ≤ n → f ≡ filter_of (named cs) name f) → f ≡ cond b (arc_value c.filter) (filter_of (named cs) name f)
      by true past rest = absurd (omega (arith, past))
      by false past rest = rest (omega (arith, past))

  pub no_filter : (cs : List Change) (f : Filter) → position is_for cs ≡ None → f ≡ filter_of (named cs) name f
  no_filter cs f e = by (nat_lt (position_or_len is_for cs) (length cs)) refl e
    where
      by : (b : Bool) → nat_lt (position_or_len is_for cs) (length cs) ≡ b → (let o : Option ℕ = cond b (Some (position_or_len is_for cs)) None in o) ≡ None → f ≡ filter_of (named cs) name f
      by true is e = absurd (none-some (position_or_len is_for cs) (sym e))
      by false is e = not_there cs f (grind (arith, nat_tests))

  -- other tables have the filters that they had
  without : (cs : List Change) (n : List ℕ) (f : Filter) → bytes_eq name n ≡ false → filter_of (named (drop_first is_for cs)) n f ≡ filter_of (named cs) n f
  without [] n f other = refl
  without (c ∷ cs) n f other = by (is_for c) refl (without cs n f other)
    where
      by : (b : Bool) → is_for c ≡ b → filter_of (named (drop_first is_for cs)) n f ≡ filter_of (named cs) n f
          → filter_of (named (cond b cs (c ∷ drop_first is_for cs))) n f ≡ cond (bytes_eq (table_name s c.table) n) (arc_value c.filter) (filter_of (named cs) n f)
      by true is rest =
          let same : table_name s c.table ≡ name = (bytes_eq-Decides (table_name s c.table) name).0 is in
          ap (λ b. cond b (arc_value c.filter) (filter_of (named cs) n f)) (sym (ap (λ m. bytes_eq m n) same ∙ other))
      by false is rest = ap (λ (g : Filter). cond (bytes_eq (table_name s c.table) n) (arc_value c.filter) g) rest

  pub others_stay : (cs : List Change) (k : ℕ) (n : List ℕ) (f : Filter) → position is_for cs ≡ Some k → bytes_eq name n ≡ false → filter_of (named (remove cs k)) n f ≡ filter_of (named cs) n f
  others_stay cs k n f e other = ap (λ ds. filter_of (named ds) n f) (sym (gone_found is_for cs k e)) ∙ without cs n f other

-- ---- for all tables that are left

abbrev pub SameFor : Filters → Filters → List Watched → Type 0
SameFor fs gs [] = Unit {0}
SameFor fs gs (w ∷ ws) = ((f : Filter) → filter_of gs w.request.shape.name f ≡ filter_of fs w.request.shape.name f) × SameFor fs gs ws

pub same_first : (fs : Filters) (ws : List Watched) → SameFor fs fs ws
same_first fs [] = tt
same_first fs (w ∷ ws) = (λ f. refl, same_first fs ws)

apart_first : (a b : Bool) → (a && b) ≡ true → (a ≡ true) × (b ≡ true)
apart_first true b is = (refl, is)
apart_first false b is = absurd (true≢false (sym is))

turned_not : (a : Bool) → not a ≡ true → a ≡ false
turned_not true is = absurd (true≢false (sym is))
turned_not false is = refl

pub apart_rest : (w : Watched) (ws : List Watched) → AreApart (asked_of (w ∷ ws)) → AreApart (asked_of ws)
apart_rest w ws h = (apart_first _ _ h).1

pub same_rest : (fs gs hs : Filters) (w : Watched) (ws : List Watched) → AreApart (asked_of (w ∷ ws)) → SameFor fs gs (w ∷ ws)
    → ((n : List ℕ) (f : Filter) → bytes_eq w.request.shape.name n ≡ false → filter_of hs n f ≡ filter_of gs n f) → SameFor fs hs ws
same_rest fs gs hs w ws apart same others = by ws (apart_first _ _ apart).0 same.1
  where
    name : List ℕ
    name = w.request.shape.name

    by : (vs : List Watched) → list_all (λ n. not (bytes_eq name n)) (map (λ (q : Request). q.shape.name) (asked_of vs)) ≡ true → SameFor fs gs vs → SameFor fs hs vs
    by [] h s = tt
    by (v ∷ vs) h s =
        let both : (not (bytes_eq name v.request.shape.name) ≡ true) × (list_all (λ n. not (bytes_eq name n)) (map (λ (q : Request). q.shape.name) (asked_of vs)) ≡ true) = apart_first _ _ h in
        (λ f. others v.request.shape.name f (turned_not _ both.0) ∙ s.0 f, by vs both.1 s.1)
