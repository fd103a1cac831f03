use Rattle.std.proofs.Common.{rules, ◌≡◌, ◌<◌, ◌+◌, ◌||◌, List, ℕ, Bool, true, false, length, map, slice_index_or, take, String, Vec, refl, sym, ap, ◌∙◌}
use Rattle.std.specs.declared.alloc.Global.{Global}
use Rattle.std.specs.List.{list_any}
use Rattle.std.proofs.lemmas.List.Folds.{list_any_at, list_any_more}
use Rattle.odb_atoms.proofs.Lists.{any-map}
use Rattle.odb_atoms.specs.Value.{same_values}
use Rattle.odb_integrity.specs.Settlement.{has_duplicates, has_twins, index_cells, rows_of}
use Rattle.odb_tables.specs.Indexed.{cells_at}
use Rattle.odb_schema.specs.Represented.Names.{names_of}
use Rattle.odb_schema.specs.Schema.{Column}
use Rattle.odb_tables.specs.Database.{Table, table_at}
use Rattle.odb_integrity.proofs.indexes.table_has_duplicates.Goals as goal

twice : List Column → Table → List (List ℕ) → Bool
twice cs t index = has_twins same_values (map (index_cells cs index) (rows_of t))

module _ (cs : List Column) (t : Table) (indexes : List (Vec (String Global) Global)) (i : ℕ) (x : Vec (String Global) Global) (inside : i < length indexes) (is : x ≡ slice_index_or indexes i x) where
  one_twice : twice cs t (names_of x) ≡ true → list_any (twice cs t) (map names_of indexes) ≡ true
  one_twice e = any-map (twice cs t) names_of indexes ∙ list_any_at (λ v. twice cs t (names_of v)) indexes i x inside (ap (λ v. twice cs t (names_of v)) (sym is) ∙ e)

  none_twice : twice cs t (names_of x) ≡ false → list_any (twice cs t) (map names_of (take i indexes)) ≡ false → list_any (twice cs t) (map names_of (take (i + 1) indexes)) ≡ false
  none_twice e before =
      any-map (twice cs t) names_of (take (i + 1) indexes)
      ∙ list_any_more (λ v. twice cs t (names_of v)) indexes i x inside
      ∙ (λ j. (sym (any-map (twice cs t) names_of (take i indexes)) ∙ before) j || (ap (λ v. twice cs t (names_of v)) (sym is) ∙ e) j)

  not_twice : list_any (twice cs t) (map names_of indexes) ≡ false → twice cs t (names_of x) ≡ false
  not_twice none = by (twice cs t (names_of x)) refl
    where
      by : (b : Bool) → twice cs t (names_of x) ≡ b → b ≡ false
      by true e = sym (one_twice e) ∙ none
      by false e = refl

pub returns-then-branch : goal.returns-then-branch
unfolding twice
returns-then-branch c =
    let cs = c.args.table.now.columns in
    let t = table_at c.args.draft.now.now c.args.id in
    let indexes = c.indexes-index-items.result.now in
    let i = c.loop-index.index-index in
    let x = c.index-item.result in
    let inside : i < length indexes = search rules in
    let is : x ≡ slice_index_or indexes i x = search rules in
    let places = c.deref.ensures.value ∙ c.in_ok-places.ensures in
    let answer : c.in_ok-has_twins_at.field-0 ≡ twice cs t (names_of x) = c.in_ok-has_twins_at.ensures ∙ ap (λ ps. has_twins same_values (map (cells_at ps) (rows_of t))) places in
    sym (ap (list_any (twice cs t)) (sym c.indexes-index-items.ensures) ∙ one_twice cs t indexes i x inside is (sym answer ∙ c.if-branch.true))

pub loop-index-preserved : goal.loop-index-preserved
unfolding twice
loop-index-preserved c =
    let cs = c.args.table.now.columns in
    let t = table_at c.args.draft.now.now c.args.id in
    let indexes = c.indexes-index-items.result.now in
    let i = c.loop-index.index-index in
    let x = c.index-item.result in
    let inside : i < length indexes = search rules in
    let is : x ≡ slice_index_or indexes i x = search rules in
    let places = c.deref.ensures.value ∙ c.in_ok-places.ensures in
    let answer : c.in_ok-has_twins_at.field-0 ≡ twice cs t (names_of x) = c.in_ok-has_twins_at.ensures ∙ ap (λ ps. has_twins same_values (map (cells_at ps) (rows_of t))) places in
    none_twice cs t indexes i x inside is (sym answer ∙ c.if-branch.false) c.loop-index.invariant

pub returns-then-is_untouched : goal.returns-then-is_untouched
returns-then-is_untouched c = sym (ap (λ t. has_duplicates (c.args.table.now, t)) (c.is_untouched.ensures c.if-is_untouched.true) ∙ c.requires)

pub has_twins_at-requires : goal.has_twins_at-requires
unfolding twice
has_twins_at-requires c =
    let cs = c.args.table.now.columns in
    let t = table_at c.args.draft.now.old c.args.id in
    let indexes = c.indexes-index-items.result.now in
    let i = c.loop-index.index-index in
    let x = c.index-item.result in
    let inside : i < length indexes = search rules in
    let is : x ≡ slice_index_or indexes i x = search rules in
    let places = c.deref.ensures.value ∙ c.in_ok-places.ensures in
    ap (λ ps. has_twins same_values (map (cells_at ps) (rows_of t))) places ∙ not_twice cs t indexes i x inside is (ap (list_any (twice cs t)) c.indexes-index-items.ensures ∙ c.requires)
