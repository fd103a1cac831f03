-- Selected columns of the rows that match.
use Rattle.std.specs.Prelude.{◌≡◌, Bool, true, false, cond, List, [], ◌∷◌, ◌++◌, flat_map, map as map_list, option_to_list, Option, Some, None, option_and_then, option_map}
use Rattle.std.proofs.lemmas.Option.{none-some}
use mathlib.Core.Path.{refl, sym, ap, ◌∙◌}
use mathlib.Core.Logic.{inl, inr}
use Rattle.odb_atoms.specs.FinMap as map
use Rattle.odb_atoms.specs.Row.{Row, Selector, cell}
use Rattle.odb_atoms.specs.Uuid.{Uuid}
use Rattle.odb_atoms.proofs.Atoms.{uuid_cmp-IsAntisymmetric}
use Rattle.odb_atoms.proofs.EachEntry.{get-entry}
use Rattle.odb_atoms.proofs.FinMaps.{get-map_entries}
use Rattle.odb_atoms.proofs.Lists.{Member}
use Rattle.odb_cond.specs.Condition.{Clause, holds_all}
use Rattle.odb_cond.specs.Represented.Clause.{selector_of}
use Rattle.odb_cond.specs.declared.clause.Selector as code
use Rattle.odb_ops.specs.Execution.{project, selected}
use Rattle.odb_ops.specs.Represented.Cells.{cells_at}
use Rattle.odb_tables.specs.Database.{Table}
use Rattle.odb_tables.specs.Matching.{matching}
use Rattle.odb_tables.specs.Represented.Key.{uuid_cmp_total}

pub projected : (columns : List code.Selector) (u : Uuid) (r : Row) → map_list (λ c. cell u r (selector_of c)) columns ≡ project (map_list selector_of columns) u r
projected [] u r = refl
projected (c ∷ cs) u r = ap (λ vs. cell u r (selector_of c) ∷ vs) (projected cs u r)

pub in_table : (clauses : List Clause) (table : Table) (u : Uuid) (r : Row) → map.get (matching clauses table) u ≡ Some r → map.get table u ≡ Some r
in_table clauses table u r e = by (map.get table u) (sym (get-map_entries uuid_cmp_total uuid_cmp-IsAntisymmetric (λ u r. cond (holds_all clauses u r) (Some r) None) table u) ∙ e)
  where
    kept : (b : Bool) (q : Row) → cond b (Some q) None ≡ Some r → Some q ≡ Some r
    kept true q e = e
    kept false q e = absurd (none-some r e)

    by : (o : Option Row) → option_and_then (λ q. cond (holds_all clauses u q) (Some q) None) o ≡ Some r → o ≡ Some r
    by None e = absurd (none-some r e)
    by (Some q) e = kept (holds_all clauses u q) q e

one_by_one : (columns : List Selector) (table : Table) (es : List (Uuid × Row)) → ((e : Uuid × Row) → Member e es → map.get table e.0 ≡ Some e.1) → flat_map (cells_at columns table) (map_list (λ e. e.0) es) ≡ map_list (λ e. project columns e.0 e.1) es
one_by_one columns table [] h = refl
one_by_one columns table (e ∷ es) h =
    (λ i. option_to_list (option_map (project columns e.0) (h e (inl refl) i)) ++ flat_map (cells_at columns table) (map_list (λ e. e.0) es))
    ∙ ap (λ rows. project columns e.0 e.1 ∷ rows) (one_by_one columns table es (λ f m. h f (inr m)))

-- the rows by their identifiers
pub selected-keys : (columns : List Selector) (clauses : List Clause) (table : Table) → flat_map (cells_at columns table) (map.keys (matching clauses table)) ≡ selected columns (matching clauses table)
unfolding map.keys
selected-keys columns clauses table =
    let found : Table = matching clauses table in
    one_by_one columns table found.entries (λ e m. in_table clauses table e.0 e.1 (get-entry uuid_cmp_total found e m))
