use Rattle.std.proofs.Common.{◌≡◌, ◌∙◌, Bool, List, ℕ, Bor, filter, map, ap, sym}
use Rattle.odb_atoms.specs.Represented.Atom.{uuid_of}
use Rattle.odb_atoms.specs.Row.{Row}
use Rattle.odb_cond.specs.Filter.{selects}
use Rattle.rayon.specs.Lists.{iter_slice}
use Rattle.rayon.proofs.ListFacts.{IfOk-then}
use Rattle.rayon.proofs.ToStd.{answers-by_ref, filter-map, filter_by_mask-filter}
use Rattle.odb_tables.specs.Represented.Table.{listed}
use Rattle.odb_par.proofs.Crossing.{rows_cross}
use Rattle.odb_par.proofs.scan.selected_rows.Goals as goal

pub copied-requires : goal.copied-requires
copied-requires g c κs = search rows_cross depth 20

pub returns : goal.returns
returns g c =
    let rows : List (List ℕ × Bor Row) = c.args.rows.now in
    let f = c.args.filter.now in
    let passes : List ℕ × Bor Row → Bool = λ row. selects f (uuid_of row.0) row.1.now in
    IfOk-then c.collect.result _ _ c.collect.ensures (λ found h.
    let chain = rw (c.filter.ensures.base, c.filter.ensures.f) at h.1 in
    let items : chain.0 ≡ rows = chain.2.2 ∙ chain.2.1 ∙ ap iter_slice c.copied.ensures ∙ c.par_iter.ensures in
    let passing : found.items ≡ filter passes rows = h.2 ∙ chain.4 ∙ filter_by_mask-filter passes chain.0 chain.1 (answers-by_ref passes chain.0 chain.1 chain.3) ∙ ap (filter passes) items in
    ap (map listed) passing ∙ sym (filter-map (λ e. selects f e.0 e.1) listed rows))
