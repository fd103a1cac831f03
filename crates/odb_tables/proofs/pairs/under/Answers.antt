use Rattle.std.proofs.Common.{rules, ◌≡◌, true, map, filter, sym, ap, subst, ◌∙◌}
use Rattle.std.proofs.lemmas.Map.Iter.{iter_end}
use Rattle.std.specs.List.{IsDistinct, list_any}
use Rattle.std.specs.List.Sorted.{IsStrictlySortedBy}
use Rattle.std.specs.Map.Iter.{deref}
use Rattle.std.specs.Ordering.{eq_by_cmp}
use Rattle.odb_atoms.specs.Uuid.{Uuid, uuid_cmp}
use Rattle.odb_tables.specs.Represented.Pairs.{pair_cmp}
use Rattle.odb_tables.proofs.PairSets.{all_under, between, distinct_under, second_of, seconds}
use Rattle.odb_tables.proofs.pairs.under.Goals as goal

pub returns-clause-all : goal.returns-clause-all
returns-clause-all c u h =
    let all : map deref c.loop-pair.yielded ≡ filter (between c.least.result c.greatest.result c.least.ensures c.greatest.ensures c.args.tag) c.args.pairs.now.keys = search (rules, iter_end) in
    let found : c.loop-pair.keys.items ≡ seconds c.least.result c.greatest.result c.least.ensures c.greatest.ensures c.args.tag c.args.pairs.now.keys = c.loop-pair.invariant ∙ second_of c.loop-pair.yielded ∙ ap (map (λ (p : Uuid × Uuid). p.1)) all in
    subst (λ us. list_any (eq_by_cmp uuid_cmp u) us ≡ true) (sym found) (all_under c.least.result c.greatest.result c.least.ensures c.greatest.ensures c.args.tag c.args.pairs.now.keys u h)

pub returns-clause-distinct : goal.returns-clause-distinct
returns-clause-distinct c =
    let all : map deref c.loop-pair.yielded ≡ filter (between c.least.result c.greatest.result c.least.ensures c.greatest.ensures c.args.tag) c.args.pairs.now.keys = search (rules, iter_end) in
    let found : c.loop-pair.keys.items ≡ seconds c.least.result c.greatest.result c.least.ensures c.greatest.ensures c.args.tag c.args.pairs.now.keys = c.loop-pair.invariant ∙ second_of c.loop-pair.yielded ∙ ap (map (λ (p : Uuid × Uuid). p.1)) all in
    let ordered : IsStrictlySortedBy pair_cmp c.args.pairs.now.keys = search rules in
    subst (IsDistinct (eq_by_cmp uuid_cmp)) (sym found) (distinct_under c.least.result c.greatest.result c.least.ensures c.greatest.ensures c.args.tag c.args.pairs.now.keys ordered)
