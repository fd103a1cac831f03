use Rattle.std.proofs.Common.{rules, ◌≡◌, List, ◌++◌, ◌∷◌, [], map, option_to_list, sym, ap, subst, ◌∙◌}
use Rattle.std.proofs.lemmas.List.{map-append}
use Rattle.std.proofs.lemmas.Map.Iter.{iter_end}
use Rattle.std.proofs.lemmas.Map.Keys.{IsDistinct-from_sorted}
use Rattle.odb_atoms.specs.FinMap as finite
use Rattle.odb_atoms.specs.Uuid.{Uuid, uuid_cmp}
use Rattle.odb_tables.specs.Database.{Table}
use Rattle.odb_tables.specs.Represented.RowChange.{change_at}
use Rattle.odb_tables.specs.Represented.TableChange.{AreDistinct}
use Rattle.odb_chain.specs.OldRows.{Rows, at_version}
use Rattle.odb_chain.proofs.Recorded.{distinct_named, listed_map, named, since_listed, sides}
use Rattle.odb_tables.proofs.Leading.{changes-more, changes_of, distinct-changes}
use Rattle.odb_chain.proofs.old_rows.OldRows.changes.Goals as goal

pub loop-key-preserved : goal.loop-key-preserved
loop-key-preserved c =
    let t : Table = c.args.table.now in
    let p = c.args.version in
    let m : Rows = c.args.self.now.rows in
    let u = c.in-Some.key.now in
    let grown : c.add_change.new.rows.items ≡ c.loop-key.rows.items ++ option_to_list (change_at u (at_version p (finite.get t u) (finite.get m u)) (finite.get t u)) = search rules in
    grown ∙ ap (λ xs. xs ++ option_to_list (change_at u (at_version p (finite.get t u) (finite.get m u)) (finite.get t u))) c.loop-key.invariant
    ∙ sym (changes-more (sides p t m) (map (λ k. named p t m k.now) c.loop-key.yielded) (named p t m u))
    ∙ ap (changes_of (sides p t m)) (sym (map-append (λ k. named p t m k.now) c.loop-key.yielded (c.in-Some.key ∷ [])))

pub new-requires : goal.new-requires
new-requires c =
    let t : Table = c.args.table.now in
    let p = c.args.version in
    let m : Rows = c.args.self.now.rows in
    let us : List Uuid = c.args.keys.now.keys in
    let all : map (λ k. k.now) c.loop-key.yielded ≡ us = search (rules, iter_end) in
    let items : c.loop-key.rows.items ≡ changes_of (sides p t m) (map (named p t m) us) = c.loop-key.invariant ∙ ap (changes_of (sides p t m)) (listed_map p t m c.loop-key.yielded ∙ ap (map (named p t m)) all) in
    subst AreDistinct (sym items) (distinct-changes (sides p t m) (map (named p t m) us) (distinct_named p t m us (IsDistinct-from_sorted uuid_cmp us c.len.ensures.ordered)))

pub returns : goal.returns
returns c =
    let t : Table = c.args.table.now in
    let p = c.args.version in
    let m : Rows = c.args.self.now.rows in
    let us : List Uuid = c.args.keys.now.keys in
    let all : map (λ k. k.now) c.loop-key.yielded ≡ us = search (rules, iter_end) in
    let items : c.loop-key.rows.items ≡ changes_of (sides p t m) (map (named p t m) us) = c.loop-key.invariant ∙ ap (changes_of (sides p t m)) (listed_map p t m c.loop-key.yielded ∙ ap (map (named p t m)) all) in
    c.new.ensures ∙ ap finite.from_entries items ∙ since_listed p t m us (IsDistinct-from_sorted uuid_cmp us c.len.ensures.ordered) c.requires
