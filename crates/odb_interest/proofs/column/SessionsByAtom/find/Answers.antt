use Rattle.std.proofs.Common.{rules, ◌≡◌, ◌<◌, length, get_or}
use Rattle.std.specs.BTreeMap.{btree_map_len}
use Rattle.std.specs.Option.{option_copied}
use Rattle.std.specs.Prelude.{◌||◌}
use Rattle.odb_atoms.specs.Represented.Atom.{uuid_of}
use Rattle.odb_cond.specs.Represented.Clause.{selector_of}
use Rattle.odb_interest.specs.Represented.Found.{Grows, RowChange, names_in, names_some}
use Rattle.odb_interest.proofs.Growing.{nothing, one_more, same_test, twice}
use Rattle.odb_interest.proofs.Listed.{none_in_rows}
use Rattle.odb_interest.proofs.column.SessionsByAtom.find.Goals as goal

pub returns-then-is_empty : goal.returns-then-is_empty
returns-then-is_empty c =
    let empty : btree_map_len c.args.self.now.sessions ≡ 0 = search rules in
    let at = selector_of c.args.column in
    nothing c.args.found.now (names_some c.args.self.now at c.args.rows.now) (none_in_rows c.args.self.now empty at c.args.rows.now)

pub loop-row-preserved : goal.loop-row-preserved
loop-row-preserved c =
    let self = c.args.self.now in
    let at = selector_of c.args.column in
    let rows = c.args.rows.now in
    let i = c.loop-row.row-index in
    let e : RowChange = c.row-item.result in
    let old = c.loop-row.found in
    let mid = c.find_in_row.new.found in
    let new = c.find_in_row-in-loop-row.new.found in
    let inside : i < length rows = search rules in
    let is : e ≡ get_or rows i e = search rules in
    let first : Grows old mid (names_in self at (uuid_of c.uuid.result) (option_copied c.old.result)) = search rules in
    let second : Grows mid new (names_in self at (uuid_of c.uuid-in-loop-row.result) (option_copied c.new.result)) = search rules in
    one_more (λ s (x : RowChange). names_in self at x.0 x.1.0 s || names_in self at x.0 x.1.1 s) c.args.found.now old new rows i e inside is c.loop-row.invariant
    (twice old mid new (names_in self at e.0 e.1.0) (names_in self at e.0 e.1.1)
    (same_test old mid _ _ (λ s i. names_in self at (c.uuid.ensures i) (c.old.ensures i) s) first)
    (same_test mid new _ _ (λ s i. names_in self at (c.uuid-in-loop-row.ensures i) (c.new.ensures i) s) second))
