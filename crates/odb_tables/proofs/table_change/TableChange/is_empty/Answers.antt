use Rattle.std.proofs.Common.{rules, arith, ◌≡◌, [], not, nat_lt, List, length, sym, ap, ◌∙◌}
use Rattle.std.proofs.lemmas.Bool.Decides.{nat_tests}
use Rattle.std.proofs.lemmas.List.{nil_from_length}
use Rattle.odb_atoms.specs.FinMap as finite
use Rattle.odb_atoms.specs.Uuid.{uuid_cmp}
use Rattle.odb_tables.specs.Change.{Changes}
use Rattle.odb_tables.proofs.KeyedMaps.{len-from_entries}
use Rattle.odb_tables.proofs.Leading.{Entry}
use Rattle.odb_tables.proofs.table_change.TableChange.is_empty.Goals as goal

pub returns-clause-counted : goal.returns-clause-counted
returns-clause-counted c =
    let es : List Entry = c.self.inside.rows.items in
    let some : not c.is_empty.result ≡ nat_lt 0 (length es) = grind (arith, nat_tests) in
    some ∙ ap (nat_lt 0) (sym (len-from_entries es c.self.invariant)) ∙ ap (λ (d : Changes). nat_lt 0 (finite.len d)) c.self.view_is

pub returns-clause-none : goal.returns-clause-none
returns-clause-none c = λ is.
    let es : List Entry = c.self.inside.rows.items in
    let none : es ≡ [] = nil_from_length es (search rules) in
    sym c.self.view_is ∙ ap (λ (xs : List Entry). finite.from_entries {R = uuid_cmp} xs) none
