use Rattle.std.proofs.Common.{rules, ◌≡◌, ◌++◌, [], ◌∷◌, true, false, not, cond, nat_lt, sym, ap, ◌∙◌}
use Rattle.std.proofs.lemmas.List.{append-nil}
use Rattle.odb_atoms.specs.FinMap as finite
use Rattle.odb_tables.specs.Change.{Changes}
use Rattle.odb_recent.specs.Undo.{Undo, olds}
use Rattle.odb_recent.proofs.undo.add_rows.Goals as goal

pub returns-then-is_empty : goal.returns-then-is_empty
returns-then-is_empty c =
    let d : Changes = c.args.change.now in
    let ts : Undo = c.args.tables.now.items in
    let is : c.is_empty.result ≡ true = search rules in
    let none : nat_lt 0 (finite.len d) ≡ false = sym c.is_empty.ensures.counted ∙ ap not is in
    sym (ap (λ b. ts ++ cond b ((c.args.table, olds d) ∷ []) []) none ∙ append-nil ts)

pub returns : goal.returns
returns c =
    let d : Changes = c.args.change.now in
    let ts : Undo = c.args.tables.now.items in
    let isnt : c.is_empty.result ≡ false = search rules in
    let some : nat_lt 0 (finite.len d) ≡ true = sym c.is_empty.ensures.counted ∙ ap not isnt in
    let pushed : c.push.new.self.items ≡ ts ++ (c.args.table, olds d) ∷ [] = search rules in
    pushed ∙ sym (ap (λ b. ts ++ cond b ((c.args.table, olds d) ∷ []) []) some)
