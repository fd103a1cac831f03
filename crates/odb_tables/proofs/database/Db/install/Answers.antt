use Rattle.std.proofs.Common.{rules, ◌≡◌, List, length, refl, sym, ap, subst, ◌∙◌}
use Rattle.odb_tables.specs.Change.{Changes, all_changed_by}
use Rattle.odb_tables.specs.Database.{Db}
use Rattle.odb_tables.specs.Installing.{IsChangeOf}
use Rattle.odb_tables.specs.Represented.Installed.{each_table, put_in, replaced, taken_back}
use Rattle.odb_tables.specs.Represented.RowIndex.{AreIndexesOf, AreReady}
use Rattle.odb_tables.proofs.Installs.{all-made, all-unmade, length-changed}
use Rattle.odb_tables.proofs.database.Db.install.Goals as goal

pub invariant_of-self : goal.invariant_of-self
invariant_of-self c =
    let db : Db = c.self.inside.tables.items in
    let is : IsChangeOf db c.args.change = subst (λ (d : Db). IsChangeOf d c.args.change) (sym c.self.view_is) c.requires in
    let here : IsChangeOf db c.tables-then-is_err.result.now = subst (λ (cs : List Changes). IsChangeOf db cs) (sym c.tables-then-is_err.ensures) is in
    c.cut.ensures.taken_back refl db here (c.add_new_tags.ensures.still db c.self.invariant)

pub returns-then-is_err-2-clause-err : goal.returns-then-is_err-2-clause-err
returns-then-is_err-2-clause-err c =
    let db : Db = c.args.self.now in
    let cs : List Changes = c.args.change in
    let back : c.take_back.new.tables.items ≡ each_table taken_back c.put_in.new.tables.items cs = search rules in
    let kept : each_table taken_back c.put_in.new.tables.items cs ≡ each_table taken_back c.self.inside.tables.items cs = search rules in
    back ∙ kept ∙ ap (λ (d : Db). each_table taken_back d cs) c.self.view_is ∙ all-unmade db cs c.requires

pub returns-then-is_err-2-clause-same_tables : goal.returns-then-is_err-2-clause-same_tables
returns-then-is_err-2-clause-same_tables c = ap length (returns-then-is_err-2-clause-err c)

pub invariant_of-self-then-is_err-2 : goal.invariant_of-self-then-is_err-2
invariant_of-self-then-is_err-2 c =
    let db : Db = c.self.inside.tables.items in
    let is : IsChangeOf db c.args.change = subst (λ (d : Db). IsChangeOf d c.args.change) (sym c.self.view_is) c.requires in
    let here : IsChangeOf db c.tables-then-is_err-2-2.result.now = subst (λ (cs : List Changes). IsChangeOf db cs) (sym c.tables-then-is_err-2-2.ensures) is in
    subst (λ (d : Db). AreIndexesOf d c.cut-then-is_err-2.new.indexes.items) (sym (returns-then-is_err-2-clause-err c ∙ sym c.self.view_is)) (c.cut-then-is_err-2.ensures.taken_back refl db here (c.add_new_tags.ensures.still db c.self.invariant))

pub returns-clause-ok : goal.returns-clause-ok
returns-clause-ok c =
    let db : Db = c.args.self.now in
    let cs : List Changes = c.args.change in
    let done : c.replace_old_rows.new.tables.items ≡ each_table replaced c.put_in.new.tables.items cs = search rules in
    let put : c.put_in.new.tables.items ≡ each_table put_in c.self.inside.tables.items cs = search rules in
    done ∙ ap (λ (d : Db). each_table replaced d cs) (put ∙ ap (λ (d : Db). each_table put_in d cs) c.self.view_is) ∙ all-made db cs c.requires

pub returns-clause-same_tables : goal.returns-clause-same_tables
returns-clause-same_tables c = ap length (returns-clause-ok c) ∙ length-changed c.args.self.now c.args.change c.requires

pub invariant_of-self-2 : goal.invariant_of-self-2
invariant_of-self-2 c =
    let db : Db = c.args.self.now in
    let kept : AreIndexesOf db c.self.inside.indexes.items = subst (λ (d : Db). AreIndexesOf d c.self.inside.indexes.items) c.self.view_is c.self.invariant in
    let ready : (d : Db) → IsChangeOf d c.tables.result.now → AreIndexesOf d c.self.inside.indexes.items → AreReady d c.tables.result.now c.add_new_tags.new.indexes.items = search rules in
    let first : IsChangeOf db c.tables.result.now = subst (λ (cs : List Changes). IsChangeOf db cs) (sym c.tables.ensures) c.requires in
    let same : c.tables.result.now ≡ c.tables-3.result.now = c.tables.ensures ∙ sym c.tables-3.ensures in
    let here : IsChangeOf db c.tables-3.result.now = subst (λ (cs : List Changes). IsChangeOf db cs) same first in
    let changed : AreIndexesOf (all_changed_by db c.tables-3.result.now) c.cut-2.new.indexes.items = c.cut-2.ensures.made refl db here (subst (λ (cs : List Changes). AreReady db cs c.add_new_tags.new.indexes.items) same (ready db first kept)) in
    subst (λ (d : Db). AreIndexesOf d c.cut-2.new.indexes.items) (ap (λ (cs : List Changes). all_changed_by db cs) c.tables-3.ensures ∙ sym (returns-clause-ok c)) changed
