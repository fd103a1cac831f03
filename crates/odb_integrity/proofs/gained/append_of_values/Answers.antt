use Rattle.std.proofs.Common.{rules, ◌≡◌, false, true}
use Rattle.odb_atoms.specs.Represented.ColType.{type_of}
use Rattle.odb_atoms.specs.Value.{same_value}
use Rattle.odb_integrity.specs.Gained.{has_strong}
use Rattle.odb_integrity.proofs.Differing.{none_appended, same_appended, same_back}
use Rattle.odb_integrity.proofs.gained.append_of_values.Goals as goal

pub returns-then-not-has_strong-clause-lost : goal.returns-then-not-has_strong-clause-lost
returns-then-not-has_strong-clause-lost c =
    let t = type_of c.args.column.now in
    let none : has_strong t ≡ false = search rules in
    none_appended c.args.schema.now t c.args.now.now c.args.before.now c.args.lost.now.items none

pub returns-then-not-has_strong-clause-gained : goal.returns-then-not-has_strong-clause-gained
returns-then-not-has_strong-clause-gained c =
    let t = type_of c.args.column.now in
    let none : has_strong t ≡ false = search rules in
    none_appended c.args.schema.now t c.args.before.now c.args.now.now c.args.gained.now.items none

pub returns-then-eq-clause-lost : goal.returns-then-eq-clause-lost
returns-then-eq-clause-lost c =
    let t = type_of c.args.column.now in
    let same : same_value c.args.before.now c.args.now.now ≡ true = search rules in
    same_appended c.args.schema.now t c.args.now.now c.args.before.now c.args.lost.now.items (same_back c.args.schema.now t c.args.before.now c.args.now.now same)

pub returns-then-eq-clause-gained : goal.returns-then-eq-clause-gained
returns-then-eq-clause-gained c =
    let t = type_of c.args.column.now in
    let same : same_value c.args.before.now c.args.now.now ≡ true = search rules in
    same_appended c.args.schema.now t c.args.before.now c.args.now.now c.args.gained.now.items same
