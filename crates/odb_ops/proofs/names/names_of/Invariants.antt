use Rattle.std.proofs.Common.{◌≡◌, ℕ, List, drop, map}
use Rattle.std.specs.Option.{option_or}
use Rattle.serde_json.specs.View.{view}
use Rattle.odb_atoms.specs.FinMap as finite
use Rattle.odb_atoms.specs.Represented.Atom.{uuid_of}
use Rattle.odb_ops.specs.Execution as model
use Rattle.odb_ops.proofs.names.names_of.Given as goal

abbrev pub invariant-loop-operation : goal.invariant-loop-operation
invariant-loop-operation l =
    (q : List ℕ) → option_or (finite.get l.names q) (finite.get (model.names_of (map view (drop l.operation-index l.operations)) (map uuid_of l.left)) q)
    ≡ finite.get (model.names_of (map view l.operations) (map uuid_of l.fresh)) q
