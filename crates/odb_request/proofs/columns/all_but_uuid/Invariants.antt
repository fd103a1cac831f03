use Rattle.std.proofs.Common.{◌≡◌, ◌∷◌, map}
use Rattle.std.specs.List.{range_with_len}
use Rattle.odb_atoms.specs.Row.{declared, own_version}
use Rattle.odb_cond.specs.Represented.Clause.{selector_of}
use Rattle.odb_request.proofs.columns.all_but_uuid.Given as goal

abbrev pub invariant-loop-place : goal.invariant-loop-place
invariant-loop-place l = map selector_of l.columns.items ≡ own_version ∷ map declared (range_with_len 0 l.place)
