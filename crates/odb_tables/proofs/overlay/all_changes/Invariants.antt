use Rattle.std.proofs.Common.{◌≡◌, take}
use Rattle.odb_tables.specs.Change.{change_between}
use Rattle.odb_tables.specs.Represented.Draft.{all_overlaid, grounds}
use Rattle.odb_tables.proofs.overlay.all_changes.Given as goal

abbrev pub invariant-loop-place : goal.invariant-loop-place
invariant-loop-place l = l.tables.items ≡ take l.place (change_between (grounds l.base l.under) (all_overlaid (grounds l.base l.under) l.overlays))
