use Rattle.std.proofs.Common.{◌≡◌, ◌++◌, flat_map, not, take}
use Rattle.std.specs.List.{list_any}
use Rattle.odb_monitor.specs.Represented.Part.{is_silent, part_tokens}
use Rattle.odb_request.specs.Represented.Notation.{notation_of}
use Rattle.odb_monitor.proofs.job.put_parts.Given as goal

abbrev pub invariant-loop-part : goal.invariant-loop-part
invariant-loop-part l = (l.out ≡ l.initial.out ++ flat_map (part_tokens (notation_of l.notation) l.first) (take l.part-index l.parts)) × (l.shown ≡ list_any (λ p. not (is_silent l.first p)) (take l.part-index l.parts))
