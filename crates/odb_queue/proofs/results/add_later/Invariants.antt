use Rattle.std.proofs.Common.{◌≡◌, ◌++◌, take}
use Rattle.odb_queue.specs.Represented.Results.{later_texts}
use Rattle.odb_queue.proofs.results.add_later.Given as goal

abbrev pub invariant-loop-result : goal.invariant-loop-result
invariant-loop-result l = l.text.items ≡ l.initial.text.items ++ later_texts (take l.result-index l.results)
