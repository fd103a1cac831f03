use Rattle.std.proofs.Common.{rules, ◌≡◌, ◌++◌, ◌∷◌, []}
use Rattle.serde_json.specs.Written.{compact_text}
use Rattle.odb_queue.proofs.ResultTexts.{later_more}
use Rattle.odb_queue.proofs.results.add_later.Goals as goal

pub loop-result-preserved : goal.loop-result-preserved
loop-result-preserved c =
    let d = c.result-item.result in
    let more : c.extend_from_slice.new.self.items ≡ (c.loop-result.text.items ++ 44 ∷ []) ++ compact_text d = search rules in
    later_more c.args.results.now c.loop-result.result-index d c.args.text.now.items c.loop-result.text.items c.extend_from_slice.new.self.items c.loop-result-test.true c.result-item.is c.loop-result.invariant more
