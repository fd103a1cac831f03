use Rattle.std.proofs.Common.{rules, ◌≡◌, ◌-◌, ◌<◌, List, length, nat_le, slice_get, slice_set, None, Some, cond, true, false, refl, sym, ap, ◌∙◌}
use Rattle.std.proofs.lemmas.Option.{slice_get_read}
use Rattle.std.specs.List.{position, remove}
use Rattle.odb_chain.proofs.MarkedVersions.{MarkedVersion, is_at, nowhere, somewhere}
use Rattle.odb_chain.proofs.chain.take_in.Goals as goal

pub returns-in_default : goal.returns-in_default
returns-in_default c =
    let ls : List MarkedVersion = c.args.live.now.items in
    let none : position (is_at c.args.version) ls ≡ None = search rules in
    sym (nowhere c.args.version ls none)

pub returns-then-marks-gt1 : goal.returns-then-marks-gt1
returns-then-marks-gt1 c =
    let ls : List MarkedVersion = c.args.live.now.items in
    let l : MarkedVersion = c.index.result.now in
    let i = c.in-Some.index in
    let at : position (is_at c.args.version) ls ≡ Some i = search rules in
    let low : i < length ls = search rules in
    let there : slice_get ls i ≡ Some l = slice_get_read ls (length ls) i l refl low (search rules) in
    let many : nat_le l.1 1 ≡ false = search rules in
    search rules ∙ sym (ap (λ b. cond b (remove ls i) (slice_set ls i (l.0, l.1 - 1))) many) ∙ sym (somewhere c.args.version ls i l at there)

pub returns-else-marks-gt1 : goal.returns-else-marks-gt1
returns-else-marks-gt1 c =
    let ls : List MarkedVersion = c.args.live.now.items in
    let l : MarkedVersion = c.index.result.now in
    let i = c.in-Some.index in
    let at : position (is_at c.args.version) ls ≡ Some i = search rules in
    let low : i < length ls = search rules in
    let there : slice_get ls i ≡ Some l = slice_get_read ls (length ls) i l refl low (search rules) in
    let few : nat_le l.1 1 ≡ true = search rules in
    let gone : c.remove.new.self.items ≡ remove ls i = search rules in
    gone ∙ sym (ap (λ b. cond b (remove ls i) (slice_set ls i (l.0, l.1 - 1))) few) ∙ sym (somewhere c.args.version ls i l at there)
