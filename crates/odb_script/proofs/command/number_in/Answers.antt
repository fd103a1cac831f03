use Rattle.std.proofs.Common.{◌≡◌, ◌+◌, ◌-◌, ◌*◌, ℕ, List, ◌∷◌, drop, get_or, ap, sym, ◌∙◌}
use Rattle.odb_script.specs.Script.{number_in}
use Rattle.odb_script.specs.Represented.Command.{below}
use Rattle.odb_script.proofs.Numbers.{ends_below, next_digit, same_below, too_large}
use Rattle.odb_script.proofs.command.number_in.Goals as goal

pub returns-in_default : goal.returns-in_default
returns-in_default c =
    let n : ℕ = c.loop-digit.number in
    let i : ℕ = c.loop-digit.digit-index in
    let ds : List ℕ = c.args.digits.now in
    let step : drop i ds ≡ get_or ds i 0 ∷ drop (i + 1) ds = next_digit ds i c.loop-digit-test.true in
    too_large 18446744073709551616 n (get_or ds i 0) (drop (i + 1) ds) c.in_default.ensures
    ∙ ap (below 18446744073709551616) (ap (number_in n) (sym step) ∙ c.loop-digit.invariant.1)

pub loop-digit-preserved : goal.loop-digit-preserved
loop-digit-preserved c =
    let n : ℕ = c.loop-digit.number in
    let i : ℕ = c.loop-digit.digit-index in
    let ds : List ℕ = c.args.digits.now in
    let step : drop i ds ≡ get_or ds i 0 ∷ drop (i + 1) ds = next_digit ds i c.loop-digit-test.true in
    let longer = same_below 18446744073709551616 (10 * n + (get_or ds i 0 - 48)) c.in-Some.longer c.in-Some.ensures in
    (longer.0, ap (λ m. number_in m (drop (i + 1) ds)) longer.1 ∙ ap (number_in n) (sym step) ∙ c.loop-digit.invariant.1)

pub returns : goal.returns
returns c = ends_below 18446744073709551616 c.loop-digit.number c.loop-digit.digit-index c.args.digits.now c.loop-digit-test.false c.loop-digit.invariant.0 c.loop-digit.invariant.1
