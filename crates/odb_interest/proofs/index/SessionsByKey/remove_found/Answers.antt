use mathlib.Core.Path.{sym, ◌∙◌}
use Rattle.odb_interest.specs.Represented.Key.{key_in}
use Rattle.odb_interest.proofs.Agreeing.{none_found_out, put_found_out}
use Rattle.odb_interest.proofs.index.SessionsByKey.remove_found.Goals as goal

pub returns-then-has : goal.returns-then-has
returns-then-has c = put_found_out c.args.table c.args.session c.args.self.now c.remove.new.self c.args.found.now (key_in c.args.key) (sym c.has.ensures ∙ c.if-has.true) c.remove.ensures

pub returns-else-has : goal.returns-else-has
returns-else-has c = none_found_out c.args.table c.args.session c.args.self.now c.args.found.now (key_in c.args.key) (sym c.has.ensures ∙ c.if-has.false)
