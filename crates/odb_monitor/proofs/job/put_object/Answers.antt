use Rattle.std.proofs.Common.{rules, ◌≡◌, ◌∙◌, ◌++◌, ◌∷◌, [], flat_map}
use Rattle.json.specs.Token.{begin_object, end_object}
use Rattle.odb_monitor.specs.Represented.Part.{part_tokens}
use Rattle.odb_print.proofs.Tokens.{around}
use Rattle.odb_request.specs.Represented.Notation.{notation_of}
use Rattle.odb_monitor.proofs.job.put_object.Goals as goal

pub returns-clause-tokens : goal.returns-clause-tokens
returns-clause-tokens c =
    let old = c.args.out.now in
    let ts = flat_map (part_tokens (notation_of c.args.notation) c.args.first) c.args.parts.now in
    let built : c.put-2.new.self ≡ ((old ++ begin_object ∷ []) ++ ts) ++ end_object ∷ [] = search rules in
    built ∙ around old ts begin_object end_object
