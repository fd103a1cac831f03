use Rattle.std.proofs.Common.{[], ◌∷◌, length, codes, pos, refl, ap, ◌∙◌}
use Rattle.std.proofs.lemmas.Result.{IfOk-weaker}
use Rattle.odb_ops.proofs.Deletes.{counted}
use Rattle.odb_schema.specs.Json.{object_of, of_integer}
use Rattle.odb_ops.proofs.results.count.Goals as goal

pub returns : goal.returns
returns c =
    IfOk-weaker c.counted.result _ _ (λ v h rows keys. h ∙ ap (λ n. object_of ((codes "count", of_integer (pos n)) ∷ [])) (counted c.args.uuids.now rows (length c.args.uuids.now) keys refl)) c.counted.ensures
