use Rattle.std.proofs.Common.{rules, ◌≡◌, ◌+◌, ◌∷◌, [], ◌++◌, map, ap, ◌∙◌}
use Rattle.std.proofs.lemmas.List.{map-append}
use Rattle.odb_atoms.specs.Represented.Atom.{uuid_of}
use Rattle.odb_script.specs.Script.{script_uuid}
use Rattle.odb_script.proofs.Identifiers.{fresh_next}
use Rattle.odb_script.proofs.fresh.fresh_uuids.Goals as goal

pub loop-later-preserved : goal.loop-later-preserved
loop-later-preserved c =
    let number : c.in_ok-number.number ≡ c.args.counted + (c.loop-later.later + 1) = search rules in
    let grown : c.push.new.self.items ≡ c.loop-later.fresh.items ++ c.uuid_of_insert.result ∷ [] = search rules in
    let more : map uuid_of c.push.new.self.items ≡ map uuid_of c.loop-later.fresh.items ++ script_uuid c.in_ok-number.number ∷ [] =
    ap (map uuid_of) grown ∙ map-append uuid_of c.loop-later.fresh.items (c.uuid_of_insert.result ∷ []) ∙ ap (λ u. map uuid_of c.loop-later.fresh.items ++ u ∷ []) c.uuid_of_insert.ensures in
    fresh_next _ _ _ _ _ c.loop-later.invariant number more
