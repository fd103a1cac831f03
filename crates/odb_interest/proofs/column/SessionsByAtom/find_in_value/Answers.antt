use Rattle.std.proofs.lemmas.Result.{on_ok_weaker}
use Rattle.odb_interest.specs.Represented.SessionsByAtom.{names}
use Rattle.odb_interest.proofs.Growing.{same_test}
use Rattle.odb_interest.proofs.Listed.{any-keys_listed, any-listed}
use Rattle.odb_interest.proofs.column.SessionsByAtom.find_in_value.Goals as goal

pub returns-in-Set : goal.returns-in-Set
returns-in-Set c = on_ok_weaker c.find_each.result (same_test _ _ _ _ (λ s. any-listed (λ a. names c.args.self.now a s) c.in-Set.atoms c.args.value.now c.in-Set.ensures.listed)) c.find_each.ensures

pub returns-in-Map : goal.returns-in-Map
returns-in-Map c = on_ok_weaker c.find_each_key.result (same_test _ _ _ _ (λ s. any-keys_listed (λ a. names c.args.self.now a s) c.in-Map.pairs c.args.value.now c.in-Map.ensures.listed)) c.find_each_key.ensures
