use Rattle.std.proofs.Common.{sym, ap, ◌∙◌, map, option_map, Ok}
use Rattle.serde_json.specs.View.{items_view}
use Rattle.odb_atoms.specs.FinMap.{from_entries}
use Rattle.odb_atoms.specs.Represented.Atom.{kind_in}
use Rattle.odb_atoms.specs.Represented.Error.{error_of}
use Rattle.odb_atoms.specs.Represented.Refused.{list_fault_of}
use Rattle.odb_atoms.specs.Represented.Value.{pair_of}
use Rattle.odb_json.specs.Represented.Parts.{map_value}
use Rattle.odb_json.proofs.Fronts.{answer}
use Rattle.odb_json.proofs.Maps.{pairs_made, pairs_twice}
use Rattle.odb_json.proofs.pairs.PairReader.read_pairs.Goals as goal

pub returns-in_default : goal.returns-in_default
returns-in_default c =
    pairs_twice (option_map (λ n. n.now) c.args.self.names) (kind_in c.args.self.kinds.key) (kind_in c.args.self.kinds.value) (items_view c.args.items.now) (map pair_of c.in_ok-front.front.pairs.items) (option_map error_of c.in_ok-front.front.fault) c.in_ok-front.ensures.pairs c.in_ok-front.ensures.fault (list_fault_of c.in_default.field-0.fault) c.in_default.ensures.fault

pub returns-in-None : goal.returns-in-None
returns-in-None c =
    pairs_made (option_map (λ n. n.now) c.args.self.names) (kind_in c.args.self.kinds.key) (kind_in c.args.self.kinds.value) (items_view c.args.items.now) (map pair_of c.in_ok-front.front.pairs.items) (option_map error_of c.in_ok-front.front.fault) c.in_ok-front.ensures.pairs c.in_ok-front.ensures.fault c.in-Ok.ensures.fault
    ∙ ap (λ o. map_value (answer (option_map error_of o) (from_entries (map pair_of c.in_ok-front.front.pairs.items)))) c.in-None.is
    ∙ ap Ok (sym c.in-Ok.ensures.value)

pub returns-in-Some : goal.returns-in-Some
returns-in-Some c =
    pairs_made (option_map (λ n. n.now) c.args.self.names) (kind_in c.args.self.kinds.key) (kind_in c.args.self.kinds.value) (items_view c.args.items.now) (map pair_of c.in_ok-front.front.pairs.items) (option_map error_of c.in_ok-front.front.fault) c.in_ok-front.ensures.pairs c.in_ok-front.ensures.fault c.in-Ok.ensures.fault
    ∙ ap (λ o. map_value (answer (option_map error_of o) (from_entries (map pair_of c.in_ok-front.front.pairs.items)))) c.in-Some.is
