use Rattle.std.proofs.Common.{rules}
use Rattle.odb_atoms.specs.declared.value.Entries.TheVariants.{Map, Set}
use Rattle.odb_atoms.proofs.Represented.Values.{listed}
use Rattle.odb_atoms.proofs.value.Value.entries.Goals as goal

pub returns-in-One-clause-listed : goal.returns-in-One-clause-listed
returns-in-One-clause-listed c = listed (Set c.of.result) c.args.self.now (search rules) (search rules)

pub returns-in-Set-clause-listed : goal.returns-in-Set-clause-listed
returns-in-Set-clause-listed c = listed (Set c.of-in-Set.result) c.args.self.now (search rules) (search rules)

pub returns-in-Map-clause-listed : goal.returns-in-Map-clause-listed
returns-in-Map-clause-listed c = listed (Map c.of-in-Map.result) c.args.self.now (search rules) (search rules)

pub returns-in-SharedSet-clause-listed : goal.returns-in-SharedSet-clause-listed
returns-in-SharedSet-clause-listed c = listed (Set c.of-in-SharedSet.result) c.args.self.now (search rules) (search rules)

pub returns-in-SharedMap-clause-listed : goal.returns-in-SharedMap-clause-listed
returns-in-SharedMap-clause-listed c = listed (Map c.of-in-SharedMap.result) c.args.self.now (search rules) (search rules)

pub returns-in-ChunkedSet-clause-listed : goal.returns-in-ChunkedSet-clause-listed
returns-in-ChunkedSet-clause-listed c = listed (Set c.items.result) c.args.self.now (search rules) (search rules)

pub returns-in-ChunkedMap-clause-listed : goal.returns-in-ChunkedMap-clause-listed
returns-in-ChunkedMap-clause-listed c = listed (Map c.items-in-ChunkedMap.result) c.args.self.now (search rules) (search rules)
