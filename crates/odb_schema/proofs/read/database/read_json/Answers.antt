use Rattle.std.proofs.Common.{◌≡◌, true, false}
use Rattle.serde_json.specs.View.{view}
use Rattle.odb_schema.proofs.Parts.{json_read, json_refused}
use Rattle.odb_schema.proofs.RoundTrip.Sound.{text_sound}
use Rattle.odb_schema.proofs.read.database.read_json.Goals as goal

pub returns-in-Ok : goal.returns-in-Ok
returns-in-Ok c = record {
  exact = json_read c.args.text.now (view c.in-Ok.value) c.in-Ok.ensures.ok.0 c.in-Ok.ensures.ok.1;
  sound = text_sound c.args.text.now (view c.in-Ok.value) c.in-Ok.ensures.ok.1;
}

pub returns-else-is_memory-clause-exact : goal.returns-else-is_memory-clause-exact
returns-else-is_memory-clause-exact c = json_refused c.args.text.now (c.in-Err.ensures.err (λ is. let is_memory : false ≡ true = c.if-is_memory.ensures.1 is in cc))
