use Rattle.std.proofs.Common.{◌≡◌, Ok, subst}
use Rattle.serde_json.specs.View.{view}
use Rattle.odb_schema.specs.SchemaText.{read_schema}
use Rattle.odb_schema.proofs.Shapes.{its_json, its_text}
use Rattle.odb_schema.proofs.RoundTrip.Texts.{text_read_back}
use Rattle.odb_schema.proofs.schema.Schema.to_json.Goals as goal

pub returns-clause-text : goal.returns-clause-text
returns-clause-text c = its_text c.to_vec.result (view c.in_ok-value.value) c.args.self.now c.in_ok-value.ensures.exact c.to_vec.ensures.text

pub returns-clause-json : goal.returns-clause-json
returns-clause-json c = its_json c.to_vec.result (view c.in_ok-value.value) c.args.self.now c.in_ok-value.ensures.exact c.to_vec.ensures.reads_back

pub returns-clause-read_back : goal.returns-clause-read_back
returns-clause-read_back c =
    text_read_back c.to_vec.result c.args.self.now
    (subst (λ d. read_schema d ≡ Ok c.args.self.now) c.in_ok-value.ensures.exact c.in_ok-value.ensures.read_back)
    c.to_vec.ensures.utf8
    (its_json c.to_vec.result (view c.in_ok-value.value) c.args.self.now c.in_ok-value.ensures.exact c.to_vec.ensures.reads_back)
