use Rattle.std.proofs.Common.{rules, ◌≡◌, ◌∷◌, [], None, Some, ap, sym, ◌∙◌, option_map, unwrap_or}
use Rattle.serde_json.specs.Written.{compact_text}
use Rattle.odb_rpc.specs.Message.{reply}
use Rattle.odb_rpc.specs.Represented.Call.{called}
use Rattle.odb_rpc.specs.Represented.Printable.{printable_data}
use Rattle.odb_schema.specs.Json.{Data, array_of, string}
use Rattle.odb_schema.specs.SchemaText.{write_schema}
use Rattle.odb_queue.specs.Represented.Answer.{at_once}
use Rattle.odb_queue.proofs.MonitorCalls.{not_at_once}
use Rattle.odb_queue.proofs.answer.called_text.Goals as goal

pub returns-in_ok-success-in-ListDatabases : goal.returns-in_ok-success-in-ListDatabases
returns-in_ok-success-in-ListDatabases c =
    let names = array_of (string c.args.served.now.name ∷ []) in
    let listed : c.in_ok-names-in-ListDatabases.names.items ≡ compact_text (array_of (string c.name.result.now ∷ [])) = search rules in
    let named : c.name.result.now ≡ c.args.served.now.name = search rules in
    let printed : c.as_slice.result.now ≡ compact_text names = c.as_slice.ensures.value ∙ listed ∙ ap (λ n. compact_text (array_of (string n ∷ []))) named in
    let text : (d : Data) → c.as_slice.result.now ≡ compact_text d → c.in_ok-success-in-ListDatabases.field-0.items ≡ compact_text (reply (printable_data c.args.id) d) = search rules in
    rw c.in-ListDatabases.is (ap Some (text names printed))

pub returns-in-Monitor : goal.returns-in-Monitor
returns-in-Monitor c =
    let s = c.args.served.now in
    let id = printable_data c.args.id in
    let open_still : at_once (called s.name (write_schema s) id c.args.call) ≡ None = ap (λ k. at_once (called s.name (write_schema s) id k)) c.in-Monitor.is ∙ not_at_once id c.in-Monitor.field-0 in
    sym (ap (λ o. option_map compact_text (unwrap_or o None)) open_still)
