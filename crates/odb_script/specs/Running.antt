-- A script that runs: the schema of its server, and how it stands.
use Rattle.std.specs.Prelude.{ℕ, Bool, List, refl}
use Rattle.std.specs.Coded.{Coded, code_by, coded×, coded_ℕ, coded_bool, coded_list}
use Rattle.odb_service.specs.WorldCode.{world_code}
use Rattle.odb_schema.specs.Schema.{Schema}
use Rattle.odb_schema.specs.Represented.Codes.{schema_code, text_code}
use Rattle.odb_script.specs.Script.{ScriptSession, Script}

pub record Running : Type 0 where
  pub schema : Schema
  pub script : Script

abbrev pub script_session_code : Coded ScriptSession
script_session_code =
    code_by (List ℕ × (ℕ × (List ℕ × (ℕ × Bool)))) (coded× text_code (coded× coded_ℕ (coded× text_code (coded× coded_ℕ coded_bool))))
    (λ n. (n.name, (n.session, (n.bytes, (n.delivered, n.held))))) (λ p. record { name = p.0; session = p.1.0; bytes = p.1.1.0; delivered = p.1.1.1.0; held = p.1.1.1.1 }) (λ _. refl)

abbrev pub script_code : Coded Script
script_code =
    code_by (_ × (List ScriptSession × (ℕ × (ℕ × ℕ)))) (coded× world_code (coded× (coded_list script_session_code) (coded× coded_ℕ (coded× coded_ℕ coded_ℕ))))
    (λ s. (s.world, (s.sessions, (s.opened_so_far, (s.inserts, s.moment))))) (λ p. record { world = p.0; sessions = p.1.0; opened_so_far = p.1.1.0; inserts = p.1.1.1.0; moment = p.1.1.1.1 }) (λ _. refl)

abbrev pub running_code : Coded Running
running_code = code_by (Schema × Script) (coded× schema_code script_code) (λ r. (r.schema, r.script)) (λ p. record { schema = p.0; script = p.1 }) (λ _. refl)
