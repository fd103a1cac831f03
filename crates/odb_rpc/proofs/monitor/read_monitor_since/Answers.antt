use Rattle.std.proofs.Common.{rules, ◌≡◌, ◌<◌, arith, List, [], ◌∷◌, length, true, map, Some, sym, ap, ◌∙◌}
use Rattle.std.specs.Prelude.{ℕ}
use Rattle.serde_json.specs.Data.{Data}
use Rattle.serde_json.specs.View.{view}
use Rattle.odb_atoms.specs.Uuid.{Uuid, uuid_from}
use Rattle.odb_request.specs.Request.{update2}
use Rattle.odb_rpc.specs.Message.{commit_of, is_object, monitor, of_monitor_since}
use Rattle.serde_json.specs.declared.value.Value.{Value}
use Rattle.odb_rpc.proofs.Resuming.{few, four_of, known, many}
use Rattle.odb_rpc.proofs.monitor.read_monitor_since.Goals as goal
use Rattle.odb_rpc.proofs.monitor.read_monitor_since.Goals.{in_default-via-then-params-lt4, in_default-via-else-params-lt4+else-params-lt5}

pub returns-in_default : goal.returns-in_default
returns-in_default c json id =
    let db : List ℕ = c.args.database.now in
    let ps : List Value = c.args.params.now in
    elim c.in_default.branch [
      | in_default-via-then-params-lt4 w ↦ (let short : length ps < 4 = grind arith in few db id ps short)
      | in_default-via-else-params-lt4+else-params-lt5 w ↦ (let long : 4 < length ps = grind arith in many db id ps long)
    ]

pub returns-in-Ok : goal.returns-in-Ok
returns-in-Ok c json id =
    let db : List ℕ = c.args.database.now in
    let name : Data = view c.name-item.result in
    let i : Data = view c.monitor-item.result in
    let requests : Data = view c.requests-item.result in
    let last : Data = view c.last-item.result in
    let v : Uuid = uuid_from c.in-Some.last in
    let ps : List Value = c.args.params.now in
    let long : length ps ≡ 4 = search rules in
    let items : ps ≡ c.name-item.result ∷ c.monitor-item.result ∷ c.requests-item.result ∷ c.last-item.result ∷ [] =
    four_of ps c.name-item.result c.monitor-item.result c.requests-item.result c.last-item.result long (search rules) (search rules) (search rules) (search rules) in
    let four : map view c.args.params.now ≡ name ∷ i ∷ requests ∷ last ∷ [] = ap (map view) items in
    let kind : is_object requests ≡ true = search rules in
    let is : commit_of last ≡ Some v = search rules in
    ap (λ m. monitor id update2 m requests (Some v)) c.known.ensures
    ∙ c.in-Ok.ensures id (monitor id update2 i requests (Some v))
    ∙ sym (known db id name i requests last v kind is) ∙ sym (ap (of_monitor_since db id) four)

pub returns-in-Err : goal.returns-in-Err
returns-in-Err c json id =
    let db : List ℕ = c.args.database.now in
    let name : Data = view c.name-item.result in
    let i : Data = view c.monitor-item.result in
    let requests : Data = view c.requests-item.result in
    let last : Data = view c.last-item.result in
    let v : Uuid = uuid_from c.in-Some.last in
    let ps : List Value = c.args.params.now in
    let long : length ps ≡ 4 = search rules in
    let items : ps ≡ c.name-item.result ∷ c.monitor-item.result ∷ c.requests-item.result ∷ c.last-item.result ∷ [] =
    four_of ps c.name-item.result c.monitor-item.result c.requests-item.result c.last-item.result long (search rules) (search rules) (search rules) (search rules) in
    let four : map view c.args.params.now ≡ name ∷ i ∷ requests ∷ last ∷ [] = ap (map view) items in
    let kind : is_object requests ≡ true = search rules in
    let is : commit_of last ≡ Some v = search rules in
    c.in-Err.ensures id (monitor id update2 i requests (Some v))
    ∙ sym (known db id name i requests last v kind is) ∙ sym (ap (of_monitor_since db id) four)
