use Rattle.std.proofs.Common.{rules, ◌≡◌, length, map, ap, sym, ◌∙◌, arith}
use Rattle.std.proofs.lemmas.List.{length-map}
use Rattle.odb_atoms.specs.Represented.Atom.{uuid_of}
use Rattle.odb_rpc.specs.Message.{inserts_of}
use Rattle.odb_wire.specs.Shown.{request_data}
use Rattle.odb_script.specs.Script.{fresh_from}
use Rattle.odb_script.proofs.Identifiers.{fresh_length}
use Rattle.odb_script.proofs.engine.Engine.submit.Goals as goal

pub submit-requires : goal.submit-requires
submit-requires c =
    let are : map uuid_of c.in_ok-fresh.fresh.items ≡ fresh_from c.self.inside.inserts c.inserts.result = search rules in
    let long : length c.in_ok-fresh.fresh.items ≡ c.inserts.result = sym (length-map c.in_ok-fresh.fresh.items uuid_of) ∙ ap length are ∙ fresh_length c.self.inside.inserts c.inserts.result in
    let given : length c.as_slice.result.now ≡ length c.in_ok-fresh.fresh.items = search rules in
    let wanted : c.inserts.result ≡ inserts_of (request_data c.args.request) = search rules in
    omega (arith, long, given, wanted)
