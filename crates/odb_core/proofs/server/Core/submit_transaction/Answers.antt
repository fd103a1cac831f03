use Rattle.std.proofs.Common.{rules, ◌≡◌, map, None, sym, ap, ◌∙◌}
use Rattle.odb_atoms.specs.Represented.Atom.{uuid_of}
use Rattle.odb_rpc.specs.Message.{operations_of}
use Rattle.odb_wire.specs.Shown.{request_data}
use Rattle.odb_service.specs.Server.{Server, served_by}
use Rattle.odb_service.specs.World.{Waiting, World, run_transaction, untried}
use Rattle.odb_core.proofs.HandledRequests.{transaction_own, transaction_runs}
use Rattle.odb_core.proofs.ServerSteps.{placed}
use Rattle.odb_core.proofs.server.Core.submit_transaction.Goals as goal

pub new-requires : goal.new-requires
new-requires c = transaction_own c.args.self.now.schema (request_data c.args.request) c.requires.asks

pub transact-requires : goal.transact-requires
transact-requires c = record { tried = λ h. ap (λ (u : Server). untried h u.world) (sym c.self.view_is) ∙ c.self.invariant.1.0 h }

pub returns-in-Ok-clause-ok : goal.returns-in-Ok-clause-ok
returns-in-Ok-clause-ok c =
    let s = c.args.self.now.schema in
    let w : World = c.args.self.now.world in
    let e = c.in_ok-asked.ensures in
    let arrived : c.in_ok-asked.asked.arrival ≡ w.now = search rules in
    ap (placed c.args.self.now) (transaction_runs s (request_data c.args.request) c.requires.asks c.args.session (map uuid_of c.args.fresh.now) w)
    ∙ ap (λ (p : Waiting). placed c.args.self.now (run_transaction (served_by s) p w)) (λ i. record {
      session = sym e.session i;
      request = request_data (sym e.request i);
      operations = operations_of (request_data (sym e.request i));
      fresh = map uuid_of (sym e.fresh i);
      arrival = sym arrived i;
      deadline = None;
      tried = w.commits;
    })
    ∙ c.in-Ok.ensures.ok
