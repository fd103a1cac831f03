use Rattle.std.proofs.Common.{rules, ◌≡◌, ◌<◌, length, sym, subst, arith}
use Rattle.std.specs.Prelude.{slice_index_or}
use Rattle.odb_service.specs.World.{Waiting}
use Rattle.odb_core.proofs.CanceledTransactions.{stands_at}
use Rattle.odb_core.proofs.waiting_list.WaitingList.at.Goals as goal

pub index-requires : goal.index-requires
index-requires c =
    let below : c.args.place < length c.self.inside.items.items = subst (λ ps. c.args.place < length ps) (sym c.self.view_is) c.requires in
    omega (arith, below, c.self.inside.items.ok.0)

pub returns : goal.returns
returns c =
    let x : Waiting = c.index.result.now in
    let stands : x ≡ slice_index_or c.args.self.now c.args.place x = search rules in
    stands_at c.args.self.now c.args.place x c.requires stands
