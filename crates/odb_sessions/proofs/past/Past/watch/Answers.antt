use Rattle.std.proofs.Common.{rules, ◌≡◌, ◌+◌, ◌<◌, ◌^◌, arith, length, subst, sym}
use Rattle.odb_chain.specs.Chains.{Chains, IsNow}
use Rattle.odb_sessions.specs.Marked.{table_marks}
use Rattle.odb_sessions.specs.Started.{AreOfTables}
use Rattle.odb_sessions.specs.Tied.{HasRoom, counted_in}
use Rattle.odb_sessions.proofs.KeptTexts.{same_firsts}
use Rattle.odb_sessions.proofs.Room.{room_more}
use Rattle.odb_sessions.proofs.past.Past.watch.Goals as goal

pub watch_all-requires-clause-tables : goal.watch_all-requires-clause-tables
watch_all-requires-clause-tables c = subst (λ (k : Chains). AreOfTables k.db c.args.requests.items) (sym c.self.view_is) c.requires.tables

pub watch_all-requires-clause-now : goal.watch_all-requires-clause-now
watch_all-requires-clause-now c = subst IsNow (sym c.self.view_is) c.requires.now

pub watch_all-requires-clause-lives : goal.watch_all-requires-clause-lives
watch_all-requires-clause-lives c = c.self.invariant.0.0

pub watch_all-requires-clause-few : goal.watch_all-requires-clause-few
watch_all-requires-clause-few c =
    let low : counted_in c.self.inside.chains.live < c.self.inside.made = c.self.invariant.0.1 in
    let sum : c.self.inside.made + length c.args.requests.items < 2 ^ 64 = search rules in
    omega (arith, low, sum)

pub invariant_of-self-2 : goal.invariant_of-self-2
invariant_of-self-2 c =
    let made : c.in-Some.made ≡ c.self.inside.made + length c.args.requests.items = search rules in (
      subst (HasRoom c.watch_all.new.chains) (sym made)
          (room_more c.self.inside.chains c.watch_all.new.chains c.self.inside.made (table_marks c.in_ok-tables.tables.items) c.in_ok-tables.tables.items c.args.requests.items c.self.invariant.0 c.in_ok-tables.ensures.ok c.in_ok-tables.ensures.counted c.in_ok-tables.ensures.asked),
      same_firsts c.self.inside.chains c.watch_all.new.chains c.self.inside.firsts c.in_ok-tables.ensures.ok.0 c.self.invariant.1,
    )
