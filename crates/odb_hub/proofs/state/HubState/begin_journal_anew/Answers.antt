use Rattle.std.proofs.Common.{sym, ap, subst}
use Rattle.odb_hub.specs.Guarded.{IsGuarded, Guarded, counted}
use Rattle.odb_hub.proofs.Keeping.{settles}
use Rattle.odb_hub.proofs.state.HubState.begin_journal_anew.Goals as goal

pub invariant_of-self : goal.invariant_of-self
invariant_of-self c =
    let i = c.self.inside in
    let k : Guarded = record { server = i.core; base = i.journal.base; events = i.journal.events; rings = i.rings } in
    let b = sym c.begin-self-inside.ensures.0 in
    let e = sym c.begin-self-inside.ensures.1 in (
      subst IsGuarded (λ j. let n : Guarded = record { server = i.core; base = b j; events = e j; rings = i.rings } in n) (settles k c.self.invariant.0),
      c.self.invariant.1,
      ap counted e,
    )
