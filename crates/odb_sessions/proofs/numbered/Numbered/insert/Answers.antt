use Rattle.std.proofs.Common.{rules, ◌≡◌, Some, None, sym, ap, subst, ◌∙◌}
use Rattle.std.specs.BTreeMap.{UpdatesBy}
use Rattle.std.specs.Ordering.{nat_cmp}
use Rattle.odb_atoms.specs.FinMap as finite
use Rattle.odb_sessions.specs.Marked.{Sessions}
use Rattle.odb_sessions.specs.Represented.Keyed.{key_of}
use Rattle.odb_sessions.proofs.Keyed.{keyed_inserted, view_inserted, without_key}
use Rattle.odb_sessions.proofs.numbered.Numbered.insert.Goals as goal

pub invariant_of-self-2 : goal.invariant_of-self-2
invariant_of-self-2 c =
    let old = c.self.inside.keys in
    let slab = c.self.inside.sessions in
    let shut : finite.get c.args.self.now c.args.number ≡ None = search rules in
    let without : key_of old.entries c.args.number ≡ None = without_key old.entries slab.slots c.args.number c.self.invariant (ap (λ (m : Sessions). finite.get m c.args.number) c.self.view_is ∙ shut) in
    let kept : c.reserve.new.self.slots ≡ slab.slots = ap (λ s. s.slots) c.in_ok-reserve.ensures.rest_kept in
    let changed : UpdatesBy nat_cmp (nat_cmp c.args.number) old c.insert.new.self (Some c.insert_reserved.result) =
    subst (λ j. UpdatesBy nat_cmp (nat_cmp c.args.number) old c.insert.new.self (Some j)) (c.vacant_key.ensures.value ∙ sym c.insert_reserved.ensures.key) c.in_ok-insert.ensures.updates in
    keyed_inserted old c.insert.new.self slab c.reserve.new.self c.insert_reserved.new.self c.args.number c.insert_reserved.result c.args.session
    kept without c.insert_reserved.ensures.was_vacant changed c.insert_reserved.ensures.updates c.self.invariant

pub returns-clause-ok : goal.returns-clause-ok
returns-clause-ok c =
    let old = c.self.inside.keys in
    let slab = c.self.inside.sessions in
    let shut : finite.get c.args.self.now c.args.number ≡ None = search rules in
    let without : key_of old.entries c.args.number ≡ None = without_key old.entries slab.slots c.args.number c.self.invariant (ap (λ (m : Sessions). finite.get m c.args.number) c.self.view_is ∙ shut) in
    let kept : c.reserve.new.self.slots ≡ slab.slots = ap (λ s. s.slots) c.in_ok-reserve.ensures.rest_kept in
    let changed : UpdatesBy nat_cmp (nat_cmp c.args.number) old c.insert.new.self (Some c.insert_reserved.result) =
    subst (λ j. UpdatesBy nat_cmp (nat_cmp c.args.number) old c.insert.new.self (Some j)) (c.vacant_key.ensures.value ∙ sym c.insert_reserved.ensures.key) c.in_ok-insert.ensures.updates in
    view_inserted old c.insert.new.self slab c.reserve.new.self c.insert_reserved.new.self c.args.number c.insert_reserved.result c.args.session
    kept without c.insert_reserved.ensures.was_vacant changed c.insert_reserved.ensures.updates c.self.invariant
    ∙ ap (λ (m : Sessions). finite.insert m c.args.number c.args.session) c.self.view_is
