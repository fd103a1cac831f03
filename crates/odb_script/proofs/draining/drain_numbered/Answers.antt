use Rattle.std.proofs.Common.{rules, ◌≡◌, OnOk, List, Some, Option, sym, ap, subst, ◌∙◌}
use Rattle.std.specs.Cmp.{nat_cmp_total}
use Rattle.std.specs.Ordering.{nat_cmp}
use Rattle.std.proofs.lemmas.Fn.{always_returns_same}
use Rattle.odb_atoms.proofs.Rising.{find-missed, find-tied, searchable}
use Rattle.odb_script.specs.Script.{ScriptSession}
use Rattle.odb_script.specs.Represented.Draining.{numbered, numbered_drained}
use Rattle.odb_script.specs.Represented.Names.{by_number}
use Rattle.odb_script.proofs.draining.drain_numbered.Goals as goal

pub returns-in-Ok-clause-done : goal.returns-in-Ok-clause-done
returns-in-Ok-clause-done c =
    let xs : List ScriptSession = c.args.sessions.now in
    let q = c.args.number in
    let x : ScriptSession = c.index-sessions-place.result in
    let tied = c.in-Ok.ensures.position (λ (y : ScriptSession). nat_cmp y.session q) (always_returns_same _ _ _ (λ a r f' k. search rules)) in
    let found = find-tied nat_cmp_total by_number q xs c.in-Ok.place x c.requires c.in-Ok.ensures.bound (tied x) in
    let which : numbered q xs ≡ Some x = found ∙ ap Some (sym c.index-sessions-place.is) in
    subst (λ (o : Option ScriptSession). OnOk c.drain_unless_held.result (numbered_drained o (c.args.core.now, c.args.text.now.items) ≡ (c.drain_unless_held.new.core, c.drain_unless_held.new.text.items))) (sym which) c.drain_unless_held.ensures.done

pub returns-in-Err-clause-done : goal.returns-in-Err-clause-done
returns-in-Err-clause-done c =
    let xs : List ScriptSession = c.args.sessions.now in
    let q = c.args.number in
    let missed = c.in-Err.ensures.position (λ (y : ScriptSession). nat_cmp y.session q) (always_returns_same _ _ _ (λ a r f' k. search rules)) (searchable nat_cmp_total by_number q xs c.requires) in
    ap (λ (o : Option ScriptSession). numbered_drained o (c.args.core.now, c.args.text.now.items)) (find-missed nat_cmp_total by_number q xs _ missed)
