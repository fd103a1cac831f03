use Rattle.std.proofs.Common.{rules, ◌≡◌, [], false, is_some, option_map, subst, sym}
use Rattle.std.specs.Arc.{arc_value}
use Rattle.odb_monitor.specs.Job.{Part}
use Rattle.odb_monitor.specs.Represented.Part.{changes_shown, part_of}
use Rattle.odb_monitor.specs.declared.told.Told.{Told}
use Rattle.odb_monitor.proofs.Seen.{none_shown}
use Rattle.odb_monitor.proofs.part.Part.is_told.Goals as goal

pub returns-in-Asked : goal.returns-in-Asked
returns-in-Asked c = λ told first.
    let i = c.self.inside.bare in
    let q = i.request.now in
    let t = i.rows in
    let none : is_some i.changes ≡ false = search rules in
    subst (λ (p : Part). (changes_shown first p).entries ≡ []) c.self.view_is
    (subst (λ (w : Told). (changes_shown first (part_of q w t (option_map arc_value i.changes))).entries ≡ []) (sym c.in-Asked.is) (none_shown arc_value first q t i.changes none))
