use Rattle.std.proofs.Common.{rules, ◌≡◌, Some, None, refl, sym, ap, ◌∙◌}
use Rattle.std.specs.Prelude.{option_and_then}
use Rattle.odb_atoms.specs.FinMap as finite
use Rattle.odb_sessions.specs.Carried.{last_finished}
use Rattle.odb_sessions.specs.Marked.{MarkedSession, seen}
use Rattle.odb_sessions.proofs.CarriedOut.{carried_out, not_carried_out}
use Rattle.odb_sessions.proofs.numbered.Numbered.carry_out.Goals as goal

pub carry_out-requires : goal.carry_out-requires
carry_out-requires c =
    let there : finite.get c.args.self.now c.args.session ≡ Some c.in-Some.of.now = search rules in
    c.requires c.in-Some.of.now there

pub returns-in_default-clause-carried : goal.returns-in_default-clause-carried
returns-in_default-clause-carried c =
    let none : finite.get c.args.self.now c.args.session ≡ None = search rules in
    not_carried_out c.args.past.now c.args.self.now c.args.self.now c.args.session c.args.items c.args.monitors none refl

pub returns-in_default-clause-text : goal.returns-in_default-clause-text
returns-in_default-clause-text c =
    let none : finite.get c.args.self.now c.args.session ≡ None = search rules in
    sym (ap (option_and_then (λ (x : MarkedSession). last_finished c.args.items (seen x).queue)) none)

pub returns-clause-carried : goal.returns-clause-carried
returns-clause-carried c =
    let x : MarkedSession = c.in-Some.of.now in
    let y : MarkedSession = c.carry_out.new.self in
    let there : finite.get c.args.self.now c.args.session ≡ Some x = search rules in
    carried_out c.args.past.now c.carry_out.new.past c.args.self.now _ c.args.session c.args.items c.args.monitors x y there refl c.carry_out.ensures.carried c.carry_out.ensures.session c.carry_out.ensures.watch

pub returns-clause-text : goal.returns-clause-text
returns-clause-text c =
    let there : finite.get c.args.self.now c.args.session ≡ Some c.in-Some.of.now = search rules in
    c.carry_out.ensures.text ∙ sym (ap (option_and_then (λ (z : MarkedSession). last_finished c.args.items (seen z).queue)) there)
