use Rattle.std.proofs.Common.{rules, ◌≡◌, ◌<◌, ◌||◌, length, get_or, set, sym, ap, ◌∙◌}
use Rattle.std.proofs.lemmas.Result.{on_ok_weaker}
use Rattle.std.specs.List.{list_any}
use Rattle.odb_atoms.specs.Represented.Atom.{atom_of}
use Rattle.odb_atoms.specs.Row.{cell}
use Rattle.odb_cond.specs.Represented.Clause.{selector_of}
use Rattle.odb_cond.specs.Represented.Keyed.{asks, listed_holds}
use Rattle.odb_cond.specs.Represented.Prepared.{holds_at}
use Rattle.odb_cond.proofs.Gains.{any_put, first_more}
use Rattle.odb_cond.proofs.gathered.Gathered.add_listed.Goals as goal

pub returns-in-Some : goal.returns-in-Some
returns-in-Some c =
    let old = c.args.self.now.lists.items in
    let others = c.args.self.now.others.items in
    let k = c.in-Some.place in
    let x = c.index_mut.result.now in
    let y = c.push.new.self in
    let at : x ≡ get_or old k x = c.index_mut.ensures.value in
    let low : k < length old = search rules in
    let there : c.deref.result.now ≡ old = search rules in
    let asked = c.in-Some.ensures.found x in
    let column : x.column ≡ c.args.column = ap (λ z. z.column) at ∙ ap (λ l. (get_or l k x).column) (sym there) ∙ asked.0 in
    let is_equality : x.is_equality ≡ c.args.is_equality = ap (λ z. z.is_equality) at ∙ ap (λ l. (get_or l k x).is_equality) (sym there) ∙ asked.1 in
    let atom : atom_of c.in_ok-atom.atom ≡ atom_of c.args.atom.now = c.in_ok-atom.ensures in
    on_ok_weaker c.push.result (λ grows ms u r.
    let test = asks c.args.is_equality (cell u r (selector_of c.args.column)) (atom_of c.args.atom.now) in
    let now : listed_holds u r y ≡ (listed_holds u r (get_or old k x) || test) = grows u r ∙ (λ i. listed_holds u r (at i) || asks (is_equality i) (cell u r (selector_of (column i))) (atom i)) in
    first_more (list_any (listed_holds u r) (set old k y)) (list_any (listed_holds u r) old) (list_any (holds_at u r ms) others) test (any_put (listed_holds u r) test old k x y low now))
    c.push.ensures
