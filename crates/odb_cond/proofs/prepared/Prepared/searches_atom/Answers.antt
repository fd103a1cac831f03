use Rattle.std.proofs.Common.{rules, ◌≡◌, ◌<◌, length, get_or, sym, ap, ◌∙◌, true}
use Rattle.odb_atoms.specs.Represented.Atom.{atom_of}
use Rattle.odb_atoms.specs.Row.{cell}
use Rattle.odb_cond.specs.Represented.Clause.{selector_of}
use Rattle.odb_cond.specs.Represented.Keyed.{asks, is_among, keyed_holds}
use Rattle.odb_cond.proofs.Lacking.{any_at, asked_among}
use Rattle.odb_cond.proofs.prepared.Prepared.searches_atom.Goals as goal

pub returns-in-Some : goal.returns-in-Some
returns-in-Some c =
    let all = c.args.self.now.keyed.items in
    let k = c.in-Some.place in
    let x = c.index.result.now in
    let low : k < length all = search rules in
    let at : x ≡ get_or all k x = search rules in
    let there : c.deref.result.now ≡ all = search rules in
    let asked = c.in-Some.ensures.found x in
    let column : x.column ≡ c.args.column = ap (λ z. z.column) at ∙ ap (λ l. (get_or l k x).column) (sym there) ∙ asked.0 in
    let is_equality : x.is_equality ≡ c.args.is_equality = ap (λ z. z.is_equality) at ∙ ap (λ l. (get_or l k x).is_equality) (sym there) ∙ asked.1 in
    let has : c.has.result ≡ is_among x.atoms (atom_of c.args.atom.now) = search rules in
    λ found u r asks_it.
    let there_it_asks : asks x.is_equality (cell u r (selector_of x.column)) (atom_of c.args.atom.now) ≡ true = (λ i. asks (is_equality i) (cell u r (selector_of (column i))) (atom_of c.args.atom.now)) ∙ asks_it in
    any_at (keyed_holds u r) all k x low at (asked_among x.is_equality (cell u r (selector_of x.column)) x.atoms (atom_of c.args.atom.now) (sym has ∙ found) there_it_asks)
