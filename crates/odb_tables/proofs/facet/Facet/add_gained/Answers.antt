use Rattle.std.proofs.Common.{rules, ◌≡◌, true, None, slice_get, sym, ap, subst, ◌∙◌}
use mathlib.Core.Bool.{true≢false}
use mathlib.Core.Logic.{inr}
use Rattle.std.proofs.lemmas.Result.{on_ok_weaker}
use Rattle.odb_tables.specs.Indexed.{cells_at}
use Rattle.odb_tables.specs.Represented.Digest.{digest}
use Rattle.odb_tables.specs.Represented.Pairs.{has}
use Rattle.odb_tables.proofs.Facets.{none-mentioned, values-tagged}
use Rattle.odb_tables.proofs.facet.Facet.add_gained.Goals as goal

pub returns-in-Values-clause-ok : goal.returns-in-Values-clause-ok
returns-in-Values-clause-ok c =
    let keys = c.in-Values.hashing in
    let row = c.args.row.now in
    let tag_is = c.of_row-tag.ensures ∙ ap (λ places. digest keys (cells_at places row)) c.as_slice.ensures.value in
    on_ok_weaker c.add.result (λ added tag h. inr (subst (λ t. has c.add.new.pairs t c.args.key ≡ true) (tag_is ∙ sym (values-tagged c.args.self.now keys c.in-Values.places row tag c.in-Values.is h)) added)) c.add.ensures.ok

pub returns-in-None-clause-ok : goal.returns-in-None-clause-ok
returns-in-None-clause-ok c tag h =
    let none : slice_get c.args.row.now.columns c.in-Mentions.place ≡ None = search rules in
    absurd (true≢false (sym h ∙ none-mentioned c.args.self.now _ c.args.row.now tag c.in-Mentions.is none))
