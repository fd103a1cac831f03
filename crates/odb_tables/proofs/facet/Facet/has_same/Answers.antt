use Rattle.std.proofs.Common.{sym, ap, ◌∙◌}
use Rattle.std.specs.List.{list_all}
use Rattle.odb_tables.specs.Represented.RowTest.{have_same_at}
use Rattle.odb_tables.proofs.Facets.{mentions-same, values-same}
use Rattle.odb_tables.proofs.facet.Facet.has_same.Goals as goal

pub returns-in-Values : goal.returns-in-Values
returns-in-Values c is = values-same c.args.self.now _ _ c.args.one.now c.args.other.now c.in-Values.is (sym (c.have_same.ensures ∙ ap (list_all (have_same_at c.args.one.now c.args.other.now)) c.as_slice.ensures.value) ∙ is)

pub returns-in-Mentions : goal.returns-in-Mentions
returns-in-Mentions c is = mentions-same c.args.self.now _ c.args.one.now c.args.other.now c.in-Mentions.is (sym c.have_same_at.ensures ∙ is)
