use Rattle.odb_tables.specs.Database.{table_at}
use Rattle.odb_integrity.proofs.Unchanged.{found_among}
use Rattle.odb_integrity.proofs.indexes.has_twins_at.Goals as goal

pub returns : goal.returns
returns c = found_among c.has_new_twins.result c.args.places.now (table_at c.args.draft.now.old c.args.id) (table_at c.args.draft.now.now c.args.id) c.has_new_twins.ensures.twins c.has_new_twins.ensures.apart c.requires
