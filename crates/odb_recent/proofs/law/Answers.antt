use Rattle.odb_recent.proofs.Undoing.{contents_are_findable, contents_are_there, tables_are_those_of_contents, undo_leads_back}
use Rattle.odb_recent.proofs.law.Goals as goal

pub returns-clause-back : goal.returns-clause-back
returns-clause-back c = undo_leads_back

pub returns-clause-findable : goal.returns-clause-findable
returns-clause-findable c = contents_are_findable

pub returns-clause-there : goal.returns-clause-there
returns-clause-there c = contents_are_there

pub returns-clause-tables : goal.returns-clause-tables
returns-clause-tables c = tables_are_those_of_contents
