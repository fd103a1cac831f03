-- What an operation of the code stands for.
use Rattle.std.specs.Prelude.{ℕ, List, map, option_map, string_bytes}
use Rattle.serde_json.specs.View.{members_view}
use Rattle.odb_atoms.specs.Error.{Error}
use Rattle.odb_atoms.specs.First.{Result}
use Rattle.odb_atoms.specs.Represented.Atom.{uuid_of}
use Rattle.odb_cond.specs.Represented.Clause.{selector_of}
use Rattle.odb_schema.specs.Json.{Members}
use Rattle.odb_schema.specs.Notation.{Names}
use Rattle.odb_schema.specs.Schema.{Column}
use Rattle.odb_json.specs.Operation as model
use Rattle.odb_json.specs.Represented.Row.{cells_of}
use Rattle.odb_json.specs.declared.op.Op.{Op}
use Rattle.odb_json.specs.declared.op.Op.TheVariants as op
use Rattle.odb_json.specs.declared.op.Until.{Until}
use Rattle.odb_json.specs.declared.op.Until.TheVariants as until
use Rattle.odb_json.specs.declared.operation.OnTable.{OnTable}
use Rattle.odb_json.specs.declared.operation.TableVerb.{TableVerb}
use Rattle.odb_json.specs.declared.operation.TableVerb.TheVariants as table_verb
use Rattle.odb_json.specs.declared.operation.Verb.{Verb}
use Rattle.odb_json.specs.declared.operation.Verb.TheVariants as verb

abbrev pub until_of : Until → model.Until
until_of until.Equal = model.until_equal
until_of until.NotEqual = model.until_not_equal

abbrev pub op_of : Op → model.Op
op_of (op.Insert o) = model.Op.insert o.table o.row.items (option_map string_bytes o.name) (option_map uuid_of o.uuid)
op_of (op.Select o) = model.Op.select o.table o.conditions (map selector_of o.columns.items)
op_of (op.Update o) = model.Op.update o.table o.conditions o.row.items
op_of (op.Mutate o) = model.Op.mutate o.table o.conditions o.mutations.items
op_of (op.Delete o) = model.Op.delete o.table o.conditions
op_of (op.Wait o) = model.Op.wait o.table o.conditions (map selector_of o.columns.items) (until_of o.until) (map cells_of o.rows.items) o.timeout
op_of (op.Commit durable) = model.Op.commit durable
op_of op.Abort = model.Op.abort
op_of op.Comment = model.Op.comment
op_of (op.Assert lock) = model.Op.assert (string_bytes lock)

abbrev pub on_table_of : TableVerb → model.Verb
on_table_of table_verb.Insert = model.Verb.insert
on_table_of table_verb.Select = model.Verb.select
on_table_of table_verb.Update = model.Verb.update
on_table_of table_verb.Mutate = model.Verb.mutate
on_table_of table_verb.Delete = model.Verb.delete
on_table_of table_verb.Wait = model.Verb.wait

abbrev pub verb_of : Verb → model.Verb
verb_of (verb.OnTable v) = on_table_of v
verb_of verb.Commit = model.Verb.commit
verb_of verb.Abort = model.Verb.abort
verb_of verb.Comment = model.Verb.comment
verb_of verb.Assert = model.Verb.assert

-- the members of an operation on a table, read
abbrev pub read_by : (Names → ℕ → List Column → Members → Result model.Op Error) → OnTable → Result model.Op Error
read_by reader o = reader o.names.now o.id o.table.now.columns (members_view o.members.now.entries)

-- what stands after the table
abbrev pub table_reader : TableVerb → Names → ℕ → List Column → Members → Result model.Op Error
table_reader table_verb.Insert = model.read_insert
table_reader table_verb.Select = model.read_select
table_reader table_verb.Update = model.read_update
table_reader table_verb.Mutate = model.read_mutate
table_reader table_verb.Delete = model.read_delete
table_reader table_verb.Wait = model.read_wait
