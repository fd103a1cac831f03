use Rattle.std.proofs.Common.{◌≡◌, drop, map}
use Rattle.serde_json.specs.View.{view}
use Rattle.odb_atoms.specs.Represented.Atom.{uuid_of}
use Rattle.odb_ops.specs.Execution as model
use Rattle.odb_ops.specs.Represented.Context.{context_of}
use Rattle.odb_ops.specs.Represented.Draft.{begun}
use Rattle.odb_ops.proofs.Runs.{Going}
use Rattle.odb_tables.specs.Typed.{IsTyped}
use Rattle.odb_ops.proofs.execution.run_all.Given as goal

abbrev pub invariant-loop-place : goal.invariant-loop-place
invariant-loop-place l = record {
  base : l.draft.old ≡ l.fn.draft.old;
  typed : IsTyped l.setting.schema.now l.draft.now;
  going : Going l.setting.schema.now (context_of l.setting.context.now) l.setting.names.now (model.run_from l.setting.schema.now (context_of l.setting.context.now) l.setting.names.now (map uuid_of l.setting.context.now.fresh.now) (begun l.fn.draft) (map view l.operations))
      l.results.items (map uuid_of l.left) l.taken l.draft (map view (drop l.place l.operations));
}
