use Rattle.std.proofs.Common.{rules, ◌≡◌, ◌+◌, ◌<◌, List, ℕ, ◌∷◌, ◌++◌, drop, get_or, length, map, option_map, option_to_list, Option, sym, ap, subst, ◌∙◌}
use Rattle.std.proofs.lemmas.List.{drop_more}
use Rattle.odb_atoms.specs.FinMap as finite
use Rattle.odb_atoms.specs.Error.{Error}
use Rattle.odb_atoms.specs.Represented.Atom.{uuid_of}
use Rattle.odb_atoms.specs.Uuid.{Uuid}
use Rattle.odb_mutate.specs.Represented.Mutation.{error_of}
use Rattle.odb_ops.specs.Execution.{first_fault, mutated}
use Rattle.odb_ops.specs.Represented.Merged.{all_of}
use Rattle.odb_ops.specs.Represented.Parts.{AllFit, all_faults, all_rewritten, rewritten, row_fault}
use Rattle.odb_ops.proofs.Faults.{first_more}
use Rattle.odb_ops.proofs.Mutates.{made, rewritten_fit}
use Rattle.odb_tables.specs.Database.{table_at}
use Rattle.odb_tables.specs.Draft.{Draft}
use Rattle.odb_ops.proofs.mutate.mutate_all.Goals as goal

pub loop-uuid-preserved : goal.loop-uuid-preserved
loop-uuid-preserved c =
    let cs = c.args.target.now.columns.now in
    let ms = (all_of c.args.runs.now) in
    let t = c.args.target.now.table in
    let d : Draft = c.loop-uuid.draft in
    let new : Draft = c.mutate_one.new.draft in
    let us : List (List ℕ) = c.args.uuids.now in
    let i = c.loop-uuid.uuid-index in
    let u : Uuid = uuid_of c.uuid-item.result in
    let inside : i < length us = search rules in
    let here : c.uuid-item.result ≡ get_or us i c.uuid-item.result = search rules in
    let rest : List Uuid = map uuid_of (drop (i + 1) us) in
    let split : map uuid_of (drop i us) ≡ u ∷ rest = ap (map uuid_of) (drop_more us i c.uuid-item.result inside ∙ ap (λ x. x ∷ drop (i + 1) us) (sym here)) in
    let stepped : new ≡ rewritten (made cs ms) t u d = search rules in
    let fault : Option Error = option_map error_of c.in_ok-fault.fault in
    let its : fault ≡ row_fault (mutated cs ms) (finite.get (table_at d.now t) u) = search rules in
    let so_far : Option Error = option_map error_of c.loop-uuid.first in
    let first : Option Error = option_map error_of c.earlier-first.result in
    let joined : first ≡ first_fault (option_to_list so_far ++ option_to_list fault) = search rules in
    let more : first_fault (option_to_list first ++ all_faults (mutated cs ms) t rest new) ≡ first_fault (option_to_list so_far ++ (option_to_list fault ++ all_faults (mutated cs ms) t rest new)) = first_more so_far fault first (all_faults (mutated cs ms) t rest new) joined in
    record {
      base = search rules;
      fit = subst (λ (x : Draft). AllFit cs (table_at x.now t)) (sym stepped) (rewritten_fit cs ms t u d c.loop-uuid.invariant.fit);
      rows = ap (all_rewritten (made cs ms) t rest) stepped ∙ ap (λ vs. all_rewritten (made cs ms) t vs d) (sym split) ∙ c.loop-uuid.invariant.rows;
      faults = more ∙ (λ j. first_fault (option_to_list so_far ++ (option_to_list (its j) ++ all_faults (mutated cs ms) t rest (stepped j))))
          ∙ ap (λ vs. first_fault (option_to_list so_far ++ all_faults (mutated cs ms) t vs d)) (sym split) ∙ c.loop-uuid.invariant.faults;
    }
