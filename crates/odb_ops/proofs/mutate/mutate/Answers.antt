use Rattle.std.proofs.Common.{rules, ◌≡◌, List, None, Some, map, option_map, sym, ap, ◌∙◌}
use Rattle.odb_atoms.specs.FinMap as finite
use Rattle.odb_atoms.specs.Represented.Atom.{uuid_of}
use Rattle.odb_atoms.specs.Represented.Error as error
use Rattle.odb_atoms.specs.Uuid.{Uuid}
use Rattle.odb_mutate.specs.Represented.Mutation.{error_of}
use Rattle.odb_ops.specs.Execution.{count, faults, first_fault, mutated, mutated_or_same, on_matching}
use Rattle.odb_ops.specs.Represented.Merged.{all_of}
use Rattle.odb_ops.specs.Represented.Parts.{all_faults, all_rewritten, or_error, with_rows}
use Rattle.odb_ops.proofs.Mutates.{faults_at_once, made}
use Rattle.odb_ops.proofs.Rewrites.{rewritten_at_once}
use Rattle.odb_tables.specs.Database.{Table, table_at}
use Rattle.odb_tables.specs.Draft.{Draft}
use Rattle.odb_tables.specs.Matching.{matching}
use Rattle.odb_ops.proofs.mutate.mutate.Goals as goal

pub returns-in-None-clause-rows : goal.returns-in-None-clause-rows
returns-in-None-clause-rows c =
    let cs = c.args.target.now.columns.now in
    let ms = c.args.asked.now.mutations.items in
    let cl = c.args.asked.now.conditions in
    let t = c.args.target.now.table in
    let d : Draft = c.args.draft.now in
    let new : Draft = c.mutate_all.new.draft in
    let us : List Uuid = map uuid_of c.in_ok-found.found.items in
    let found : Table = matching cl (table_at d.now t) in
    let keys : us ≡ finite.keys found = search rules in
    let slice : c.as_slice-uuids.result.now ≡ c.in_ok-found.found.items = search rules in
    let whole : all_of c.as_slice-3.result.now ≡ ms = search rules in
    let answered : option_map error_of c.in_ok-mutate_all.field-0 ≡ first_fault (all_faults (mutated cs ms) t us d) = c.in_ok-mutate_all.ensures.fault ∙ (λ i. first_fault (all_faults (mutated cs (whole i)) t (map uuid_of (slice i)) d)) in
    let none : None ≡ first_fault (all_faults (mutated cs ms) t us d) = ap (option_map error_of) (sym c.in-None.is) ∙ answered in
    let all : new ≡ all_rewritten (made cs ms) t us d = search rules in
    let many : c.in_ok-count-in-None.field-0 ≡ count found = search rules in
    let faultless : first_fault (faults cs ms found) ≡ None = ap first_fault (sym (faults_at_once cs t cl ms d)) ∙ ap (λ vs. first_fault (all_faults (mutated cs ms) t vs d)) (sym keys) ∙ sym none in
    let rows : with_rows t (on_matching cl (mutated_or_same cs ms) (table_at d.now t)) d ≡ new = sym (all ∙ ap (λ vs. all_rewritten (made cs ms) t vs d) keys ∙ rewritten_at_once (made cs ms) t cl d) in
    λ i. or_error (faultless i) (rows i, sym many i)

pub returns-clause-rows : goal.returns-clause-rows
returns-clause-rows c =
    let cs = c.args.target.now.columns.now in
    let ms = c.args.asked.now.mutations.items in
    let cl = c.args.asked.now.conditions in
    let t = c.args.target.now.table in
    let d : Draft = c.args.draft.now in
    let us : List Uuid = map uuid_of c.in_ok-found.found.items in
    let found : Table = matching cl (table_at d.now t) in
    let keys : us ≡ finite.keys found = search rules in
    let slice : c.as_slice-uuids.result.now ≡ c.in_ok-found.found.items = search rules in
    let whole : all_of c.as_slice-3.result.now ≡ ms = search rules in
    let answered : option_map error_of c.in_ok-mutate_all.field-0 ≡ first_fault (all_faults (mutated cs ms) t us d) = c.in_ok-mutate_all.ensures.fault ∙ (λ i. first_fault (all_faults (mutated cs (whole i)) t (map uuid_of (slice i)) d)) in
    let some : Some (error_of c.in-Some.fault) ≡ first_fault (all_faults (mutated cs ms) t us d) = ap (option_map error_of) (sym c.in-Some.is) ∙ answered in
    let named : error.error_of c.error_in.result ≡ error_of c.in-Some.fault = search rules in
    let fault : first_fault (faults cs ms found) ≡ Some (error.error_of c.error_in.result) = ap first_fault (sym (faults_at_once cs t cl ms d)) ∙ ap (λ vs. first_fault (all_faults (mutated cs ms) t vs d)) (sym keys) ∙ sym some ∙ ap (λ e. Some e) (sym named) in
    ap (λ o. or_error o (with_rows t (on_matching cl (mutated_or_same cs ms) (table_at d.now t)) d, count found)) fault
