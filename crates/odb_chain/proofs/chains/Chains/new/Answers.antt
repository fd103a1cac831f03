use Rattle.std.proofs.Common.{rules, ◌≡◌, length, replicate, subst, sym, ap, ◌∙◌}
use Rattle.odb_tables.specs.Database.{Db}
use Rattle.odb_chain.specs.Represented.Chain.{AreChainsOf, nothing_kept, shown}
use Rattle.odb_chain.proofs.Shown.{is_now, none_marked, unmarked_shown}
use Rattle.odb_chain.proofs.chains.Chains.new.Goals as goal

pub invariant_of-result : goal.invariant_of-result
invariant_of-result c =
    let db : Db = c.args.db in
    let end : c.loop.counter ≡ length db = search rules in
    let all : c.loop.chains.items ≡ replicate (length db) nothing_kept = c.loop.invariant ∙ ap (λ n. replicate n nothing_kept) end in
    subst (AreChainsOf db) (sym all) (none_marked db)

pub returns-clause-chains : goal.returns-clause-chains
returns-clause-chains c =
    let db : Db = c.args.db in
    let end : c.loop.counter ≡ length db = search rules in
    let all : c.loop.chains.items ≡ replicate (length db) nothing_kept = c.loop.invariant ∙ ap (λ n. replicate n nothing_kept) end in
    ap (shown db) all ∙ unmarked_shown db

pub returns-clause-now : goal.returns-clause-now
returns-clause-now c = is_now c.args.db c.loop.chains.items (invariant_of-result c)
