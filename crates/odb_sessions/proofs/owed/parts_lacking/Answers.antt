use Rattle.std.proofs.Common.{rules, ◌≡◌, ◌<◌, ◌≤◌, ◌+◌, List, [], ◌∷◌, ◌++◌, Option, drop, get_or, length, map, slice_index_or, append-nil, append_assoc, sym, subst}
use Rattle.std.specs.Prelude.{option_to_list}
use Rattle.std.proofs.lemmas.List.{drop_all}
use Rattle.odb_monitor.specs.Job.{Part}
use Rattle.odb_sessions.specs.Composed.{IsKnown, IsLacking, part_to}
use Rattle.odb_sessions.specs.Marked.{Watched}
use Rattle.odb_sessions.proofs.Silent.{Same, same_none, same_step, same_updates}
use Rattle.odb_sessions.proofs.Steps.{front}
use Rattle.odb_sessions.proofs.owed.parts_lacking.Goals as goal

pub lacking_part-requires : goal.lacking_part-requires
lacking_part-requires c =
    let ws : List Watched = c.args.tables.now in
    let i = c.loop-table.table-index in
    let y : Watched = c.table-item.result in
    let inside : i < length ws = search rules in
    let is : y ≡ slice_index_or ws i y = search rules in
    subst (IsKnown c.args.chains.now) (sym is) (c.requires i y inside)

pub loop-table-preserved : goal.loop-table-preserved
loop-table-preserved c = λ qs h.
    let db = c.args.chains.now.db in
    let ws : List Watched = c.args.tables.now in
    let i = c.loop-table.table-index in
    let y : Watched = c.table-item.result in
    let inside : i < length ws = search rules in
    let at : y ≡ get_or ws i y = search rules in
    let o : Option Part = c.in_ok-part.part in
    let stands : IsLacking db y o = search rules in
    let items : c.add_part.new.parts.items ≡ c.loop-table.parts.items ++ option_to_list o = search rules in
    let rest : drop i ws ≡ y ∷ drop (i + 1) ws = front ws i y inside at in
    let one : Same (map (part_to db) (drop i ws)) (option_to_list o ++ qs) =
    subst (λ (zs : List Watched). Same (map (part_to db) zs) (option_to_list o ++ qs)) (sym rest) (same_step db y o (map (part_to db) (drop (i + 1) ws)) qs stands h) in
    subst (λ (ps : List Part). Same (map (part_to db) ws) (ps ++ qs)) (sym items)
    (subst (λ (ps : List Part). Same (map (part_to db) ws) ps) (sym (append_assoc c.loop-table.parts.items (option_to_list o) qs)) (c.loop-table.invariant (option_to_list o ++ qs) one))

pub returns : goal.returns
returns c = λ n.
    let db = c.args.chains.now.db in
    let ws : List Watched = c.args.tables.now in
    let past : length ws ≤ c.loop-table.table-index = search rules in
    let none : Same (map (part_to db) (drop c.loop-table.table-index ws)) [] = subst (λ (zs : List Watched). Same (map (part_to db) zs) []) (sym (drop_all c.loop-table.table-index ws past)) same_none in
    let all : Same (map (part_to db) ws) c.loop-table.parts.items = subst (λ (ps : List Part). Same (map (part_to db) ws) ps) (append-nil c.loop-table.parts.items) (c.loop-table.invariant [] none) in
    sym (same_updates n (map (part_to db) ws) c.loop-table.parts.items all)
