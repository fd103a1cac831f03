use Rattle.std.proofs.Common.{rules, ◌≡◌, ◌<◌, ◌+◌, true, false, not, [], ◌∷◌, ◌++◌, drop, length, slice_index_or, sym, ap, ◌∙◌, append_assoc}
use Rattle.std.specs.BTreeSet.{Updates, contains}
use Rattle.std.specs.BTreeMap.{is_at}
use Rattle.std.specs.List.{filter, list_any}
use Rattle.std.specs.Ordering.{nat_cmp}
use Rattle.std.proofs.lemmas.List.{drop_more}
use Rattle.odb_service.specs.Run.{once}
use Rattle.odb_core.proofs.ListedSessions.{left_over, none_seen, seen_again, seen_first}
use Rattle.odb_core.proofs.server.once.Goals as goal
use Rattle.odb_core.proofs.server.once.Goals.{then-branch+in_ok-push, else-branch}

pub loop-session-init : goal.loop-session-init
loop-session-init c = ap (λ xs. xs ++ left_over c.new-seen.result c.args.ready.now) c.new-listed.ensures.items ∙ none_seen c.new-seen.result c.new-seen.ensures.empty c.args.ready.now

pub loop-session-preserved : goal.loop-session-preserved
loop-session-preserved c =
    let xs = c.args.ready.now in
    let i = c.loop-session.session-index in
    let x = slice_index_or xs i 0 in
    let within : i < length xs = search rules in
    let first : drop i xs ≡ x ∷ drop (i + 1) xs = drop_more xs i 0 within in
    let before : c.loop-session.listed.items ++ left_over c.loop-session.seen (x ∷ drop (i + 1) xs) ≡ once xs = ap (λ ys. c.loop-session.listed.items ++ left_over c.loop-session.seen ys) (sym first) ∙ c.loop-session.invariant in
    let added : Updates nat_cmp c.loop-session.seen c.insert.new.self x true = search rules in
    elim c.if-branch.branch [
      | then-branch+in_ok-push w ↦
          let fresh : contains nat_cmp c.loop-session.seen x ≡ false = search rules in
          let grown : c.if-branch.listed.items ≡ c.loop-session.listed.items ++ x ∷ [] = search rules in
          ap (λ ys. ys ++ left_over c.insert.new.self (drop (i + 1) xs)) grown ∙ append_assoc c.loop-session.listed.items (x ∷ []) _ ∙ ap (λ ys. c.loop-session.listed.items ++ ys) (sym (seen_first c.loop-session.seen c.insert.new.self x (drop (i + 1) xs) fresh added)) ∙ before
      | else-branch w ↦
          let seen_before : contains nat_cmp c.loop-session.seen x ≡ true = search rules in
          let same : c.insert.new.self.keys ≡ c.loop-session.seen.keys = search rules in
          ap (λ ys. ys.items ++ left_over c.insert.new.self (drop (i + 1) xs)) w.listed-is
          ∙ ap (λ ks. c.loop-session.listed.items ++ filter (λ t. not (list_any (is_at (nat_cmp t)) ks)) (once (drop (i + 1) xs))) same
          ∙ ap (λ ys. c.loop-session.listed.items ++ ys) (sym (seen_again c.loop-session.seen x (drop (i + 1) xs) seen_before)) ∙ before
    ]
