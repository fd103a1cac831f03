use Rattle.std.proofs.Common.{rules, ◌≡◌, ◌+◌, true, ◌∷◌, drop, slice_index_or, sym, subst}
use Rattle.std.specs.BTreeSet.{Updates}
use Rattle.std.specs.Ordering.{nat_cmp}
use Rattle.std.proofs.lemmas.List.{drop_more}
use Rattle.odb_sessions.specs.Owed.{AreAdded}
use Rattle.odb_sessions.proofs.OwedSessions.{kept_noted, one_noted}
use Rattle.odb_sessions.proofs.sessions.add_each.Goals as goal

pub loop-session-preserved : goal.loop-session-preserved
loop-session-preserved c =
    let ss = c.args.sessions.now in
    let i = c.loop-session.session-index in
    let s = slice_index_or ss i 0 in
    let old = c.loop-session.owed in
    let now = c.insert.new.self in
    let step : drop i ss ≡ s ∷ drop (i + 1) ss = drop_more ss i 0 c.loop-session-test.true in
    let grown : Updates nat_cmp old now s true = search rules in (
      kept_noted c.args.owed.now old now s c.loop-session.invariant.0 grown,
      λ o rest. c.loop-session.invariant.1 o (subst (AreAdded old o) (sym step) (one_noted old now o s (drop (i + 1) ss) grown rest)),
    )
