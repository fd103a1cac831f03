use Rattle.std.proofs.Common.{rules, ◌≡◌, ◌+◌, ◌<◌, ◌≤◌, arith, true, false, List, ◌∷◌, drop, is_some, length, option_map, slice_index_or, refl, subst, sym, ap, ◌∙◌, Some}
use Rattle.std.specs.Prelude.{IfSome, option_and_then}
use Rattle.std.proofs.lemmas.List.{drop_more}
use Rattle.odb_chain.specs.Chains.{Chains}
use Rattle.odb_monitor.specs.Job.{Job}
use Rattle.odb_schema.specs.Schema.{Schema}
use Rattle.odb_sessions.specs.Composed.{asked_of}
use Rattle.odb_round.specs.Foreseen.{Ahead, marked_ahead}
use Rattle.odb_round.specs.OfSchema.{AreOfSchema}
use Rattle.odb_sessions.specs.Marked.{marks_in, watch_of, Sessions}
use Rattle.odb_round.specs.Jobs.{certainly}
use Rattle.odb_round.specs.Planned.{Plan}
use Rattle.odb_round.specs.Represented.Sending.{sending_under}
use Rattle.odb_sessions.specs.Tied.{AreLive}
use Rattle.odb_round.specs.Sending.{due_sending}
use Rattle.odb_round.proofs.Aheads.{live_ahead, known_ahead}
use Rattle.odb_round.proofs.OneSchema.{ahead_of}
use Rattle.odb_round.proofs.Places.{is_told, keeps_itself, keeps_on, still_told, told_sending}
use Rattle.odb_round.proofs.Rests.{found_due, found_monitors, found_out, none_yet, owed_to, rest_done, rest_none, rest_of, sending_at}
use Rattle.odb_round.proofs.foreseen.due_of.Goals as goal
use Rattle.odb_sessions.specs.Book.{revision_at}
use Rattle.odb_round.specs.Known.{Basis, IsKnownAs}
use Rattle.odb_round.specs.Represented.Served.{place_told}
use Rattle.odb_round.specs.ByMarks.{IsDueTo, watch_due}
use Rattle.odb_round.proofs.Served.{one_ahead, served_on, served_so, update_to}

pub loop-place-init : goal.loop-place-init
loop-place-init c = record {
  basis = refl;
  chains = refl;
  recent = refl;
  jobs = keeps_itself c.args.wanted.now.jobs;
  likenesses = keeps_itself c.args.wanted.now.likenesses;
  within = omega arith;
  rest = λ h. none_yet (rest_of h c.args.wanted.now.chains.db c.args.monitors.now);
}

pub update-requires-clause-live : goal.update-requires-clause-live
update-requires-clause-live c =
    let k : Chains = c.args.wanted.now.chains in
    let xs : List Ahead = c.args.monitors.now in
    let i = c.loop-place.place in
    let x : Ahead = c.index-monitors-place.result in
    let low : i < length xs = search rules in
    let at : x ≡ slice_index_or xs i x = search rules in
    let live : AreLive k (marks_in x.marked) = subst (λ (y : Ahead). AreLive k (marks_in y.marked)) (sym at) (live_ahead k xs i x low c.requires.live) in
    subst (λ (n : Chains). AreLive n (marks_in x.marked)) (sym c.loop-place.invariant.chains) live

pub update-requires-clause-of : goal.update-requires-clause-of
update-requires-clause-of c =
    let s : Schema = c.args.wanted.now.basis.schema in
    let xs : List Ahead = c.args.monitors.now in
    let i = c.loop-place.place in
    let x : Ahead = c.index-monitors-place.result in
    let low : i < length xs = search rules in
    let at : x ≡ slice_index_or xs i x = search rules in
    let of : AreOfSchema s (asked_of x.marked.tables) = subst (λ (y : Ahead). AreOfSchema s (asked_of y.marked.tables)) (sym at) (ahead_of s xs i x low c.requires.of) in
    subst (λ (g : Basis). AreOfSchema g.schema (asked_of x.marked.tables)) (sym c.loop-place.invariant.basis) of

pub update-requires-clause-known : goal.update-requires-clause-known
update-requires-clause-known c =
    let m : Sessions = c.args.wanted.now.basis.sessions in
    let xs : List Ahead = c.args.monitors.now in
    let i = c.loop-place.place in
    let x : Ahead = c.index-monitors-place.result in
    let low : i < length xs = search rules in
    let at : x ≡ slice_index_or xs i x = search rules in
    let known : IsKnownAs m c.watch_at.result x.marked = known_ahead m c.args.watch c.watch_at.result xs i x low at c.watch_at.ensures c.requires.known in
    subst (λ (g : Basis). IsKnownAs g.sessions c.watch_at.result x.marked) (sym c.loop-place.invariant.basis) known

pub loop-place-preserved : goal.loop-place-preserved
loop-place-preserved c =
    let revision = revision_at c.args.wanted.now.chains c.args.wanted.now.recent in
    let xs : List Ahead = c.args.monitors.now in
    let i = c.loop-place.place in
    let x : Ahead = c.index-monitors-place.result in
    let low : i < length xs = search rules in
    let at : x ≡ slice_index_or xs i x = search rules in
    let step : drop i xs ≡ x ∷ drop (i + 1) xs = drop_more xs i x low ∙ ap (λ (y : Ahead). y ∷ drop (i + 1) xs) (sym at) in
    let js : List Job = c.update.new.wanted.jobs in
    let sent = option_and_then (sending_under js) c.in_ok-message.message in
    let none : is_some c.in_ok-message.message ≡ false = search rules in
    record {
      basis = c.update.ensures.basis ∙ c.loop-place.invariant.basis;
      chains = c.update.ensures.chains ∙ c.loop-place.invariant.chains;
      recent = c.update.ensures.recent ∙ c.loop-place.invariant.recent;
      jobs = keeps_on c.args.wanted.now.jobs c.loop-place.wanted.jobs js c.loop-place.invariant.jobs c.update.ensures.jobs;
      likenesses = keeps_on c.args.wanted.now.likenesses c.loop-place.wanted.likenesses c.update.new.wanted.likenesses c.loop-place.invariant.likenesses c.in_ok-message.ensures.marks.0;
      within = omega (arith, low);
      rest = λ h. c.loop-place.invariant.rest h
          ∙ rest_none h revision xs i x step sent (told_sending (sending_under js) c.in_ok-message.message _ (c.in_ok-message.ensures.text h js (keeps_itself js)) ∙ sending_at h c.loop-place.wanted.recent c.args.wanted.now.recent c.loop-place.wanted.chains c.args.wanted.now.chains x c.loop-place.invariant.recent c.loop-place.invariant.chains)
          (is_told (sending_under js) c.in_ok-message.message _ (c.in_ok-message.ensures.text h js (keeps_itself js)) ∙ none);
    }

pub returns-then-is_some-clause-monitors : goal.returns-then-is_some-clause-monitors
returns-then-is_some-clause-monitors c = λ h.
    let revision = revision_at c.args.wanted.now.chains c.args.wanted.now.recent in
    let xs : List Ahead = c.args.monitors.now in
    let i = c.loop-place.place in
    let x : Ahead = c.index-monitors-place.result in
    let low : i < length xs = search rules in
    let at : x ≡ slice_index_or xs i x = search rules in
    let step : drop i xs ≡ x ∷ drop (i + 1) xs = drop_more xs i x low ∙ ap (λ (y : Ahead). y ∷ drop (i + 1) xs) (sym at) in
    let js : List Job = c.update.new.wanted.jobs in
    let told = c.in_ok-message.ensures.text h js (keeps_itself js) in
    let sent = option_and_then (sending_under js) c.in_ok-message.message in
    let some : is_some c.in_ok-message.message ≡ true = search rules in
    sym (ap (λ (p : Plan). p.monitors) (c.loop-place.invariant.rest h)
    ∙ found_monitors h revision xs i x step sent (told_sending (sending_under js) c.in_ok-message.message _ told ∙ sending_at h c.loop-place.wanted.recent c.args.wanted.now.recent c.loop-place.wanted.chains c.args.wanted.now.chains x c.loop-place.invariant.recent c.loop-place.invariant.chains)
    (is_told (sending_under js) c.in_ok-message.message _ told ∙ some))

pub returns-then-is_some-clause-text : goal.returns-then-is_some-clause-text
returns-then-is_some-clause-text c = λ h all kept.
    let revision = revision_at c.args.wanted.now.chains c.args.wanted.now.recent in
    let xs : List Ahead = c.args.monitors.now in
    let i = c.loop-place.place in
    let x : Ahead = c.index-monitors-place.result in
    let low : i < length xs = search rules in
    let at : x ≡ slice_index_or xs i x = search rules in
    let step : drop i xs ≡ x ∷ drop (i + 1) xs = drop_more xs i x low ∙ ap (λ (y : Ahead). y ∷ drop (i + 1) xs) (sym at) in
    let told = c.in_ok-message.ensures.text h all kept in
    let sent = option_and_then (sending_under all) c.in_ok-message.message in
    let some : is_some c.in_ok-message.message ≡ true = search rules in
    still_told (sending_under all) c.in_ok-message.message _ _ told
    (sym (ap (λ (p : Plan). option_map (due_sending h revision) p.out) (c.loop-place.invariant.rest h)
    ∙ found_out h revision xs i x step sent (told_sending (sending_under all) c.in_ok-message.message _ told ∙ sending_at h c.loop-place.wanted.recent c.args.wanted.now.recent c.loop-place.wanted.chains c.args.wanted.now.chains x c.loop-place.invariant.recent c.loop-place.invariant.chains)
    (is_told (sending_under all) c.in_ok-message.message _ told ∙ some)))

pub returns-then-is_some-clause-jobs : goal.returns-then-is_some-clause-jobs
returns-then-is_some-clause-jobs c = keeps_on c.args.wanted.now.jobs c.loop-place.wanted.jobs c.update.new.wanted.jobs c.loop-place.invariant.jobs c.update.ensures.jobs

pub returns-then-is_some-clause-chains : goal.returns-then-is_some-clause-chains
returns-then-is_some-clause-chains c = c.update.ensures.chains ∙ c.loop-place.invariant.chains

pub returns-then-is_some-clause-recent : goal.returns-then-is_some-clause-recent
returns-then-is_some-clause-recent c = c.update.ensures.recent ∙ c.loop-place.invariant.recent

pub returns-then-is_some-clause-basis : goal.returns-then-is_some-clause-basis
returns-then-is_some-clause-basis c = c.update.ensures.basis ∙ c.loop-place.invariant.basis

pub returns-in_err-message-clause-jobs : goal.returns-in_err-message-clause-jobs
returns-in_err-message-clause-jobs c = keeps_on c.args.wanted.now.jobs c.loop-place.wanted.jobs c.update.new.wanted.jobs c.loop-place.invariant.jobs c.update.ensures.jobs

pub returns-clause-monitors : goal.returns-clause-monitors
returns-clause-monitors c = λ h.
    let xs : List Ahead = c.args.monitors.now in
    let past : length xs ≤ c.loop-place.place = search rules in
    sym (ap (λ (p : Plan). p.monitors) (c.loop-place.invariant.rest h ∙ rest_done h c.args.wanted.now.chains.db xs c.loop-place.place _ past c.loop-place.invariant.within (search rules)))

pub returns-clause-text : goal.returns-clause-text
returns-clause-text c = λ h all kept.
    let xs : List Ahead = c.args.monitors.now in
    let past : length xs ≤ c.loop-place.place = search rules in
    let within : c.loop-place.place ≤ length xs = c.loop-place.invariant.within in
    ap (option_map certainly) (sym (ap (λ (p : Plan). option_map (due_sending h (revision_at c.args.wanted.now.chains c.args.wanted.now.recent)) p.out) (c.loop-place.invariant.rest h ∙ rest_done h c.args.wanted.now.chains.db xs c.loop-place.place c.loop-place.place past within (omega (arith, past, within)))))

pub returns-clause-jobs : goal.returns-clause-jobs
returns-clause-jobs c = c.loop-place.invariant.jobs

pub returns-clause-chains : goal.returns-clause-chains
returns-clause-chains c = c.loop-place.invariant.chains

pub returns-clause-recent : goal.returns-clause-recent
returns-clause-recent c = c.loop-place.invariant.recent

pub returns-clause-basis : goal.returns-clause-basis
returns-clause-basis c = c.loop-place.invariant.basis

pub returns-then-is_some-clause-marks : goal.returns-then-is_some-clause-marks
returns-then-is_some-clause-marks c = λ h.
    let revision = revision_at c.args.wanted.now.chains c.args.wanted.now.recent in
    let xs : List Ahead = c.args.monitors.now in
    let i = c.loop-place.place in
    let x : Ahead = c.index-monitors-place.result in
    let low : i < length xs = search rules in
    let at : x ≡ slice_index_or xs i x = search rules in
    let step : drop i xs ≡ x ∷ drop (i + 1) xs = drop_more xs i x low ∙ ap (λ (y : Ahead). y ∷ drop (i + 1) xs) (sym at) in
    let js : List Job = c.update.new.wanted.jobs in
    let told = c.in_ok-message.ensures.text h js (keeps_itself js) in
    let sent = option_and_then (sending_under js) c.in_ok-message.message in
    let some : is_some c.in_ok-message.message ≡ true = search rules in
    let out : (rest_of h revision.db xs).out ≡ owed_to h revision.db x =
    ap (λ (p : Plan). p.out) (c.loop-place.invariant.rest h)
    ∙ found_due h revision xs i x step sent (told_sending (sending_under js) c.in_ok-message.message _ told ∙ sending_at h c.loop-place.wanted.recent c.args.wanted.now.recent c.loop-place.wanted.chains c.args.wanted.now.chains x c.loop-place.invariant.recent c.loop-place.invariant.chains)
    (is_told (sending_under js) c.in_ok-message.message _ told ∙ some)
    in
    served_on c.args.wanted.now.likenesses c.loop-place.wanted.likenesses c.update.new.wanted.likenesses (IsDueTo (rest_of h revision.db xs).out (marked_ahead xs)) (place_told c.in_ok-message.message) c.loop-place.invariant.likenesses
    (served_so c.loop-place.wanted.likenesses c.update.new.wanted.likenesses (λ y. y ≡ x.marked) (IsDueTo (rest_of h revision.db xs).out (marked_ahead xs)) (place_told c.in_ok-message.message)
    (λ y is. (
      one_ahead xs i x y low at is,
      subst (λ o. IfSome o (λ d. watch_due d ≡ Some (watch_of y))) (sym out) (update_to h revision.db (watch_of x.marked).requests x y is),
    ))
    c.in_ok-message.ensures.marks)

pub returns-clause-marks : goal.returns-clause-marks
returns-clause-marks c = λ h. (c.loop-place.invariant.likenesses, tt)
