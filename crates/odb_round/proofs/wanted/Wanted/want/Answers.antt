use Rattle.std.proofs.Common.{rules, ◌≡◌, ◌++◌, ◌∷◌, [], true, false, List, is_some, length, Some, None, refl, subst, sym, ap, ◌∙◌}
use Rattle.std.specs.List.{All}
use Rattle.odb_chain.specs.Chains.{Chains}
use Rattle.odb_monitor.specs.Job.{Job, updates_of}
use Rattle.odb_recent.specs.Recent.{Recent}
use Rattle.odb_recent.specs.Undo.{Undo}
use Rattle.odb_schema.specs.Schema.{Schema}
use Rattle.odb_round.specs.Alike.{IsLike, job_like}
use Rattle.odb_sessions.specs.Alike.{Likeness}
use Rattle.odb_sessions.specs.Composed.{asked_of}
use Rattle.odb_round.specs.OfSchema.{AreOfSchema}
use Rattle.odb_sessions.specs.FirstTexts.{FirstText, IsOfNow}
use Rattle.odb_sessions.specs.Marked.{MarkedMonitor, marks_in}
use Rattle.odb_round.specs.Jobs.{Decision, IsFor, Keeps, Wanted, if_sent}
use Rattle.odb_round.specs.Represented.Decided.{IsFoundIn, AreDecided, AreDecisionsOf, ArePlaced, AreShared, AreSharedPlaced, Differs, IsPlanned, Puts, bucket_at}
use Rattle.odb_sessions.specs.Represented.Alike.{likeness_in}
use Rattle.odb_round.specs.ByMarks.{contents}
use Rattle.odb_sessions.specs.Represented.Digest.{digest}
use Rattle.odb_sessions.specs.Represented.Job.{job_in}
use Rattle.odb_round.specs.Represented.Served.{IsAtPlace}
use Rattle.odb_sessions.specs.Tied.{AreLive}
use Rattle.odb_round.specs.declared.decided.Decided.{Decided}
use Rattle.odb_round.proofs.Again.{likeness_again, place_again}
use Rattle.odb_round.proofs.Decisions.{more_planned, same_planned, silent_planned, zipped_length}
use Rattle.odb_round.proofs.FirstTexts.{of_now}
use Rattle.odb_round.proofs.Likenesses.{like_job, of_commits, of_requests}
use Rattle.odb_round.proofs.OneSchema.{likeness_of, more_decided, same_decided}
use Rattle.odb_round.proofs.Places.{added_at, keeps_added, keeps_itself, keeps_same, none_for, some_for}
use Rattle.odb_round.proofs.Served.{served_at}
use Rattle.odb_round.proofs.wanted.Wanted.want.Goals as goal
use Rattle.odb_round.proofs.SharedPlaces.{still_shared, still_shared_placed}

pub returns-in-Some-clause-place : goal.returns-in-Some-clause-place
returns-in-Some-clause-place c =
    let d : Decided = c.self.inside.decided in
    let decided : AreDecided c.args.self.now.chains c.args.self.now.recent.undos c.args.self.now.jobs d = subst (λ (w : Wanted). AreDecided w.chains w.recent.undos w.jobs d) c.self.view_is c.self.invariant.0.0 in
    let all : AreDecisionsOf c.args.self.now.basis.schema d = subst (λ (w : Wanted). AreDecisionsOf w.basis.schema d) c.self.view_is c.self.invariant.1 in
    place_again c.args.self.now d c.args.monitor.now c.args.way c.in-Some.place c.requires.live c.requires.of c.requires.found decided all c.in-Some.ensures.some

pub returns-in-Some-clause-likeness : goal.returns-in-Some-clause-likeness
returns-in-Some-clause-likeness c =
    let d : Decided = c.self.inside.decided in
    let at : ArePlaced c.args.self.now.likenesses d = subst (λ (w : Wanted). ArePlaced w.likenesses d) c.self.view_is c.self.invariant.0.6 in
    let all : AreDecisionsOf c.args.self.now.basis.schema d = subst (λ (w : Wanted). AreDecisionsOf w.basis.schema d) c.self.view_is c.self.invariant.1 in
    likeness_again c.args.self.now d c.args.monitor.now c.args.way c.in-Some.place c.requires.of at all c.in-Some.ensures.some

pub returns-in-Some-clause-marks : goal.returns-in-Some-clause-marks
returns-in-Some-clause-marks c =
    let d : Decided = c.self.inside.decided in
    let at : ArePlaced c.args.self.now.likenesses d = subst (λ (w : Wanted). ArePlaced w.likenesses d) c.self.view_is c.self.invariant.0.6 in
    let all : AreDecisionsOf c.args.self.now.basis.schema d = subst (λ (w : Wanted). AreDecisionsOf w.basis.schema d) c.self.view_is c.self.invariant.1 in
    let here : IsAtPlace c.args.self.now.likenesses (likeness_in c.args.monitor.now c.args.way) c.in-Some.place = likeness_again c.args.self.now d c.args.monitor.now c.args.way c.in-Some.place c.requires.of at all c.in-Some.ensures.some in
    served_at c.args.self.now.likenesses c.args.self.now.likenesses c.args.monitor.now c.args.way c.in-Some.place (keeps_itself c.args.self.now.likenesses) here

pub returns-in-Some-clause-jobs : goal.returns-in-Some-clause-jobs
returns-in-Some-clause-jobs c = keeps_itself c.args.self.now.jobs

pub invariant_of-self : goal.invariant_of-self
invariant_of-self c =
    let js : List Job = c.self.inside.listed.jobs.items in
    let ls : List Likeness = c.self.inside.listed.askings.items in (
      same_planned c.self.inside.chains.now c.self.inside.recent.now.undos c.self.inside.firsts.now js js ls ls c.self.inside.decided c.put.new.self refl refl c.in_err-put.ensures.err c.self.invariant.0,
      same_decided c.self.inside.basis.schema c.self.inside.decided c.put.new.self c.in_err-put.ensures.err c.self.invariant.1,
      c.self.invariant.2,
      c.self.invariant.3,
    )

pub invariant_of-self-then-not-is_sent : goal.invariant_of-self-then-not-is_sent
invariant_of-self-then-not-is_sent c =
    let k : Chains = c.self.inside.chains.now in
    let r : Recent = c.self.inside.recent.now in
    let us : List Undo = r.undos in
    let fs : List FirstText = c.self.inside.firsts.now in
    let js : List Job = c.self.inside.listed.jobs.items in
    let ls : List Likeness = c.self.inside.listed.askings.items in
    let d : Decided = c.self.inside.decided in
    let x : MarkedMonitor = c.args.monitor.now in
    let l : Likeness = likeness_in x c.args.way in
    let live : AreLive k (marks_in x) = subst (λ (w : Wanted). AreLive w.chains (marks_in x)) (sym c.self.view_is) c.requires.live in
    let own : IsFoundIn r c.args.way = subst (λ (w : Wanted). IsFoundIn w.recent c.args.way) (sym c.self.view_is) c.requires.found in
    let job : Job = c.in_ok-job.job in
    let is : job ≡ job_like (contents k) us k.db l = c.in_ok-job.ensures ∙ sym (ap (λ (w : Wanted). job_in w.chains.db x c.args.way) c.self.view_is) ∙ like_job k r x c.args.way own live in
    let silent : is_some (updates_of job) ≡ false = search rules in
    let none : is_some (updates_of (job_like (contents k) us k.db l)) ≡ false = ap (λ (j : Job). is_some (updates_of j)) (sym is) ∙ silent in
    let puts : Puts d c.put.new.self (record { likeness = l; place = None }) = subst (λ (e : Decision). Puts d c.put.new.self e) c.new.ensures c.in_ok-put.ensures.ok in
    let s : Schema = c.self.inside.basis.schema in
    let of : AreOfSchema s (asked_of x.tables) = subst (λ (w : Wanted). AreOfSchema w.basis.schema (asked_of x.tables)) (sym c.self.view_is) c.requires.of in
    (silent_planned k us fs js ls d c.put.new.self l none puts c.self.invariant.0, more_decided s d c.put.new.self (record { likeness = l; place = None }) puts (likeness_of s x c.args.way of) c.self.invariant.1, c.self.invariant.2, c.self.invariant.3)

pub invariant_of-self-in_err-place : goal.invariant_of-self-in_err-place
invariant_of-self-in_err-place c =
    let planned : IsPlanned c.self.inside.chains.now c.self.inside.recent.now.undos c.self.inside.firsts.now c.add.new.self.jobs.items c.add.new.self.askings.items c.add.new.decided =
    same_planned c.self.inside.chains.now c.self.inside.recent.now.undos c.self.inside.firsts.now c.self.inside.listed.jobs.items c.add.new.self.jobs.items c.self.inside.listed.askings.items c.add.new.self.askings.items c.self.inside.decided c.add.new.decided
    c.in_err-place.ensures.kept c.in_err-place.ensures.known c.in_err-place.ensures.undecided c.self.invariant.0
    in
    let shared : AreShared c.self.inside.basis c.self.inside.chains.now c.self.inside.recent.now.undos c.add.new.self.jobs.items c.self.inside.shared =
    subst (λ (js : List Job). AreShared c.self.inside.basis c.self.inside.chains.now c.self.inside.recent.now.undos js c.self.inside.shared) (sym c.in_err-place.ensures.kept) c.self.invariant.2
    in
    let placed : AreSharedPlaced c.add.new.self.askings.items c.self.inside.shared = subst (λ (ls : List Likeness). AreSharedPlaced ls c.self.inside.shared) (sym c.in_err-place.ensures.known) c.self.invariant.3 in
    (planned, same_decided c.self.inside.basis.schema c.self.inside.decided c.add.new.decided c.in_err-place.ensures.undecided c.self.invariant.1, shared, placed)

pub invariant_of-self-2 : goal.invariant_of-self-2
invariant_of-self-2 c =
    let k : Chains = c.self.inside.chains.now in
    let r : Recent = c.self.inside.recent.now in
    let us : List Undo = r.undos in
    let fs : List FirstText = c.self.inside.firsts.now in
    let js : List Job = c.self.inside.listed.jobs.items in
    let ls : List Likeness = c.self.inside.listed.askings.items in
    let d : Decided = c.self.inside.decided in
    let x : MarkedMonitor = c.args.monitor.now in
    let l : Likeness = likeness_in x c.args.way in
    let live : AreLive k (marks_in x) = subst (λ (w : Wanted). AreLive w.chains (marks_in x)) (sym c.self.view_is) c.requires.live in
    let own : IsFoundIn r c.args.way = subst (λ (w : Wanted). IsFoundIn w.recent c.args.way) (sym c.self.view_is) c.requires.found in
    let job : Job = c.decide.new.self in
    let whole : job ≡ job_in k.db x c.args.way = c.decide.ensures.job ∙ c.in_ok-job.ensures ∙ sym (ap (λ (w : Wanted). job_in w.chains.db x c.args.way) c.self.view_is) in
    let is : job ≡ job_like (contents k) us k.db l = whole ∙ like_job k r x c.args.way own live in
    let now : IsOfNow k.db job = subst (IsOfNow k.db) (sym whole) (of_now k.db x c.args.way) in
    let had : is_some (updates_of c.in_ok-job.job) ≡ true = search rules in
    let sent : is_some (updates_of job) ≡ true = ap (λ (j : Job). is_some (updates_of j)) c.decide.ensures.job ∙ had in
    let fresh : All (Differs l) (bucket_at d (digest l)) = subst (λ n. All (Differs l) (bucket_at d n)) c.digest_of-digest.ensures (c.in_default.ensures.none refl) in
    let more : IsPlanned k us fs (js ++ job ∷ []) (ls ++ l ∷ []) c.add.new.decided = more_planned k us fs js ls d c.add.new.decided l job (is, of_requests x c.args.way, of_commits r x c.args.way own) now sent fresh c.in_ok-place.ensures.decided c.self.invariant.0 in
    let planned : IsPlanned k us fs c.add.new.self.jobs.items c.add.new.self.askings.items c.add.new.decided =
    subst (λ (bs : List Job). IsPlanned k us fs bs c.add.new.self.askings.items c.add.new.decided) (sym c.in_ok-place.ensures.jobs)
    (subst (λ (ms : List Likeness). IsPlanned k us fs (js ++ job ∷ []) ms c.add.new.decided) (sym c.in_ok-place.ensures.askings) more)
    in
    let s : Schema = c.self.inside.basis.schema in
    let of : AreOfSchema s (asked_of x.tables) = subst (λ (w : Wanted). AreOfSchema w.basis.schema (asked_of x.tables)) (sym c.self.view_is) c.requires.of in
    (planned, more_decided s d c.add.new.decided (record { likeness = l; place = Some (length js) }) c.in_ok-place.ensures.decided (likeness_of s x c.args.way of) c.self.invariant.1, still_shared c.self.inside.basis k us js c.add.new.self.jobs.items c.self.inside.shared (keeps_added js c.add.new.self.jobs.items job c.in_ok-place.ensures.jobs) c.self.invariant.2, still_shared_placed ls c.add.new.self.askings.items c.self.inside.shared (keeps_added ls c.add.new.self.askings.items l c.in_ok-place.ensures.askings) c.self.invariant.3)

pub returns-then-not-is_sent-clause-place : goal.returns-then-not-is_sent-clause-place
returns-then-not-is_sent-clause-place c =
    let js : List Job = c.self.inside.listed.jobs.items in
    let job : Job = c.in_ok-job.job in
    let silent : is_some (updates_of job) ≡ false = search rules in
    let is : job ≡ job_in c.args.self.now.chains.db c.args.monitor.now c.args.way = c.in_ok-job.ensures in
    subst (λ (j : Job). IsFor js (if_sent j) None) is (none_for js job silent)

pub returns-then-not-is_sent-clause-jobs : goal.returns-then-not-is_sent-clause-jobs
returns-then-not-is_sent-clause-jobs c = keeps_same c.args.self.now.jobs c.self.inside.listed.jobs.items (ap (λ (w : Wanted). w.jobs) c.self.view_is)

pub returns-clause-place : goal.returns-clause-place
returns-clause-place c =
    let new : List Job = c.add.new.self.jobs.items in
    let job : Job = c.decide.new.self in
    let had : is_some (updates_of c.in_ok-job.job) ≡ true = search rules in
    let sent : is_some (updates_of job) ≡ true = ap (λ (j : Job). is_some (updates_of j)) c.decide.ensures.job ∙ had in
    let is : job ≡ job_in c.args.self.now.chains.db c.args.monitor.now c.args.way = c.decide.ensures.job ∙ c.in_ok-job.ensures in
    subst (λ (j : Job). IsFor new (if_sent j) (Some c.in_ok-place.place)) is
    (some_for new job c.in_ok-place.place (added_at c.self.inside.listed.jobs.items new job c.in_ok-place.place c.in_ok-place.ensures.jobs c.in_ok-place.ensures.place) sent)

pub returns-clause-jobs : goal.returns-clause-jobs
returns-clause-jobs c =
    let new : List Job = c.add.new.self.jobs.items in
    subst (λ (bs : List Job). Keeps bs new) (ap (λ (w : Wanted). w.jobs) c.self.view_is) (keeps_added c.self.inside.listed.jobs.items new c.decide.new.self c.in_ok-place.ensures.jobs)

pub returns-then-not-is_sent-clause-likeness : goal.returns-then-not-is_sent-clause-likeness
returns-then-not-is_sent-clause-likeness c = tt

pub returns-then-not-is_sent-clause-marks : goal.returns-then-not-is_sent-clause-marks
returns-then-not-is_sent-clause-marks c =
    (keeps_same c.args.self.now.likenesses c.self.inside.listed.askings.items (ap (λ (w : Wanted). w.likenesses) c.self.view_is), tt)

pub returns-clause-likeness : goal.returns-clause-likeness
returns-clause-likeness c =
    let js : List Job = c.self.inside.listed.jobs.items in
    let ls : List Likeness = c.self.inside.listed.askings.items in
    let long : length js ≡ length ls = zipped_length (IsLike (contents c.self.inside.chains.now) c.self.inside.recent.now.undos c.self.inside.chains.now.db) js ls c.self.invariant.0.5 in
    added_at ls c.add.new.self.askings.items (likeness_in c.args.monitor.now c.args.way) c.in_ok-place.place c.in_ok-place.ensures.askings (c.in_ok-place.ensures.place ∙ long)

pub returns-clause-marks : goal.returns-clause-marks
returns-clause-marks c =
    let x : MarkedMonitor = c.args.monitor.now in
    let l : Likeness = likeness_in x c.args.way in
    let js : List Job = c.self.inside.listed.jobs.items in
    let ls : List Likeness = c.self.inside.listed.askings.items in
    let new : List Likeness = c.add.new.self.askings.items in
    let long : length js ≡ length ls = zipped_length (IsLike (contents c.self.inside.chains.now) c.self.inside.recent.now.undos c.self.inside.chains.now.db) js ls c.self.invariant.0.5 in
    served_at c.args.self.now.likenesses new x c.args.way (Some c.in_ok-place.place)
    (subst (λ (bs : List Likeness). Keeps bs new) (ap (λ (w : Wanted). w.likenesses) c.self.view_is) (keeps_added ls new l c.in_ok-place.ensures.askings))
    (added_at ls new l c.in_ok-place.place c.in_ok-place.ensures.askings (c.in_ok-place.ensures.place ∙ long))
