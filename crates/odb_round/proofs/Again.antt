-- What was decided of what is alike serves the client of a monitor again.
use Rattle.std.proofs.Common.{Option, subst, sym, ℕ}
use Rattle.odb_monitor.specs.Job.{Job}
use Rattle.odb_sessions.specs.Composed.{asked_of}
use Rattle.odb_sessions.specs.Marked.{MarkedMonitor, marks_in}
use Rattle.odb_sessions.specs.Represented.Alike.{likeness_in}
use Rattle.odb_sessions.specs.Represented.Job.{job_in}
use Rattle.odb_sessions.specs.Tied.{AreLive}
use Rattle.odb_sessions.specs.Alike.{Likeness}
use Rattle.odb_sessions.specs.declared.way.Way.{Way}
use Rattle.odb_schema.specs.Schema.{Schema}
use Rattle.odb_round.specs.Jobs.{IsFor, Wanted, if_sent}
use Rattle.odb_round.specs.OfSchema.{AreOfSchema}
use Rattle.odb_round.specs.Represented.Decided.{AreDecided, AreDecisionsOf, ArePlaced, IsFoundIn, IsLikenessOf, IsThere}
use Rattle.odb_round.specs.Represented.Served.{IsAtPlace}
use Rattle.odb_round.specs.declared.decided.Decided.{Decided}
use Rattle.odb_round.proofs.Decisions.{found, placed}
use Rattle.odb_round.proofs.Likenesses.{like_job}
use Rattle.odb_round.proofs.OneSchema.{likeness_of}

-- it was decided of what is alike, if all is of the schema
abbrev pub IsAgain : Decided → Likeness → Option ℕ → Type 0
IsAgain d l place = (s : Schema) → AreDecisionsOf s d → IsLikenessOf s l → IsThere d (record { likeness = l; place = place })

-- it stands there
there : (w : Wanted) (d : Decided) (x : MarkedMonitor) (v : Way) (place : Option ℕ) → AreOfSchema w.basis.schema (asked_of x.tables) → AreDecisionsOf w.basis.schema d → IsAgain d (likeness_in x v) place
    → IsThere d (record { likeness = likeness_in x v; place = place })
there w d x v place of all again = again w.basis.schema all (likeness_of w.basis.schema x v of)

-- its place is that of the job
pub place_again : (w : Wanted) (d : Decided) (x : MarkedMonitor) (v : Way) (place : Option ℕ) → AreLive w.chains (marks_in x) → AreOfSchema w.basis.schema (asked_of x.tables) → IsFoundIn w.recent v
    → AreDecided w.chains w.recent.undos w.jobs d → AreDecisionsOf w.basis.schema d → IsAgain d (likeness_in x v) place → IsFor w.jobs (if_sent (job_in w.chains.db x v)) place
place_again w d x v place live of own decided all again =
    let at : IsThere d (record { likeness = likeness_in x v; place = place }) = there w d x v place of all again in
    subst (λ (j : Job). IsFor w.jobs (if_sent j) place) (sym (like_job w.chains w.recent x v own live)) (found w.chains w.recent.undos w.jobs d at.0 (record { likeness = likeness_in x v; place = place }) decided at.1)

-- the likeness stands there
pub likeness_again : (w : Wanted) (d : Decided) (x : MarkedMonitor) (v : Way) (place : Option ℕ) → AreOfSchema w.basis.schema (asked_of x.tables) → ArePlaced w.likenesses d → AreDecisionsOf w.basis.schema d
    → IsAgain d (likeness_in x v) place → IsAtPlace w.likenesses (likeness_in x v) place
likeness_again w d x v place of at all again =
    let n : IsThere d (record { likeness = likeness_in x v; place = place }) = there w d x v place of all again in
    placed w.likenesses d n.0 (record { likeness = likeness_in x v; place = place }) at n.1
