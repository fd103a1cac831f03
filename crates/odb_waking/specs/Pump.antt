-- How the pump sleeps, and how others wake it. A step is one atomic operation of one thread, and a run is any list of steps: what threads do may come in each order. [P 15.2]
use Rattle.std.specs.Prelude.{◌≡◌, ℕ, zero, suc, ◌<◌, ◌+◌, ◌||◌, Bool, true, false, not, if◌then◌else◌, List, fold}

-- where the pump is: before it counts as awake; before it forgets what was signaled; before its round; after a round that gave nothing; in a pause; before it counts as asleep; before it looks once more whether something was signaled; asleep
pub data Stage : Type 0 where
  begins : Stage
  forgets : Stage
  gives : Stage
  decides : Stage
  pauses : Stage
  lies_down : Stage
  looks_again : Stage
  sleeps : Stage

-- the pump; the flags that say that it is awake, and that something was signaled; whether its parker has a token; whether a session may be owed something, and whether a transaction is due sooner than it knows; and how many threads made something owed and haven't told it yet, made something due sooner and haven't called it yet, told it and haven't looked yet whether it is awake, and are to wake it
pub record Pump : Type 0 where
  pub stage : Stage
  pub awake : Bool
  pub signaled : Bool
  pub token : Bool
  pub owed : Bool
  pub sooner : Bool
  pub telling : ℕ
  pub calling : ℕ
  pub looking : ℕ
  pub waking : ℕ

-- the pump goes on, where one of two things may be: true, its round gives something or is refused memory, or a pause or a sleep is over by the clock; another thread makes something owed; one makes something due sooner; one that made something owed signals to the pump, and will look whether it is awake; one that made something due sooner calls it, and will wake it in any case; one looks; one wakes it; one that made something owed gives all that is owed by a round of its own, and won't tell; any other thread gives all that is owed
pub data Step : Type 0 where
  goes_on : Bool → Step
  owes : Step
  nears : Step
  tells : Step
  calls : Step
  looks : Step
  wakes : Step
  keeps_silent : Step
  gives_all : Step

-- nothing is owed, and the pump begins
abbrev pub begun : Pump
begun = record { stage = begins; awake = true; signaled = false; token = false; owed = false; sooner = false; telling = zero; calling = zero; looking = zero; waking = zero }

-- a round that gives nothing meets all that was owed, and learns what is due
abbrev pub pump_at : Stage → Bool → Pump → Pump
pump_at begins b p = record p { stage = forgets; awake = true }
pump_at forgets b p = record p { stage = gives; signaled = false }
pump_at gives true p = record p { stage = pauses }
pump_at gives false p = record p { stage = decides; owed = false; sooner = false }
pump_at decides b p = record p { stage = if p.signaled then pauses else lies_down }
pump_at pauses b p = record p { stage = begins; token = if b then p.token else false }
pump_at lies_down b p = record p { stage = looks_again; awake = false }
pump_at looks_again b p = record p { stage = if p.signaled then begins else sleeps }
pump_at sleeps b p = if p.token then record p { stage = begins; token = false } else record p { stage = if b then begins else sleeps }

-- where the pump goes on, where something was signaled or nothing was, and b is as above
abbrev pub next_stage : Bool → Bool → Stage → Stage
next_stage signaled b x = (pump_at x b (record begun { stage = x; signaled = signaled })).stage

abbrev pub signaled_by : ℕ → Pump → Pump
signaled_by zero p = p
signaled_by (suc n) p = record p { signaled = true; telling = n; looking = suc p.looking }

abbrev pub called_by : ℕ → Pump → Pump
called_by zero p = p
called_by (suc n) p = record p { signaled = true; calling = n; waking = suc p.waking }

abbrev pub looked_by : ℕ → Pump → Pump
looked_by zero p = p
looked_by (suc n) p = if p.awake then record p { looking = n } else record p { looking = n; waking = suc p.waking }

abbrev pub woken_by : ℕ → Pump → Pump
woken_by zero p = p
woken_by (suc n) p = record p { token = true; waking = n }

abbrev pub met_by : ℕ → Pump → Pump
met_by zero p = p
met_by (suc n) p = record p { owed = false; telling = n }

abbrev pub next : Step → Pump → Pump
next (goes_on b) p = pump_at p.stage b p
next owes p = record p { owed = true; telling = suc p.telling }
next nears p = record p { sooner = true; calling = suc p.calling }
next tells p = signaled_by p.telling p
next calls p = called_by p.calling p
next looks p = looked_by p.looking p
next wakes p = woken_by p.waking p
next keeps_silent p = met_by p.telling p
next gives_all p = record p { owed = false }

-- after a run
abbrev pub after : List Step → Pump
after steps = fold (λ p s. next s p) begun steps

-- the pump sleeps, and nothing has woken it
abbrev pub is_asleep : Pump → Bool
is_asleep p = elim p.stage [ begins ↦ false | forgets ↦ false | gives ↦ false | decides ↦ false | pauses ↦ false | lies_down ↦ false | looks_again ↦ false | sleeps ↦ not p.token ]

-- the pump never sleeps while something is owed, or due sooner than it knows, unless a thread is about to tell it, to call it, to look, or to wake it
abbrev pub NoPumpOversleeps : Type 0
NoPumpOversleeps = (steps : List Step) → (let p = after steps in is_asleep p ≡ true → (p.owed || p.sooner) ≡ true → 0 < p.telling + (p.calling + (p.looking + p.waking)))
