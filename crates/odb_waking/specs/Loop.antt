-- How a loop of the server sleeps, a thread that serves many sessions by what a poll reports of their sockets, how those that give a session messages wake it, and how a session ends: one loop, and one of its sessions. A step is one atomic operation of one thread, and a run is any list of steps: what threads do may come in each order. [P 15.2]
use Rattle.std.specs.Prelude.{◌≡◌, ℕ, zero, suc, ◌&&◌, ◌||◌, Bool, true, false, not, if◌then◌else◌, List, fold}

-- where the thread is that has the lock
pub data Giver : Type 0 where
  -- none has it
  idle : Giver
  -- it found no room; it said that a message is held back; it sent one
  refused : Giver
  marked : Giver
  sent : Giver
  -- it is to call the session; to tell the loop that one was called
  calls : Giver
  tells : Giver

-- where the loop is
pub data Stage : Type 0 where
  -- before it forgets what was signaled; before it takes the calls
  begins : Stage
  collects : Stage
  -- at the session: it writes; takes a message out of the ring; looks whether one is held back; has rounds run; looks whether it may submit; reads and submits
  writes : Stage
  takes : Stage
  looks : Stage
  refills : Stage
  checks : Stage
  submits : Stage
  -- where nothing more is submitted: it looks whether all is written; it has the session leave
  ends : Stage
  leaves : Stage
  -- before it counts as asleep; before it looks once more whether something was signaled; asleep in the poll; before it counts as awake
  lies_down : Stage
  looks_again : Stage
  sleeps : Stage
  rises : Stage

pub record Loop : Type 0 where
  -- how many messages the session's ring has; whether one is held back, and whether the flag says so; whether one was sent since a request of its met Busy
  pub in_ring : ℕ
  pub held : Bool
  pub holds : Bool
  pub given : Bool
  -- whether the session is called; the loop's flags: that any session was, and that it counts as asleep; whether the poll has a token
  pub called : Bool
  pub any : Bool
  pub asleep : Bool
  pub token : Bool
  -- how many threads told the loop and haven't looked yet whether that still counts as signaled; saw that it does, and are to swap its flag; are to wake it
  pub looking : ℕ
  pub swapping : ℕ
  pub waking : ℕ
  -- whether the socket is full; whether what is in it wasn't all read; whether the poll has an event of it
  pub full : Bool
  pub unread : Bool
  pub ready : Bool
  -- whether the peer ended its side, and sends no more; whether it can neither send nor take
  pub half : Bool
  pub over : Bool
  -- what the loop knows: that the poll reported the session; that its socket is full; that a request of its waits to be submitted again, and that it wasn't called since that met Busy
  pub reported : Bool
  pub blocked : Bool
  pub waits : Bool
  pub busy : Bool
  -- that the peer ended its side; that the session is to end at once; that nothing more is read or submitted; that the session has left; that the connection is closed
  pub ended : Bool
  pub cut : Bool
  pub done : Bool
  pub has_left : Bool
  pub closed : Bool
  pub giver : Giver
  pub stage : Stage

pub data Step : Type 0 where
  -- a thread takes the lock and puts a message, or what is held back, and goes on: there is room or not
  puts : Bool → Step
  flushes : Bool → Step
  giver_goes_on : Bool → Step
  -- one calls another session of the loop, and tells it; one that told it looks whether that still counts as signaled, swaps its flag, wakes it
  calls_another : Step
  giver_looks : Step
  giver_swaps : Step
  giver_wakes : Step
  -- the peer takes bytes out of the socket; it sends some; it ends its side; it can neither send nor take any more
  peer_takes : Step
  peer_sends : Step
  peer_ends : Step
  peer_goes : Step
  -- the daemon's patience with the peer is at its end
  cuts_off : Step
  -- the loop goes on, and where one of two things may be, true means: the socket takes all; the request that waits is accepted; all is read; the poll reports the session
  loop_goes_on : Bool → Step
  -- a request meets Busy
  meets_busy : Step

-- nothing was put, and the loop begins
abbrev pub begun : Loop
begun = record { in_ring = zero; held = false; holds = false; given = false; called = false; any = false; asleep = false; token = false; looking = zero; swapping = zero; waking = zero; full = false; unread = false; ready = false; half = false; over = false; reported = false; blocked = false; waits = false; busy = false; ended = false; cut = false; done = false; has_left = false; closed = false; giver = idle; stage = begins }

abbrev pub tried : Bool → Loop → Loop
tried true p = record p { in_ring = suc p.in_ring; given = true; giver = sent }
tried false p = record p { giver = refused }

-- a message is put only where none is held back; a session that ended has no ring
abbrev pub put_at : Giver → Bool → Loop → Loop
put_at idle room p = if p.has_left || p.held then p else tried room p
put_at refused room p = p
put_at marked room p = p
put_at sent room p = p
put_at calls room p = p
put_at tells room p = p

abbrev pub flushed_at : Giver → Bool → Loop → Loop
flushed_at idle room p = if not p.has_left && p.held then tried room (record p { held = false }) else p
flushed_at refused room p = p
flushed_at marked room p = p
flushed_at sent room p = p
flushed_at calls room p = p
flushed_at tells room p = p

-- who found no room says that a message is held back, and tries once more
abbrev pub giver_at : Giver → Bool → Loop → Loop
giver_at idle room p = p
giver_at refused room p = record p { holds = true; giver = marked }
giver_at marked true p = record p { in_ring = suc p.in_ring; given = true; giver = sent }
giver_at marked false p = record p { held = true; giver = calls }
giver_at sent room p = record p { holds = false; giver = calls }
giver_at calls room p = record p { called = true; giver = tells }
giver_at tells room p = record p { any = true; looking = suc p.looking; giver = idle }

-- where nothing counts as signaled any more, the loop took the call
abbrev pub looked_by : ℕ → Loop → Loop
looked_by zero p = p
looked_by (suc n) p = if p.any then record p { looking = n; swapping = suc p.swapping } else record p { looking = n }

-- who finds it asleep wakes it
abbrev pub swapped_by : ℕ → Loop → Loop
swapped_by zero p = p
swapped_by (suc n) p = if p.asleep then record p { asleep = false; swapping = n; waking = suc p.waking } else record p { swapping = n }

abbrev pub woken_by : ℕ → Loop → Loop
woken_by zero p = p
woken_by (suc n) p = record p { token = true; waking = n }

-- the loop is done with the session; it closes the connection
abbrev pub lying_down : Loop → Loop
lying_down p = record p { stage = lies_down }

abbrev pub shut : Loop → Loop
shut p = record p { closed = true; stage = lies_down }

-- the loop looks at a session that the poll reported, and at one that was called, and no more at one that is closed
abbrev pub chosen : Bool → Bool → Loop → Loop
chosen true cut p = record p { stage = if cut then leaves else writes }
chosen false cut p = lying_down p

abbrev pub heard : Bool → Loop → Loop
heard called p = record p { called = false; busy = not called && p.busy; blocked = not p.reported && p.blocked; reported = false }

abbrev pub collected : Loop → Loop
collected p = chosen (not p.closed && (p.reported || p.called)) p.cut (heard p.called p)

-- what the socket doesn't take stays in the loop; nothing is written while it is known to be full
abbrev pub written : Bool → Bool → Loop → Loop
written true b p = record p { stage = checks }
written false true p = record p { stage = takes }
written false false p = record p { full = true; blocked = true; stage = checks }

abbrev pub taken : ℕ → Loop → Loop
taken zero p = record p { stage = looks }
taken (suc n) p = record p { in_ring = n; stage = writes }

-- rounds are run under the lock, so it waits for whoever has that
abbrev pub refilled : Giver → Loop → Loop
refilled idle p = record p { stage = takes }
refilled refused p = p
refilled marked p = p
refilled sent p = p
refilled calls p = p
refilled tells p = p

-- a request that met Busy isn't submitted before the session is called; where the peer ended its side, the session ends. Nothing is submitted while a message is held back
abbrev pub checked : Bool → Bool → Bool → Loop → Loop
checked true busy holds p = record p { stage = ends }
checked false true holds p = if p.ended && not p.called then record p { stage = ends } else lying_down p
checked false false true p = lying_down p
checked false false false p = record p { stage = submits }

-- a request that waits is submitted again; what is accepted may have put messages into the ring
abbrev pub resubmitted : Bool → Loop → Loop
resubmitted true p = record p { waits = false; stage = writes }
resubmitted false p = p

-- all is read, and nothing more will come where the peer ended its side; or some of it, and submitted
abbrev pub read : Bool → Bool → Loop → Loop
read true true p = record p { unread = false; done = true; stage = ends }
read true false p = lying_down (record p { unread = false })
read false half p = record p { stage = writes }

-- what the session was given is written before it ends, and after it; once it ended, the flag of what is held back says nothing
abbrev pub ended_at : Bool → Bool → Bool → Loop → Loop
ended_at true has_left holds p = lying_down p
ended_at false true holds p = shut p
ended_at false false true p = lying_down p
ended_at false false false p = record p { stage = leaves }

-- a session ends under the lock, and what is held back for it is dropped; one that is cut off isn't written to any more
abbrev pub left_at : Giver → Bool → Loop → Loop
left_at idle true p = shut (record p { has_left = true; done = true; waits = false; busy = false; held = false })
left_at idle false p = record p { has_left = true; done = true; waits = false; busy = false; held = false; stage = writes }
left_at refused cut p = p
left_at marked cut p = p
left_at sent cut p = p
left_at calls cut p = p
left_at tells cut p = p

abbrev pub polled : Bool → Loop → Loop
polled true p = record p { token = false; reported = p.ready; ended = p.ended || (p.ready && p.half); cut = p.cut || (p.ready && p.over); ready = false; stage = rises }
polled false p = record p { token = false; stage = rises }

-- a loop to which something was signaled asks the poll as well, but doesn't sleep in it; one that sleeps may wake for any reason
abbrev pub loop_at : Stage → Bool → Loop → Loop
loop_at begins b p = record p { any = false; stage = collects }
loop_at collects b p = collected p
loop_at writes b p = written p.blocked b p
loop_at takes b p = taken p.in_ring p
loop_at looks b p = record p { stage = if p.holds && not p.has_left then refills else checks }
loop_at refills b p = refilled p.giver p
loop_at checks b p = checked p.done p.busy p.holds p
loop_at submits b p = if p.waits then resubmitted b p else read b p.half p
loop_at ends b p = ended_at p.blocked p.has_left p.holds p
loop_at leaves b p = left_at p.giver p.cut p
loop_at lies_down b p = record p { asleep = true; stage = looks_again }
loop_at looks_again b p = if p.any then polled b p else record p { stage = sleeps }
loop_at sleeps b p = polled b p
loop_at rises b p = record p { asleep = false; stage = begins }

abbrev pub is_submitting : Stage → Bool
is_submitting x = elim x [ begins ↦ false | collects ↦ false | writes ↦ false | takes ↦ false | looks ↦ false | refills ↦ false | checks ↦ false | submits ↦ true | ends ↦ false | leaves ↦ false | lies_down ↦ false | looks_again ↦ false | sleeps ↦ false | rises ↦ false ]

abbrev pub is_beginning : Stage → Bool
is_beginning x = elim x [ begins ↦ true | collects ↦ false | writes ↦ false | takes ↦ false | looks ↦ false | refills ↦ false | checks ↦ false | submits ↦ false | ends ↦ false | leaves ↦ false | lies_down ↦ false | looks_again ↦ false | sleeps ↦ false | rises ↦ false ]

abbrev pub next : Step → Loop → Loop
next (puts room) p = put_at p.giver room p
next (flushes room) p = flushed_at p.giver room p
next (giver_goes_on room) p = giver_at p.giver room p
next calls_another p = record p { any = true; looking = suc p.looking }
next giver_looks p = looked_by p.looking p
next giver_swaps p = swapped_by p.swapping p
next giver_wakes p = woken_by p.waking p
next peer_takes p = if p.over then p else record p { full = false; ready = true }
next peer_sends p = if p.half || p.over then p else record p { unread = true; ready = true }
next peer_ends p = record p { half = true; unread = true; ready = true }
next peer_goes p = record p { over = true; ready = true }
next cuts_off p = if is_beginning p.stage && not p.closed then record p { cut = true; reported = true } else p
next (loop_goes_on b) p = loop_at p.stage b p
next meets_busy p = if is_submitting p.stage then record p { given = false; waits = true; busy = true; stage = writes } else p

-- after a run
abbrev pub after : List Step → Loop
after steps = fold (λ p s. next s p) begun steps

abbrev pub some : ℕ → Bool
some zero = false
some (suc n) = true

-- the loop sleeps, and the poll has nothing for it
abbrev pub is_asleep : Loop → Bool
is_asleep p = elim p.stage [ begins ↦ false | collects ↦ false | writes ↦ false | takes ↦ false | looks ↦ false | refills ↦ false | checks ↦ false | submits ↦ false | ends ↦ false | leaves ↦ false | lies_down ↦ false | looks_again ↦ false | sleeps ↦ not (p.token || p.ready) | rises ↦ false ]

-- whoever has the lock will tell the loop
abbrev pub will_tell : Giver → Bool
will_tell idle = false
will_tell refused = true
will_tell marked = true
will_tell sent = true
will_tell calls = true
will_tell tells = true

-- a thread is about to tell the loop, to wake it, to find it asleep, or to look and find that something was signaled
abbrev pub is_to_wake : Loop → Bool
is_to_wake p = will_tell p.giver || (some p.waking || (p.asleep && (some p.swapping || (p.any && some p.looking))))

-- the loop never sleeps while a message is in the ring or held back, of a connection that isn't closed, and the socket isn't full as far as it knows, unless it is about to be woken
abbrev pub NoMessageIsLeft : Type 0
NoMessageIsLeft = (steps : List Step) → (let p = after steps in is_asleep p ≡ true → p.closed ≡ false → (not p.blocked && (some p.in_ring || p.held)) ≡ true → is_to_wake p ≡ true)

-- it never sleeps so while a request waits, though a message was sent since it met Busy
abbrev pub NoRequestIsLeft : Type 0
NoRequestIsLeft = (steps : List Step) → (let p = after steps in is_asleep p ≡ true → p.closed ≡ false → (not p.blocked && (p.waits && p.given)) ≡ true → is_to_wake p ≡ true)

-- while it sleeps, a socket that it takes to be full is full, and of any other all is read, but where a request waits, or it is about to be woken
abbrev pub NoSocketIsLeft : Type 0
NoSocketIsLeft = (steps : List Step) → (let p = after steps in is_asleep p ≡ true → p.closed ≡ false → (if p.blocked then p.full else (not p.unread || (p.waits || is_to_wake p))) ≡ true)

-- while it sleeps, a connection is closed whose peer can neither send nor take, or that is to end at once; so is one whose peer ended its side, unless its socket is full, or the loop is about to be woken
abbrev pub NoEndIsLeft : Type 0
NoEndIsLeft = (steps : List Step) → (let p = after steps in is_asleep p ≡ true → p.closed ≡ false → ((p.over || p.cut) ≡ false) × ((p.half && not p.blocked) ≡ true → is_to_wake p ≡ true))
