-- Each step keeps what makes the loop wake, so every run does.
use Rattle.std.proofs.Common.{◌≡◌, ℕ, zero, suc, Bool, true, false, not, cond, List, [], ◌∷◌, refl, sym}
use Rattle.std.specs.Prelude.{◌&&◌, ◌||◌, if◌then◌else◌, fold}
use Rattle.odb_waking.proofs.PumpKept.{no, or_true}
use Rattle.odb_waking.specs.Loop.{Giver, idle, refused, marked, sent, calls, tells, Stage, begins, collects, writes, takes, looks, refills, checks, submits, ends, leaves, lies_down, looks_again, sleeps, rises, Loop, Step, puts, flushes, giver_goes_on, calls_another, giver_looks, giver_swaps, giver_wakes, peer_takes, peer_sends, peer_ends, peer_goes, cuts_off, loop_goes_on, meets_busy, NoMessageIsLeft, NoRequestIsLeft, NoSocketIsLeft, NoEndIsLeft, begun, is_asleep, is_submitting, is_to_wake, next, polled, some, will_tell}

abbrev implies : Bool → Bool → Bool
implies true b = b
implies false b = true

-- ---- what every step keeps

-- the flag says what is held back, but while a message is put
abbrev marks : Giver → Bool → Bool → Bool
marks idle held holds = cond held holds (not holds)
marks refused held holds = not held
marks marked held holds = not held && holds
marks sent held holds = not held
marks calls held holds = cond held holds (not holds)
marks tells held holds = cond held holds (not holds)

abbrev will_call : Giver → Bool
will_call x = elim x [ idle ↦ false | refused ↦ true | marked ↦ true | sent ↦ true | calls ↦ true | tells ↦ false ]

abbrev is_telling : Giver → Bool
is_telling x = elim x [ idle ↦ false | refused ↦ false | marked ↦ false | sent ↦ false | calls ↦ false | tells ↦ true ]

abbrev is_idle : Giver → Bool
is_idle x = elim x [ idle ↦ true | refused ↦ false | marked ↦ false | sent ↦ false | calls ↦ false | tells ↦ false ]

abbrev is_collecting : Stage → Bool
is_collecting x = elim x [ begins ↦ false | collects ↦ true | writes ↦ false | takes ↦ false | looks ↦ false | refills ↦ false | checks ↦ false | submits ↦ false | ends ↦ false | leaves ↦ false | lies_down ↦ false | looks_again ↦ false | sleeps ↦ false | rises ↦ false ]

-- before it chooses what to look at
abbrev is_early : Stage → Bool
is_early x = elim x [ begins ↦ true | collects ↦ true | writes ↦ false | takes ↦ false | looks ↦ false | refills ↦ false | checks ↦ false | submits ↦ false | ends ↦ false | leaves ↦ false | lies_down ↦ false | looks_again ↦ false | sleeps ↦ false | rises ↦ true ]

-- not at the session
abbrev is_outside : Stage → Bool
is_outside x = elim x [ begins ↦ true | collects ↦ true | writes ↦ false | takes ↦ false | looks ↦ false | refills ↦ false | checks ↦ false | submits ↦ false | ends ↦ false | leaves ↦ false | lies_down ↦ true | looks_again ↦ true | sleeps ↦ true | rises ↦ true ]

abbrev is_leaving : Stage → Bool
is_leaving x = elim x [ begins ↦ false | collects ↦ false | writes ↦ false | takes ↦ false | looks ↦ false | refills ↦ false | checks ↦ false | submits ↦ false | ends ↦ false | leaves ↦ true | lies_down ↦ false | looks_again ↦ false | sleeps ↦ false | rises ↦ false ]

abbrev is_ending : Stage → Bool
is_ending x = elim x [ begins ↦ false | collects ↦ false | writes ↦ false | takes ↦ false | looks ↦ false | refills ↦ false | checks ↦ false | submits ↦ false | ends ↦ true | leaves ↦ false | lies_down ↦ false | looks_again ↦ false | sleeps ↦ false | rises ↦ false ]

abbrev is_sleeping : Stage → Bool
is_sleeping x = elim x [ begins ↦ false | collects ↦ false | writes ↦ false | takes ↦ false | looks ↦ false | refills ↦ false | checks ↦ false | submits ↦ false | ends ↦ false | leaves ↦ false | lies_down ↦ false | looks_again ↦ false | sleeps ↦ true | rises ↦ false ]

abbrev is_to_sleep : Stage → Bool
is_to_sleep x = elim x [ begins ↦ false | collects ↦ false | writes ↦ false | takes ↦ false | looks ↦ false | refills ↦ false | checks ↦ false | submits ↦ false | ends ↦ false | leaves ↦ false | lies_down ↦ false | looks_again ↦ true | sleeps ↦ false | rises ↦ false ]

-- there is a message, or one is held back, that the loop finds by a call alone
abbrev relies : Stage → ℕ → Bool → Bool
relies begins n held = some n || held
relies collects n held = some n || held
relies writes n held = false
relies takes n held = false
relies looks n held = some n
relies refills n held = false
relies checks n held = some n || held
relies submits n held = some n || held
relies ends n held = some n || held
relies leaves n held = false
relies lies_down n held = some n || held
relies looks_again n held = some n || held
relies sleeps n held = some n || held
relies rises n held = some n || held

-- what every step keeps, of: the flag of what is held back; calls that were made; a session that was given something since its request met Busy; one that has a message; one that is reported; a loop that sleeps; one that was told; a full socket; what is unread; a peer that ended its side, twice; one that is gone; a session that is to end, and one that ended; what waits, three times; what is done, three times
abbrev Sound : Loop → Type 0
Sound p = ((p.has_left || marks p.giver p.held p.holds) ≡ true) × (implies p.called (p.any || (is_telling p.giver || is_collecting p.stage)) ≡ true) × (implies (p.busy && p.given) (p.called || will_call p.giver) ≡ true) × (implies (relies p.stage p.in_ring (not p.has_left && (p.held || p.holds)) && not p.closed) (p.blocked || (p.reported || (p.called || will_call p.giver))) ≡ true) × (implies p.reported (is_early p.stage) ≡ true) × (implies (is_sleeping p.stage || is_to_sleep p.stage) (p.asleep || (some p.waking || p.token)) ≡ true) × (implies (is_sleeping p.stage && p.any) (some p.looking || (some p.swapping || (some p.waking || p.token))) ≡ true) × (implies p.blocked (p.full || (p.ready || p.reported)) ≡ true) × (implies (is_outside p.stage && (p.unread && not p.closed)) (p.ready || (p.waits || (p.blocked || (p.reported || (p.called || will_call p.giver))))) ≡ true) × (implies (is_outside p.stage && (p.half && not p.closed)) (p.ready || (p.blocked || (p.reported || (p.called || will_call p.giver)))) ≡ true) × (implies p.half (p.ready || p.ended) ≡ true) × (implies p.over (p.ready || p.cut) ≡ true) × (implies (p.cut && not p.closed) (p.reported || is_leaving p.stage) ≡ true) × (implies p.has_left (is_idle p.giver && not p.held) ≡ true) × (implies p.done (not p.waits) ≡ true) × (implies p.busy p.waits ≡ true) × (implies (is_outside p.stage && (p.waits && (not p.busy && not p.closed))) (p.blocked || (p.reported || (p.called || will_call p.giver))) ≡ true) × (implies p.has_left p.done ≡ true) × (implies (is_submitting p.stage) (not (p.done || p.busy)) ≡ true) × (implies (is_ending p.stage) (p.done || p.busy) ≡ true)

-- ---- small facts

yes : (a : Bool) → implies a true ≡ true
yes true = refl
yes false = refl

yes_2 : (a b : Bool) → implies a (b || true) ≡ true
yes_2 true true = refl
yes_2 true false = refl
yes_2 false b = refl

yes_3 : (a b c : Bool) → implies a (b || (c || true)) ≡ true
yes_3 true true c = refl
yes_3 true false c = yes_2 true c
yes_3 false b c = refl

yes_4 : (a b c d : Bool) → implies a (b || (c || (d || true))) ≡ true
yes_4 true true c d = refl
yes_4 true false c d = yes_3 true c d
yes_4 false b c d = refl

yes_5 : (a b c d e : Bool) → implies a (b || (c || (d || (e || true)))) ≡ true
yes_5 true true c d e = refl
yes_5 true false c d e = yes_4 true c d e
yes_5 false b c d e = refl

yes_6 : (a b c d e f : Bool) → implies a (b || (c || (d || (e || (f || true))))) ≡ true
yes_6 true true c d e f = refl
yes_6 true false c d e f = yes_5 true c d e f
yes_6 false b c d e f = refl

none : (a b : Bool) → implies (a && false) b ≡ true
none true b = refl
none false b = refl

none_2 : (a b c : Bool) → implies (a && (b && false)) c ≡ true
none_2 true true c = refl
none_2 true false c = refl
none_2 false b c = refl

-- who swaps a flag that was swapped before needn't wake
woken_before : (x y a : Bool) (l n : ℕ) (w : Bool) → implies (x || y) w ≡ true → implies (x && a) (some l || (some n || w)) ≡ true
woken_before false y a l n w e = refl
woken_before true y false l n w e = refl
woken_before true y true (suc l) n w e = refl
woken_before true y true zero (suc n) w e = refl
woken_before true y true zero zero w e = e

-- a loop that finds the flag down, and its ring empty, has nothing that is held back
nothing_held : (x : Giver) (n : ℕ) (held c d : Bool) → marks x held false ≡ true → implies (some n && c) d ≡ true → implies ((some n || (held || false)) && c) d ≡ true
nothing_held x (suc n) held c d flag e = e
nothing_held x zero false c d flag e = refl
nothing_held idle zero true c d flag e = no flag
nothing_held refused zero true c d flag e = no flag
nothing_held marked zero true c d flag e = no flag
nothing_held sent zero true c d flag e = no flag
nothing_held calls zero true c d flag e = no flag
nothing_held tells zero true c d flag e = no flag

-- nor has a session that ended
nothing_left : (n : ℕ) (c d : Bool) → implies (some n && c) d ≡ true → implies ((some n || false) && c) d ≡ true
nothing_left (suc n) c d e = e
nothing_left zero c d e = refl

-- who found the flag up is or will be called
flagged : (n : ℕ) (held c d : Bool) → implies ((some n || (held || true)) && c) d ≡ true → implies c d ≡ true
flagged (suc n) held c d e = e
flagged zero true c d e = e
flagged zero false c d e = e

due_unread : (c d : Bool) → implies c d ≡ true → (u r w : Bool) → implies (u && c) (r || (w || d)) ≡ true
due_unread c d e false r w = refl
due_unread false d e true r w = refl
due_unread true d e true true w = refl
due_unread true d e true false true = refl
due_unread true d e true false false = e

due_half : (c d : Bool) → implies c d ≡ true → (u r : Bool) → implies (u && c) (r || d) ≡ true
due_half c d e false r = refl
due_half false d e true r = refl
due_half true d e true true = refl
due_half true d e true false = e

due_waits : (c d : Bool) → implies c d ≡ true → (w b : Bool) → implies (w && (b && c)) d ≡ true
due_waits c d e false b = refl
due_waits c d e true false = refl
due_waits c d e true true = e

-- a peer that ended its side, which the loop hasn't learnt yet
unlearnt : (half ready c d : Bool) → implies half (ready || false) ≡ true → implies (half && c) (ready || d) ≡ true
unlearnt false ready c d e = refl
unlearnt true ready false d e = refl
unlearnt true true true d e = refl
unlearnt true false true d e = no e

learns : (a b : Bool) → implies a (b || a) ≡ true
learns false b = refl
learns true true = refl
learns true false = refl

learnt : (a b : Bool) → implies a b ≡ true → implies a (b || false) ≡ true
learnt a true e = e
learnt a false e = e

cut_before : (a c d : Bool) → implies (a && c) d ≡ true → implies ((a || false) && c) d ≡ true
cut_before true c d e = e
cut_before false c d e = refl

-- ---- steps of who gives

putting : (room : Bool) (x : Giver) (held has_left : Bool) (p : Loop) → Sound (record p { giver = x; held = held; has_left = has_left }) → Sound (next (puts room) (record p { giver = x; held = held; has_left = has_left }))
putting room idle held true p h = h
putting room idle true false p h = h
putting true idle false false p h = (refl, h.1, yes_2 _ p.called, yes_4 _ p.blocked p.reported p.called, h.4, h.5, h.6, h.7, yes_6 _ p.ready p.waits p.blocked p.reported p.called, yes_5 _ p.ready p.blocked p.reported p.called, h.10, h.11, h.12, refl, h.14, h.15, yes_4 _ p.blocked p.reported p.called, h.17, h.18, h.19)
putting false idle false false p h = (refl, h.1, yes_2 _ p.called, yes_4 _ p.blocked p.reported p.called, h.4, h.5, h.6, h.7, yes_6 _ p.ready p.waits p.blocked p.reported p.called, yes_5 _ p.ready p.blocked p.reported p.called, h.10, h.11, h.12, refl, h.14, h.15, yes_4 _ p.blocked p.reported p.called, h.17, h.18, h.19)
putting room refused held has_left p h = h
putting room marked held has_left p h = h
putting room sent held has_left p h = h
putting room calls held has_left p h = h
putting room tells held has_left p h = h

flushing : (room : Bool) (x : Giver) (held has_left : Bool) (p : Loop) → Sound (record p { giver = x; held = held; has_left = has_left }) → Sound (next (flushes room) (record p { giver = x; held = held; has_left = has_left }))
flushing room idle held true p h = h
flushing room idle false false p h = h
flushing true idle true false p h = (refl, h.1, yes_2 _ p.called, yes_4 _ p.blocked p.reported p.called, h.4, h.5, h.6, h.7, yes_6 _ p.ready p.waits p.blocked p.reported p.called, yes_5 _ p.ready p.blocked p.reported p.called, h.10, h.11, h.12, refl, h.14, h.15, yes_4 _ p.blocked p.reported p.called, h.17, h.18, h.19)
flushing false idle true false p h = (refl, h.1, yes_2 _ p.called, yes_4 _ p.blocked p.reported p.called, h.4, h.5, h.6, h.7, yes_6 _ p.ready p.waits p.blocked p.reported p.called, yes_5 _ p.ready p.blocked p.reported p.called, h.10, h.11, h.12, refl, h.14, h.15, yes_4 _ p.blocked p.reported p.called, h.17, h.18, h.19)
flushing room refused held has_left p h = h
flushing room marked held has_left p h = h
flushing room sent held has_left p h = h
flushing room calls held has_left p h = h
flushing room tells held has_left p h = h

giving : (room : Bool) (x : Giver) (held holds has_left : Bool) (p : Loop) → Sound (record p { giver = x; held = held; holds = holds; has_left = has_left }) → Sound (next (giver_goes_on room) (record p { giver = x; held = held; holds = holds; has_left = has_left }))
giving room idle held holds has_left p h = h
giving room refused held holds true p h = no h.13
giving room marked held holds true p h = no h.13
giving room sent held holds true p h = no h.13
giving room calls held holds true p h = no h.13
giving room tells held holds true p h = no h.13
giving room refused true holds false p h = no h.0
giving room refused false holds false p h = (refl, h.1, h.2, yes_4 _ p.blocked p.reported p.called, h.4, h.5, h.6, h.7, h.8, h.9, h.10, h.11, h.12, h.13, h.14, h.15, h.16, h.17, h.18, h.19)
giving room marked true holds false p h = no h.0
giving room marked false false false p h = no h.0
giving true marked false true false p h = (refl, h.1, yes_2 _ p.called, yes_4 _ p.blocked p.reported p.called, h.4, h.5, h.6, h.7, h.8, h.9, h.10, h.11, h.12, h.13, h.14, h.15, h.16, h.17, h.18, h.19)
giving false marked false true false p h = (refl, h.1, h.2, yes_4 _ p.blocked p.reported p.called, h.4, h.5, h.6, h.7, h.8, h.9, h.10, h.11, h.12, h.13, h.14, h.15, h.16, h.17, h.18, h.19)
giving room sent true holds false p h = no h.0
giving room sent false holds false p h = (refl, h.1, h.2, yes_4 _ p.blocked p.reported p.called, h.4, h.5, h.6, h.7, h.8, h.9, h.10, h.11, h.12, h.13, h.14, h.15, h.16, h.17, h.18, h.19)
giving room calls held holds false p h = (h.0, or_true p.any, yes _, yes_3 _ p.blocked p.reported, h.4, h.5, h.6, h.7, yes_5 _ p.ready p.waits p.blocked p.reported, yes_4 _ p.ready p.blocked p.reported, h.10, h.11, h.12, h.13, h.14, h.15, yes_3 _ p.blocked p.reported, h.17, h.18, h.19)
giving room tells held holds false p h = (h.0, yes p.called, h.2, h.3, h.4, h.5, yes _, h.7, h.8, h.9, h.10, h.11, h.12, h.13, h.14, h.15, h.16, h.17, h.18, h.19)

looking : (n : ℕ) (any : Bool) (p : Loop) → Sound (record p { looking = n; any = any }) → Sound (next giver_looks (record p { looking = n; any = any }))
looking zero any p h = h
looking (suc n) true p h = (h.0, h.1, h.2, h.3, h.4, h.5, yes_2 _ (some n), h.7, h.8, h.9, h.10, h.11, h.12, h.13, h.14, h.15, h.16, h.17, h.18, h.19)
looking (suc n) false p h = (h.0, h.1, h.2, h.3, h.4, h.5, none (is_sleeping p.stage) _, h.7, h.8, h.9, h.10, h.11, h.12, h.13, h.14, h.15, h.16, h.17, h.18, h.19)

swapping : (n : ℕ) (asleep : Bool) (p : Loop) → Sound (record p { swapping = n; asleep = asleep }) → Sound (next giver_swaps (record p { swapping = n; asleep = asleep }))
swapping zero asleep p h = h
swapping (suc n) true p h = (h.0, h.1, h.2, h.3, h.4, yes _, yes_3 _ (some p.looking) (some n), h.7, h.8, h.9, h.10, h.11, h.12, h.13, h.14, h.15, h.16, h.17, h.18, h.19)
swapping (suc n) false p h = (h.0, h.1, h.2, h.3, h.4, h.5, woken_before (is_sleeping p.stage) (is_to_sleep p.stage) p.any p.looking n _ h.5, h.7, h.8, h.9, h.10, h.11, h.12, h.13, h.14, h.15, h.16, h.17, h.18, h.19)

waking : (n : ℕ) (p : Loop) → Sound (record p { waking = n }) → Sound (next giver_wakes (record p { waking = n }))
waking zero p h = h
waking (suc n) p h = (h.0, h.1, h.2, h.3, h.4, yes_3 _ p.asleep (some n), yes_4 _ (some p.looking) (some p.swapping) (some n), h.7, h.8, h.9, h.10, h.11, h.12, h.13, h.14, h.15, h.16, h.17, h.18, h.19)

-- ---- steps of the peer, and of the daemon's patience

peer_taking : (over : Bool) (p : Loop) → Sound (record p { over = over }) → Sound (next peer_takes (record p { over = over }))
peer_taking true p h = h
peer_taking false p h = (h.0, h.1, h.2, h.3, h.4, h.5, h.6, yes p.blocked, yes _, yes _, yes p.half, h.11, h.12, h.13, h.14, h.15, h.16, h.17, h.18, h.19)

peer_sending : (half over : Bool) (p : Loop) → Sound (record p { half = half; over = over }) → Sound (next peer_sends (record p { half = half; over = over }))
peer_sending true over p h = h
peer_sending false true p h = h
peer_sending false false p h = (h.0, h.1, h.2, h.3, h.4, h.5, h.6, yes_2 p.blocked p.full, yes _, yes _, h.10, h.11, h.12, h.13, h.14, h.15, h.16, h.17, h.18, h.19)

cutting : (x : Stage) (closed : Bool) (p : Loop) → Sound (record p { stage = x; closed = closed }) → Sound (next cuts_off (record p { stage = x; closed = closed }))
cutting begins true p h = h
cutting begins false p h = (h.0, h.1, h.2, yes_2 _ p.blocked, refl, h.5, h.6, yes_3 p.blocked p.full p.ready, yes_4 _ p.ready p.waits p.blocked, yes_3 _ p.ready p.blocked, h.10, yes_2 p.over p.ready, refl, h.13, h.14, h.15, yes_2 _ p.blocked, h.17, h.18, h.19)
cutting collects closed p h = h
cutting writes closed p h = h
cutting takes closed p h = h
cutting looks closed p h = h
cutting refills closed p h = h
cutting checks closed p h = h
cutting submits closed p h = h
cutting ends closed p h = h
cutting leaves closed p h = h
cutting lies_down closed p h = h
cutting looks_again closed p h = h
cutting sleeps closed p h = h
cutting rises closed p h = h

-- ---- steps of the loop

collecting : (closed reported called cut : Bool) (p : Loop) → Sound (record p { closed = closed; reported = reported; called = called; cut = cut; stage = collects }) → (b : Bool) → Sound (next (loop_goes_on b) (record p { closed = closed; reported = reported; called = called; cut = cut; stage = collects }))
collecting true true true cut p h b = (h.0, refl, refl, none _ _, refl, refl, refl, refl, none p.unread _, none p.half _, h.10, h.11, none cut _, h.13, h.14, refl, none_2 p.waits (not (not true && p.busy)) ((not true && p.blocked) || (false || (false || will_call p.giver))), h.17, refl, refl)
collecting true true false cut p h b = (h.0, refl, h.2, none _ _, refl, refl, refl, refl, none p.unread _, none p.half _, h.10, h.11, none cut _, h.13, h.14, h.15, none_2 p.waits (not (not false && p.busy)) ((not true && p.blocked) || (false || (false || will_call p.giver))), h.17, refl, refl)
collecting true false true cut p h b = (h.0, refl, refl, none _ _, refl, refl, refl, h.7, none p.unread _, none p.half _, h.10, h.11, none cut _, h.13, h.14, refl, none_2 p.waits (not (not true && p.busy)) ((not false && p.blocked) || (false || (false || will_call p.giver))), h.17, refl, refl)
collecting true false false cut p h b = (h.0, refl, h.2, none _ _, refl, refl, refl, h.7, none p.unread _, none p.half _, h.10, h.11, none cut _, h.13, h.14, h.15, none_2 p.waits (not (not false && p.busy)) ((not false && p.blocked) || (false || (false || will_call p.giver))), h.17, refl, refl)
collecting false true true true p h b = (h.0, refl, refl, refl, refl, refl, refl, refl, refl, refl, h.10, h.11, refl, h.13, h.14, refl, refl, h.17, refl, refl)
collecting false true true false p h b = (h.0, refl, refl, refl, refl, refl, refl, refl, refl, refl, h.10, h.11, refl, h.13, h.14, refl, refl, h.17, refl, refl)
collecting false true false true p h b = (h.0, refl, h.2, refl, refl, refl, refl, refl, refl, refl, h.10, h.11, refl, h.13, h.14, h.15, refl, h.17, refl, refl)
collecting false true false false p h b = (h.0, refl, h.2, refl, refl, refl, refl, refl, refl, refl, h.10, h.11, refl, h.13, h.14, h.15, refl, h.17, refl, refl)
collecting false false true true p h b = (h.0, refl, refl, refl, refl, refl, refl, h.7, refl, refl, h.10, h.11, refl, h.13, h.14, refl, refl, h.17, refl, refl)
collecting false false true false p h b = (h.0, refl, refl, refl, refl, refl, refl, h.7, refl, refl, h.10, h.11, refl, h.13, h.14, refl, refl, h.17, refl, refl)
collecting false false false cut p h b = (h.0, refl, h.2, h.3, refl, refl, refl, h.7, h.8, h.9, h.10, h.11, h.12, h.13, h.14, h.15, h.16, h.17, refl, refl)

writing : (blocked : Bool) (p : Loop) → Sound (record p { blocked = blocked; stage = writes }) → (b : Bool) → Sound (next (loop_goes_on b) (record p { blocked = blocked; stage = writes }))
writing true p h b = (h.0, h.1, h.2, yes _, h.4, h.5, h.6, h.7, h.8, h.9, h.10, h.11, h.12, h.13, h.14, h.15, h.16, h.17, h.18, h.19)
writing false p h true = (h.0, h.1, h.2, h.3, h.4, h.5, h.6, h.7, h.8, h.9, h.10, h.11, h.12, h.13, h.14, h.15, h.16, h.17, h.18, h.19)
writing false p h false = (h.0, h.1, h.2, yes _, h.4, h.5, h.6, refl, refl, refl, h.10, h.11, h.12, h.13, h.14, h.15, refl, h.17, h.18, h.19)

taking : (n : ℕ) (p : Loop) → Sound (record p { in_ring = n; stage = takes }) → (b : Bool) → Sound (next (loop_goes_on b) (record p { in_ring = n; stage = takes }))
taking zero p h b = (h.0, h.1, h.2, refl, h.4, h.5, h.6, h.7, h.8, h.9, h.10, h.11, h.12, h.13, h.14, h.15, h.16, h.17, h.18, h.19)
taking (suc n) p h b = (h.0, h.1, h.2, refl, h.4, h.5, h.6, h.7, h.8, h.9, h.10, h.11, h.12, h.13, h.14, h.15, h.16, h.17, h.18, h.19)

seeing : (holds has_left : Bool) (p : Loop) → Sound (record p { holds = holds; has_left = has_left; stage = looks }) → (b : Bool) → Sound (next (loop_goes_on b) (record p { holds = holds; has_left = has_left; stage = looks }))
seeing true false p h b = (h.0, h.1, h.2, refl, h.4, h.5, h.6, h.7, h.8, h.9, h.10, h.11, h.12, h.13, h.14, h.15, h.16, h.17, h.18, h.19)
seeing true true p h b = (h.0, h.1, h.2, nothing_left p.in_ring _ _ h.3, h.4, h.5, h.6, h.7, h.8, h.9, h.10, h.11, h.12, h.13, h.14, h.15, h.16, h.17, h.18, h.19)
seeing false true p h b = (h.0, h.1, h.2, nothing_left p.in_ring _ _ h.3, h.4, h.5, h.6, h.7, h.8, h.9, h.10, h.11, h.12, h.13, h.14, h.15, h.16, h.17, h.18, h.19)
seeing false false p h b = (h.0, h.1, h.2, nothing_held p.giver p.in_ring p.held _ _ h.0 h.3, h.4, h.5, h.6, h.7, h.8, h.9, h.10, h.11, h.12, h.13, h.14, h.15, h.16, h.17, h.18, h.19)

refilling : (x : Giver) (p : Loop) → Sound (record p { giver = x; stage = refills }) → (b : Bool) → Sound (next (loop_goes_on b) (record p { giver = x; stage = refills }))
refilling idle p h b = h
refilling refused p h b = h
refilling marked p h b = h
refilling sent p h b = h
refilling calls p h b = h
refilling tells p h b = h

checking_busy : (ended called waits : Bool) (p : Loop) → Sound (record p { ended = ended; called = called; waits = waits; done = false; busy = true; stage = checks }) → (b : Bool) → Sound (next (loop_goes_on b) (record p { ended = ended; called = called; waits = waits; done = false; busy = true; stage = checks }))
checking_busy ended called false p h b = no h.15
checking_busy true false true p h b = (h.0, h.1, h.2, h.3, h.4, h.5, h.6, h.7, h.8, h.9, h.10, h.11, h.12, h.13, h.14, h.15, h.16, h.17, h.18, refl)
checking_busy true true true p h b = (h.0, h.1, h.2, h.3, h.4, refl, refl, h.7, yes_2 _ p.ready, yes_4 _ p.ready p.blocked p.reported, h.10, h.11, h.12, h.13, h.14, h.15, refl, h.17, refl, refl)
checking_busy false called true p h b = (h.0, h.1, h.2, h.3, h.4, refl, refl, h.7, yes_2 _ p.ready, unlearnt p.half p.ready _ _ h.10, h.10, h.11, h.12, h.13, h.14, h.15, refl, h.17, refl, refl)

checking : (done busy holds has_left : Bool) (p : Loop) → Sound (record p { done = done; busy = busy; holds = holds; has_left = has_left; stage = checks }) → (b : Bool) → Sound (next (loop_goes_on b) (record p { done = done; busy = busy; holds = holds; has_left = has_left; stage = checks }))
checking true busy holds has_left p h b = (h.0, h.1, h.2, h.3, h.4, h.5, h.6, h.7, h.8, h.9, h.10, h.11, h.12, h.13, h.14, h.15, h.16, h.17, refl, refl)
checking false true holds has_left p h b = checking_busy p.ended p.called p.waits (record p { holds = holds; has_left = has_left }) h b
checking false false true true p h b = no h.17
checking false false true false p h b = (h.0, h.1, h.2, h.3, h.4, refl, refl, h.7, due_unread (not p.closed) (p.blocked || (p.reported || (p.called || will_call p.giver))) (flagged p.in_ring p.held (not p.closed) _ h.3) p.unread p.ready p.waits, due_half (not p.closed) (p.blocked || (p.reported || (p.called || will_call p.giver))) (flagged p.in_ring p.held (not p.closed) _ h.3) p.half p.ready, h.10, h.11, h.12, h.13, h.14, h.15, due_waits (not p.closed) (p.blocked || (p.reported || (p.called || will_call p.giver))) (flagged p.in_ring p.held (not p.closed) _ h.3) p.waits (not false), h.17, refl, refl)
checking false false false has_left p h b = (h.0, h.1, h.2, h.3, h.4, h.5, h.6, h.7, h.8, h.9, h.10, h.11, h.12, h.13, h.14, h.15, h.16, h.17, refl, refl)

submitting : (waits done busy half : Bool) (p : Loop) → Sound (record p { waits = waits; done = done; busy = busy; half = half; stage = submits }) → (b : Bool) → Sound (next (loop_goes_on b) (record p { waits = waits; done = done; busy = busy; half = half; stage = submits }))
submitting waits true busy half p h b = no h.18
submitting waits false true half p h b = no h.18
submitting true false false half p h true = (h.0, h.1, h.2, refl, h.4, h.5, h.6, h.7, refl, refl, h.10, h.11, h.12, h.13, refl, refl, refl, h.17, refl, h.19)
submitting true false false half p h false = h
submitting false false false true p h true = (h.0, h.1, h.2, h.3, h.4, h.5, h.6, h.7, h.8, h.9, h.10, h.11, h.12, h.13, refl, h.15, h.16, yes p.has_left, refl, refl)
submitting false false false false p h true = (h.0, h.1, h.2, h.3, h.4, refl, refl, h.7, refl, refl, h.10, h.11, h.12, h.13, h.14, h.15, refl, h.17, refl, refl)
submitting false false false half p h false = (h.0, h.1, h.2, refl, h.4, h.5, h.6, h.7, h.8, h.9, h.10, h.11, h.12, h.13, h.14, h.15, h.16, h.17, refl, h.19)

ending : (blocked has_left holds done busy waits : Bool) (p : Loop) → Sound (record p { blocked = blocked; has_left = has_left; holds = holds; done = done; busy = busy; waits = waits; stage = ends }) → (b : Bool) → Sound (next (loop_goes_on b) (record p { blocked = blocked; has_left = has_left; holds = holds; done = done; busy = busy; waits = waits; stage = ends }))
ending true has_left holds done busy waits p h b = (h.0, h.1, h.2, h.3, h.4, refl, refl, h.7, yes_3 _ p.ready waits, yes_2 _ p.ready, h.10, h.11, h.12, h.13, h.14, h.15, yes _, h.17, refl, refl)
ending false true holds done busy waits p h b = (h.0, h.1, h.2, none _ _, h.4, refl, refl, h.7, none p.unread _, none p.half _, h.10, h.11, none p.cut _, h.13, h.14, h.15, none_2 waits (not busy) (false || (p.reported || (p.called || will_call p.giver))), h.17, refl, refl)
ending false false true done busy waits p h b = (h.0, h.1, h.2, h.3, h.4, refl, refl, h.7, due_unread (not p.closed) (false || (p.reported || (p.called || will_call p.giver))) (flagged p.in_ring p.held (not p.closed) _ h.3) p.unread p.ready waits, due_half (not p.closed) (false || (p.reported || (p.called || will_call p.giver))) (flagged p.in_ring p.held (not p.closed) _ h.3) p.half p.ready, h.10, h.11, h.12, h.13, h.14, h.15, due_waits (not p.closed) (false || (p.reported || (p.called || will_call p.giver))) (flagged p.in_ring p.held (not p.closed) _ h.3) waits (not busy), h.17, refl, refl)
ending false false false done busy waits p h b = (h.0, h.1, h.2, refl, h.4, h.5, h.6, h.7, h.8, h.9, h.10, h.11, yes_2 _ p.reported, h.13, h.14, h.15, h.16, h.17, refl, refl)

parting : (x : Giver) (cut : Bool) (p : Loop) → Sound (record p { giver = x; cut = cut; stage = leaves }) → (b : Bool) → Sound (next (loop_goes_on b) (record p { giver = x; cut = cut; stage = leaves }))
parting idle true p h b = (refl, h.1, refl, none _ _, h.4, refl, refl, h.7, none p.unread _, none p.half _, h.10, h.11, refl, refl, refl, refl, refl, refl, refl, refl)
parting idle false p h b = (refl, h.1, refl, refl, h.4, refl, refl, h.7, refl, refl, h.10, h.11, refl, refl, refl, refl, refl, refl, refl, refl)
parting refused cut p h b = h
parting marked cut p h b = h
parting sent cut p h b = h
parting calls cut p h b = h
parting tells cut p h b = h

-- the poll is asked; no session is reported by then that wasn't looked at
asking : (b reported ready ended cut : Bool) (p : Loop) → Sound (record p { reported = reported; ready = ready; ended = ended; cut = cut; stage = lies_down }) → Sound (polled b (record p { reported = reported; ready = ready; ended = ended; cut = cut }))
asking b true ready ended cut p h = no h.4
asking true false true ended cut p h = (h.0, h.1, h.2, yes_2 _ p.blocked, refl, refl, refl, yes_2 p.blocked p.full, yes_3 _ p.waits p.blocked, yes_2 _ p.blocked, learns p.half ended, learns p.over cut, yes _, h.13, h.14, h.15, yes_2 _ p.blocked, h.17, h.18, h.19)
asking true false false ended cut p h = (h.0, h.1, h.2, h.3, refl, refl, refl, h.7, h.8, h.9, learnt p.half ended h.10, learnt p.over cut h.11, cut_before cut _ _ h.12, h.13, h.14, h.15, h.16, h.17, h.18, h.19)
asking false false ready ended cut p h = (h.0, h.1, h.2, h.3, refl, refl, refl, h.7, h.8, h.9, h.10, h.11, h.12, h.13, h.14, h.15, h.16, h.17, h.18, h.19)

lying : (any : Bool) (p : Loop) → Sound (record p { any = any; stage = looks_again }) → (b : Bool) → Sound (next (loop_goes_on b) (record p { any = any; stage = looks_again }))
lying true p h b = asking b p.reported p.ready p.ended p.cut (record p { any = true; stage = looks_again }) (h.0, h.1, h.2, h.3, h.4, refl, refl, h.7, h.8, h.9, h.10, h.11, h.12, h.13, h.14, h.15, h.16, h.17, h.18, h.19)
lying false p h b = (h.0, h.1, h.2, h.3, h.4, h.5, refl, h.7, h.8, h.9, h.10, h.11, h.12, h.13, h.14, h.15, h.16, h.17, h.18, h.19)

going : (b : Bool) (x : Stage) (p : Loop) → Sound (record p { stage = x }) → Sound (next (loop_goes_on b) (record p { stage = x }))
going b begins p h = (h.0, yes_2 p.called (is_telling p.giver), h.2, h.3, h.4, refl, refl, h.7, h.8, h.9, h.10, h.11, h.12, h.13, h.14, h.15, h.16, h.17, h.18, h.19)
going b collects p h = collecting p.closed p.reported p.called p.cut p h b
going b writes p h = writing p.blocked p h b
going b takes p h = taking p.in_ring p h b
going b looks p h = seeing p.holds p.has_left p h b
going b refills p h = refilling p.giver p h b
going b checks p h = checking p.done p.busy p.holds p.has_left p h b
going b submits p h = submitting p.waits p.done p.busy p.half p h b
going b ends p h = ending p.blocked p.has_left p.holds p.done p.busy p.waits p h b
going b leaves p h = parting p.giver p.cut p h b
going b lies_down p h = (h.0, h.1, h.2, h.3, h.4, refl, refl, h.7, h.8, h.9, h.10, h.11, h.12, h.13, h.14, h.15, h.16, h.17, h.18, h.19)
going b looks_again p h = lying p.any p h b
going b sleeps p h = asking b p.reported p.ready p.ended p.cut (record p { stage = sleeps }) (h.0, h.1, h.2, h.3, h.4, refl, refl, h.7, h.8, h.9, h.10, h.11, h.12, h.13, h.14, h.15, h.16, h.17, h.18, h.19)
going b rises p h = (h.0, h.1, h.2, h.3, h.4, refl, refl, h.7, h.8, h.9, h.10, h.11, h.12, h.13, h.14, h.15, h.16, h.17, h.18, h.19)

meeting : (x : Stage) (done : Bool) (p : Loop) → Sound (record p { stage = x; done = done }) → Sound (next meets_busy (record p { stage = x; done = done }))
meeting begins done p h = h
meeting collects done p h = h
meeting writes done p h = h
meeting takes done p h = h
meeting looks done p h = h
meeting refills done p h = h
meeting checks done p h = h
meeting ends done p h = h
meeting leaves done p h = h
meeting lies_down done p h = h
meeting looks_again done p h = h
meeting sleeps done p h = h
meeting rises done p h = h
meeting submits true p h = no h.18
meeting submits false p h = (h.0, h.1, refl, refl, h.4, h.5, h.6, h.7, refl, refl, h.10, h.11, h.12, h.13, refl, refl, refl, h.17, refl, refl)

sound-next : (s : Step) (p : Loop) → Sound p → Sound (next s p)
sound-next (puts room) p h = putting room p.giver p.held p.has_left p h
sound-next (flushes room) p h = flushing room p.giver p.held p.has_left p h
sound-next (giver_goes_on room) p h = giving room p.giver p.held p.holds p.has_left p h
sound-next calls_another p h = (h.0, yes p.called, h.2, h.3, h.4, h.5, yes _, h.7, h.8, h.9, h.10, h.11, h.12, h.13, h.14, h.15, h.16, h.17, h.18, h.19)
sound-next giver_looks p h = looking p.looking p.any p h
sound-next giver_swaps p h = swapping p.swapping p.asleep p h
sound-next giver_wakes p h = waking p.waking p h
sound-next peer_takes p h = peer_taking p.over p h
sound-next peer_sends p h = peer_sending p.half p.over p h
sound-next peer_ends p h = (h.0, h.1, h.2, h.3, h.4, h.5, h.6, yes_2 p.blocked p.full, yes _, yes _, refl, yes p.over, h.12, h.13, h.14, h.15, h.16, h.17, h.18, h.19)
sound-next peer_goes p h = (h.0, h.1, h.2, h.3, h.4, h.5, h.6, yes_2 p.blocked p.full, yes _, yes _, yes p.half, refl, h.12, h.13, h.14, h.15, h.16, h.17, h.18, h.19)
sound-next cuts_off p h = cutting p.stage p.closed p h
sound-next (loop_goes_on b) p h = going b p.stage p h
sound-next meets_busy p h = meeting p.stage p.done p h

sound-run : (steps : List Step) (p : Loop) → Sound p → Sound (fold (λ p s. next s p) p steps)
sound-run [] p h = h
sound-run (s ∷ steps) p h = sound-run steps (next s p) (sound-next s p h)

sound-after : (steps : List Step) → Sound (fold (λ p s. next s p) begun steps)
sound-after steps = sound-run steps begun (refl, refl, refl, refl, refl, refl, refl, refl, refl, refl, refl, refl, refl, refl, refl, refl, refl, refl, refl, refl)

-- ---- what follows

-- what is so while the loop sleeps, and nothing of the session is reported or to be reported
abbrev Rests : Loop → Type 0
Rests p = Sound (record p { ready = false; reported = false; token = false; stage = sleeps })

resting : (x : Stage) (token ready reported : Bool) (p : Loop) → Sound (record p { stage = x; token = token; ready = ready; reported = reported }) → is_asleep (record p { stage = x; token = token; ready = ready; reported = reported }) ≡ true → Rests p
resting begins token ready reported p h asleep = no asleep
resting collects token ready reported p h asleep = no asleep
resting writes token ready reported p h asleep = no asleep
resting takes token ready reported p h asleep = no asleep
resting looks token ready reported p h asleep = no asleep
resting refills token ready reported p h asleep = no asleep
resting checks token ready reported p h asleep = no asleep
resting submits token ready reported p h asleep = no asleep
resting ends token ready reported p h asleep = no asleep
resting leaves token ready reported p h asleep = no asleep
resting lies_down token ready reported p h asleep = no asleep
resting looks_again token ready reported p h asleep = no asleep
resting rises token ready reported p h asleep = no asleep
resting sleeps true ready reported p h asleep = no asleep
resting sleeps false true reported p h asleep = no asleep
resting sleeps false false true p h asleep = no h.4
resting sleeps false false false p h asleep = h

rests-after : (steps : List Step) → (let p = fold (λ p s. next s p) begun steps in is_asleep p ≡ true → Rests p)
rests-after steps =
    let p : Loop = fold (λ p s. next s p) begun steps in
    resting p.stage p.token p.ready p.reported p (sound-after steps)

is_woken : (x : Giver) (called any asleep : Bool) (l s w : ℕ) → (called || will_call x) ≡ true → implies called (any || (is_telling x || false)) ≡ true → (asleep || (some w || false)) ≡ true → implies any (some l || (some s || (some w || false))) ≡ true → (will_tell x || (some w || (asleep && (some s || (any && some l))))) ≡ true
is_woken refused called any asleep l s w e f g h = refl
is_woken marked called any asleep l s w e f g h = refl
is_woken sent called any asleep l s w e f g h = refl
is_woken calls called any asleep l s w e f g h = refl
is_woken tells called any asleep l s w e f g h = refl
is_woken idle false any asleep l s w e f g h = no e
is_woken idle true false asleep l s w e f g h = no f
is_woken idle true true asleep l s (suc w) e f g h = refl
is_woken idle true true false l s zero e f g h = no g
is_woken idle true true true l (suc s) zero e f g h = refl
is_woken idle true true true (suc l) zero zero e f g h = refl
is_woken idle true true true zero zero zero e f g h = no h

-- who is or will be called wakes the loop
wakes : (p : Loop) → Rests p → (p.called || will_call p.giver) ≡ true → is_to_wake p ≡ true
wakes p r e = is_woken p.giver p.called p.any p.asleep p.looking p.swapping p.waking e r.1 r.5 r.6

due_message : (n : ℕ) (held holds has_left closed blocked i c : Bool) → closed ≡ false → (not blocked && (some n || held)) ≡ true → implies ((some n || (not has_left && (held || holds))) && not closed) (blocked || (false || c)) ≡ true → implies has_left (i && not held) ≡ true → c ≡ true
due_message n held holds has_left true blocked i c f e h g = no (sym f)
due_message n held holds has_left false true i c f e h g = no e
due_message (suc n) held holds has_left false false i c f e h g = h
due_message zero false holds has_left false false i c f e h g = no e
due_message zero true holds false false false i c f e h g = h
due_message zero true holds true false false true c f e h g = no g
due_message zero true holds true false false false c f e h g = no g

pub no_message_is_left : NoMessageIsLeft
no_message_is_left steps asleep is_open here =
    let p : Loop = fold (λ p s. next s p) begun steps in
    let r : Rests p = rests-after steps asleep in
    wakes p r (due_message p.in_ring p.held p.holds p.has_left p.closed p.blocked (is_idle p.giver) _ is_open here r.3 r.13)

due_request : (waits given busy closed blocked c : Bool) → closed ≡ false → (not blocked && (waits && given)) ≡ true → implies (busy && given) c ≡ true → implies (waits && (not busy && not closed)) (blocked || (false || c)) ≡ true → c ≡ true
due_request waits given busy true blocked c f e g h = no (sym f)
due_request waits given busy false true c f e g h = no e
due_request false given busy false false c f e g h = no e
due_request true false busy false false c f e g h = no e
due_request true true true false false c f e g h = g
due_request true true false false false c f e g h = h

pub no_request_is_left : NoRequestIsLeft
no_request_is_left steps asleep is_open there =
    let p : Loop = fold (λ p s. next s p) begun steps in
    let r : Rests p = rests-after steps asleep in
    wakes p r (due_request p.waits p.given p.busy p.closed p.blocked _ is_open there r.2 r.16)

due_socket : (blocked full unread waits closed c w : Bool) → closed ≡ false → (c ≡ true → w ≡ true) → implies blocked (full || (false || false)) ≡ true → implies (unread && not closed) (false || (waits || (blocked || (false || c)))) ≡ true → (if blocked then full else (not unread || (waits || w))) ≡ true
due_socket blocked full unread waits true c w f woken g h = no (sym f)
due_socket true true unread waits false c w f woken g h = refl
due_socket true false unread waits false c w f woken g h = no g
due_socket false full false waits false c w f woken g h = refl
due_socket false full true true false c w f woken g h = refl
due_socket false full true false false c w f woken g h = woken h

pub no_socket_is_left : NoSocketIsLeft
no_socket_is_left steps asleep is_open =
    let p : Loop = fold (λ p s. next s p) begun steps in
    let r : Rests p = rests-after steps asleep in
    due_socket p.blocked p.full p.unread p.waits p.closed _ _ is_open (wakes p r) r.7 r.8

due_end : (over cut closed : Bool) → closed ≡ false → implies over (false || cut) ≡ true → implies (cut && not closed) (false || false) ≡ true → (over || cut) ≡ false
due_end over cut true f g h = no (sym f)
due_end over true false f g h = no h
due_end true false false f g h = no g
due_end false false false f g h = refl

due_close : (half blocked closed c : Bool) → closed ≡ false → implies (half && not closed) (false || (blocked || (false || c))) ≡ true → (half && not blocked) ≡ true → c ≡ true
due_close half blocked true c f h e = no (sym f)
due_close false blocked false c f h e = no e
due_close true true false c f h e = no e
due_close true false false c f h e = h

pub no_end_is_left : NoEndIsLeft
no_end_is_left steps asleep is_open =
    let p : Loop = fold (λ p s. next s p) begun steps in
    let r : Rests p = rests-after steps asleep in
    (due_end p.over p.cut p.closed is_open r.11 r.12, λ half. wakes p r (due_close p.half p.blocked p.closed _ is_open r.9 half))
