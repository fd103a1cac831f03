-- Each step keeps what makes the pump wake, so every run does.
use Rattle.std.proofs.Common.{◌≡◌, ℕ, zero, suc, ◌<◌, ◌+◌, arith, Bool, true, false, not, List, [], ◌∷◌, refl, sym, true≢false}
use Rattle.std.specs.Prelude.{◌||◌, fold}
use Rattle.odb_waking.specs.Loop.{some}
use Rattle.odb_waking.specs.Pump.{Stage, begins, forgets, gives, decides, pauses, lies_down, looks_again, sleeps, Pump, Step, goes_on, owes, nears, tells, calls, looks, wakes, keeps_silent, gives_all, NoPumpOversleeps, begun, is_asleep, next}

pub no : {A : Type 0} → false ≡ true → A
no e = absurd (true≢false (sym e))

pub or_true : (b : Bool) → (b || true) ≡ true
or_true true = refl
or_true false = refl

-- where there is something to do, one of so many threads will say so, or the pump learns it otherwise
abbrev meets : Bool → ℕ → Bool → Bool
meets false n learns = true
meets true n learns = some n || learns

abbrev on_the_way : Pump → Bool
on_the_way p = some p.looking || (some p.waking || p.token)

abbrev Meets : Pump → Bool → Type 0
Meets p learns = (meets p.owed p.telling learns ≡ true) × (meets p.sooner p.calling learns ≡ true)

abbrev Sound_at : Stage → Pump → Type 0
Sound_at begins p = Unit {0}
Sound_at forgets p = Unit {0}
Sound_at gives p = Unit {0}
Sound_at decides p = Meets p p.signaled
Sound_at pauses p = Unit {0}
Sound_at lies_down p = Meets p p.signaled
Sound_at looks_again p = (not p.awake ≡ true) × Meets p p.signaled
Sound_at sleeps p = (not p.awake ≡ true) × Meets p (on_the_way p)

abbrev Sound : Pump → Type 0
Sound p = Sound_at p.stage p

abbrev pump : Stage → Bool → Bool → Bool → Bool → Bool → ℕ → ℕ → ℕ → ℕ → Pump
pump x a t k o s n c l w = record { stage = x; awake = a; signaled = t; token = k; owed = o; sooner = s; telling = n; calling = c; looking = l; waking = w }

-- ---- small facts

learnt : (d : Bool) (n : ℕ) (learns : Bool) → learns ≡ true → meets d n learns ≡ true
learnt false n learns e = refl
learnt true zero learns e = e
learnt true (suc n) learns e = refl

-- it needn't be learnt
by_others : (d : Bool) (n : ℕ) (learns : Bool) → meets d n false ≡ true → meets d n learns ≡ true
by_others false n learns e = refl
by_others true zero learns e = no e
by_others true (suc n) learns e = refl

will_wake : (l : ℕ) (k : Bool) → (some l || (true || k)) ≡ true
will_wake zero k = refl
will_wake (suc l) k = refl

has_token : (l w : ℕ) → (some l || (some w || true)) ≡ true
has_token zero zero = refl
has_token zero (suc w) = refl
has_token (suc l) w = refl

-- ---- steps

going : (b : Bool) (x : Stage) (a t k o s : Bool) (n c l w : ℕ) → Sound (pump x a t k o s n c l w) → Sound (next (goes_on b) (pump x a t k o s n c l w))
going b begins a t k o s n c l w p = tt
going b forgets a t k o s n c l w p = tt
going true gives a t k o s n c l w p = tt
going false gives a t k o s n c l w p = (refl, refl)
going b decides a true k o s n c l w p = tt
going b decides a false k o s n c l w p = p
going b pauses a t k o s n c l w p = tt
going b lies_down a t k o s n c l w p = (refl, p)
going b looks_again a true k o s n c l w p = tt
going b looks_again a false k o s n c l w p = (p.0, (by_others o n _ p.1.0, by_others s c _ p.1.1))
going b sleeps a t true o s n c l w p = tt
going true sleeps a t false o s n c l w p = tt
going false sleeps a t false o s n c l w p = p

owing : (x : Stage) (a t k o s : Bool) (n c l w : ℕ) → Sound (pump x a t k o s n c l w) → Sound (next owes (pump x a t k o s n c l w))
owing begins a t k o s n c l w p = tt
owing forgets a t k o s n c l w p = tt
owing gives a t k o s n c l w p = tt
owing decides a t k o s n c l w p = (refl, p.1)
owing pauses a t k o s n c l w p = tt
owing lies_down a t k o s n c l w p = (refl, p.1)
owing looks_again a t k o s n c l w p = (p.0, (refl, p.1.1))
owing sleeps a t k o s n c l w p = (p.0, (refl, p.1.1))

nearing : (x : Stage) (a t k o s : Bool) (n c l w : ℕ) → Sound (pump x a t k o s n c l w) → Sound (next nears (pump x a t k o s n c l w))
nearing begins a t k o s n c l w p = tt
nearing forgets a t k o s n c l w p = tt
nearing gives a t k o s n c l w p = tt
nearing decides a t k o s n c l w p = (p.0, refl)
nearing pauses a t k o s n c l w p = tt
nearing lies_down a t k o s n c l w p = (p.0, refl)
nearing looks_again a t k o s n c l w p = (p.0, (p.1.0, refl))
nearing sleeps a t k o s n c l w p = (p.0, (p.1.0, refl))

telling : (x : Stage) (a t k o s : Bool) (n c l w : ℕ) → Sound (pump x a t k o s n c l w) → Sound (next tells (pump x a t k o s n c l w))
telling x a t k o s zero c l w p = p
telling begins a t k o s (suc n) c l w p = tt
telling forgets a t k o s (suc n) c l w p = tt
telling gives a t k o s (suc n) c l w p = tt
telling decides a t k o s (suc n) c l w p = (learnt o n true refl, learnt s c true refl)
telling pauses a t k o s (suc n) c l w p = tt
telling lies_down a t k o s (suc n) c l w p = (learnt o n true refl, learnt s c true refl)
telling looks_again a t k o s (suc n) c l w p = (p.0, (learnt o n true refl, learnt s c true refl))
telling sleeps a t k o s (suc n) c l w p = (p.0, (learnt o n true refl, learnt s c true refl))

calling : (x : Stage) (a t k o s : Bool) (n c l w : ℕ) → Sound (pump x a t k o s n c l w) → Sound (next calls (pump x a t k o s n c l w))
calling x a t k o s n zero l w p = p
calling begins a t k o s n (suc c) l w p = tt
calling forgets a t k o s n (suc c) l w p = tt
calling gives a t k o s n (suc c) l w p = tt
calling decides a t k o s n (suc c) l w p = (learnt o n true refl, learnt s c true refl)
calling pauses a t k o s n (suc c) l w p = tt
calling lies_down a t k o s n (suc c) l w p = (learnt o n true refl, learnt s c true refl)
calling looks_again a t k o s n (suc c) l w p = (p.0, (learnt o n true refl, learnt s c true refl))
calling sleeps a t k o s n (suc c) l w p = (p.0, (learnt o n _ (will_wake l k), learnt s c _ (will_wake l k)))

looking : (x : Stage) (a t k o s : Bool) (n c l w : ℕ) → Sound (pump x a t k o s n c l w) → Sound (next looks (pump x a t k o s n c l w))
looking x a t k o s n c zero w p = p
looking begins true t k o s n c (suc l) w p = tt
looking begins false t k o s n c (suc l) w p = tt
looking forgets true t k o s n c (suc l) w p = tt
looking forgets false t k o s n c (suc l) w p = tt
looking gives true t k o s n c (suc l) w p = tt
looking gives false t k o s n c (suc l) w p = tt
looking decides true t k o s n c (suc l) w p = p
looking decides false t k o s n c (suc l) w p = p
looking pauses true t k o s n c (suc l) w p = tt
looking pauses false t k o s n c (suc l) w p = tt
looking lies_down true t k o s n c (suc l) w p = p
looking lies_down false t k o s n c (suc l) w p = p
looking looks_again true t k o s n c (suc l) w p = no p.0
looking looks_again false t k o s n c (suc l) w p = p
looking sleeps true t k o s n c (suc l) w p = no p.0
looking sleeps false t k o s n c (suc l) w p = (refl, (learnt o n _ (will_wake l k), learnt s c _ (will_wake l k)))

waking : (x : Stage) (a t k o s : Bool) (n c l w : ℕ) → Sound (pump x a t k o s n c l w) → Sound (next wakes (pump x a t k o s n c l w))
waking x a t k o s n c l zero p = p
waking begins a t k o s n c l (suc w) p = tt
waking forgets a t k o s n c l (suc w) p = tt
waking gives a t k o s n c l (suc w) p = tt
waking decides a t k o s n c l (suc w) p = p
waking pauses a t k o s n c l (suc w) p = tt
waking lies_down a t k o s n c l (suc w) p = p
waking looks_again a t k o s n c l (suc w) p = p
waking sleeps a t k o s n c l (suc w) p = (p.0, (learnt o n _ (has_token l w), learnt s c _ (has_token l w)))

staying_silent : (x : Stage) (a t k o s : Bool) (n c l w : ℕ) → Sound (pump x a t k o s n c l w) → Sound (next keeps_silent (pump x a t k o s n c l w))
staying_silent x a t k o s zero c l w p = p
staying_silent begins a t k o s (suc n) c l w p = tt
staying_silent forgets a t k o s (suc n) c l w p = tt
staying_silent gives a t k o s (suc n) c l w p = tt
staying_silent decides a t k o s (suc n) c l w p = (refl, p.1)
staying_silent pauses a t k o s (suc n) c l w p = tt
staying_silent lies_down a t k o s (suc n) c l w p = (refl, p.1)
staying_silent looks_again a t k o s (suc n) c l w p = (p.0, (refl, p.1.1))
staying_silent sleeps a t k o s (suc n) c l w p = (p.0, (refl, p.1.1))

giving : (x : Stage) (a t k o s : Bool) (n c l w : ℕ) → Sound (pump x a t k o s n c l w) → Sound (next gives_all (pump x a t k o s n c l w))
giving begins a t k o s n c l w p = tt
giving forgets a t k o s n c l w p = tt
giving gives a t k o s n c l w p = tt
giving decides a t k o s n c l w p = (refl, p.1)
giving pauses a t k o s n c l w p = tt
giving lies_down a t k o s n c l w p = (refl, p.1)
giving looks_again a t k o s n c l w p = (p.0, (refl, p.1.1))
giving sleeps a t k o s n c l w p = (p.0, (refl, p.1.1))

sound-next : (s : Step) (p : Pump) → Sound p → Sound (next s p)
sound-next (goes_on b) p = going b p.stage p.awake p.signaled p.token p.owed p.sooner p.telling p.calling p.looking p.waking
sound-next owes p = owing p.stage p.awake p.signaled p.token p.owed p.sooner p.telling p.calling p.looking p.waking
sound-next nears p = nearing p.stage p.awake p.signaled p.token p.owed p.sooner p.telling p.calling p.looking p.waking
sound-next tells p = telling p.stage p.awake p.signaled p.token p.owed p.sooner p.telling p.calling p.looking p.waking
sound-next calls p = calling p.stage p.awake p.signaled p.token p.owed p.sooner p.telling p.calling p.looking p.waking
sound-next looks p = looking p.stage p.awake p.signaled p.token p.owed p.sooner p.telling p.calling p.looking p.waking
sound-next wakes p = waking p.stage p.awake p.signaled p.token p.owed p.sooner p.telling p.calling p.looking p.waking
sound-next keeps_silent p = staying_silent p.stage p.awake p.signaled p.token p.owed p.sooner p.telling p.calling p.looking p.waking
sound-next gives_all p = giving p.stage p.awake p.signaled p.token p.owed p.sooner p.telling p.calling p.looking p.waking

sound-run : (steps : List Step) (p : Pump) → Sound p → Sound (fold (λ p s. next s p) p steps)
sound-run [] p h = h
sound-run (s ∷ steps) p h = sound-run steps (next s p) (sound-next s p h)

-- ---- what follows

woken : (x : Stage) (a t k o s : Bool) (n c l w : ℕ) → Sound (pump x a t k o s n c l w) → is_asleep (pump x a t k o s n c l w) ≡ true → (o || s) ≡ true → 0 < n + (c + (l + w))
woken begins a t k o s n c l w p asleep due = no asleep
woken forgets a t k o s n c l w p asleep due = no asleep
woken gives a t k o s n c l w p asleep due = no asleep
woken decides a t k o s n c l w p asleep due = no asleep
woken pauses a t k o s n c l w p asleep due = no asleep
woken lies_down a t k o s n c l w p asleep due = no asleep
woken looks_again a t k o s n c l w p asleep due = no asleep
woken sleeps a t true o s n c l w p asleep due = no asleep
woken sleeps a t false o s (suc n) c l w p asleep due = omega arith
woken sleeps a t false o s zero (suc c) l w p asleep due = omega arith
woken sleeps a t false o s zero zero (suc l) w p asleep due = omega arith
woken sleeps a t false o s zero zero zero (suc w) p asleep due = omega arith
woken sleeps a t false true s zero zero zero zero p asleep due = no p.1.0
woken sleeps a t false false true zero zero zero zero p asleep due = no p.1.1
woken sleeps a t false false false zero zero zero zero p asleep due = no due

pub no_pump_oversleeps : NoPumpOversleeps
no_pump_oversleeps steps =
    let p : Pump = fold (λ p s. next s p) begun steps in
    woken p.stage p.awake p.signaled p.token p.owed p.sooner p.telling p.calling p.looking p.waking (sound-run steps begun tt)
