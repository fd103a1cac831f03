-- What the calls on the locks answer.
use Rattle.std.specs.Prelude.{ℕ, Bool, true, false, List, fold, Result, Ok, Err}
use Rattle.std.specs.List.{flat_map}
use Rattle.odb_atoms.specs.FinMap as map
use Rattle.odb_locks.specs.Locks.{Answered, Lock, LockFault, Locks, Notice, lock, lock_of, put_lock, steal, without}
use Rattle.odb_locks.specs.Represented.Lock.{next_of, with_claim}
use Rattle.odb_locks.specs.Represented.Notice.{notice_to}

-- a claim by `steal`, or else by `lock`
abbrev pub claim_by : Bool → Locks → ℕ → List ℕ → Answered
claim_by true = steal
claim_by false = lock

-- what a call answers, without the locks that it leaves
abbrev pub answer_of : Answered → Result (List Notice × Bool) LockFault
answer_of (Ok a) = Ok (a.1, a.2)
answer_of (Err f) = Err f

-- the locks once a session without a claim of a name has one
abbrev pub claimed : Bool → Locks → ℕ → List ℕ → Locks
claimed stolen l s name = map.insert l name (with_claim (record { session = s; stolen = stolen }) (lock_of l name))

-- the locks once a session's claim of a name is taken back, and who is told then
abbrev pub released : ℕ → Locks → List ℕ → Locks
released s l name = put_lock l name (without s (lock_of l name))

abbrev pub notice_of_release : ℕ → (List ℕ → Lock) → List ℕ → List Notice
notice_of_release s lock_at name = notice_to (next_of s (lock_at name).claims) false name

-- the same for one name after another
abbrev pub all_released : ℕ → Locks → List (List ℕ) → Locks
all_released s l names = fold (released s) l names

abbrev pub all_notices : ℕ → (List ℕ → Lock) → List (List ℕ) → List Notice
all_notices s lock_at names = flat_map (notice_of_release s lock_at) names
