-- Tables that are watched one after the other: what is left to do stays possible.
use Rattle.std.proofs.Common.{◌≡◌, ℕ, ◌+◌, ◌-◌, ◌^◌, ◌<◌, ◌≤◌, arith, List, ◌∷◌, length, subst, sym, ap, ◌∙◌}
use Rattle.odb_chain.specs.Chains.{Chains, Mark, count, marked, version}
use Rattle.odb_request.specs.Request.{Request}
use Rattle.odb_tables.specs.Database.{Db}
use Rattle.odb_sessions.specs.Started.{AreOfTables}
use Rattle.odb_sessions.specs.Tied.{Adds, counted_in}
use Rattle.odb_sessions.proofs.Counted.{few_counted, one_counted}

-- the number of what is left
abbrev pub AreFew : Chains → List Request → Type 0
AreFew k qs = counted_in k.live + length qs < 2 ^ 64

pub first_inside : (db : Db) (all : List Request) (q : Request) (rest : List Request) (t : ℕ) → all ≡ q ∷ rest → t ≡ q.place → AreOfTables db all → t < length db
first_inside db all q rest t step at h = subst (λ n. n < length db) (sym at) (subst (AreOfTables db) step h).0

pub first_few : (k : Chains) (all : List Request) (q : Request) (rest : List Request) → all ≡ q ∷ rest → AreFew k all → (t : ℕ) → count k t (version k t) < 2 ^ 64 - 1
first_few k all q rest step h t =
    let low : counted_in k.live + length all < 2 ^ 64 = h in
    let long : length all ≡ length (q ∷ rest) = ap length step in
    let here : count k t (version k t) ≤ counted_in k.live = few_counted k t (version k t) in
    omega (arith, low, long, here)

pub inside_left : (k new : Chains) (all : List Request) (q : Request) (rest : List Request) (ms : List Mark) → all ≡ q ∷ rest → Adds k new ms → AreOfTables k.db all → AreOfTables new.db rest
inside_left k new all q rest ms step f h = subst (λ (db : Db). AreOfTables db rest) (sym f.0) (subst (AreOfTables k.db) step h).1

pub one_more_counted : (k new : Chains) (t : ℕ) → t < length k.live → new ≡ marked t k → counted_in new.live ≡ counted_in k.live + 1
one_more_counted k new t low is = ap (λ (c : Chains). counted_in c.live) is ∙ one_counted k t low

pub few_left : (k new : Chains) (all : List Request) (q : Request) (rest : List Request) → all ≡ q ∷ rest → counted_in new.live ≡ counted_in k.live + 1 → AreFew k all → AreFew new rest
few_left k new all q rest step more h =
    let low : counted_in k.live + length all < 2 ^ 64 = h in
    let long : length all ≡ length (q ∷ rest) = ap length step in
    omega (arith, low, long, more)

pub lives_on : (k new : Chains) (ms : List Mark) → Adds k new ms → length k.live ≡ length k.db → length new.live ≡ length new.db
lives_on k new ms f lives = f.2 ∙ lives ∙ ap length (sym f.0)
