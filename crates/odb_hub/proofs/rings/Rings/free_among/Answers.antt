use Rattle.std.proofs.Common.{rules, ◌≡◌, ◌≤◌, ◌&&◌, ℕ, Bool, true, List, ◌∷◌, ◌++◌, filter, length, map, ap, ◌∙◌}
use Rattle.std.specs.Prelude.{nat_le, slice_get, take}
use Rattle.std.proofs.lemmas.Map.Iter.{iter_end, rest_so_far}
use Rattle.odb_atoms.specs.FinMap.{get}
use Rattle.odb_hub.specs.Rings.{Rings, is_free_at, ready_among}
use Rattle.odb_hub.proofs.GroupRounds.{all_listed, cut_here, next_here, none_left, ready_is}
use Rattle.odb_hub.proofs.rings.Rings.free_among.Goals as goal

pub returns-then-len-most-clause-listed : goal.returns-then-len-most-clause-listed
returns-then-len-most-clause-listed c =
    let m : Rings = c.args.self.now in
    let p : ℕ → Bool = λ q. nat_le c.args.from q && is_free_at (get m q) in
    let x : ℕ = c.in-Some.session.now in
    let done : List ℕ = map (λ k. k.now) c.loop-session.yielded in
    let rest : List ℕ = c.next.new.self in
    let begun : c.args.owed.now.keys ≡ done ++ c.loop-session.session-iterator = search (rules, rest_so_far) in
    let step : c.loop-session.session-iterator ≡ x ∷ rest = search rules in
    let many : c.args.most ≤ length c.loop-session.listed.items = search rules in
    let passes : p x ≡ true = search rules in
    cut_here p done rest c.args.owed.now.keys c.loop-session.listed.items x c.args.most c.loop-session.invariant.0 c.loop-session.invariant.1 many passes (begun ∙ ap (λ ys. done ++ ys) step)
    ∙ ap (take c.args.most) (ready_is m c.args.owed.now c.args.from c.len.ensures.ordered)

pub returns-then-len-most-clause-next : goal.returns-then-len-most-clause-next
returns-then-len-most-clause-next c =
    let m : Rings = c.args.self.now in
    let p : ℕ → Bool = λ q. nat_le c.args.from q && is_free_at (get m q) in
    let x : ℕ = c.in-Some.session.now in
    let done : List ℕ = map (λ k. k.now) c.loop-session.yielded in
    let rest : List ℕ = c.next.new.self in
    let begun : c.args.owed.now.keys ≡ done ++ c.loop-session.session-iterator = search (rules, rest_so_far) in
    let step : c.loop-session.session-iterator ≡ x ∷ rest = search rules in
    let many : c.args.most ≤ length c.loop-session.listed.items = search rules in
    let passes : p x ≡ true = search rules in
    next_here p done rest c.args.owed.now.keys c.loop-session.listed.items x c.args.most c.loop-session.invariant.0 c.loop-session.invariant.1 many passes (begun ∙ ap (λ ys. done ++ ys) step)
    ∙ ap (λ xs. slice_get xs c.args.most) (ready_is m c.args.owed.now c.args.from c.len.ensures.ordered)

pub returns-clause-listed : goal.returns-clause-listed
returns-clause-listed c =
    let m : Rings = c.args.self.now in
    let p : ℕ → Bool = λ q. nat_le c.args.from q && is_free_at (get m q) in
    let all : map (λ k. k.now) c.loop-session.yielded ≡ c.args.owed.now.keys = search (rules, iter_end) in
    let found : c.loop-session.listed.items ≡ ready_among c.args.owed.now c.args.from m = c.loop-session.invariant.0 ∙ ap (filter p) all ∙ ready_is m c.args.owed.now c.args.from c.len.ensures.ordered in
    all_listed (ready_among c.args.owed.now c.args.from m) c.loop-session.listed.items c.args.most found c.loop-session.invariant.1

pub returns-clause-next : goal.returns-clause-next
returns-clause-next c =
    let m : Rings = c.args.self.now in
    let p : ℕ → Bool = λ q. nat_le c.args.from q && is_free_at (get m q) in
    let all : map (λ k. k.now) c.loop-session.yielded ≡ c.args.owed.now.keys = search (rules, iter_end) in
    let found : c.loop-session.listed.items ≡ ready_among c.args.owed.now c.args.from m = c.loop-session.invariant.0 ∙ ap (filter p) all ∙ ready_is m c.args.owed.now c.args.from c.len.ensures.ordered in
    none_left (ready_among c.args.owed.now c.args.from m) c.loop-session.listed.items c.args.most found c.loop-session.invariant.1
