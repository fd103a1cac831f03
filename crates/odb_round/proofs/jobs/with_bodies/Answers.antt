use Rattle.std.proofs.Common.{rules, ◌≡◌, ◌+◌, ◌++◌, ◌≤◌, suc, List, [], ◌∷◌, arith, append-nil, length, map, sym, ap, ◌∙◌}
use Rattle.std.specs.Prelude.{vec_capacity, vec_len}
use Rattle.std.proofs.lemmas.List.{nil_from_length}
use Rattle.odb_round.specs.Represented.Taking.{pending_by, pending_of}
use Rattle.odb_round.specs.declared.jobs.Planned.{Planned}
use Rattle.odb_round.proofs.Pendings.{one_ready}
use Rattle.odb_round.proofs.jobs.with_bodies.Goals as goal

pub loop-taking-init : goal.loop-taking-init
loop-taking-init c =
    let ps : List Planned = c.into_iter-taking-iterator.result.rest.items in
    let all : ps ≡ c.args.planned.items = c.into_iter-taking-iterator.ensures.into_iter_gives.0 in
    let none : c.in_ok-ready.ready.items ≡ [] = search rules in
    let empty : vec_len c.in_ok-ready.ready ≡ 0 = search rules in
    let long : length c.args.planned.items ≤ vec_capacity c.in_ok-ready.ready = search rules in
    let many : length ps ≡ length c.args.planned.items = ap length all in
    (λ js same. ap (λ (rs : List Planned). map pending_of rs ++ map (pending_by js) ps) none, omega (arith, empty, long, many))

pub push_reserved-requires : goal.push_reserved-requires
push_reserved-requires c =
    let many : length c.loop-taking.taking-iterator.rest.items ≡ suc (length c.next.new.self.rest.items) = ap length c.in-Some.ensures.steps.0 in
    let fits : vec_len c.loop-taking.ready + length c.loop-taking.taking-iterator.rest.items ≤ vec_capacity c.loop-taking.ready = c.loop-taking.invariant.1 in
    omega (arith, many, fits)

pub loop-taking-preserved : goal.loop-taking-preserved
loop-taking-preserved c =
    let p : Planned = c.in-Some.taking in
    let ps : List Planned = c.next.new.self.rest.items in
    let r : Planned = c.in_ok-one.one in
    let steps : c.loop-taking.taking-iterator.rest.items ≡ p ∷ ps = c.in-Some.ensures.steps.0 in
    let grown : c.push_reserved.new.self.items ≡ c.loop-taking.ready.items ++ r ∷ [] = search rules in
    let len : vec_len c.push_reserved.new.self ≡ vec_len c.loop-taking.ready + 1 = search rules in
    let capacity : vec_capacity c.push_reserved.new.self ≡ vec_capacity c.loop-taking.ready = search rules in
    let many : length c.loop-taking.taking-iterator.rest.items ≡ suc (length ps) = ap length steps in
    let fits : vec_len c.loop-taking.ready + length c.loop-taking.taking-iterator.rest.items ≤ vec_capacity c.loop-taking.ready = c.loop-taking.invariant.1 in (
      λ js same. one_ready js c.loop-taking.ready.items c.push_reserved.new.self.items r p ps grown (c.in_ok-one.ensures js same)
          ∙ ap (λ (qs : List Planned). map pending_of c.loop-taking.ready.items ++ map (pending_by js) qs) (sym steps)
          ∙ c.loop-taking.invariant.0 js same,
      omega (arith, len, capacity, many, fits),
    )

pub returns : goal.returns
returns c = λ js same.
    let zero : length c.loop-taking.taking-iterator.rest.items ≡ 0 = search rules in
    let none : c.loop-taking.taking-iterator.rest.items ≡ [] = nil_from_length c.loop-taking.taking-iterator.rest.items zero in
    let all : c.into_iter-taking-iterator.result.rest.items ≡ c.args.planned.items = c.into_iter-taking-iterator.ensures.into_iter_gives.0 in
    sym (append-nil (map pending_of c.loop-taking.ready.items))
    ∙ ap (λ (qs : List Planned). map pending_of c.loop-taking.ready.items ++ map (pending_by js) qs) (sym none)
    ∙ c.loop-taking.invariant.0 js same
    ∙ ap (map (pending_by js)) all
