use Rattle.std.proofs.Common.{rules, ◌≡◌, ◌<◌, ◌≤◌, false, length, map, get_or, Some, None, sym, ap, subst, ◌∙◌}
use Rattle.std.proofs.lemmas.List.{take_all}
use Rattle.std.specs.Prelude.{◌==◌}
use Rattle.odb_cond.specs.Represented.Filter.{member_of}
use Rattle.odb_cond.specs.declared.filter.Member.{Member}
use Rattle.odb_interest.specs.Keys.{Key, key_of}
use Rattle.odb_interest.specs.Represented.SessionsByKey.{UncoversFound}
use Rattle.odb_interest.specs.Represented.Key.{among, has_key, held, key_in, same_key}
use Rattle.odb_interest.specs.declared.index.SessionsByKey.{SessionsByKey}
use Rattle.odb_interest.proofs.Agreeing.{among-has_key, found_by, found_more, none_found}
use Rattle.odb_interest.proofs.index.SessionsByKey.uncover_found.Goals as goal
use Rattle.odb_interest.proofs.index.SessionsByKey.uncover_found.Goals.{in-Some, in_default}

pub loop-member-preserved : goal.loop-member-preserved
loop-member-preserved c =
    let table = c.table-table.result in
    let session = c.args.session in
    let found = c.args.found.now in
    let ms = c.members-members.result.now in
    let i = c.loop-member.member-index in
    let now = c.loop-member.self in
    let m : Member = c.member-item.result in
    let test = λ (k : Key). held (same_key k) (key_of (member_of m)) in
    let inside : i < length ms = search rules in
    let is : m ≡ get_or ms i m = search rules in
    found_more table session c.args.self.now now c.match-of.self ms i m found inside is c.loop-member.invariant
    (elim c.match-of.branch [
      | in-Some w ↦
          let key : Some (key_in w.in-Some.key) ≡ key_of (member_of m) = search rules in
          let gone : UncoversFound now w.remove_found-in-Some.new.self table (λ k. same_key k (key_in w.in-Some.key)) session found = search rules in
          subst (λ (x : SessionsByKey). UncoversFound now x table test session found) (sym w.self-is)
          (found_by table session now w.remove_found-in-Some.new.self (λ k. same_key k (key_in w.in-Some.key)) test found (λ k. ap (held (same_key k)) key) gone)
      | in_default w ↦
          let none : None ≡ key_of (member_of m) = search rules in
          subst (λ (x : SessionsByKey). UncoversFound now x table test session found) (sym w.self-is)
          (none_found table session now found test (λ k. ap (held (same_key k)) (sym none)))
    ])

pub returns : goal.returns
returns c =
    let a = c.args.asked.now in
    let session = c.args.session in
    let table = c.table-table.result in
    let found = c.args.found.now in
    let ms = c.members-members.result.now in
    let old = c.args.self.now in
    let new = c.loop-member.self in
    let some : (length ms == 0) ≡ false = search rules in
    let value : map member_of ms ≡ a.1 = search rules in
    let past : length ms ≤ c.loop-member.member-index = search rules in
    let all : UncoversFound old new table (among ms) session found = subst (λ xs. UncoversFound old new table (among xs) session found) (take_all c.loop-member.member-index ms past) c.loop-member.invariant in
    subst (λ t. UncoversFound old new t (λ k. has_key k a.1) session found) c.table-table.ensures
    (found_by table session old new (among ms) (λ k. has_key k a.1) found (λ k. among-has_key ms k some ∙ ap (has_key k) value) all)
