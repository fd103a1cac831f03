use Rattle.std.proofs.Common.{rules, ◌≡◌, ◌<◌, length, get_or, Some, None, sym, ap, subst}
use Rattle.odb_cond.specs.Represented.Filter.{member_of}
use Rattle.odb_cond.specs.declared.filter.Member.{Member}
use Rattle.odb_interest.specs.Keys.{key_of}
use Rattle.odb_interest.specs.Represented.SessionsByKey.{Uncovers}
use Rattle.odb_interest.specs.Represented.Key.{held, key_in, same_key}
use Rattle.odb_interest.specs.declared.index.SessionsByKey.{SessionsByKey}
use Rattle.odb_interest.proofs.Agreeing.{none_uncovers, uncovers_by, uncovers_more}
use Rattle.odb_interest.proofs.index.SessionsByKey.uncover_each.Goals as goal
use Rattle.odb_interest.proofs.index.SessionsByKey.uncover_each.Goals.{in-Some, in_default}

pub loop-member-preserved : goal.loop-member-preserved
loop-member-preserved c =
    let table = c.args.table in
    let session = c.args.session in
    let others = c.args.others.now in
    let ms = c.args.members.now in
    let i = c.loop-member.member-index in
    let m : Member = c.member-item.result in
    let inside : i < length ms = search rules in
    let is : m ≡ get_or ms i m = search rules in
    uncovers_more table session c.args.self.now c.loop-member.self c.match-of.self ms i m others inside is c.loop-member.invariant
    (elim c.match-of.branch [
      | in-Some w ↦
          let key : Some (key_in w.in-Some.key) ≡ key_of (member_of m) = search rules in
          subst (λ (x : SessionsByKey). Uncovers c.loop-member.self x table (λ k. held (same_key k) (key_of (member_of m))) session others) (sym w.self-is)
          (uncovers_by table session c.loop-member.self w.release.new.self (λ k. same_key k (key_in w.in-Some.key)) (λ k. held (same_key k) (key_of (member_of m))) others (λ k. ap (held (same_key k)) key) w.release.ensures)
      | in_default w ↦
          let none : None ≡ key_of (member_of m) = search rules in
          subst (λ (x : SessionsByKey). Uncovers c.loop-member.self x table (λ k. held (same_key k) (key_of (member_of m))) session others) (sym w.self-is)
          (none_uncovers table session c.loop-member.self (λ k. held (same_key k) (key_of (member_of m))) others (λ k. ap (held (same_key k)) (sym none)))
    ])
