use Rattle.std.proofs.Common.{rules, ◌≡◌, ◌<◌, true, length, get_or, Some, None, sym, ap, subst}
use Rattle.odb_cond.specs.Represented.Filter.{member_of}
use Rattle.odb_cond.specs.declared.filter.Member.{Member}
use Rattle.odb_interest.specs.Keys.{key_of}
use Rattle.odb_interest.specs.Represented.SessionsByKey.{Covers, IsUnchanged, Puts}
use Rattle.odb_interest.specs.Represented.Key.{held, key_in, same_key}
use Rattle.odb_interest.specs.declared.index.SessionsByKey.{SessionsByKey}
use Rattle.odb_interest.proofs.Agreeing.{covers_by, covers_more, covers_so_far, none_covers, put_covers}
use Rattle.odb_interest.proofs.index.SessionsByKey.cover_each.Goals as goal
use Rattle.odb_interest.proofs.index.SessionsByKey.cover_each.Goals.{in-Some+in_ok-insert, in_default}

pub returns-in_err-insert-clause-some : goal.returns-in_err-insert-clause-some
returns-in_err-insert-clause-some c =
    let same : IsUnchanged c.loop-member.self c.insert.new.self = search rules in
    covers_so_far c.args.table c.args.session c.args.self.now c.loop-member.self c.insert.new.self c.args.members.now c.loop-member.member-index c.loop-member.invariant same

pub loop-member-preserved : goal.loop-member-preserved
loop-member-preserved c =
    let table = c.args.table in
    let session = c.args.session in
    let ms = c.args.members.now in
    let i = c.loop-member.member-index in
    let m : Member = c.member-item.result in
    let inside : i < length ms = search rules in
    let is : m ≡ get_or ms i m = search rules in
    covers_more table session c.args.self.now c.loop-member.self c.match-of.self ms i m inside is c.loop-member.invariant
    (elim c.match-of.branch [
      | in-Some+in_ok-insert w ↦
          let puts : Puts c.loop-member.self w.insert.new.self table (key_in w.in-Some.key) session true = search rules in
          let key : Some (key_in w.in-Some.key) ≡ key_of (member_of m) = search rules in
          subst (λ (x : SessionsByKey). Covers c.loop-member.self x table (λ k. held (same_key k) (key_of (member_of m))) session) (sym w.self-is)
          (covers_by table session c.loop-member.self w.insert.new.self (λ k. same_key k (key_in w.in-Some.key)) (λ k. held (same_key k) (key_of (member_of m))) (λ k. ap (held (same_key k)) key) (put_covers table session c.loop-member.self w.insert.new.self (key_in w.in-Some.key) puts))
      | in_default w ↦
          let none : None ≡ key_of (member_of m) = search rules in
          subst (λ (x : SessionsByKey). Covers c.loop-member.self x table (λ k. held (same_key k) (key_of (member_of m))) session) (sym w.self-is)
          (none_covers table session c.loop-member.self (λ k. held (same_key k) (key_of (member_of m))) (λ k. ap (held (same_key k)) (sym none)))
    ])
