use Rattle.std.proofs.Common.{rules, ◌≡◌, ◌<◌, ◌≤◌, true, false, length, map, get_or, Some, None, sym, ap, subst, ◌∙◌}
use Rattle.std.proofs.lemmas.List.{take_all}
use Rattle.std.specs.Prelude.{◌==◌}
use Rattle.odb_cond.specs.Represented.Filter.{member_of}
use Rattle.odb_cond.specs.declared.filter.Member.{Member}
use Rattle.odb_interest.specs.Keys.{Key, key_of}
use Rattle.odb_interest.specs.Represented.SessionsByKey.{CoversLacking, CoversSome, IsUnchanged, Puts}
use Rattle.odb_interest.specs.Represented.Key.{among, has_key, held, key_in, same_key}
use Rattle.odb_interest.specs.declared.index.SessionsByKey.{SessionsByKey}
use Rattle.odb_interest.proofs.Agreeing.{among-has_key, among_gives, covers_by, covers_lacking, covers_lacking_by, covers_some_by, lacking_more, lacking_so_far, none_lacking, put_covers, some_lacking}
use Rattle.odb_interest.proofs.index.SessionsByKey.cover_lacking.Goals as goal
use Rattle.odb_interest.proofs.index.SessionsByKey.cover_lacking.Goals.{in-Some+in_ok-insert, in_default}

pub returns-in_err-insert-clause-some : goal.returns-in_err-insert-clause-some
returns-in_err-insert-clause-some c =
    let a = c.args.asked.now in
    let session = c.args.session in
    let table = c.table-table.result in
    let ms = c.members-members.result.now in
    let old = c.args.self.now in
    let now = c.loop-member.self in
    let new = c.insert-in-Some.new.self in
    let some : (length ms == 0) ≡ false = search rules in
    let value : map member_of ms ≡ a.1 = search rules in
    let same : IsUnchanged now new = search rules in
    subst (λ t. CoversSome old new t (λ k. has_key k a.1) session) c.table-table.ensures
    (covers_some_by table session old new (among ms) (λ k. has_key k a.1) (λ k. among-has_key ms k some ∙ ap (has_key k) value)
    (lacking_so_far table session old now new ms c.loop-member.member-index (λ k. has_key k c.args.other.now) c.loop-member.invariant same))

pub loop-member-preserved : goal.loop-member-preserved
loop-member-preserved c =
    let session = c.args.session in
    let table = c.table-table.result in
    let ms = c.members-members.result.now in
    let others = c.members-others.result.now in
    let i = c.loop-member.member-index in
    let now = c.loop-member.self in
    let m : Member = c.member-item.result in
    let test = λ (k : Key). held (same_key k) (key_of (member_of m)) in
    let other = λ (k : Key). has_key k c.args.other.now in
    let inside : i < length ms = search rules in
    let is : m ≡ get_or ms i m = search rules in
    let value : map member_of others ≡ c.args.other.now = search rules in
    lacking_more table session c.args.self.now now c.match-lacking.self ms i m other inside is c.loop-member.invariant
    (elim c.match-lacking.branch [
      | in-Some+in_ok-insert w ↦
          let key = key_in w.in-Some.key in
          let puts : Puts now w.insert-in-Some.new.self table key session true = search rules in
          let of : key_of (member_of m) ≡ Some key = search rules in
          subst (λ (x : SessionsByKey). CoversLacking now x table test other session) (sym w.self-is)
          (covers_lacking table session now w.insert-in-Some.new.self test other
          (covers_by table session now w.insert-in-Some.new.self (λ k. same_key k key) test (λ k. ap (held (same_key k)) (sym of)) (put_covers table session now w.insert-in-Some.new.self key puts)))
      | in_default w ↦
          let had : (k : Key) → test k ≡ true → among others k ≡ true = search rules in
          subst (λ (x : SessionsByKey). CoversLacking now x table test other session) (sym w.self-is)
          (none_lacking table session now test other (λ k has. ap (has_key k) (sym value) ∙ among_gives others k (had k has)))
    ])

pub returns-clause-some : goal.returns-clause-some
returns-clause-some c =
    let a = c.args.asked.now in
    let session = c.args.session in
    let table = c.table-table.result in
    let ms = c.members-members.result.now in
    let old = c.args.self.now in
    let new = c.loop-member.self in
    let other = λ (k : Key). has_key k c.args.other.now in
    let some : (length ms == 0) ≡ false = search rules in
    let value : map member_of ms ≡ a.1 = search rules in
    let past : length ms ≤ c.loop-member.member-index = search rules in
    let all : CoversLacking old new table (among ms) other session = subst (λ xs. CoversLacking old new table (among xs) other session) (take_all c.loop-member.member-index ms past) c.loop-member.invariant in
    subst (λ t. CoversSome old new t (λ k. has_key k a.1) session) c.table-table.ensures
    (covers_some_by table session old new (among ms) (λ k. has_key k a.1) (λ k. among-has_key ms k some ∙ ap (has_key k) value) (some_lacking table session old new (among ms) other all))

pub returns-clause-ok : goal.returns-clause-ok
returns-clause-ok c =
    let a = c.args.asked.now in
    let session = c.args.session in
    let table = c.table-table.result in
    let ms = c.members-members.result.now in
    let old = c.args.self.now in
    let new = c.loop-member.self in
    let other = λ (k : Key). has_key k c.args.other.now in
    let some : (length ms == 0) ≡ false = search rules in
    let value : map member_of ms ≡ a.1 = search rules in
    let past : length ms ≤ c.loop-member.member-index = search rules in
    let all : CoversLacking old new table (among ms) other session = subst (λ xs. CoversLacking old new table (among xs) other session) (take_all c.loop-member.member-index ms past) c.loop-member.invariant in
    subst (λ t. CoversLacking old new t (λ k. has_key k a.1) other session) c.table-table.ensures
    (covers_lacking_by table session old new (among ms) (λ k. has_key k a.1) other (λ k. among-has_key ms k some ∙ ap (has_key k) value) all)
