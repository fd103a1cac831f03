use Rattle.std.proofs.Common.{rules, ◌≡◌, false, length, map, ap, subst, ◌∙◌}
use Rattle.std.proofs.lemmas.Result.{on_ok_weaker}
use Rattle.std.specs.Prelude.{◌==◌}
use Rattle.odb_cond.specs.Represented.Filter.{member_of}
use Rattle.odb_interest.specs.Represented.SessionsByKey.{Covers, CoversSome}
use Rattle.odb_interest.specs.Represented.Key.{among, has_key}
use Rattle.odb_interest.proofs.Agreeing.{among-has_key, covers_by, covers_some_by}
use Rattle.odb_interest.proofs.index.SessionsByKey.cover.Goals as goal

pub returns-clause-some : goal.returns-clause-some
returns-clause-some c =
    let ms = c.members-members.result.now in
    let a = c.args.asked.now in
    let old = c.args.self.now in
    let new = c.cover_each.new.self in
    let some : (length ms == 0) ≡ false = search rules in
    let value : map member_of ms ≡ a.1 = search rules in
    let table : c.table-2.result ≡ a.0 = search rules in
    covers_some_by a.0 c.args.session old new (among ms) (λ k. has_key k a.1) (λ k. among-has_key ms k some ∙ ap (has_key k) value)
    (subst (λ t. CoversSome old new t (among ms) c.args.session) table c.cover_each.ensures.some)

pub returns-clause-ok : goal.returns-clause-ok
returns-clause-ok c =
    let ms = c.members-members.result.now in
    let a = c.args.asked.now in
    let old = c.args.self.now in
    let new = c.cover_each.new.self in
    let some : (length ms == 0) ≡ false = search rules in
    let value : map member_of ms ≡ a.1 = search rules in
    let table : c.table-2.result ≡ a.0 = search rules in
    on_ok_weaker c.cover_each.result
    (λ covers. covers_by a.0 c.args.session old new (among ms) (λ k. has_key k a.1) (λ k. among-has_key ms k some ∙ ap (has_key k) value) (subst (λ t. Covers old new t (among ms) c.args.session) table covers))
    c.cover_each.ensures.ok
