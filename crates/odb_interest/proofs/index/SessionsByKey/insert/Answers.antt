use Rattle.std.proofs.Common.{rules, ◌≡◌, ℕ, Bool, true, IsSome, Some, None, cond, refl, ap, subst, ◌∙◌}
use Rattle.std.proofs.lemmas.Result.{on_err_weaker, on_ok_weaker}
use Rattle.std.specs.BTreeMap as tree
use Rattle.std.specs.Ordering.{nat_cmp}
use Rattle.std.specs.Prelude.{◌==◌, ◌&&◌}
use Rattle.odb_interest.specs.Keys.{Key}
use Rattle.odb_interest.specs.Represented.SessionsByKey.{finds}
use Rattle.odb_interest.specs.Represented.Key.{key_in, same_key}
use Rattle.odb_interest.specs.Represented.Watched.{Puts, watches}
use Rattle.odb_interest.specs.declared.watched.Watched.{Watched}
use Rattle.odb_interest.proofs.Levels.{map_now, kept, put_first, put_found, same_number}
use Rattle.odb_interest.proofs.index.SessionsByKey.insert.Goals as goal

abbrev has : Watched → Key × ℕ → Bool
has x q = watches x q.0 q.1

pub returns-in-Some-clause-ok : goal.returns-in-Some-clause-ok
returns-in-Some-clause-ok c =
    let place = c.place-place.result in
    let key = key_in c.args.key in
    let m = c.args.self.now.tables in
    let x : Watched = c.in-Some.watched.now in
    let y : Watched = c.insert.new.self in
    let n = c.get_mut.follows.lender y in
    let found : Some x ≡ tree.get nat_cmp m place = search rules in
    on_ok_weaker c.insert.result
    (λ puts t k s. put_found has (tree.get nat_cmp m) (tree.get nat_cmp n) place (λ j. place == j) (same_number place m) (λ q. same_key q.0 key && (c.args.session == q.1)) true x y found (map_now place m n (Some y) ((c.get_mut.follows.holds y).3 (subst IsSome found refl))) (λ q. puts q.0 q.1) t (k, s) ∙ ap (λ (p : ℕ). cond ((p == t) && (same_key k key && (c.args.session == s))) true (finds c.args.self.now t k s)) c.place-place.ensures)
    c.insert.ensures.ok

pub returns-in-Some-clause-err : goal.returns-in-Some-clause-err
returns-in-Some-clause-err c =
    let place = c.place-place.result in
    let m = c.args.self.now.tables in
    let x : Watched = c.in-Some.watched.now in
    let y : Watched = c.insert.new.self in
    let n = c.get_mut.follows.lender y in
    let found : Some x ≡ tree.get nat_cmp m place = search rules in
    on_err_weaker c.insert.result
    (λ same t k s. kept has (tree.get nat_cmp m) (tree.get nat_cmp n) place (λ j. place == j) (same_number place m) x y found (map_now place m n (Some y) ((c.get_mut.follows.holds y).3 (subst IsSome found refl))) (λ q. same q.0 q.1) t (k, s))
    c.insert.ensures.err

pub returns-clause-ok : goal.returns-clause-ok
returns-clause-ok c =
    let place = c.place-place.result in
    let key = key_in c.args.key in
    let m = c.args.self.now.tables in
    let m' = c.get_mut.follows.lender-at-none in
    let x : Watched = c.new-watched.result in
    let y : Watched = c.insert-2.new.self in
    let n = c.insert-3.new.self in
    let none : None ≡ tree.get nat_cmp m place = search rules in
    let puts : Puts x y key c.args.session true = search rules in
    let changed : tree.UpdatesBy nat_cmp (nat_cmp place) m' n (Some y) = search rules in
    let same : m' ≡ m = c.get_mut.follows.holds-at-none in
    λ t k s.
    put_first has (tree.get nat_cmp m) (tree.get nat_cmp n) place (λ j. place == j) (same_number place m) (λ q. same_key q.0 key && (c.args.session == q.1)) true x y none (λ q. c.new-watched.ensures q.0 q.1)
    (map_now place m n (Some y) (subst (λ z. tree.UpdatesBy nat_cmp (nat_cmp place) z n (Some y)) same changed)) (λ q. puts q.0 q.1) t (k, s) ∙ ap (λ (p : ℕ). cond ((p == t) && (same_key k key && (c.args.session == s))) true (finds c.args.self.now t k s)) c.place-place.ensures
