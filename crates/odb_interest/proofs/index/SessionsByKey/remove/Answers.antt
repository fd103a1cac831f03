use Rattle.std.proofs.Common.{rules, ◌≡◌, ℕ, Bool, false, IsSome, Some, None, cond, refl, ap, subst, ◌∙◌}
use Rattle.std.specs.BTreeMap as tree
use Rattle.std.specs.Ordering.{nat_cmp}
use Rattle.std.specs.Prelude.{◌==◌, ◌&&◌}
use Rattle.odb_interest.specs.Keys.{Key}
use Rattle.odb_interest.specs.Represented.SessionsByKey.{finds}
use Rattle.odb_interest.specs.Represented.Key.{key_in, same_key}
use Rattle.odb_interest.specs.Represented.Watched.{watches}
use Rattle.odb_interest.specs.declared.watched.Watched.{Watched}
use Rattle.odb_interest.proofs.Levels.{map_now, none_out, put_found, same_number}
use Rattle.odb_interest.proofs.index.SessionsByKey.remove.Goals as goal

abbrev has : Watched → Key × ℕ → Bool
has x q = watches x q.0 q.1

pub returns-in-Some : goal.returns-in-Some
returns-in-Some c =
    let place = c.place-place.result in
    let key = key_in c.args.key in
    let m = c.args.self.now.tables in
    let x : Watched = c.in-Some.watched.now in
    let y : Watched = c.remove.new.self in
    let n = c.get_mut.follows.lender y in
    let found : Some x ≡ tree.get nat_cmp m place = search rules in
    λ t k s. put_found has (tree.get nat_cmp m) (tree.get nat_cmp n) place (λ j. place == j) (same_number place m) (λ q. same_key q.0 key && (c.args.session == q.1)) false x y found (map_now place m n (Some y) ((c.get_mut.follows.holds y).3 (subst IsSome found refl))) (λ q. c.remove.ensures q.0 q.1) t (k, s) ∙ ap (λ (p : ℕ). cond ((p == t) && (same_key k key && (c.args.session == s))) false (finds c.args.self.now t k s)) c.place-place.ensures

pub returns-in_default : goal.returns-in_default
returns-in_default c =
    let place = c.place-place.result in
    let key = key_in c.args.key in
    let m = c.args.self.now.tables in
    let n = c.get_mut.follows.lender-at-none in
    let none : None ≡ tree.get nat_cmp m place = search rules in
    λ t k s. none_out has (tree.get nat_cmp m) (tree.get nat_cmp n) place (λ j. place == j) (same_number place m) (λ q. same_key q.0 key && (c.args.session == q.1)) none (λ j. ap (λ z. tree.get nat_cmp z j) c.get_mut.follows.holds-at-none) t (k, s) ∙ ap (λ (p : ℕ). cond ((p == t) && (same_key k key && (c.args.session == s))) false (finds c.args.self.now t k s)) c.place-place.ensures
