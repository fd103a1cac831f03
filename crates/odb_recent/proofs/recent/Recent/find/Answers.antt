use Rattle.std.proofs.Common.{rules, ◌≡◌, ℕ, ◌-◌, ◌<◌, ◌^◌, ◌/◌, ◌%◌, ◌==◌, true, false, Some, ap, ◌∙◌}
use Rattle.std.specs.Prelude.{nat_le, nat_lt}
use Rattle.odb_atoms.proofs.Represented.Atoms.{number-uuid_of}
use Rattle.odb_atoms.specs.Represented.Atom.{uuid_of}
use Rattle.odb_atoms.specs.Uuid.{Uuid}
use Rattle.odb_recent.specs.Recent.{Recent, commits_ago}
use Rattle.odb_recent.proofs.Finding.{all_true, first_false, found, fourth_false, is_named, missed, second_false, third_false}
use Rattle.odb_recent.proofs.recent.Recent.find.Goals as goal
use Rattle.odb_recent.proofs.recent.Recent.find.Goals.{then-number-from-via-then-number-from, then-number-from-via-else-number-from+then-commit-eq0, then-number-from-via-else-number-from+else-commit-eq0+then-commit-from}

pub returns-then-number-from-clause-found : goal.returns-then-number-from-clause-found
returns-then-number-from-clause-found c =
    let n : ℕ = c.as_u128-number.result in
    let v : Uuid = uuid_of c.args.number in
    let small : n < 2 ^ 128 = search rules in
    let is : n ≡ v.number = number-uuid_of c.args.number n c.as_u128-number.ensures small in
    let run : ℕ = c.self.inside.run in
    let commits : ℕ = c.self.inside.commits in
    let most : ℕ = c.self.inside.most in
    let h : ℕ = n / 2 ^ 64 in
    let k : ℕ = n % 2 ^ 64 in
    let no : is_named most run commits h k ≡ false = elim c.then-number-from.branch [
      | then-number-from-via-then-number-from w ↦
          let other : (h == run) ≡ false = search rules in
          first_false (h == run) (nat_le 1 k) (nat_le k commits) (nat_lt (commits - k) most) other
      | then-number-from-via-else-number-from+then-commit-eq0 w ↦
          let none : nat_le 1 k ≡ false = search rules in
          second_false (h == run) (nat_le 1 k) (nat_le k commits) (nat_lt (commits - k) most) none
      | then-number-from-via-else-number-from+else-commit-eq0+then-commit-from w ↦
          let later : nat_le k commits ≡ false = search rules in
          third_false (h == run) (nat_le 1 k) (nat_le k commits) (nat_lt (commits - k) most) later
    ] in
    missed most run commits h k v (ap (λ m. m / 2 ^ 64) is) (ap (λ m. m % 2 ^ 64) is) no
    ∙ ap (λ (r : Recent). commits_ago r.most r.run r.commits v) c.self.view_is

pub returns-then-ago-self-clause-found : goal.returns-then-ago-self-clause-found
returns-then-ago-self-clause-found c =
    let n : ℕ = c.as_u128-number.result in
    let v : Uuid = uuid_of c.args.number in
    let small : n < 2 ^ 128 = search rules in
    let is : n ≡ v.number = number-uuid_of c.args.number n c.as_u128-number.ensures small in
    let run : ℕ = c.self.inside.run in
    let commits : ℕ = c.self.inside.commits in
    let most : ℕ = c.self.inside.most in
    let h : ℕ = n / 2 ^ 64 in
    let k : ℕ = n % 2 ^ 64 in
    let before : nat_lt (commits - k) most ≡ false = search rules in
    missed most run commits h k v (ap (λ m. m / 2 ^ 64) is) (ap (λ m. m % 2 ^ 64) is) (fourth_false (h == run) (nat_le 1 k) (nat_le k commits) (nat_lt (commits - k) most) before)
    ∙ ap (λ (r : Recent). commits_ago r.most r.run r.commits v) c.self.view_is

pub returns-clause-found : goal.returns-clause-found
returns-clause-found c =
    let n : ℕ = c.as_u128-number.result in
    let v : Uuid = uuid_of c.args.number in
    let small : n < 2 ^ 128 = search rules in
    let is : n ≡ v.number = number-uuid_of c.args.number n c.as_u128-number.ensures small in
    let run : ℕ = c.self.inside.run in
    let commits : ℕ = c.self.inside.commits in
    let most : ℕ = c.self.inside.most in
    let h : ℕ = n / 2 ^ 64 in
    let k : ℕ = n % 2 ^ 64 in
    let all : ℕ = c.from-2.result in
    let same : (h == run) ≡ true = search rules in
    let some : nat_le 1 k ≡ true = search rules in
    let there : nat_le k commits ≡ true = search rules in
    let kept : nat_lt (commits - k) most ≡ true = search rules in
    let ago : all - k ≡ commits - k = ap (λ m. m - k) c.from-2.ensures in
    ap Some ago
    ∙ found most run commits h k v (ap (λ m. m / 2 ^ 64) is) (ap (λ m. m % 2 ^ 64) is) (all_true (h == run) (nat_le 1 k) (nat_le k commits) (nat_lt (commits - k) most) same some there kept)
    ∙ ap (λ (r : Recent). commits_ago r.most r.run r.commits v) c.self.view_is
