-- A retrying goes over those that wait until one of them changes the database, and begins again.
use Rattle.std.proofs.Common.{◌≡◌, ℕ, suc, ◌+◌, ◌≤◌, ◌==◌, ◌&&◌, Bool, true, false, cond, not, List, [], ◌∷◌, ◌++◌, append_assoc, length, length-append, Option, Some, None, refl, sym, ap, subst, ◌∙◌, true≢false, arith}
use Rattle.std.proofs.lemmas.List.{append-nil}
use Rattle.std.proofs.lemmas.Option.{none-some, same_Some}
use Rattle.std.specs.Cmp.{unsigned_Decides}
use Rattle.std.specs.Prelude.{option_map, option_to_list}
use Rattle.std.proofs.lemmas.Bool.Decides.{nat_tests}
use Rattle.odb_service.proofs.Each.{Each, none_passes}
use Rattle.odb_service.proofs.Retried.{retried_next}
use Rattle.odb_service.specs.Server.{Server, served_by}
use Rattle.odb_service.specs.Service.{Outcome, Service, ended, waiting}
use Rattle.odb_service.specs.World.{Waiting, World, attempt, is_untried, on_outcome, retry_all, split_first, try_one, untried}
use Rattle.odb_core.specs.Represented.Retrying.{IsRetrying}
use Rattle.odb_core.specs.Represented.Steps.{by_service, let_wait, try_again}
use Rattle.odb_core.proofs.ClosedSessions.{none_pushed}
use Rattle.odb_core.proofs.HandledRequests.{attempt_waiting, tries_beside}
use Rattle.odb_core.proofs.ServerSteps.{placed}

abbrev Split : Type 0
Split = List Waiting × Waiting × List Waiting

abbrev Tried : Type 0
Tried = World × Option Waiting

abbrev SplitOf : Type 0 → Type 0
SplitOf A = List A × A × List A

-- the first that passes stands after those that don't
first_of : {A : Type 0} (test : A → Bool) (done : List A) (p : A) (rest : List A) → Each (λ x. test x ≡ false) done → test p ≡ true → split_first test (done ++ p ∷ rest) ≡ Some (let t : SplitOf A = (done, p, rest) in t)
first_of {A} test [] p rest none is =
    ap (λ b. cond b (Some (let t : SplitOf A = ([], p, rest) in t)) (option_map (λ t. let u : SplitOf A = (p ∷ t.0, t.1, t.2) in u) (split_first test rest))) is
first_of {A} test (x ∷ done) p rest none is =
    ap (λ b. cond b (Some (let t : SplitOf A = ([], x, done ++ p ∷ rest) in t)) (option_map (λ t. let u : SplitOf A = (x ∷ t.0, t.1, t.2) in u) (split_first test (done ++ p ∷ rest)))) none.0
    ∙ ap (option_map (λ t. let u : SplitOf A = (x ∷ t.0, t.1, t.2) in u)) (first_of test done p rest none.1 is)

none_untried : (n : ℕ) (p : Waiting) (deadline : Option ℕ) → is_untried n (record p { deadline = deadline; tried = n }) ≡ false
none_untried n p deadline = itself n
  where
    itself : (n : ℕ) → not (n == n) ≡ false
    itself n = grind (arith, nat_tests)

abbrev bit : Bool → ℕ
bit b = cond b 0 1

bit_small : (b : Bool) → bit b ≤ 1
bit_small true = omega arith
bit_small false = omega arith

-- one that waits again was tried, and nothing else changed
again : (h : Service) (p : Waiting) (o : Outcome) (w v : World) (q : Waiting) → on_outcome h p o w ≡ (v, Some q) → (v ≡ w) × (is_untried w.commits q ≡ false)
again h p (ended r changed) w v q e = absurd (none-some q (ap (λ (t : Tried). t.1) e))
again h p (waiting deadline) w v q e =
    let same : record p { deadline = deadline; tried = w.commits } ≡ q = same_Some _ q (ap (λ (t : Tried). t.1) e) in
    (sym (ap (λ (t : Tried). t.0) e), subst (λ x. is_untried w.commits x ≡ false) same (none_untried w.commits p deadline))

module _ (old now : Server) (n : ℕ) (p : Waiting) (rest : List Waiting) (h : IsRetrying old now n (p ∷ rest)) where
  abbrev k : Service
  k = served_by now.schema

  abbrev w : World
  w = now.world

  -- one that isn't tried goes after the others
  pub passed_over : (w.commits ≡ n → is_untried n p ≡ false) → IsRetrying old (let_wait (w.waiting ++ p ∷ []) now) n rest
  passed_over isnt =
      let long : length (w.waiting ++ p ∷ []) ≡ length w.waiting + 1 = length-append w.waiting (p ∷ []) in
      let few : bit (w.commits == n) + length w.waiting + suc (length rest) ≤ length old.world.waiting = h.fewer in
      record {
        same = h.same ∙ ap (λ ps. by_service retry_all (let_wait ps now)) (sym (append_assoc w.waiting (p ∷ []) rest));
        tried = λ e. none_pushed (is_untried n) w.waiting p (h.tried e) (isnt e);
        fewer = omega (arith, long, few);
      }

  module _ (count : w.commits ≡ n) (is : is_untried n p ≡ true) where
    abbrev all : World
    all = record w { waiting = w.waiting ++ p ∷ rest }

    abbrev here : Split
    here = (w.waiting, p, rest)

    next : by_service retry_all old ≡ placed now (retry_all k (try_one k here all))
    next =
        let first : untried k all ≡ Some here =
        ap (λ c. split_first (is_untried c) (w.waiting ++ p ∷ rest)) count ∙ first_of (is_untried n) w.waiting p rest (none_passes (is_untried n) w.waiting (h.tried count)) is
        in
        h.same ∙ ap (placed now) (retried_next k all here first)

    -- what a try comes to
    came_to : (v : World) (o : Option Waiting) → attempt k p w ≡ (v, o) → try_one k here all ≡ record v { waiting = w.waiting ++ option_to_list o ++ rest }
    came_to v o e = tries_beside k all w.waiting here v o e

    pub ended_in_turn : (v : World) → attempt k p w ≡ (v, None) → IsRetrying old (placed now v) n rest
    ended_in_turn v e =
        let left : v.waiting ≡ w.waiting = attempt_waiting k p w v None e in
        let few : bit (w.commits == n) + length w.waiting + suc (length rest) ≤ length old.world.waiting = h.fewer in
        let long : length v.waiting ≡ length w.waiting = ap length left in
        let small : bit (v.commits == n) ≤ 1 = bit_small (v.commits == n) in
        record {
          same = next ∙ ap (λ (u : World). placed now (retry_all k u)) (came_to v None e ∙ ap (λ ps. record v { waiting = ps }) (ap (λ ps. ps ++ rest) (append-nil w.waiting ∙ sym left)));
          tried = λ _. ap (split_first (is_untried n)) left ∙ h.tried count;
          fewer = omega (arith, few, long, small);
        }

    pub waits_in_turn : (v : World) (q : Waiting) → attempt k p w ≡ (v, Some q) → IsRetrying old (let_wait (v.waiting ++ q ∷ []) (placed now v)) n rest
    waits_in_turn v q e =
        let found : (v ≡ w) × (is_untried w.commits q ≡ false) = again k p _ w v q e in
        let left : v.waiting ≡ w.waiting = ap (λ (u : World). u.waiting) found.0 in
        let few : bit (w.commits == n) + length w.waiting + suc (length rest) ≤ length old.world.waiting = h.fewer in
        let long : length (v.waiting ++ q ∷ []) ≡ length w.waiting + 1 = length-append v.waiting (q ∷ []) ∙ ap (λ ps. length ps + 1) left in
        let same : bit (v.commits == n) ≡ bit (w.commits == n) = ap (λ (u : World). bit (u.commits == n)) found.0 in
        record {
          same = next ∙ ap (λ (u : World). placed now (retry_all k u)) (came_to v (Some q) e ∙ ap (λ ps. record v { waiting = (ps ++ q ∷ []) ++ rest }) (sym left));
          tried = λ _. none_pushed (is_untried n) v.waiting q (ap (split_first (is_untried n)) left ∙ h.tried count) (ap (λ c. is_untried c q) (sym count) ∙ found.1);
          fewer = omega (arith, few, long, same);
        }

    -- one that is tried, whatever it comes to
    pub tried_in_turn : IsRetrying old (by_service (try_again p) now) n rest
    tried_in_turn = by (attempt k p w) refl
      where
        by : (r : Tried) → attempt k p w ≡ r → IsRetrying old (placed now (record (r.0) { waiting = w.waiting ++ option_to_list r.1 })) n rest
        by (u, None) is =
            subst (λ ps. IsRetrying old (let_wait ps (placed now u)) n rest) (attempt_waiting k p w u None is ∙ sym (append-nil w.waiting)) (ended_in_turn u is)
        by (u, Some q) is =
            subst (λ ps. IsRetrying old (let_wait (ps ++ q ∷ []) (placed now u)) n rest) (attempt_waiting k p w u (Some q) is) (waits_in_turn u q is)

-- a retrying begins with none looked at
pub begins_in_turn : (v : Server) → IsRetrying v (let_wait [] v) v.world.commits v.world.waiting
begins_in_turn v =
    let count : bit (v.world.commits == v.world.commits) ≡ 0 = ap bit (same_number v.world.commits) in
    record {
      same = refl;
      tried = λ _. refl;
      fewer = omega (arith, count);
    }
  where
    same_number : (n : ℕ) → (n == n) ≡ true
    same_number n = (unsigned_Decides n n).1 refl

-- and ends with nothing left
pub ends_in_turn : (old now : Server) (n : ℕ) (rest : List Waiting) → rest ≡ [] → IsRetrying old now n rest → by_service retry_all old ≡ by_service retry_all now
ends_in_turn old now n rest none h = h.same ∙ ap (λ ps. by_service retry_all (let_wait (now.world.waiting ++ ps) now)) none ∙ ap (λ ps. by_service retry_all (let_wait ps now)) (append-nil now.world.waiting)

pub changed_is : (a b : ℕ) → not (a == b) ≡ false → (a == b) ≡ true
changed_is a b e = by (a == b) e
  where
    by : (c : Bool) → not c ≡ false → c ≡ true
    by true e = refl
    by false e = absurd (true≢false e)

-- what isn't to be tried has other commits, or was tried at these
pub not_to_try : (commits n : ℕ) (p : Waiting) → ((commits == n) && is_untried n p) ≡ false → commits ≡ n → is_untried n p ≡ false
not_to_try commits n p e now = sym (ap (λ b. b && is_untried n p) ((unsigned_Decides commits n).1 now)) ∙ e

pub to_try : (commits n : ℕ) (p : Waiting) → ((commits == n) && is_untried n p) ≡ true → (commits ≡ n) × (is_untried n p ≡ true)
to_try commits n p e = by (commits == n) refl e
  where
    by : (b : Bool) → (commits == n) ≡ b → (b && is_untried n p) ≡ true → (commits ≡ n) × (is_untried n p ≡ true)
    by true is e = ((unsigned_Decides commits n).0 is, e)
    by false is e = absurd (true≢false (sym e))

abbrev pub one_if : Bool → ℕ
one_if b = cond b 1 0

-- where one changed the database, fewer are left
pub fewer_left : (old now : Server) (n k : ℕ) (rest : List Waiting) → k ≡ now.world.commits → IsRetrying old now n rest → one_if (not (k == n)) + length now.world.waiting ≤ length old.world.waiting
fewer_left old now n k rest e h = by (k == n) (subst (λ m. bit (m == n) + length now.world.waiting + length rest ≤ length old.world.waiting) (sym e) h.fewer)
  where
    by : (b : Bool) → bit b + length now.world.waiting + length rest ≤ length old.world.waiting → one_if (not b) + length now.world.waiting ≤ length old.world.waiting
    by true few = omega (arith, few)
    by false few = omega (arith, few)
