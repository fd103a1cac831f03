-- Numbers of what sessions ask, along each change of the sessions.
use Rattle.std.proofs.Common.{◌≡◌, ℕ, zero, suc, ◌≤◌, ◌+◌, arith, Bool, true, false, cond, List, [], ◌∷◌, map, Option, Some, None, refl, sym, ap, ◌∙◌}
use Rattle.std.specs.Ordering.{eq_by_cmp, nat_cmp}
use Rattle.std.proofs.lemmas.Option.{none-some, same_Some}
use Rattle.odb_atoms.specs.FinMap.{empty, get, insert, remove}
use Rattle.odb_service.specs.Service.{Service}
use Rattle.odb_service.specs.Session.{Item, Monitor, at_first, leaves, renamed, say, shift, start, stopped, sync}
use Rattle.odb_service.proofs.SessionMaps.{get-empty, get-insert, get-remove}
use Rattle.odb_sessions.specs.Marked.{MarkedMonitor, MarkedSession, Sessions, monitor_of}
use Rattle.odb_sessions.specs.Carried.{first_brought}
use Rattle.odb_sessions.specs.Watches.{AreAlike, Joins, KeepsWatch, asking_in, asking_of, watch_after, with_watch}
use Rattle.odb_tables.specs.Database.{Db}

-- ---- one session

pub keeps_same : (x : MarkedSession) → KeepsWatch x x
keeps_same x n is = (is, refl)

-- neither its number nor its monitors change
pub keeps_so : (x y : MarkedSession) → y.watch ≡ x.watch → y.monitors ≡ x.monitors → KeepsWatch x y
keeps_so x y same monitors n is = (sym same ∙ is, ap (λ (hs : List MarkedMonitor). map asking_of (map monitor_of hs)) monitors)

pub keeps_on : (x y z : MarkedSession) → KeepsWatch x y → KeepsWatch y z → KeepsWatch x z
keeps_on x y z f g n is =
    let later = g n is in
    let before = f n later.0 in
    (before.0, later.1 ∙ before.1)

pub joins_kept : (m : Sessions) (s : ℕ) (x y : MarkedSession) → AreAlike m → get m s ≡ Some x → KeepsWatch x y → Joins m y
joins_kept m s x y alike there keeps n t z own at is =
    let before = keeps n own in
    alike t s n z x at there is before.0 ∙ sym before.1

pub joins_none : (m : Sessions) (x : MarkedSession) → x.watch ≡ None → Joins m x
joins_none m x none n t z own at is = absurd (none-some n (sym none ∙ own))

-- whoever asks what one does that has the number
pub joins_like : (m : Sessions) (t n : ℕ) (y x : MarkedSession) → AreAlike m → get m t ≡ Some y → y.watch ≡ Some n → asking_in y ≡ asking_in x → Joins m (with_watch n x)
joins_like m t n y x alike there is same k s z own at has = alike s t k z y at there has (is ∙ own) ∙ same

-- whoever has a number that is greater than all
pub joins_new : (m : Sessions) (g n : ℕ) (x : MarkedSession) → ((s k : ℕ) (y : MarkedSession) → get m s ≡ Some y → y.watch ≡ Some k → k ≤ g) → n ≡ g + 1 → Joins m (with_watch n x)
joins_new m g n x low new k t y own at is =
    let here : k ≤ g = low t k y at is in
    let same : n ≡ k = same_Some n k own in
    absurd (omega (arith, here, new, same))

-- ---- all sessions

pub alike_put : (m : Sessions) (s : ℕ) (y : MarkedSession) → AreAlike m → Joins m y → AreAlike (insert m s y)
alike_put m s y alike joins p q n a b first second one two =
    by (eq_by_cmp nat_cmp p s) (eq_by_cmp nat_cmp q s) (sym (get-insert m s y p) ∙ first) (sym (get-insert m s y q) ∙ second)
  where
    by : (c d : Bool) → cond c (Some y) (get m p) ≡ Some a → cond d (Some y) (get m q) ≡ Some b → asking_in a ≡ asking_in b
    by true true f g = ap asking_in (sym (same_Some y a f) ∙ same_Some y b g)
    by true false f g =
        let same : y ≡ a = same_Some y a f in
        sym (joins n q b (ap (λ (z : MarkedSession). z.watch) same ∙ one) g two ∙ ap asking_in same)
    by false true f g =
        let same : y ≡ b = same_Some y b g in
        joins n p a (ap (λ (z : MarkedSession). z.watch) same ∙ two) f one ∙ ap asking_in same
    by false false f g = alike p q n a b f g one two

pub alike_less : (m : Sessions) (s : ℕ) → AreAlike m → AreAlike (remove m s)
alike_less m s alike p q n a b first second one two =
    alike p q n a b (by p a (eq_by_cmp nat_cmp p s) (sym (get-remove m s p) ∙ first)) (by q b (eq_by_cmp nat_cmp q s) (sym (get-remove m s q) ∙ second)) one two
  where
    by : (t : ℕ) (x : MarkedSession) (c : Bool) → cond c None (get m t) ≡ Some x → get m t ≡ Some x
    by t x true e = absurd (none-some x e)
    by t x false e = e

pub alike_none : AreAlike empty
alike_none p q n a b first second one two = absurd (none-some a (sym (get-empty p) ∙ first))

-- ---- items that are carried out

module _ (h : Service) (db : Db) where
  at_first_asks : (p : Monitor → Bool) (f : Monitor → Monitor) → ((m : Monitor) → asking_of (f m) ≡ asking_of m) → (ms : List Monitor) → map asking_of (at_first p f ms) ≡ map asking_of ms
  at_first_asks p f same [] = refl
  at_first_asks p f same (m ∷ ms) = by (p m) (at_first_asks p f same ms)
    where
      by : (b : Bool) → map asking_of (at_first p f ms) ≡ map asking_of ms → map asking_of (cond b (f m ∷ ms) (m ∷ at_first p f ms)) ≡ asking_of m ∷ map asking_of ms
      by true rest = ap (λ q. q ∷ map asking_of ms) (same m)
      by false rest = ap (λ qs. asking_of m ∷ qs) rest

  pub leaves_asks : (i : Item) (ms : List Monitor) (w : Option ℕ) (n : ℕ) → watch_after i w ≡ Some n → (w ≡ Some n) × (map asking_of (leaves h db i ms) ≡ map asking_of ms)
  leaves_asks (say a d) ms w n is = (is, refl)
  leaves_asks (start d k) ms w n is = absurd (none-some n is)
  leaves_asks (sync i) ms w n is = (is, at_first_asks _ _ (λ m. refl) ms)
  leaves_asks (shift i fs) ms w n is = (is, at_first_asks _ _ (λ m. refl) ms)
  leaves_asks (renamed d old new fs) ms w n is = absurd (none-some n is)
  leaves_asks (stopped d i) ms w n is = absurd (none-some n is)

  pub brought_asks : (n : ℕ) (ms : List Monitor) → map asking_of (first_brought h db n ms) ≡ map asking_of ms
  brought_asks zero ms = refl
  brought_asks (suc n) [] = refl
  brought_asks (suc n) (m ∷ ms) = ap (λ qs. asking_of m ∷ qs) (brought_asks n ms)
