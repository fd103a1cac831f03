-- The sessions' marks stay tied to the chains, and what the machine sees of the sessions changes as they do.
use Rattle.std.proofs.Common.{◌≡◌, ℕ, zero, suc, ◌+◌, ◌≤◌, arith, Bool, true, false, cond, ◌&&◌, T, List, [], ◌∷◌, length, map, Option, Some, None, option_map, Result, Ok, Err, OnErr, OnOk, refl, sym, ap, subst, ◌∙◌}
use Rattle.std.proofs.lemmas.List.{length-map}
use Rattle.std.proofs.lemmas.Option.{none-some, same_Some}
use Rattle.std.specs.Cmp.{nat_cmp_total}
use Rattle.std.specs.FinMap.Entries.{below_all, find, is_sorted}
use Rattle.std.specs.Ordering.{eq_by_cmp, is_lt, nat_cmp}
use Rattle.odb_atoms.specs.FinMap as finite
use Rattle.odb_atoms.proofs.FinMaps.{entries-from_sorted, entries-insert, get-entries}
use Rattle.odb_chain.specs.Chains.{Chains, IsNow, Live, Mark, absorbed, chains_of, count, live_at, marks_of as marks_at}
use Rattle.odb_service.specs.Session.{Session}
use Rattle.odb_service.proofs.SessionMaps.{get-empty, get-insert, get-remove, same_key, same_map}
use Rattle.odb_tables.specs.Change.{Changes}
use Rattle.odb_tables.specs.Database.{Db}
use Rattle.odb_sessions.specs.Marked.{MarkedSession, Sessions, all_seen, empty_session, marks_of, seen, seen_entry}
use Rattle.odb_sessions.specs.Tied.{AreLive, Frees, HasAll, IsTied, total, used, uses}
use Rattle.odb_sessions.specs.Watches.{Joins}
use Rattle.odb_sessions.proofs.Releases.{still_live}
use Rattle.odb_sessions.proofs.Sums.{slot, total-put, total-without, weight_within}
use Rattle.odb_sessions.proofs.WatchNumbers.{alike_less, alike_none, alike_put, joins_none}

abbrev pub weight : ℕ → ℕ → MarkedSession → ℕ
weight t p x = uses t p (marks_of x)

-- ---- what the machine sees

below-seen : (k : ℕ) (es : List (ℕ × MarkedSession)) → below_all nat_cmp k (map seen_entry es) ≡ below_all nat_cmp k es
below-seen k [] = refl
below-seen k (e ∷ es) = ap (λ b. is_lt (nat_cmp k e.0) && b) (below-seen k es)

sorted-seen : (es : List (ℕ × MarkedSession)) → is_sorted nat_cmp (map seen_entry es) ≡ is_sorted nat_cmp es
sorted-seen [] = refl
sorted-seen (e ∷ es) = λ i. below-seen e.0 es i && sorted-seen es i

get-from_entries : (es : List (ℕ × Session)) (q : ℕ) → finite.get (finite.from_entries {R = nat_cmp} es) q ≡ find nat_cmp q es
get-from_entries [] q = get-empty q
get-from_entries (e ∷ es) q = get-insert (finite.from_entries es) e.0 e.1 q ∙ ap (cond (eq_by_cmp nat_cmp q e.0) (Some e.1)) (get-from_entries es q)

find-seen : (q : ℕ) (es : List (ℕ × MarkedSession)) → find nat_cmp q (map seen_entry es) ≡ option_map seen (find nat_cmp q es)
find-seen q [] = refl
find-seen q (e ∷ es) = by (eq_by_cmp nat_cmp q e.0) (find-seen q es)
  where
    by : (b : Bool) → find nat_cmp q (map seen_entry es) ≡ option_map seen (find nat_cmp q es) → cond b (Some (seen e.1)) (find nat_cmp q (map seen_entry es)) ≡ option_map seen (cond b (Some e.1) (find nat_cmp q es))
    by true is = refl
    by false is = is

pub get-seen : (m : Sessions) (q : ℕ) → finite.get (all_seen m) q ≡ option_map seen (finite.get m q)
get-seen m q = get-from_entries (map seen_entry m.entries) q ∙ find-seen q m.entries ∙ ap (option_map seen) (sym (get-entries m q))

pub len-seen : (m : Sessions) → finite.len m ≡ finite.len (all_seen m)
unfolding finite.len
len-seen m =
    let es : List (ℕ × Session) = map seen_entry m.entries in
    let sorted : T (is_sorted nat_cmp es) = subst T (sym (sorted-seen m.entries)) m.sorted in
    let as_sorted : finite.from_entries {R = nat_cmp} es ≡ finite.from_sorted es = same_map _ _ (λ q. get-from_entries es q ∙ ap (find nat_cmp q) (sym (entries-from_sorted nat_cmp es sorted)) ∙ sym (get-entries (finite.from_sorted {R = nat_cmp} es) q)) in
    sym (length-map m.entries seen_entry) ∙ sym (ap length (entries-from_sorted nat_cmp es sorted)) ∙ ap (λ (n : finite.FinMap nat_cmp Session). length n.entries) (sym as_sorted)

pub seen-insert : (m : Sessions) (s : ℕ) (x : MarkedSession) → all_seen (finite.insert m s x) ≡ finite.insert (all_seen m) s (seen x)
seen-insert m s x =
    same_map _ _
    (λ q. get-seen (finite.insert m s x) q ∙ ap (option_map seen) (get-insert m s x q) ∙ by (eq_by_cmp nat_cmp q s) (finite.get m q) ∙ ap (cond (eq_by_cmp nat_cmp q s) (Some (seen x))) (sym (get-seen m q)) ∙ sym (get-insert (all_seen m) s (seen x) q))
  where
    by : (b : Bool) (o : Option MarkedSession) → option_map seen (cond b (Some x) o) ≡ cond b (Some (seen x)) (option_map seen o)
    by true o = refl
    by false o = refl

pub seen-remove : (m : Sessions) (s : ℕ) → all_seen (finite.remove m s) ≡ finite.remove (all_seen m) s
seen-remove m s =
    same_map _ _
    (λ q. get-seen (finite.remove m s) q ∙ ap (option_map seen) (get-remove m s q) ∙ by (eq_by_cmp nat_cmp q s) (finite.get m q) ∙ ap (cond (eq_by_cmp nat_cmp q s) None) (sym (get-seen m q)) ∙ sym (get-remove (all_seen m) s q))
  where
    by : (b : Bool) (o : Option MarkedSession) → option_map seen (cond b None o) ≡ cond b None (option_map seen o)
    by true o = refl
    by false o = refl

pub seen-empty : all_seen finite.empty ≡ finite.empty
seen-empty = same_map _ _ (λ q. get-seen finite.empty q ∙ ap (option_map seen) (get-empty q) ∙ sym (get-empty q))

-- ---- sums over sessions

pub used-insert : (t p : ℕ) (m : Sessions) (s : ℕ) (x : MarkedSession) → used t p (finite.insert m s x) + slot (weight t p) (finite.get m s) ≡ used t p m + weight t p x
used-insert t p m s x =
    (λ i. total (weight t p) (entries-insert nat_cmp_total m s x i) + slot (weight t p) (get-entries m s i))
    ∙ total-put (weight t p) s x m.entries m.sorted

used-remove : (t p : ℕ) (m : Sessions) (s : ℕ) → used t p (finite.remove m s) + slot (weight t p) (finite.get m s) ≡ used t p m
unfolding finite.retain_keys
used-remove t p m s = ap (λ o. used t p (finite.remove m s) + slot (weight t p) o) (get-entries m s) ∙ total-without (weight t p) s m.entries m.sorted

pub used_within : (t p : ℕ) (m : Sessions) (s : ℕ) (x : MarkedSession) → finite.get m s ≡ Some x → weight t p x ≤ used t p m
used_within t p m s x there = weight_within (weight t p) s x m.entries (sym (get-entries m s) ∙ there)

-- ---- ties

-- what is taken out has its marks
pub has_all : (k : Chains) (m : Sessions) (s : ℕ) (x : MarkedSession) → IsTied k m → finite.get m s ≡ Some x → HasAll k (marks_of x)
has_all k m s x h there = (h.2 s x there, λ t p. let within : weight t p x ≤ used t p m = used_within t p m s x there in let counted : count k t p ≡ used t p m = h.1 t p in omega (arith, within, counted))

pub tied_closed : (k new : Chains) (m : Sessions) (s : ℕ) (x : MarkedSession) → IsTied k m → finite.get m s ≡ Some x → Frees k new (marks_of x) → IsTied new (finite.remove m s)
tied_closed k new m s x h there f = (f.4 h.0, counted, (λ q y at. by q y (eq_by_cmp nat_cmp q s) refl (sym (get-remove m s q) ∙ at) at), alike_less m s h.3)
  where
    counted : (t p : ℕ) → count new t p ≡ used t p (finite.remove m s)
    counted t p =
        let own : used t p (finite.remove m s) + slot (weight t p) (Some x) ≡ used t p m = ap (λ o. used t p (finite.remove m s) + slot (weight t p) o) (sym there) ∙ used-remove t p m s in
        let all : count k t p ≡ used t p m = h.1 t p in
        let less : count k t p ≡ count new t p + weight t p x = f.2 t p in
        omega (arith, own, all, less)

    by : (q : ℕ) (y : MarkedSession) (b : Bool) → eq_by_cmp nat_cmp q s ≡ b → cond b None (finite.get m q) ≡ Some y → finite.get (finite.remove m s) q ≡ Some y → AreLive new (marks_of y)
    by q y true is there at = absurd (none-some y there)
    by q y false is there at =
        still_live k new (marks_of y) f.3 (h.2 q y there)
        (λ t p. let within : weight t p y ≤ used t p (finite.remove m s) = used_within t p (finite.remove m s) q y at in let sum : count new t p ≡ used t p (finite.remove m s) = counted t p in omega (arith, within, sum))

-- nobody is there
pub tied_shut : (k : Chains) (m : Sessions) (s : ℕ) → IsTied k m → finite.get m s ≡ None → IsTied k (finite.remove m s)
tied_shut k m s h none = subst (IsTied k) (sym (same_map (finite.remove m s) m (λ q. get-remove m s q ∙ by q (eq_by_cmp nat_cmp q s) refl))) h
  where
    by : (q : ℕ) (b : Bool) → eq_by_cmp nat_cmp q s ≡ b → cond b None (finite.get m q) ≡ finite.get m q
    by q true is = sym none ∙ ap (finite.get m) (sym (same_key q s is))
    by q false is = refl

pub tied_put : (k : Chains) (m : Sessions) (s : ℕ) (x : MarkedSession) → IsTied k m → ((t p : ℕ) → weight t p x ≡ slot (weight t p) (finite.get m s)) → AreLive k (marks_of x) → Joins m x → IsTied k (finite.insert m s x)
tied_put k m s x h same live joins = (
  h.0,
  λ t p.
      let sum : used t p (finite.insert m s x) + slot (weight t p) (finite.get m s) ≡ used t p m + weight t p x = used-insert t p m s x in
      let all : count k t p ≡ used t p m = h.1 t p in
      let own : weight t p x ≡ slot (weight t p) (finite.get m s) = same t p in
      omega (arith, sum, all, own),
  (λ q y at. by q y (eq_by_cmp nat_cmp q s) refl (sym (get-insert m s x q) ∙ at)),
  alike_put m s x h.3 joins,
)
  where
    by : (q : ℕ) (y : MarkedSession) (b : Bool) → eq_by_cmp nat_cmp q s ≡ b → cond b (Some x) (finite.get m q) ≡ Some y → AreLive k (marks_of y)
    by q y true is there = subst (λ (z : MarkedSession). AreLive k (marks_of z)) (same_Some x y there) live
    by q y false is there = h.2 q y there

-- a session is opened under a number that is free
pub none_kept : (m : Sessions) (s : ℕ) → finite.get (all_seen m) s ≡ None → finite.get m s ≡ None
none_kept m s e = by (finite.get m s) refl (sym (get-seen m s) ∙ e)
  where
    by : (o : Option MarkedSession) → finite.get m s ≡ o → option_map seen o ≡ None → o ≡ None
    by None is t = refl
    by (Some x) is t = absurd (none-some (seen x) (sym t))

pub tied_opened : (k : Chains) (m : Sessions) (s : ℕ) → IsTied k m → finite.get m s ≡ None → IsTied k (finite.insert m s empty_session)
tied_opened k m s h shut = tied_put k m s empty_session h (λ t p. sym (ap (slot (weight t p)) shut)) tt (joins_none m empty_session refl)

pub on_err : {A E : Type 0} (r : Result A E) (Q : Type 0) → Q → OnErr r Q
on_err (Ok x) Q q = tt
on_err (Err e) Q q = q

pub either : {A E P Q G : Type 0} (r : Result A E) → OnOk r P → OnErr r Q → (P → G) → (Q → G) → G
either (Ok a) p q f g = f p
either (Err e) p q f g = g q

pub tied_absorbed : (k new : Chains) (cs : List Changes) (m : Sessions) → IsTied k m → new ≡ absorbed cs k → IsNow new → IsTied new m
tied_absorbed k new cs m h is now = subst (λ (c : Chains). IsNow c → IsTied c m) (sym is) (λ n. (n, h.1, (λ s x there. live (marks_of x) (h.2 s x there)), h.3)) now
  where
    live : (ms : List Mark) → AreLive k ms → AreLive (absorbed cs k) ms
    live [] h = tt
    live (x ∷ ms) h = (h.0, live ms h.1)

none_live : (db : Db) (t : ℕ) → live_at (chains_of db) t ≡ finite.empty
none_live [] t = refl
none_live (d ∷ db) zero = refl
none_live (d ∷ db) (suc t) = none_live db t

pub tied_none : (k : Chains) (db : Db) → k ≡ chains_of db → IsNow k → IsTied k finite.empty
unfolding finite.empty
tied_none k db is now = subst (λ (c : Chains). IsNow c → IsTied c finite.empty) (sym is) (λ n. (n, λ t p. ap marks_at (ap (λ (l : Live). finite.get l p) (none_live db t) ∙ get-nothing p), (λ s x there. absurd (none-some x (sym (get-empty s) ∙ there))), alike_none)) now
  where
    get-nothing : (p : ℕ) → finite.get (let l : Live = finite.empty in l) p ≡ None
    get-nothing p = get-empty p
