-- What the index of interest says of a session, along the filters that are added for it.
use Rattle.std.proofs.Common.{arith, ◌≡◌, ℕ, zero, suc, ◌+◌, ◌≤◌, ◌==◌, Bool, true, false, ◌&&◌, ◌||◌, cond, List, [], ◌∷◌, ◌++◌, append-nil, append_assoc, length, map, slice_get, Option, None, Some, refl, sym, ap, ◌∙◌}
use Rattle.std.specs.BTreeSet.{BTreeSet, contains}
use Rattle.std.specs.Ordering.{nat_cmp}
use Rattle.std.specs.List.{list_any}
use Rattle.std.specs.Prelude.{flat_map, option_map}
use borrow.Author.Tests.{eq-eqb, eqb-true}
use mathlib.Core.Bool.{true≢false}
use Rattle.odb_interest.specs.Keys.{Asked, Interests, asked_at}
use Rattle.odb_cond.specs.Filter.{Filter}
use Rattle.odb_interest.specs.Represented.Lists.{Asks, with_filter}
use Rattle.std.proofs.lemmas.List.{length-append, length-map, nil_from_length}
use Rattle.std.proofs.lemmas.Option.{same_Some}
use Rattle.odb_sessions.specs.Marked.{MarkedMonitor, MarkedSession, Watched, monitor_of, seen}
use Rattle.odb_sessions.specs.Owed.{ForgetsOwed, IsPut, KeepsOthers, KeepsResting, filter_asked, filters_asked, interest_if, interest_in, interest_of, table_of}

-- what is said of a session leaves the others
pub asks_others : (old new : Interests) (s : ℕ) (fs : List Asked) → Asks old new s fs → KeepsOthers old new s
asks_others old new s fs asks q e = asks q ∙ ap (λ b. cond b fs (asked_at old q)) e

-- of the session itself it is said
pub asks_it : (old new : Interests) (s : ℕ) (fs : List Asked) → Asks old new s fs → asked_at new s ≡ fs
asks_it old new s fs asks = asks s ∙ ap (λ b. cond b fs (asked_at old s)) (eq-eqb s s refl)

-- more is said after what was said
pub asked_more : (first old new : Interests) (s : ℕ) (fs gs : List Asked) → asked_at old s ≡ asked_at first s ++ fs → Asks old new s (asked_at old s ++ gs) → asked_at new s ≡ asked_at first s ++ (fs ++ gs)
asked_more first old new s fs gs so_far asks = asks_it old new s (asked_at old s ++ gs) asks ∙ ap (λ xs. xs ++ gs) so_far ∙ append_assoc (asked_at first s) fs gs

-- what is kept asks what the machine sees of it

kept_tables : (ws : List Watched) → map filter_asked ws ≡ interest_in (map (λ (w : Watched). w.request) ws)
kept_tables [] = refl
kept_tables (w ∷ ws) = ap (λ fs. filter_asked w ∷ fs) (kept_tables ws)

kept_monitors : (xs : List MarkedMonitor) → flat_map filters_asked xs ≡ flat_map (λ m. interest_in m.watch.requests) (map monitor_of xs)
kept_monitors [] = refl
kept_monitors (x ∷ xs) = λ i. kept_tables x.tables i ++ kept_monitors xs i

pub kept_asks : (x : MarkedSession) → flat_map filters_asked x.monitors ≡ interest_of (seen x)
kept_asks x = kept_monitors x.monitors

pub nothing_asked : (o : Option MarkedSession) → o ≡ None → [] ≡ interest_if (option_map seen o)
nothing_asked o is = ap (λ p. interest_if (option_map seen p)) (sym is)

-- one that is in the set is forgotten: who isn't in it is another one
pub forgotten_in : (o : BTreeSet ℕ) (old new : Interests) (s : ℕ) → contains nat_cmp o s ≡ true → Asks old new s [] → KeepsResting o old new
forgotten_in o old new s inside asks q out = by (s == q) refl
  where
    by : (b : Bool) → (s == q) ≡ b → asked_at new q ≡ asked_at old q
    by true is = absurd (true≢false (sym inside ∙ ap (contains nat_cmp o) (eqb-true s q is) ∙ out))
    by false is = asks_others old new s [] asks q is

-- one of these that is in the set, and what is said of the others of it
abbrev pub forgotten : BTreeSet ℕ → List ℕ → ℕ → List Asked → List Asked
forgotten o ss q asked = cond (contains nat_cmp o q && list_any (λ t. t == q) ss) [] asked

pub nobody : (b : Bool) (asked : List Asked) → asked ≡ cond (b && false) [] asked
nobody true asked = refl
nobody false asked = refl

-- one that is in the set is forgotten, and no other
pub forgets_it : (o : BTreeSet ℕ) (old new : Interests) (s : ℕ) → contains nat_cmp o s ≡ true → Asks old new s [] → ForgetsOwed o (s ∷ []) old new
forgets_it o old new s inside asks q = asks q ∙ by (s == q) refl
  where
    by : (b : Bool) → (s == q) ≡ b → cond b [] (asked_at old q) ≡ cond (contains nat_cmp o q && (b || false)) [] (asked_at old q)
    by true is = ap (λ c. cond (c && true) [] (asked_at old q)) (sym inside ∙ ap (contains nat_cmp o) (eqb-true s q is))
    by false is = nobody (contains nat_cmp o q) (asked_at old q)

-- one that isn't in the set isn't
pub leaves_it : (o : BTreeSet ℕ) (i : Interests) (s : ℕ) → contains nat_cmp o s ≡ false → ForgetsOwed o (s ∷ []) i i
leaves_it o i s outside q = by (s == q) refl
  where
    by : (b : Bool) → (s == q) ≡ b → asked_at i q ≡ cond (contains nat_cmp o q && (b || false)) [] (asked_at i q)
    by true is = ap (λ c. cond (c && true) [] (asked_at i q)) (sym outside ∙ ap (contains nat_cmp o) (eqb-true s q is))
    by false is = nobody (contains nat_cmp o q) (asked_at i q)

-- what the rest forgets after the first is forgotten, all forget
pub forgets_one : (o : BTreeSet ℕ) (s : ℕ) (rest : List ℕ) (old new : Interests) → ForgetsOwed o (s ∷ []) old new → (q : ℕ) → forgotten o rest q (asked_at new q) ≡ forgotten o (s ∷ rest) q (asked_at old q)
forgets_one o s rest old new so q = ap (forgotten o rest q) (so q) ∙ by (contains nat_cmp o q) (s == q) (list_any (λ t. t == q) rest)
  where
    by : (c e a : Bool) → cond (c && a) [] (cond (c && (e || false)) [] (asked_at old q)) ≡ cond (c && (e || a)) [] (asked_at old q)
    by false e a = refl
    by true true true = refl
    by true true false = refl
    by true false true = refl
    by true false false = refl

-- ---- filters in the place of others

abbrev head_of : List ℕ → ℕ
head_of [] = 0
head_of (n ∷ ns) = n

abbrev rest_of : List ℕ → List ℕ
rest_of [] = []
rest_of (n ∷ ns) = ns

-- none
pub puts_none : (fs : List Asked) (place : ℕ) → IsPut fs fs place [] place
puts_none fs place front middle back is at same =
    let none : middle ≡ [] = nil_from_length middle (sym (length-map middle table_of) ∙ ap length same) in
    (is ∙ ap (λ m. front ++ (m ++ back)) none, sym at ∙ ap length (sym (append-nil front)))

length-tables : (xs ys : List Asked) → map table_of xs ≡ map table_of ys → length xs ≡ length ys
length-tables xs ys same = sym (length-map xs table_of) ∙ ap length same ∙ length-map ys table_of

-- those of two lists of tables
pub halves : (ms fs gs : List Asked) → map table_of ms ≡ map table_of (fs ++ gs) → (first : List Asked) × (second : List Asked) × (ms ≡ first ++ second) × (map table_of first ≡ map table_of fs) × (map table_of second ≡ map table_of gs)
halves ms [] gs same = ([], ms, refl, refl, same)
halves [] (f ∷ fs) gs same = absurd (omega (arith, ap length same))
halves (m ∷ ms) (f ∷ fs) gs same =
    let rest = halves ms fs gs (ap rest_of same) in
    (m ∷ rest.0, rest.1, ap (λ xs. m ∷ xs) rest.2, (λ i. ap head_of same i ∷ rest.3 i), rest.4)

-- first these, and then those
pub puts_both : (a b c : List Asked) (p q r : ℕ) (fs gs : List Asked) → IsPut a b p fs q → IsPut b c q gs r → IsPut a c p (fs ++ gs) r
puts_both a b c p q r fs gs first second front middle back is at same =
    let half = halves middle fs gs same in
    let once = first front half.0 (half.1 ++ back) (is ∙ ap (λ m. front ++ (m ++ back)) half.2 ∙ ap (λ m. front ++ m) (append_assoc half.0 half.1 back)) at half.3 in
    let twice = second (front ++ fs) half.1 back (once.0 ∙ sym (append_assoc front fs (half.1 ++ back))) (sym once.1) half.4 in (
      twice.0 ∙ append_assoc front fs (gs ++ back) ∙ ap (λ xs. front ++ xs) (sym (append_assoc fs gs back)),
      twice.1 ∙ ap length (append_assoc front fs gs),
    )

put_at : (front : List Asked) (x : Asked) (back : List Asked) (f : Filter) → with_filter (front ++ x ∷ back) (length front) f ≡ front ++ (x.0, f) ∷ back
put_at [] x back f = refl
put_at (y ∷ ys) x back f = ap (λ xs. y ∷ xs) (put_at ys x back f)

-- one, of its table
pub puts_one : (old new : List Asked) (place : ℕ) (a : Asked) → new ≡ with_filter old place a.1 → IsPut old new place (a ∷ []) (place + 1)
puts_one old new place a now front [] back is at same = absurd (omega (arith, ap length same))
puts_one old new place a now front (x ∷ y ∷ more) back is at same = let two : suc (suc (length (map table_of more))) ≡ 1 = ap length same in absurd (omega arith)
puts_one old new place a now front (x ∷ []) back is at same = (
  now ∙ (λ i. with_filter (is i) (sym at i) a.1) ∙ put_at front x back a.1 ∙ ap (λ (t : ℕ). front ++ (t, a.1) ∷ back) (ap head_of same),
  ap (λ n. n + 1) (sym at) ∙ sym (length-append front (a ∷ [])),
)

-- one that is there already
pub puts_same : (old : List Asked) (place : ℕ) (a : Asked) → slice_get old place ≡ Some a → IsPut old old place (a ∷ []) (place + 1)
puts_same old place a there = puts_one old old place a (sym (itself old place there))
  where
    itself : (fs : List Asked) (k : ℕ) → slice_get fs k ≡ Some a → with_filter fs k a.1 ≡ fs
    itself [] k e = refl
    itself (x ∷ xs) zero e = ap (λ (y : Asked). (x.0, y.1) ∷ xs) (sym (same_Some x a e))
    itself (x ∷ xs) (suc k) e = ap (λ ys. x ∷ ys) (itself xs k e)

-- past the last there is none in whose place it could be
pub puts_past : (old : List Asked) (place next : ℕ) (a : Asked) → length old ≤ place → IsPut old old place (a ∷ []) next
puts_past old place next a past front [] back is at same = absurd (omega (arith, ap length same))
puts_past old place next a past front (x ∷ more) back is at same = absurd (omega (arith, past, at, ap length is ∙ length-append front (x ∷ (more ++ back))))

-- all
pub puts_all : (old new fs : List Asked) (next : ℕ) → map table_of old ≡ map table_of fs → IsPut old new 0 fs next → new ≡ fs
puts_all old new fs next same put = (put [] old [] (sym (append-nil old)) refl same).0 ∙ append-nil fs
