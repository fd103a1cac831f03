-- What the lists by sessions answer, and how a change of one of them is seen.
use Rattle.std.specs.Prelude.{◌≡◌, ◌≢◌, ℕ, suc, ◌+◌, ◌<◌, Bool, true, false, cond, ◌==◌, List, [], ◌∷◌, ◌++◌, length, map, take, drop, slice_get, Option, Some, None, Vec}
use mathlib.Core.Logic.{inl, inr}
use mathlib.Core.Path.{refl, sym, ap, subst, ◌∙◌}
use Rattle.std.proofs.Math.Seq.{split_at}
use Rattle.std.proofs.lemmas.List.Elements.{All-nil}
use Rattle.std.proofs.lemmas.Option.{get_or_from_slice_get}
use Rattle.std.specs.BTreeMap as tree
use Rattle.std.specs.BTreeMap.{BTreeMap, is_at}
use Rattle.std.specs.Cmp.{unsigned_Decides}
use Rattle.std.specs.List.{All, remove}
use Rattle.std.specs.Map.{lookup}
use Rattle.std.specs.Ordering.{nat_cmp}
use Rattle.std.specs.declared.alloc.Global.{Global}
use Rattle.odb_interest.specs.Keys.{Asked, Interests, asked_at}
use Rattle.odb_interest.specs.Represented.Asked.{LosesFirst}
use Rattle.odb_interest.specs.Represented.Lists.{Asks, lists_in, shown}
use Rattle.odb_interest.proofs.Booleans.{turned}
use Rattle.odb_interest.proofs.Levels.{is_eq-nat_cmp, map_now, same_number}

abbrev pub Listed : Type 0
Listed = Vec Asked Global

abbrev pub items_of : Option Listed → List Asked
items_of None = []
items_of (Some v) = v.items

at_entries : (es : List (ℕ × Listed)) (s : ℕ) → asked_at (map shown es) s ≡ items_of (lookup (is_at (nat_cmp s)) es)
at_entries [] s = refl
at_entries (e ∷ es) s = (λ i. cond ((turned e.0 s ∙ sym (is_eq-nat_cmp s e.0)) i) e.1.items (at_entries es s i)) ∙ by (is_at (nat_cmp s) e.0)
  where
    by : (b : Bool) → cond b e.1.items (items_of (lookup (is_at (nat_cmp s)) es)) ≡ items_of (cond b (Some e.1) (lookup (is_at (nat_cmp s)) es))
    by true = refl
    by false = refl

pub asked-lists : (m : BTreeMap ℕ Listed) (s : ℕ) → asked_at (lists_in m) s ≡ items_of (tree.get nat_cmp m s)
asked-lists m s = at_entries m.entries s

items_or : (b : Bool) (o p : Option Listed) → items_of (cond b o p) ≡ cond b (items_of o) (items_of p)
items_or true o p = refl
items_or false o p = refl

pub asked-now : (session : ℕ) (m n : BTreeMap ℕ Listed) (w : Option Listed) → tree.UpdatesBy nat_cmp (nat_cmp session) m n w → (s : ℕ) → asked_at (lists_in n) s ≡ cond (session == s) (items_of w) (asked_at (lists_in m) s)
asked-now session m n w h s =
    asked-lists n s ∙ ap items_of (map_now session m n w h s) ∙ items_or (session == s) w (tree.get nat_cmp m s)
    ∙ ap (cond (session == s) (items_of w)) (sym (asked-lists m s))

-- a list that was found, and stayed
pub asked-kept : (session : ℕ) (m n : BTreeMap ℕ Listed) (x y : Listed) → Some x ≡ tree.get nat_cmp m session → tree.UpdatesBy nat_cmp (nat_cmp session) m n (Some y) → y.items ≡ x.items → (s : ℕ) → asked_at (lists_in n) s ≡ asked_at (lists_in m) s
asked-kept session m n x y found h same s = asked-now session m n (Some y) h s ∙ by (session == s) refl
  where
    by : (b : Bool) → (session == s) ≡ b → cond b y.items (asked_at (lists_in m) s) ≡ asked_at (lists_in m) s
    by true e = same ∙ ap items_of (found ∙ same_number session m s e) ∙ sym (asked-lists m s)
    by false e = refl

-- whatever it asks now, the others ask what they did
pub asks_other : (session : ℕ) (old new : Interests) (fs : List Asked) → Asks old new session fs → Asks old new session (asked_at new session)
asks_other session old new fs h s = h s ∙ by (session == s) refl
  where
    itself : (session == session) ≡ true
    itself = (unsigned_Decides session session).1 refl

    by : (b : Bool) → (session == s) ≡ b → cond b fs (asked_at old s) ≡ cond b (asked_at new session) (asked_at old s)
    by true e = sym (h session ∙ ap (λ b. cond b fs (asked_at old session)) itself)
    by false e = refl

pub asks_same : (session : ℕ) (old new : Interests) → ((s : ℕ) → asked_at new s ≡ asked_at old s) → Asks old new session (asked_at new session)
asks_same session old new h s = h s ∙ by (session == s) refl
  where
    by : (b : Bool) → (session == s) ≡ b → asked_at old s ≡ cond b (asked_at new session) (asked_at old s)
    by true e = sym (h s) ∙ ap (asked_at new) (sym ((unsigned_Decides session s).0 e))
    by false e = refl

pub asks_itself : (session : ℕ) (old new : Interests) (fs : List Asked) → Asks old new session fs → asked_at new session ≡ fs
asks_itself session old new fs h = h session ∙ ap (λ b. cond b fs (asked_at old session)) ((unsigned_Decides session session).1 refl)

-- it asks what it did
pub asks_kept : (session : ℕ) (old : Interests) (fs : List Asked) → asked_at old session ≡ fs → Asks old old session fs
asks_kept session old fs is s = by (session == s) refl
  where
    by : (b : Bool) → (session == s) ≡ b → asked_at old s ≡ cond b fs (asked_at old s)
    by true e = ap (asked_at old) (sym ((unsigned_Decides session s).0 e)) ∙ is
    by false e = refl

-- ---- a list that loses its first x

pub none_lost : {X : Type 0} (x : X) (xs ys : List X) → ys ≡ xs → All (λ y. y ≢ x) xs → LosesFirst x xs ys
none_lost x xs ys same none = inr (same, none)

pub one_lost : {X : Type 0} (x : X) (xs : List X) (k : ℕ) → k < length xs → slice_get xs k ≡ Some x → All (λ y. y ≢ x) (take k xs) → LosesFirst x xs (remove xs k)
one_lost x xs k inside is none = inl (take k xs, drop (suc k) xs, split_at xs k x inside ∙ ap (λ y. take k xs ++ y ∷ drop (suc k) xs) (get_or_from_slice_get xs k x x is), refl, none)

pub nothing_lost : {X : Type 0} (x : X) (xs ys : List X) → xs ≡ [] → ys ≡ xs → LosesFirst x xs ys
nothing_lost x xs ys empty same = inr (same, subst (All (λ y. y ≢ x)) (sym empty) (All-nil (λ y. y ≢ x)))
