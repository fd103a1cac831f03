-- Of requests of one schema those that ask for the same places of it are the same. What is asked is of the schema, wherever monitors stand.
use Rattle.std.proofs.Common.{◌≡◌, ℕ, zero, suc, ◌==◌, ◌++◌, ◌<◌, arith, Bool, true, false, List, [], ◌∷◌, get_or, length, map, slice_set, refl, sym, ap, subst, ◌∙◌, true≢false}
use Rattle.std.specs.Prelude.{if◌then◌else◌}
use Rattle.std.specs.List.{All, AllByRecursion}
use Rattle.std.proofs.lemmas.List.Elements.{All-push, All-from_recursion}
use Rattle.odb_cond.specs.Filter.{Filter}
use Rattle.odb_request.specs.Request.{Request}
use Rattle.odb_schema.specs.Schema.{Schema}
use Rattle.odb_sessions.specs.Alike.{Likeness, Stand}
use Rattle.odb_sessions.specs.Composed.{asked_of}
use Rattle.odb_round.specs.Foreseen.{Ahead, AreAheadOf, as_told}
use Rattle.odb_sessions.specs.Marked.{MarkedMonitor, Watched, item_seen, monitor_of}
use Rattle.odb_round.specs.Jobs.{Decision}
use Rattle.odb_round.specs.OfSchema.{AreOfSchema, IsItemOf, IsMonitorOf, IsOfSchema, named_by}
use Rattle.odb_sessions.specs.Represented.Alike.{Bare, BareLikeness, bare, bare_in, bare_likeness, filter_in, likeness_in, stand_in}
use Rattle.odb_round.specs.Represented.Decided.{IsLikenessOf, AreDecisionsOf, IsDecisionOf, IsSame, Puts, bucket_at}
use Rattle.odb_sessions.specs.Represented.Digest.{digest}
use Rattle.odb_sessions.specs.Represented.Item.{marked_item_of}
use Rattle.odb_round.specs.declared.decided.Decided.{Decided}
use Rattle.odb_sessions.specs.declared.item.Item.{Item}
use Rattle.odb_sessions.specs.declared.way.Way.{Way}

-- ---- how clients stand to tables

-- under another filter
refiltered_of : (s : Schema) (q : Request) (f : Filter) → IsOfSchema s q → IsOfSchema s (record q { filter = f })
refiltered_of s q f of = ap (λ (r : Request). record r { filter = f }) of

stands_of : (s : Schema) (v : Way) (ws : List Watched) → AreOfSchema s (asked_of ws) → AreOfSchema s (map (λ (t : Stand). t.request) (map (stand_in v) ws))
stands_of s v [] of = tt
stands_of s v (w ∷ ws) of = (refiltered_of s w.request (filter_in v w.request) of.0, stands_of s v ws of.1)

pub likeness_of : (s : Schema) (x : MarkedMonitor) (w : Way) → AreOfSchema s (asked_of x.tables) → IsLikenessOf s (likeness_in x w)
likeness_of s x w of = stands_of s w x.tables of

same_stand : (s : Schema) (a b : Stand) → IsOfSchema s a.request → IsOfSchema s b.request → bare a ≡ bare b → a ≡ b
same_stand s a b of other e =
    let request : a.request ≡ b.request = of ∙ ap (λ (x : Bare). named_by s x.asks) e ∙ sym other in
    λ i. record { request = request i; told = (e i).told; version = (e i).version }

is_nil : List Bare → Bool
is_nil [] = true
is_nil (x ∷ xs) = false

first_or : Bare → List Bare → Bare
first_or d [] = d
first_or d (x ∷ xs) = x

rest : List Bare → List Bare
rest [] = []
rest (x ∷ xs) = xs

same_stands : (s : Schema) (v w : Way) (xs ys : List Watched) → AreOfSchema s (map (λ (t : Stand). t.request) (map (stand_in v) xs)) → AreOfSchema s (map (λ (t : Stand). t.request) (map (stand_in w) ys))
    → map (bare_in v) xs ≡ map (bare_in w) ys → map (stand_in v) xs ≡ map (stand_in w) ys
unfolding is_nil first_or rest
same_stands s v w [] [] of other e = refl
same_stands s v w [] (y ∷ ys) of other e = absurd (true≢false (ap is_nil e))
same_stands s v w (x ∷ xs) [] of other e = absurd (true≢false (sym (ap is_nil e)))
same_stands s v w (x ∷ xs) (y ∷ ys) of other e =
    let head : bare_in v x ≡ bare_in w y = ap (first_or (bare_in v x)) e in
    let tail : map (bare_in v) xs ≡ map (bare_in w) ys = ap rest e in
    λ i. same_stand s (stand_in v x) (stand_in w y) of.0 other.0 head i ∷ same_stands s v w xs ys of.1 other.1 tail i

pub same_likeness : (s : Schema) (x y : MarkedMonitor) (v w : Way) → IsLikenessOf s (likeness_in x v) → IsLikenessOf s (likeness_in y w) → bare_likeness x v ≡ bare_likeness y w → likeness_in x v ≡ likeness_in y w
same_likeness s x y v w of other e =
    let stands : map (stand_in v) x.tables ≡ map (stand_in w) y.tables = same_stands s v w x.tables y.tables of other (ap (λ (b : BareLikeness). b.stands) e) in
    λ i. record { notation = (e i).notation; first = (e i).first; ago = (e i).ago; stands = stands i }

bare_stands : (v : Way) (ws : List Watched) → map bare (map (stand_in v) ws) ≡ map (bare_in v) ws
bare_stands v [] = refl
bare_stands v (w ∷ ws) = ap (λ bs. bare_in v w ∷ bs) (bare_stands v ws)

-- what is the same is so without names and types too
pub same_bare : (x y : MarkedMonitor) (v w : Way) → likeness_in x v ≡ likeness_in y w → bare_likeness x v ≡ bare_likeness y w
same_bare x y v w e =
    let stands : map (bare_in v) x.tables ≡ map (bare_in w) y.tables = sym (bare_stands v x.tables) ∙ ap (λ (l : Likeness). map bare l.stands) e ∙ bare_stands w y.tables in
    λ i. record { notation = (e i).notation; first = (e i).first; ago = (e i).ago; stands = stands i }

-- ---- what was decided

pub none_decided : (s : Schema) (d : Decided) → ((n : ℕ) → bucket_at d n ≡ []) → AreDecisionsOf s d
none_decided s d none n = subst (All (IsDecisionOf s)) (sym (none n)) (All-from_recursion (IsDecisionOf s) [] tt)

pub same_decided : (s : Schema) (d e : Decided) → IsSame d e → AreDecisionsOf s d → AreDecisionsOf s e
same_decided s d e same of n = subst (All (IsDecisionOf s)) (sym (same n)) (of n)

pub more_decided : (s : Schema) (d e : Decided) (x : Decision) → Puts d e x → IsDecisionOf s x → AreDecisionsOf s d → AreDecisionsOf s e
more_decided s d e x puts own of n = subst (All (IsDecisionOf s)) (sym (puts n)) (by (n == digest x.likeness))
  where
    by : (b : Bool) → All (IsDecisionOf s) (if b then bucket_at d n ++ x ∷ [] else bucket_at d n)
    by true = All-push (IsDecisionOf s) (bucket_at d n) x (of n) own
    by false = of n

-- ---- monitors and items by their places

pub told_of : (s : Schema) (ms : List MarkedMonitor) → AllByRecursion (IsMonitorOf s) (map monitor_of ms) → AreAheadOf s (map as_told ms)
told_of s [] h = tt
told_of s (m ∷ ms) h = (h.0, told_of s ms h.1)

pub ahead_of : (s : Schema) (xs : List Ahead) (i : ℕ) (d : Ahead) → i < length xs → AreAheadOf s xs → AreOfSchema s (asked_of (get_or xs i d).marked.tables)
ahead_of s [] i d low h = absurd (omega (arith, low))
ahead_of s (x ∷ xs) zero d low h = h.0
ahead_of s (x ∷ xs) (suc i) d low h = ahead_of s xs i d (omega (arith, low)) h.1

-- where the monitor at a place is foreseen otherwise
pub still_of : (s : Schema) (xs : List Ahead) (i : ℕ) (d y : Ahead) → i < length xs → y.marked ≡ (get_or xs i d).marked → AreAheadOf s xs → AreAheadOf s (slice_set xs i y)
still_of s [] i d y low is h = absurd (omega (arith, low))
still_of s (x ∷ xs) zero d y low is h = (subst (λ (z : MarkedMonitor). AreOfSchema s (asked_of z.tables)) (sym is) h.0, h.1)
still_of s (x ∷ xs) (suc i) d y low is h = (h.0, still_of s xs i d y (omega (arith, low)) is h.1)

pub item_of : (s : Schema) (xs : List Item) (i : ℕ) (d : Item) → i < length xs → AllByRecursion (IsItemOf s) (map item_seen (map marked_item_of xs)) → IsItemOf s (item_seen (marked_item_of (get_or xs i d)))
item_of s [] i d low h = absurd (omega (arith, low))
item_of s (x ∷ xs) zero d low h = h.0
item_of s (x ∷ xs) (suc i) d low h = item_of s xs i d (omega (arith, low)) h.1
