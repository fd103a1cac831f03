-- What all tables' marks stand for: by each table, with one chain changed, and with a change of the database made.
use Rattle.std.proofs.Common.{◌≡◌, ℕ, zero, suc, ◌+◌, ◌<◌, ◌≤◌, arith, Bool, true, false, cond, nat_le, nat_lt, List, [], ◌∷◌, length, map, replicate, slice_get, slice_set, slice_index_or, unwrap_or, zip, Option, Some, None, option_and_then, option_map, refl, sym, ap, subst, ◌∙◌, true≢false}
use Rattle.std.proofs.lemmas.Bool.Decides.{nat_tests}
use Rattle.std.proofs.lemmas.Option.{none-some, same_Some, slice_get-get_or}
use Rattle.std.specs.FinMap.Entries.{find}
use Rattle.std.specs.Ordering.{eq_by_cmp, nat_cmp}
use Rattle.odb_atoms.specs.FinMap as finite
use Rattle.odb_tables.specs.Database.{Db, Table, table_at}
use Rattle.odb_chain.specs.Chains.{Chains, IsLive, IsNow, Live, Mark, Standing, chains_of, count, live_at, marked, marks_of, one_less, released, standing, version, with_standing}
use Rattle.odb_chain.specs.OldRows.{Rows, content_at}
use Rattle.odb_chain.specs.Represented.Chain.{AreChainsOf, AreRising, Chain, IsChainOf, IsKeptOf, chain_at, fewer, here, live_of, marked_versions, nothing_kept, shown}
use Rattle.odb_chain.specs.Represented.MarkedVersions.{is_marked}
use Rattle.odb_chain.proofs.Contents.{empty_past, now_content}
use Rattle.odb_chain.proofs.Numbers.{get-insert, same_number}
use Rattle.odb_chain.proofs.MarkedVersions.{before_version, cases}
use Rattle.odb_chain.proofs.Views.{fewer_marks, found_version, get-live_of, marks_now, more_marks, stand}

abbrev pub all_live : Db → List Chain → List Live
all_live db cs = map (λ e. live_of e.0 e.1) (zip db cs)

-- ---- one table

pub live_shown : (db : Db) (cs : List Chain) (t : ℕ) → length cs ≡ length db → live_at (shown db cs) t ≡ live_of (table_at db t) (chain_at cs t)
live_shown [] [] t e = refl
live_shown [] (c ∷ cs) t e = absurd (omega (arith, e))
live_shown (d ∷ db) [] t e = absurd (omega (arith, e))
live_shown (d ∷ db) (c ∷ cs) zero e = refl
live_shown (d ∷ db) (c ∷ cs) (suc t) e = live_shown db cs t (omega (arith, e))

pub version_shown : (db : Db) (cs : List Chain) (t : ℕ) → version (shown db cs) t ≡ (chain_at cs t).version
version_shown db [] t = refl
version_shown db (c ∷ cs) zero = refl
version_shown db (c ∷ cs) (suc t) = version_shown db cs t

set_live : (db : Db) (cs : List Chain) (t : ℕ) (c : Chain) → length cs ≡ length db → all_live db (slice_set cs t c) ≡ slice_set (all_live db cs) t (live_of (table_at db t) c)
set_live [] [] t c e = refl
set_live [] (x ∷ cs) t c e = absurd (omega (arith, e))
set_live (d ∷ db) [] t c e = absurd (omega (arith, e))
set_live (d ∷ db) (x ∷ cs) zero c e = refl
set_live (d ∷ db) (x ∷ cs) (suc t) c e = ap (λ ls. live_of d x ∷ ls) (set_live db cs t c (omega (arith, e)))

abbrev versions_of : List Chain → List ℕ
versions_of cs = map (λ c. c.version) cs

set_versions : (cs : List Chain) (t : ℕ) (c : Chain) → c.version ≡ (chain_at cs t).version → versions_of (slice_set cs t c) ≡ versions_of cs
set_versions [] t c e = refl
set_versions (x ∷ cs) zero c e = ap (λ v. v ∷ versions_of cs) e
set_versions (x ∷ cs) (suc t) c e = ap (λ vs. x.version ∷ vs) (set_versions cs t c e)

-- what holds of the new chain and of each old one holds of each chain
at_each : (P : ℕ → Chain → Type 0) (cs : List Chain) (t : ℕ) (new : Chain) → P t new → ((q : ℕ) → P q (chain_at cs q)) → (q : ℕ) → P q (chain_at (slice_set cs t new) q)
at_each P [] t new here there q = there q
at_each P (old ∷ cs) zero new here there zero = here
at_each P (old ∷ cs) zero new here there (suc q) = there (suc q)
at_each P (old ∷ cs) (suc t) new here there zero = there zero
at_each P (old ∷ cs) (suc t) new here there (suc q) = at_each (λ n. P (suc n)) cs t new here (λ n. there (suc n)) q

length-set : (cs : List Chain) (t : ℕ) (c : Chain) → length (slice_set cs t c) ≡ length cs
length-set [] t c = refl
length-set (x ∷ cs) zero c = refl
length-set (x ∷ cs) (suc t) c = ap suc (length-set cs t c)

pub set_chains : (db : Db) (cs : List Chain) (t : ℕ) (c : Chain) → AreChainsOf db cs → IsKeptOf (table_at db t) c → AreChainsOf db (slice_set cs t c)
set_chains db cs t c h k = (length-set cs t c ∙ h.0, at_each (λ q x. IsKeptOf (table_at db q) x) cs t c k h.1)

-- who stands at a version
pub chain_is : (cs : List Chain) (t : ℕ) (x : Chain) → t < length cs → x ≡ slice_index_or cs t x → x ≡ chain_at cs t
chain_is cs t x inside at = at ∙ sym (ap (λ o. unwrap_or o nothing_kept) (slice_get-get_or cs t x inside))

pub table_is : (db : Db) (t : ℕ) (x : Table) → t < length db → x ≡ slice_index_or db t x → x ≡ table_at db t
table_is db t x inside at = at ∙ sym (ap (λ o. unwrap_or o finite.empty) (slice_get-get_or db t x inside))

-- ---- one mark more, one mark less

pub marked_shown : (db : Db) (cs : List Chain) (t : ℕ) → AreChainsOf db cs → shown db (slice_set cs t (record (chain_at cs t) { fresh = (chain_at cs t).fresh + 1 })) ≡ marked t (shown db cs)
marked_shown db cs t h =
    let k : Chains = shown db cs in
    let c : Chain = chain_at cs t in
    let table : Table = table_at db t in
    let live : live_of table c ≡ live_at k t = sym (live_shown db cs t h.0) in
    let at : c.version ≡ version k t = sym (version_shown db cs t) in
    let lives : all_live db (slice_set cs t (record c { fresh = c.fresh + 1 })) ≡ slice_set k.live t (finite.insert (live_at k t) (version k t) (record { content = table; marks = marks_of (finite.get (live_at k t) (version k t)) + 1 })) =
    set_live db cs t (record c { fresh = c.fresh + 1 }) h.0 ∙ ap (slice_set k.live t) (more_marks table c (h.1 t) ∙ (λ i. finite.insert (live i) (at i) (record { content = table; marks = marks_of (finite.get (live i) (at i)) + 1 }))) in
    λ i. record { db = db; versions = set_versions cs t (record c { fresh = c.fresh + 1 }) refl i; live = lives i }

pub released_shown : (db : Db) (cs : List Chain) (t p : ℕ) (new : Chain) → AreChainsOf db cs → new.version ≡ (chain_at cs t).version → marked_versions new ≡ fewer p (marked_versions (chain_at cs t))
    → ((q : ℕ) → is_marked q (marked_versions new) ≡ true → content_at q (table_at db t) new.rows ≡ content_at q (table_at db t) (chain_at cs t).rows) → shown db (slice_set cs t new) ≡ released t p (shown db cs)
released_shown db cs t p new h same is contents =
    let k : Chains = shown db cs in
    let c : Chain = chain_at cs t in
    let table : Table = table_at db t in
    let live : live_of table c ≡ live_at k t = sym (live_shown db cs t h.0) in
    let lives : all_live db (slice_set cs t new) ≡ slice_set k.live t (with_standing (live_at k t) p (option_and_then one_less (standing k t p))) =
    set_live db cs t new h.0 ∙ ap (slice_set k.live t) (fewer_marks table p c new (h.1 t).0 is contents ∙ (λ i. with_standing (live i) p (option_and_then one_less (finite.get (live i) p)))) in
    λ i. record { db = db; versions = set_versions cs t new same i; live = lives i }

-- ---- who is live

stand_is : (t : Table) (rows : Rows) (p : ℕ) (o : Option ℕ) (x : Standing) (G : Type 0) → option_map (stand t rows p) o ≡ Some x → ((n : ℕ) → o ≡ Some n → stand t rows p n ≡ x → G) → G
stand_is t rows p None x G e f = absurd (none-some x e)
stand_is t rows p (Some n) x G e f = f n refl (same_Some (stand t rows p n) x e)

-- where somebody stands at a version, it is one of the chain's, with the content that it had
pub stands_there : (db : Db) (cs : List Chain) (t p : ℕ) (x : Standing) → AreChainsOf db cs → standing (shown db cs) t p ≡ Some x
    → (is_marked p (marked_versions (chain_at cs t)) ≡ true) × (content_at p (table_at db t) (chain_at cs t).rows ≡ x.content)
stands_there db cs t p x h there =
    let c : Chain = chain_at cs t in
    let table : Table = table_at db t in
    stand_is table c.rows p (find nat_cmp p (marked_versions c)) x _ (sym (get-live_of table c p) ∙ ap (λ (l : Live). finite.get l p) (sym (live_shown db cs t h.0)) ∙ there)
    (λ n found is. (found_version p n (marked_versions c) found, ap (λ (y : Standing). y.content) is))

inside_if : (cs : List Chain) (t p : ℕ) → is_marked p (marked_versions (chain_at cs t)) ≡ true → t < length cs
inside_if [] t p e = absurd (true≢false (sym e))
inside_if (c ∷ cs) zero p e = omega arith
inside_if (c ∷ cs) (suc t) p e = let rest : t < length cs = inside_if cs t p e in omega (arith, rest)

pub live_inside : (db : Db) (cs : List Chain) (m : Mark) → AreChainsOf db cs → IsLive (shown db cs) m → m.table < length cs
live_inside db cs m h live = inside_if cs m.table m.version (stands_there db cs m.table m.version _ h live.1).0

pub live_version : (db : Db) (cs : List Chain) (m : Mark) → AreChainsOf db cs → IsLive (shown db cs) m → is_marked m.version (marked_versions (chain_at cs m.table)) ≡ true
live_version db cs m h live = (stands_there db cs m.table m.version _ h live.1).0

pub live_content : (db : Db) (cs : List Chain) (m : Mark) → AreChainsOf db cs → IsLive (shown db cs) m → content_at m.version (table_at db m.table) (chain_at cs m.table).rows ≡ m.content
live_content db cs m h live = (stands_there db cs m.table m.version _ h live.1).1

pub is_now : (db : Db) (cs : List Chain) → AreChainsOf db cs → IsNow (shown db cs)
is_now db cs h t p x there =
    let c : Chain = chain_at cs t in
    let facts : (is_marked p (marked_versions c) ≡ true) × (content_at p (table_at db t) c.rows ≡ x.content) = stands_there db cs t p x h there in
    let v : c.version ≡ version (shown db cs) t = sym (version_shown db cs t) in (
      subst (λ n. p ≤ n) v (cases c.version p c.fresh c.live (p ≤ c.version) facts.0 (λ e. let low : nat_lt p c.version ≡ true = before_version c.version p c.live (h.1 t).0 e in grind (arith, nat_tests)) (λ e _. omega (arith, e))),
      λ e. let at : nat_le c.version p ≡ true = grind (arith, nat_tests) in sym facts.1 ∙ now_content c.version p (table_at db t) c.rows at (h.1 t).1,
    )

-- a live mark is still live with one mark more for what its table is now
live_set : (ls : List Live) (t : ℕ) (l : Live) → t < length ls → unwrap_or (slice_get (slice_set ls t l) t) finite.empty ≡ l
live_set [] t l low = absurd (omega (arith, low))
live_set (x ∷ ls) zero l low = refl
live_set (x ∷ ls) (suc t) l low = live_set ls t l (omega (arith, low))

pub still_live : (k : Chains) (m : Mark) → IsNow k → m.table < length k.live → IsLive k m → IsLive (marked m.table k) m
still_live k m now low live = by (eq_by_cmp nat_cmp m.version (version k m.table)) refl
  where
    n : ℕ
    n = version k m.table

    new : Standing
    new = record { content = table_at k.db m.table; marks = marks_of (standing k m.table n) + 1 }

    got : standing (marked m.table k) m.table m.version ≡ cond (eq_by_cmp nat_cmp m.version n) (Some new) (standing k m.table m.version)
    got = ap (λ (l : Live). finite.get l m.version) (live_set k.live m.table (finite.insert (live_at k m.table) n new) low) ∙ get-insert (live_at k m.table) n new m.version

    by : (b : Bool) → eq_by_cmp nat_cmp m.version n ≡ b → IsLive (marked m.table k) m
    by true is = (new.marks, got ∙ ap (λ b. cond b (Some new) (standing k m.table m.version)) is ∙ (λ i. let s : Option Standing = Some (record { content = sym ((now m.table m.version _ live.1).1 (same_number m.version n is)) i; marks = new.marks }) in s))
    by false is = (live.0, got ∙ ap (λ b. cond b (Some new) (standing k m.table m.version)) is ∙ live.1)

-- ---- how many marks stand for what a table is now, and how many tables there are

pub fresh_shown : (db : Db) (cs : List Chain) (t : ℕ) → AreChainsOf db cs → count (shown db cs) t (version (shown db cs) t) ≡ (chain_at cs t).fresh
fresh_shown db cs t h =
    (λ i. marks_of (finite.get (live_shown db cs t h.0 i) (version_shown db cs t i))) ∙ marks_now (table_at db t) (chain_at cs t) (h.1 t)

pub as_many_live : (db : Db) (cs : List Chain) → length cs ≡ length db → length (all_live db cs) ≡ length db
as_many_live [] [] e = refl
as_many_live [] (c ∷ cs) e = absurd (omega (arith, e))
as_many_live (d ∷ db) [] e = absurd (omega (arith, e))
as_many_live (d ∷ db) (c ∷ cs) e = ap suc (as_many_live db cs (omega (arith, e)))

-- with one chain changed
pub kept_after : (db : Db) (cs : List Chain) (t : ℕ) (new : Chain) → AreChainsOf db cs → new.version ≡ (chain_at cs t).version → AreRising new.version new.live
    → (IsChainOf (table_at db t) (chain_at cs t) → IsChainOf (table_at db t) new) → AreChainsOf db (slice_set cs t new)
kept_after db cs t new h same rising past = set_chains db cs t new h (rising, past (h.1 t).1)

-- ---- without changes and marks

chain_none : (n t : ℕ) → chain_at (replicate n nothing_kept) t ≡ nothing_kept
chain_none zero t = refl
chain_none (suc n) zero = refl
chain_none (suc n) (suc t) = chain_none n t

length_none : (n : ℕ) → length (replicate n nothing_kept) ≡ n
length_none zero = refl
length_none (suc n) = ap suc (length_none n)

pub none_marked : (db : Db) → AreChainsOf db (replicate (length db) nothing_kept)
none_marked db = (length_none (length db), λ t. subst (IsKeptOf (table_at db t)) (sym (chain_none (length db) t)) (tt, λ u. empty_past 0 (table_at db t) u))

same_versions : (db : Db) → versions_of (replicate (length db) nothing_kept) ≡ map (λ t. 0) db
same_versions [] = refl
same_versions (d ∷ db) = ap (λ vs. 0 ∷ vs) (same_versions db)

same_lives : (db : Db) → all_live db (replicate (length db) nothing_kept) ≡ map (λ t. finite.empty) db
same_lives [] = refl
same_lives (d ∷ db) = ap (λ ls. finite.empty ∷ ls) (same_lives db)

pub unmarked_shown : (db : Db) → shown db (replicate (length db) nothing_kept) ≡ chains_of db
unmarked_shown db = λ i. record { db = db; versions = same_versions db i; live = same_lives db i }
