-- Sessions to which nothing is owed, along the changes that leave them so.
use Rattle.std.proofs.Common.{◌≡◌, ℕ, Bool, true, false, cond, ◌||◌, List, [], ◌∷◌, Option, Some, None, refl, sym, ap, subst, ◌∙◌}
use Rattle.std.specs.Ordering.{eq_by_cmp, nat_cmp}
use Rattle.odb_atoms.specs.FinMap.{get, insert}
use Rattle.odb_service.specs.Session.{Item, Session}
use Rattle.odb_service.specs.World.{push}
use Rattle.odb_service.proofs.SessionMaps.{get-insert, same_key}
use Rattle.odb_sessions.specs.Book.{Book, Sessions, fresh_session}
use Rattle.odb_sessions.specs.Newest.{without_last}
use Rattle.odb_sessions.specs.Owed.{addressed, is_among}
use Rattle.odb_sessions.specs.Posts.{all_posted, at_number, posted, unposted}
use Rattle.odb_sessions.specs.Quiet.{IsQuiet, IsQuietAt}
use Rattle.odb_tables.specs.Database.{Db}

-- what f makes of a session, if there is one
abbrev pub found_at : (Session → Session) → Sessions → ℕ → Option Session → Sessions
found_at f m s o = elim o as (λ _. Sessions) [ None ↦ m | Some x ↦ insert m s (f x) ]

-- a change of one session leaves the others
pub other_session : (f : Session → Session) (m : Sessions) (s q : ℕ) → eq_by_cmp nat_cmp q s ≡ false → get (at_number f m s) q ≡ get m q
other_session f m s q other = by (get m s)
  where
    by : (slot : Option Session) → get (found_at f m s slot) q ≡ get m q
    by None = refl
    by (Some x) = get-insert m s (f x) q ∙ ap (λ b. cond b (Some (f x)) (get m q)) other

-- a change that leaves the session that it is for leaves all
pub same_at : (f : Session → Session) (m : Sessions) (s q : ℕ) → ((x : Session) → get m s ≡ Some x → q ≡ s → f x ≡ x) → get (at_number f m s) q ≡ get m q
same_at f m s q same = by (get m s) refl
  where
    by : (slot : Option Session) → get m s ≡ slot → get (found_at f m s slot) q ≡ get m q
    by None is = refl
    by (Some x) is = get-insert m s (f x) q ∙ at (eq_by_cmp nat_cmp q s) refl
      where
        at : (b : Bool) → eq_by_cmp nat_cmp q s ≡ b → cond b (Some (f x)) (get m q) ≡ get m q
        at true tie = ap (λ y. let o : Option Session = Some y in o) (same x is (same_key q s tie)) ∙ sym (ap (get m) (same_key q s tie) ∙ is)
        at false apart = refl

-- the same session in the same database
pub quiet_same : (b c : Book) (q : ℕ) → c.db ≡ b.db → get c.sessions q ≡ get b.sessions q → IsQuietAt b q → IsQuietAt c q
quiet_same b c q db same quiet x there = subst (λ (d : Db). IsQuiet d x) (sym db) (quiet x (sym same ∙ there))

pub quiet_fresh : (db : Db) → IsQuiet db fresh_session
quiet_fresh db = (refl, λ s revision is. refl)

-- nothing can be taken back
none_back : (db : Db) (x : Session) → IsQuiet db x → without_last x ≡ x
none_back db x quiet = (λ i. without_last (record { queue = quiet.0 i; monitors = x.monitors })) ∙ (λ i. record { queue = sym quiet.0 i; monitors = x.monitors })

pub same_unposted : (db : Db) (m : Sessions) (ss : List ℕ) (q : ℕ) → ((x : Session) → get m q ≡ Some x → IsQuiet db x) → get (unposted ss m) q ≡ get m q
same_unposted db m [] q quiet = refl
same_unposted db m (s ∷ ss) q quiet =
    let rest : get (unposted ss m) q ≡ get m q = same_unposted db m ss q quiet in
    same_at without_last (unposted ss m) s q (λ x there here. none_back db x (quiet x (sym rest ∙ ap (get (unposted ss m)) here ∙ there))) ∙ rest

-- to whom nothing is posted
either_false : (a b : Bool) → (a || b) ≡ false → (a ≡ false) × (b ≡ false)
either_false false b e = (refl, e)
either_false true b e = cc

pub not_posted : (m : Sessions) (ps : List (ℕ × Item)) (q : ℕ) → is_among q (addressed ps) ≡ false → get (all_posted m ps) q ≡ get m q
not_posted m [] q none = refl
not_posted m (p ∷ ps) q none =
    let none2 : (eq_by_cmp nat_cmp q p.0 ≡ false) × (is_among q (addressed ps) ≡ false) = either_false (eq_by_cmp nat_cmp q p.0) (is_among q (addressed ps)) none in
    not_posted (posted m p) ps q none2.1 ∙ other_session (push (p.1 ∷ [])) m p.0 q none2.0
