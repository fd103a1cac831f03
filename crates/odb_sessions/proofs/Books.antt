-- Books of which one session changes.
use Rattle.std.proofs.Common.{◌≡◌, ℕ, List, [], ◌∷◌, ◌++◌, true, is_some, Option, Some, None, refl, sym, ap, true≢false}
use Rattle.odb_sessions.specs.Newest.{without_last}
use Rattle.odb_sessions.specs.Book.{Book, Sessions}
use Rattle.odb_sessions.specs.Committed.{without_posts}
use Rattle.odb_sessions.specs.Posts.{at_number, unposted}
use Rattle.odb_sessions.proofs.Seen.{unposted-append}

abbrev pub back_one : ℕ → Book → Book
back_one s b = record b { sessions = at_number without_last b.sessions s }

pub back-append : (ss : List ℕ) (s : ℕ) (b : Book) → without_posts (ss ++ s ∷ []) b ≡ without_posts ss (back_one s b)
back-append ss s b = λ i. record b { sessions = unposted-append ss s b.sessions i }

unposted-++ : (ss ts : List ℕ) (m : Sessions) → unposted (ss ++ ts) m ≡ unposted ss (unposted ts m)
unposted-++ [] ts m = refl
unposted-++ (s ∷ ss) ts m = ap (λ (n : Sessions). at_number without_last n s) (unposted-++ ss ts m)

pub back-++ : (ss ts : List ℕ) (b : Book) → without_posts (ss ++ ts) b ≡ without_posts ss (without_posts ts b)
back-++ ss ts b = λ i. record b { sessions = unposted-++ ss ts b.sessions i }

-- where only the sessions changed, and posts taken back lead to them as they were
pub given_back : (ss : List ℕ) (new old : Book) (m : Sessions) → new ≡ record old { sessions = m } → unposted ss new.sessions ≡ old.sessions → without_posts ss new ≡ old
given_back ss new old m is gone = λ j. let b : Book = record { db = (is j).db; commits = (is j).commits; earlier = (is j).earlier; sessions = gone j } in b

-- where something is said to be there
pub there_is : {X : Type 0} (o : Option X) → is_some o ≡ true → (x : X) × (o ≡ Some x)
there_is None is = absurd (true≢false (sym is))
there_is (Some x) is = (x, refl)
