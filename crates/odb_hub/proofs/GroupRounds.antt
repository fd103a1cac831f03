-- A round of some sessions.
use Rattle.std.proofs.Common.{◌≡◌, ℕ, ◌==◌, ◌≤◌, ◌+◌, ◌&&◌, ◌||◌, length, Bool, true, false, cond, List, [], ◌∷◌, ◌++◌, filter, suc, zero, Option, Some, None, Ok, refl, sym, ap, subst, ◌∙◌, append_assoc, true≢false, arith}
use Rattle.std.specs.Prelude.{nat_le, option_to_list, slice_get, take}
use Rattle.std.proofs.Math.Seq.{get_or-append_seam, take-append_seam}
use Rattle.std.proofs.lemmas.List.{length-append, take_all}
use Rattle.std.proofs.lemmas.List.Elements.{filter-append}
use Rattle.std.proofs.lemmas.Option.{slice_get_past, slice_get_read}
use Rattle.std.specs.BTreeSet.{BTreeSet, IsOrdered, contains}
use Rattle.std.specs.Ordering.{nat_cmp}
use Rattle.odb_atoms.specs.FinMap.{get}
use Rattle.odb_hub.specs.Guarded.{AreUnused, IsGuarded, Guarded, is_in}
use Rattle.odb_hub.specs.GroupRounds.{TakesRound}
use Rattle.odb_hub.specs.Rings.{HandsOver, HasRoom, IsFlushedAt, Ring, Rings, Text, free_of, is_free_at, ready_among, room_of, texts, texts_to}
use Rattle.odb_hub.proofs.Free.{listed}
use Rattle.odb_hub.proofs.FreeAmong.{free_among}
use Rattle.odb_hub.proofs.HandingOver.{flushed_texts}
use Rattle.odb_hub.proofs.Keeping.{Grows, most_texts, round_kept, unused_grown}
use Rattle.odb_hub.proofs.OwnRounds.{has_room}
use Rattle.odb_service.specs.Run.{round}
use Rattle.odb_service.specs.Server.{Server, serve}

-- ---- who is listed

filter-both : (p q : ℕ → Bool) (xs : List ℕ) → filter (λ x. p x && q x) xs ≡ filter p (filter q xs)
filter-both p q [] = refl
filter-both p q (x ∷ xs) = by (p x) (q x) refl (filter-both p q xs)
  where
    both : List ℕ
    both = filter (λ y. p y && q y) xs

    one : List ℕ
    one = filter q xs

    by : (a b : Bool) → p x ≡ a → both ≡ filter p one → cond (a && b) (x ∷ both) both ≡ filter p (cond b (x ∷ one) one)
    by true true e h = ap (λ ys. x ∷ ys) h ∙ sym (ap (λ c. cond c (x ∷ filter p one) (filter p one)) e)
    by false true e h = h ∙ sym (ap (λ c. cond c (x ∷ filter p one) (filter p one)) e)
    by true false e h = h
    by false false e h = h

pub ready_is : (m : Rings) (owed : BTreeSet ℕ) (from : ℕ) → IsOrdered nat_cmp owed → filter (λ q. nat_le from q && is_free_at (get m q)) owed.keys ≡ ready_among owed from m
ready_is m owed from up = filter-both (nat_le from) (λ q. is_free_at (get m q)) owed.keys ∙ ap (filter (nat_le from)) (free_among m owed up)

at_seam : (xs ys : List ℕ) (x : ℕ) → slice_get (xs ++ x ∷ ys) (length xs) ≡ Some x
at_seam xs ys x =
    let long : length (xs ++ x ∷ ys) ≡ length xs + suc (length ys) = length-append xs (x ∷ ys) in
    slice_get_read (xs ++ x ∷ ys) (length (xs ++ x ∷ ys)) (length xs) x refl (omega (arith, long)) (sym (get_or-append_seam xs x ys x))

-- where so many were found, the next that passes is the first that is left out
module _ (p : ℕ → Bool) (done rest all found : List ℕ) (x most : ℕ) (is : found ≡ filter p done) (few : length found ≤ most) (many : most ≤ length found) (passes : p x ≡ true) (keys : all ≡ done ++ x ∷ rest) where
  full : most ≡ length found
  full = omega (arith, few, many)

  split : filter p all ≡ found ++ x ∷ filter p rest
  split =
      ap (filter p) keys ∙ filter-append p done (x ∷ rest) ∙ ap (λ ys. ys ++ filter p (x ∷ rest)) (sym is)
      ∙ ap (λ b. found ++ cond b (x ∷ filter p rest) (filter p rest)) passes

  pub cut_here : found ≡ take most (filter p all)
  cut_here = sym (take-append_seam found (x ∷ filter p rest)) ∙ (λ i. take (sym full i) (sym split i))

  pub next_here : Some x ≡ slice_get (filter p all) most
  next_here = sym (at_seam found (filter p rest) x) ∙ (λ i. slice_get (sym split i) (sym full i))

-- where no more were found, none is left out
module _ (whole found : List ℕ) (most : ℕ) (is : found ≡ whole) (few : length found ≤ most) where
  long : length whole ≤ most
  long = let e : length found ≡ length whole = ap length is in omega (arith, e, few)

  pub all_listed : found ≡ take most whole
  all_listed = is ∙ sym (take_all most whole long)

  pub none_left : None ≡ slice_get whole most
  none_left = sym (slice_get_past whole most long)

in_filter : (p : ℕ → Bool) (q : ℕ) (xs : List ℕ) → is_in q (filter p xs) ≡ true → is_in q xs ≡ true
in_filter p q [] e = e
in_filter p q (x ∷ xs) e = by (p x) (in_filter p q xs) e
  where
    either : (b : Bool) → (is_in q (filter p xs) ≡ true → is_in q xs ≡ true) → (b || is_in q (filter p xs)) ≡ true → (b || is_in q xs) ≡ true
    either true rest e = refl
    either false rest e = rest e

    later : (b : Bool) → is_in q xs ≡ true → (b || is_in q xs) ≡ true
    later true e = refl
    later false e = e

    by : (a : Bool) → (is_in q (filter p xs) ≡ true → is_in q xs ≡ true) → is_in q (cond a (x ∷ filter p xs) (filter p xs)) ≡ true → ((x == q) || is_in q xs) ≡ true
    by true rest e = either (x == q) rest e
    by false rest e = later (x == q) (rest e)

in_take : (n q : ℕ) (xs : List ℕ) → is_in q (take n xs) ≡ true → is_in q xs ≡ true
in_take zero q xs e = absurd (true≢false (sym e))
in_take (suc n) q [] e = e
in_take (suc n) q (x ∷ xs) e = by (x == q) (in_take n q xs) e
  where
    by : (b : Bool) → (is_in q (take n xs) ≡ true → is_in q xs ≡ true) → (b || is_in q (take n xs)) ≡ true → (b || is_in q xs) ≡ true
    by true rest e = refl
    by false rest e = rest e

-- nothing is held back for who is listed
listed_free : (m : Rings) (owed : BTreeSet ℕ) (from most q : ℕ) → is_in q (take most (ready_among owed from m)) ≡ true → is_free_at (get m q) ≡ true
listed_free m owed from most q e =
    sym (listed m q)
    ∙ in_filter (contains nat_cmp owed) q (free_of m) (in_filter (nat_le from) q (filter (contains nat_cmp owed) (free_of m)) (in_take most q (ready_among owed from m) e))

pub group_rooms : (m : Rings) (owed : BTreeSet ℕ) (from most : ℕ) (s t : Server) (outs : List (ℕ × Text)) → serve (round (take most (ready_among owed from m))) s ≡ Ok (t, outs)
    → (q : ℕ) → HasRoom (get m q) (texts_to q outs)
group_rooms m owed from most s t outs went q = by (is_in q (take most (ready_among owed from m))) refl
  where
    by : (b : Bool) → is_in q (take most (ready_among owed from m)) ≡ b → length (texts_to q outs) ≤ room_of (get m q)
    by true is =
        let one : length (texts_to q outs) ≤ 1 = subst (λ b. length (texts_to q outs) ≤ cond b 1 0) is (most_texts (take most (ready_among owed from m)) s t outs went q) in
        let room : 1 ≤ room_of (get m q) = has_room (get m q) (listed_free m owed from most q is) in
        omega (arith, one, room)
    by false is =
        let none : length (texts_to q outs) ≤ 0 = subst (λ b. length (texts_to q outs) ≤ cond b 1 0) is (most_texts (take most (ready_among owed from m)) s t outs went q) in
        omega (arith, none)

-- ---- what is kept

handed : (o p : Option Ring) (outs : List Text) → HandsOver o outs p → Grows outs o p
handed None p outs h = h.1
handed (Some a) p outs h = (
  h.0,
  h.1,
  ap (λ ts. ts ++ option_to_list h.0.held) h.2.1 ∙ append_assoc a.sent h.2.0 (option_to_list h.0.held) ∙ ap (λ ts. a.sent ++ ts) h.2.2 ∙ sym (append_assoc a.sent (option_to_list a.held) outs),
)

flushed_first : (o p q : Option Ring) (outs : List Text) → IsFlushedAt o p → Grows outs p q → Grows outs o q
flushed_first None p q outs f g = subst (λ (x : Option Ring). Grows outs x q) f g
flushed_first (Some a) p q outs f g =
    let on : Grows outs (Some f.0) q = subst (λ (x : Option Ring). Grows outs x q) f.1 g in
    (on.0, on.1, on.2 ∙ ap (λ ts. ts ++ outs) (flushed_texts a f.0 f.2))

module _ (from most given : ℕ) (next : Option ℕ) (old new : Guarded) (t : TakesRound from most given next old new) where
  group_grown : (s : ℕ) → Grows (texts_to s t.2) (get old.rings s) (get new.rings s)
  group_grown s = flushed_first (get old.rings s) (get t.1 s) (get new.rings s) (texts_to s t.2) (t.4 s) (handed (get t.1 s) (get new.rings s) (texts_to s t.2) (t.8 s))

  pub group_kept : IsGuarded old → IsGuarded new
  group_kept kept = round_kept old new kept (take most (ready_among t.0 from t.1)) t.2 t.5 group_grown

  pub group_unused : (n : ℕ) → AreUnused old.rings n → AreUnused new.rings n
  group_unused n unused = unused_grown old.rings new.rings n (λ s. texts_to s t.2) group_grown unused
