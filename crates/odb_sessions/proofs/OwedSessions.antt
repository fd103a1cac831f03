-- Those that may be owed something, along each change of the sessions.
use Rattle.std.proofs.Common.{◌≡◌, ℕ, Bool, true, false, cond, ◌||◌, List, [], ◌∷◌, Some, None, refl, sym, ap, subst, ◌∙◌}
use Rattle.std.specs.BTreeSet.{BTreeSet, Updates, contains}
use Rattle.std.specs.Ordering.{eq_by_cmp, nat_cmp}
use Rattle.std.proofs.lemmas.Option.{none-some, same_Some}
use borrow.Author.Tests.{eq-eqb}
use mathlib.Core.Bool.{true≢false}
use Rattle.odb_atoms.specs.FinMap.{get, insert, remove}
use Rattle.odb_chain.specs.Chains.{Chains}
use Rattle.odb_interest.specs.Keys.{Interests, asked_at}
use Rattle.odb_interest.specs.Represented.Lists.{Asks}
use Rattle.odb_service.specs.Session.{Item, Session}
use Rattle.odb_service.proofs.SessionMaps.{get-empty, get-insert, get-remove, other, same_key, turned_about}
use Rattle.odb_sessions.specs.Book.{Book, book_of, fresh_session}
use Rattle.odb_sessions.specs.Marked as held
use Rattle.odb_sessions.specs.Owed.{AreAdded, AreAtRest, AreOwed, HangTogether, IsAtRest, KeepsOthers, addressed, book_seen, interest_if, is_among}
use Rattle.odb_sessions.specs.Posts.{all_posted, at_number, unposted}
use Rattle.odb_sessions.specs.Quiet.{IsQuiet}
use Rattle.odb_sessions.specs.Tied.{IsTied}
use Rattle.odb_sessions.proofs.StillQuiet.{not_posted, other_session, quiet_fresh, quiet_same, same_at, same_unposted}
use Rattle.odb_tables.specs.Database.{Db}

-- what is tied, and what the machine sees of it
pub together : (k : Chains) (m : held.Sessions) (o : BTreeSet ℕ) (i : Interests) (b : Book) → IsTied k m → book_seen k m ≡ b → AreAtRest o i b → HangTogether k m o i
together k m o i b tied is rest = (tied, subst (AreAtRest o i) (sym is) rest)

-- who is at rest is owed nothing
pub rest_owed : (o : BTreeSet ℕ) (i : Interests) (b : Book) → AreAtRest o i b → AreOwed o b
rest_owed o i b rest q out = (rest q out).0

-- the same session in the same database, of which the index says the same
same_rest : (i j : Interests) (b c : Book) (q : ℕ) → c.db ≡ b.db → asked_at j q ≡ asked_at i q → get c.sessions q ≡ get b.sessions q → IsAtRest i b q → IsAtRest j c q
same_rest i j b c q db said same rest = (quiet_same b c q db same rest.0, said ∙ rest.1 ∙ ap interest_if (sym same))

pub none_rest : (o : BTreeSet ℕ) (i : Interests) (db : Db) → ((s : ℕ) → asked_at i s ≡ []) → AreAtRest o i (book_of 0 0 db)
none_rest o i db none q out = (λ x there. absurd (none-some x (sym (get-empty q) ∙ there)), none q ∙ ap interest_if (sym (get-empty q)))

-- a session that was just opened is owed nothing, and asks nothing
pub opened_rest : (o : BTreeSet ℕ) (i : Interests) (b : Book) (s : ℕ) → get b.sessions s ≡ None → AreAtRest o i b → AreAtRest o i (record b { sessions = insert b.sessions s fresh_session })
opened_rest o i b s shut before q out = by (eq_by_cmp nat_cmp q s) refl
  where
    c : Book
    c = record b { sessions = insert b.sessions s fresh_session }

    by : (t : Bool) → eq_by_cmp nat_cmp q s ≡ t → IsAtRest i c q
    by true is =
        let there : get c.sessions q ≡ Some fresh_session = get-insert b.sessions s fresh_session q ∙ ap (λ t. cond t (Some fresh_session) (get b.sessions q)) is in (
          λ x e. subst (IsQuiet b.db) (same_Some fresh_session x (sym there ∙ e)) (quiet_fresh b.db),
          (before q out).1 ∙ ap interest_if (ap (get b.sessions) (same_key q s is) ∙ shut) ∙ ap interest_if (sym there),
        )
    by false is = same_rest i i b c q refl refl (get-insert b.sessions s fresh_session q ∙ ap (λ t. cond t (Some fresh_session) (get b.sessions q)) is) (before q out)

-- whether another one is in the set stays
stays : (o o' : BTreeSet ℕ) (s q : ℕ) (slot : Bool) → Updates nat_cmp o o' s slot → eq_by_cmp nat_cmp q s ≡ false → contains nat_cmp o q ≡ contains nat_cmp o' q
stays o o' s q slot changed other = sym (changed.0 q ∙ ap (λ b. cond b slot (contains nat_cmp o q)) (turned_about s q ∙ other))

-- whoever is out of the set that one more is in is another one, and was out before
out_before : (o o' : BTreeSet ℕ) (s q : ℕ) → Updates nat_cmp o o' s true → contains nat_cmp o' q ≡ false → (eq_by_cmp nat_cmp q s ≡ false) × (contains nat_cmp o q ≡ false)
out_before o o' s q changed out = by (eq_by_cmp nat_cmp q s) refl
  where
    by : (b : Bool) → eq_by_cmp nat_cmp q s ≡ b → (b ≡ false) × (contains nat_cmp o q ≡ false)
    by true is = absurd (true≢false (sym (changed.0 q ∙ ap (λ b. cond b true (contains nat_cmp o q)) (turned_about s q ∙ is)) ∙ out))
    by false is = (refl, stays o o' s q true changed is ∙ out)

-- of a session that is closed the index says nothing
pub closed_rest : (o o' : BTreeSet ℕ) (i j : Interests) (b : Book) (s : ℕ) → AreAtRest o i b → Updates nat_cmp o o' s false → Asks i j s [] → AreAtRest o' j (record b { sessions = remove b.sessions s })
closed_rest o o' i j b s before changed forgotten q out = by (eq_by_cmp nat_cmp q s) refl
  where
    c : Book
    c = record b { sessions = remove b.sessions s }

    by : (t : Bool) → eq_by_cmp nat_cmp q s ≡ t → IsAtRest j c q
    by true is =
        let gone : get c.sessions q ≡ None = get-remove b.sessions s q ∙ ap (λ t. cond t None (get b.sessions q)) is in (
          λ x e. absurd (none-some x (sym gone ∙ e)),
          forgotten q ∙ ap (λ t. cond t [] (asked_at i q)) (eq-eqb s q (sym (same_key q s is))) ∙ ap interest_if (sym gone),
        )
    by false is =
        same_rest i j b c q refl (forgotten q ∙ ap (λ t. cond t [] (asked_at i q)) (other q s is)) (get-remove b.sessions s q ∙ ap (λ t. cond t None (get b.sessions q)) is)
        (before q (stays o o' s q false changed is ∙ out))

-- a session that is in the set may become any
pub posted_rest : (o o' : BTreeSet ℕ) (i : Interests) (b : Book) (s : ℕ) (f : Session → Session) → AreAtRest o i b → Updates nat_cmp o o' s true → AreAtRest o' i (record b { sessions = at_number f b.sessions s })
posted_rest o o' i b s f before changed q out =
    let was = out_before o o' s q changed out in
    same_rest i i b (record b { sessions = at_number f b.sessions s }) q refl refl (other_session f b.sessions s q was.0) (before q was.1)

-- nothing changes but that one more is in the set
pub grown_rest : (o o' : BTreeSet ℕ) (i : Interests) (b : Book) (s : ℕ) → AreAtRest o i b → Updates nat_cmp o o' s true → AreAtRest o' i b
grown_rest o o' i b s before changed q out = before q (out_before o o' s q changed out).1

-- one that rests leaves the set, once the index has what it asks
pub resting_rest : (o o' : BTreeSet ℕ) (i j : Interests) (b : Book) (s : ℕ) → AreAtRest o i b → Updates nat_cmp o o' s false → KeepsOthers i j s → IsAtRest j b s → AreAtRest o' j b
resting_rest o o' i j b s before changed others rests q out = by (eq_by_cmp nat_cmp q s) refl
  where
    by : (c : Bool) → eq_by_cmp nat_cmp q s ≡ c → IsAtRest j b q
    by true is = subst (IsAtRest j b) (sym (same_key q s is)) rests
    by false is = same_rest i j b b q refl (others q (other q s is)) refl (before q (stays o o' s q false changed is ∙ out))

-- where the index says something else of one that is in the set, it says what it did of those that aren't
pub said_others : (o : BTreeSet ℕ) (i j : Interests) (s : ℕ) → contains nat_cmp o s ≡ true → KeepsOthers i j s → (q : ℕ) → contains nat_cmp o q ≡ false → asked_at j q ≡ asked_at i q
said_others o i j s there others q out = by (eq_by_cmp nat_cmp q s) refl
  where
    by : (c : Bool) → eq_by_cmp nat_cmp q s ≡ c → asked_at j q ≡ asked_at i q
    by true is = absurd (true≢false (sym there ∙ sym (ap (contains nat_cmp o) (same_key q s is)) ∙ out))
    by false is = others q (other q s is)

-- of those that are in the set the index may say anything
pub said_rest : (o : BTreeSet ℕ) (i j : Interests) (b : Book) → AreAtRest o i b → ((q : ℕ) → contains nat_cmp o q ≡ false → asked_at j q ≡ asked_at i q) → AreAtRest o j b
said_rest o i j b before said q out = same_rest i j b b q refl (said q out) refl (before q out)

-- ---- those that are added

-- those to whom something is posted are in the set
pub noted_rest : (o o' : BTreeSet ℕ) (i : Interests) (b : Book) (ps : List (ℕ × Item)) → AreAtRest o i b → AreAdded o o' (addressed ps) → AreAtRest o' i (record b { sessions = all_posted b.sessions ps })
noted_rest o o' i b ps before noted q out =
    let was = noted q out in
    same_rest i i b (record b { sessions = all_posted b.sessions ps }) q refl refl (not_posted b.sessions ps q was.1) (before q was.0)

pub still_rest : (o o' : BTreeSet ℕ) (i : Interests) (b : Book) (ss : List ℕ) → AreAtRest o i b → AreAdded o o' ss → AreAtRest o' i b
still_rest o o' i b ss before noted q out = before q (noted q out).0

-- those that a change of the database concerns are in the set
pub changed_rest : (o o' : BTreeSet ℕ) (i : Interests) (b c : Book) (ss : List ℕ) → AreAtRest o i b → AreAdded o o' ss → ((s : ℕ) → is_among s ss ≡ false → IsAtRest i b s → IsAtRest i c s) → AreAtRest o' i c
changed_rest o o' i b c ss before noted concerned q out =
    let was = noted q out in
    concerned q was.1 (before q was.0)

pub none_noted : (o : BTreeSet ℕ) → AreAdded o o []
none_noted o q out = (out, refl)

-- one that is added, and then the others
pub one_noted : (o o' n : BTreeSet ℕ) (s : ℕ) (ss : List ℕ) → Updates nat_cmp o o' s true → AreAdded o' n ss → AreAdded o n (s ∷ ss)
one_noted o o' n s ss changed rest q out =
    let later = rest q out in
    let was = out_before o o' s q changed later.0 in
    (was.1, ap (λ b. b || is_among q ss) was.0 ∙ later.1)

-- who was out before stays out before
pub kept_noted : (first old now : BTreeSet ℕ) (s : ℕ) → AreAdded first old [] → Updates nat_cmp old now s true → AreAdded first now []
kept_noted first old now s before changed q out = before q (out_before old now s q changed out).1

-- ---- what changes no session that is at rest

pub unposted_rest : (o : BTreeSet ℕ) (i : Interests) (b : Book) (ss : List ℕ) → AreAtRest o i b → AreAtRest o i (record b { sessions = unposted ss b.sessions })
unposted_rest o i b ss before q out = same_rest i i b (record b { sessions = unposted ss b.sessions }) q refl refl (same_unposted b.db b.sessions ss q (before q out).0) (before q out)

-- what leaves a session as it is that is owed nothing
pub used_rest : (o : BTreeSet ℕ) (i : Interests) (b : Book) (s : ℕ) (f : Session → Session) → ((x : Session) → get b.sessions s ≡ Some x → IsQuiet b.db x → f x ≡ x) → AreAtRest o i b → AreAtRest o i (record b { sessions = at_number f b.sessions s })
used_rest o i b s f same before q out =
    same_rest i i b (record b { sessions = at_number f b.sessions s }) q refl refl (same_at f b.sessions s q (λ x there e. same x there ((before q out).0 x (ap (get b.sessions) e ∙ there)))) (before q out)
