-- What is found in the members that are printed, and in those that were read.
use Rattle.std.specs.Prelude.{◌≡◌, ℕ, Bool, true, false, cond, List, [], ◌∷◌, ◌++◌, ok_or, Option, Some, None, Result}
use Rattle.std.specs.Option.{option_or}
use mathlib.Core.Path.{refl, sym, ap, ◌∙◌}
use Rattle.std.specs.Cmp.Lexicographic.{nat_list_cmp_total}
use Rattle.std.specs.FinMap.Entries.{find, find-put}
use Rattle.std.specs.declared.cmp.Ordering.{Ordering}
use Rattle.std.specs.declared.cmp.Ordering.TheVariants.{Less, Equal, Greater}
use Rattle.std.specs.Ordering.{eq_by_cmp, is_eq, match_ordering}
use Rattle.serde_json.specs.Data.{put}
use Rattle.odb_atoms.specs.Text.{text_cmp}
use Rattle.odb_schema.specs.Json.{Data, Members, no_members, member, get_member, members_list, members_of, present}
use Rattle.odb_schema.specs.SchemaText.{SchemaFault, syntax, unless}
use Rattle.odb_schema.proofs.Holds.{Holds, next, none_read}
use Rattle.odb_schema.specs.Represented.Sound.{HasSound, IsSound}
use Rattle.odb_schema.proofs.RoundTrip.Sound.{OnSome, members_list-put}

get-find : (q : List ℕ) (ms : Members) → get_member q ms ≡ find text_cmp q (members_list ms)
get-find q no_members = refl
get-find q (member k d ms) = by (text_cmp q k) (get-find q ms)
  where
    by : (o : Ordering) → get_member q ms ≡ find text_cmp q (members_list ms) → match_ordering o (get_member q ms) (Some d) (get_member q ms) ≡ cond (is_eq o) (Some d) (find text_cmp q (members_list ms))
    by Less h = h
    by Equal h = refl
    by Greater h = h

-- the first of the members at a key
get-members_of : (q : List ℕ) (xs : List (List ℕ × Data)) → get_member q (members_of xs) ≡ find text_cmp q xs
get-members_of q [] = refl
get-members_of q (x ∷ xs) =
    get-find q (put x.0 x.1 (members_of xs))
    ∙ ap (find text_cmp q) (members_list-put x.0 x.1 (members_of xs))
    ∙ find-put text_cmp nat_list_cmp_total q x.0 x.1 (members_list (members_of xs))
    ∙ ap (cond (eq_by_cmp text_cmp q x.0) (Some x.1)) (sym (get-find q (members_of xs)) ∙ get-members_of q xs)

-- ---- printed members

-- o is what the key q has among the members
unfoldable pub Finds : List ℕ → List (List ℕ × Data) → Option Data → Type 0
Finds q xs o = find text_cmp q xs ≡ o

-- what a member has at a key, which is its own or another
abbrev pub at : List ℕ → List ℕ → Option Data → Option Data
at q k o = cond (eq_by_cmp text_cmp q k) o None

pub found_in : (q : List ℕ) (xs : List (List ℕ × Data)) (o : Option Data) → Finds q xs o → get_member q (members_of xs) ≡ o
unfolding Finds
found_in q xs o h = get-members_of q xs ∙ h

both_none : (b : Bool) → ◌≡◌ {A = Option Data} None (cond b None None)
both_none true = refl
both_none false = refl

pub finds_present : (q k : List ℕ) (o : Option Data) → Finds q (present k o) (at q k o)
unfolding Finds
finds_present q k None = both_none (eq_by_cmp text_cmp q k)
finds_present q k (Some d) = refl

pub finds_unless : (q : List ℕ) (b : Bool) (k : List ℕ) (d : Data) → Finds q (unless b k d) (at q k (cond b None (Some d)))
unfolding Finds
finds_unless q true k d = both_none (eq_by_cmp text_cmp q k)
finds_unless q false k d = refl

pub finds_one : (q k : List ℕ) (d : Data) → Finds q ((k, d) ∷ []) (at q k (Some d))
unfolding Finds
finds_one q k d = refl

pub finds_first : (q k : List ℕ) (d : Data) (xs : List (List ℕ × Data)) (o : Option Data) → Finds q xs o → Finds q ((k, d) ∷ xs) (option_or (at q k (Some d)) o)
unfolding Finds
finds_first q k d xs o h = ap (cond (eq_by_cmp text_cmp q k) (Some d)) h ∙ by (eq_by_cmp text_cmp q k)
  where
    by : (b : Bool) → cond b (Some d) o ≡ option_or (cond b (Some d) None) o
    by true = refl
    by false = refl

-- two members that aren't there
pub finds_neither : (q k l : List ℕ) → Finds q [] (option_or (at q k None) (at q l None))
unfolding Finds
finds_neither q k l = by (eq_by_cmp text_cmp q k) (eq_by_cmp text_cmp q l)
  where
    by : (a b : Bool) → ◌≡◌ {A = Option Data} None (option_or (cond a None None) (cond b None None))
    by true true = refl
    by true false = refl
    by false true = refl
    by false false = refl

pub finds_joined : (q : List ℕ) (xs ys : List (List ℕ × Data)) (o p : Option Data) → Finds q xs o → Finds q ys p → Finds q (xs ++ ys) (option_or o p)
unfolding Finds
finds_joined q [] ys o p h g = g ∙ ap (λ o. option_or o p) h
finds_joined q (x ∷ xs) ys o p h g = ap (cond (eq_by_cmp text_cmp q x.0) (Some x.1)) (finds_joined q xs ys _ p refl g) ∙ by (eq_by_cmp text_cmp q x.0) ∙ ap (λ o. option_or o p) h
  where
    by : (b : Bool) → cond b (Some x.1) (option_or (find text_cmp q xs) p) ≡ option_or (cond b (Some x.1) (find text_cmp q xs)) p
    by true = refl
    by false = refl

-- ---- members that were read

pub member_sound : (q : List ℕ) (ms : Members) → HasSound ms → OnSome IsSound (get_member q ms)
unfolding OnSome
member_sound q no_members h = tt
member_sound q (member k d ms) h = by (text_cmp q k) (member_sound q ms h.1)
  where
    by : (o : Ordering) → OnSome IsSound (get_member q ms) → OnSome IsSound (match_ordering o (get_member q ms) (Some d) (get_member q ms))
    by Less g = g
    by Equal g = h.0
    by Greater g = g

-- a reading of a member that has to be there
pub needed_holds : {A : Type 0} (P : A → Type 0) (r : Data → Result A SchemaFault) → ((d : Data) → IsSound d → Holds P (r d)) → (o : Option Data) → OnSome IsSound o → Holds P (next (ok_or o syntax) r)
unfolding OnSome
needed_holds P r h None s = none_read P syntax
needed_holds P r h (Some d) s = h d s
