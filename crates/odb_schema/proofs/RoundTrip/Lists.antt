-- Lists of members that were read are read back.
use Rattle.std.specs.Prelude.{◌≡◌, ℕ, suc, Bool, ◌||◌, T, length, List, [], ◌∷◌, map as map_list, Result, Ok}
use Rattle.std.specs.List.{AllByRecursion, list_any}
use mathlib.Core.Path.{refl, sym, ap, ◌∙◌}
use Rattle.std.specs.FinMap.Entries.{below_all, by_order, is_sorted}
use Rattle.std.specs.FinMap.Entries as entries
use Rattle.odb_atoms.specs.First.{each}
use Rattle.odb_atoms.specs.Text.{text_cmp}
use Rattle.odb_atoms.proofs.Rising.{first, less, second}
use Rattle.odb_schema.specs.Json.{Data, Members, no_members, member, members_list, members_of}
use Rattle.odb_schema.specs.SchemaText.{SchemaFault}
use Rattle.odb_schema.specs.Represented.Sound.{Ascend, HasSound, IsSound}
use Rattle.odb_schema.proofs.Holds.{Holds, once_more, read_so, with_holds}
use Rattle.odb_schema.proofs.Keys.{beside, keys_beside, keys_of, same_sorted}
use Rattle.odb_schema.proofs.RoundTrip.Sound.{members_list-put}

-- each of a list, printed by w, is read as the same
module _ {A B : Type 0} (r : A → Result B SchemaFault) (w : B → A) where
  abbrev pub EachBack : List B → Type 0
  EachBack bs = each r (map_list w bs) ≡ Ok bs

  module _ (Good : A → Type 0) (back : (a : A) → Good a → Holds (λ b. r (w b) ≡ Ok b) (r a)) where
    pub each_back : (xs : List A) → AllByRecursion Good xs → Holds EachBack (each r xs)
    each_back [] h = read_so EachBack [] refl
    each_back (a ∷ xs) h =
        with_holds (λ b. r (w b) ≡ Ok b) EachBack (r a) _ (back a h.0)
        (λ b e. with_holds EachBack EachBack (each r xs) _ (each_back xs h.1)
        (λ bs f. read_so EachBack (b ∷ bs) (once_more (r (w b)) b _ _ e (once_more (each r (map_list w bs)) bs _ _ f refl))))

  -- what is printed has a size as what was read
  module _ (Good : A → Type 0) (p : A → Bool) (same : (a : A) → Good a → Holds (λ b. p (w b) ≡ p a) (r a)) where
    abbrev pub Sized : List A → List B → Type 0
    Sized xs bs = (length (map_list w bs) ≡ length xs) × (list_any p (map_list w bs) ≡ list_any p xs)

    pub each_sized : (xs : List A) → AllByRecursion Good xs → Holds (Sized xs) (each r xs)
    each_sized [] h = read_so (Sized []) [] (refl, refl)
    each_sized (a ∷ xs) h =
        with_holds (λ b. p (w b) ≡ p a) (Sized (a ∷ xs)) (r a) _ (same a h.0)
        (λ b e. with_holds (Sized xs) (Sized (a ∷ xs)) (each r xs) _ (each_sized xs h.1)
        (λ bs f. read_so (Sized (a ∷ xs)) (b ∷ bs) (ap suc f.0, λ i. e i || f.1 i)))

-- ---- members

abbrev pub Member : Type 0
Member = List ℕ × Data

pub all_sound : (ms : Members) → HasSound ms → AllByRecursion (λ m. IsSound m.1) (members_list ms)
all_sound no_members h = tt
all_sound (member k d ms) h = (h.0, all_sound ms h.1)

put_first : (k : List ℕ) (d : Data) (es : List Member) → T (below_all text_cmp k es) → entries.put text_cmp k d es ≡ (let m : Member = (k, d) in m ∷ es)
put_first k d [] h = refl
put_first k d (e ∷ es) h = ap (λ o. by_order o ((k, d) ∷ e ∷ es) ((e.0, d) ∷ es) (e ∷ entries.put text_cmp k d es)) (less (text_cmp k e.0) (first _ _ h))

-- the members of an object that is made of ascending ones
pub list_again : (es : List Member) → T (is_sorted text_cmp es) → members_list (members_of es) ≡ es
list_again [] h = refl
list_again (e ∷ es) h =
    members_list-put e.0 e.1 (members_of es)
    ∙ ap (entries.put text_cmp e.0 e.1) (list_again es (second (below_all text_cmp e.0 es) (is_sorted text_cmp es) h))
    ∙ put_first e.0 e.1 es (first (below_all text_cmp e.0 es) (is_sorted text_cmp es) h)

-- the members of what was read, printed by w
module _ {A : Type 0} (name : A → List ℕ) (w : A → Data) where
  pub printed_list : (ms : Members) (xs : List A) → Ascend ms → map_list name xs ≡ keys_of (members_list ms) → members_list (members_of (map_list (beside name w) xs)) ≡ map_list (beside name w) xs
  printed_list ms xs h same = list_again (map_list (beside name w) xs) (same_sorted (members_list ms) (map_list (beside name w) xs) (sym (keys_beside name w xs ∙ same)) h)
