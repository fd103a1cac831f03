-- A map of the code with texts for its keys answers as the finite map that it stands for, and changes as it does.
use Rattle.std.specs.Prelude.{◌≡◌, ℕ, cond, List, [], ◌∷◌, map, string_bytes, Option, Some, option_map}
use mathlib.Core.Bool.{Bool, true, false}
use mathlib.Core.Path.{refl, sym, ap, ◌∙◌}
use Rattle.std.specs.declared.cmp.Ordering.{Ordering}
use Rattle.std.specs.declared.cmp.Ordering.TheVariants.{Less, Equal, Greater}
use Rattle.std.specs.declared.string.String.{String}
use Rattle.std.specs.declared.alloc.Global.{Global}
use Rattle.std.specs.BTreeMap.{BTreeMap, UpdatesBy, get_by_text, is_at}
use Rattle.std.specs.Cmp.Lexicographic.{nat_list_cmp_total}
use Rattle.std.specs.FinMap.{IsAntisymmetric, nat_cmp-IsAntisymmetric, slice_cmp-IsAntisymmetric}
use Rattle.std.specs.FinMap.Entries.{find}
use Rattle.std.specs.Map.{lookup}
use Rattle.std.specs.Ordering.{eq_by_cmp, is_eq, ordering_reverse}
use Rattle.std.specs.Str.{bytes_eq}
use Rattle.std.specs.String.{string_cmp}
use Rattle.std.proofs.lemmas.Map.Text.{btree_map_updates_text, is_eq-slice_cmp}
use Rattle.odb_atoms.specs.FinMap as finite
use Rattle.odb_atoms.specs.Text.{text_cmp}
use Rattle.odb_atoms.specs.Represented.TextMap.{named, text_map}
use Rattle.odb_atoms.proofs.FinMaps.{get-empty, get-insert, same_map}

pub text_cmp-IsAntisymmetric : IsAntisymmetric text_cmp
text_cmp-IsAntisymmetric = slice_cmp-IsAntisymmetric nat_cmp-IsAntisymmetric

is_eq-reverse : (r : Ordering) → is_eq (ordering_reverse r) ≡ is_eq r
is_eq-reverse Less = refl
is_eq-reverse Equal = refl
is_eq-reverse Greater = refl

either_way : (q k : List ℕ) → eq_by_cmp text_cmp q k ≡ bytes_eq k q
either_way q k = ap is_eq (nat_list_cmp_total.antisymm q k) ∙ is_eq-reverse (text_cmp k q) ∙ is_eq-slice_cmp k q

module _ {Y : Type 0} where
  get-from_entries : (es : List (List ℕ × Y)) (q : List ℕ) → finite.get (finite.from_entries {R = text_cmp} es) q ≡ find text_cmp q es
  get-from_entries [] q = get-empty text_cmp q
  get-from_entries (e ∷ es) q = get-insert nat_list_cmp_total (finite.from_entries es) e.0 e.1 q ∙ ap (cond (eq_by_cmp text_cmp q e.0) (Some e.1)) (get-from_entries es q)

  get-put : (l : finite.FinMap text_cmp Y) (k : List ℕ) (x : Y) (q : List ℕ) → finite.get (finite.insert l k x) q ≡ cond (bytes_eq k q) (Some x) (finite.get l q)
  get-put l k x q = get-insert nat_list_cmp_total l k x q ∙ ap (λ b. cond b (Some x) (finite.get l q)) (either_way q k)

module _ {X Y : Type 0} (f : X → Y) where
  map-cond : (b : Bool) (x : X) (o : Option X) → cond b (Some (f x)) (option_map f o) ≡ option_map f (cond b (Some x) o)
  map-cond true x o = refl
  map-cond false x o = refl

  find-named : (q : List ℕ) (es : List (String Global × X)) → find text_cmp q (map (named f) es) ≡ option_map f (lookup (is_at (λ k. text_cmp q (string_bytes k))) es)
  find-named q [] = refl
  find-named q (e ∷ es) =
      ap (cond (eq_by_cmp text_cmp q (string_bytes e.0)) (Some (f e.1))) (find-named q es)
      ∙ map-cond (eq_by_cmp text_cmp q (string_bytes e.0)) e.1 (lookup (is_at (λ k. text_cmp q (string_bytes k))) es)

  -- what the code's look-up answers
  pub get-text_map : (m : BTreeMap (String Global) X) (q : List ℕ) → finite.get (text_map f m) q ≡ option_map f (get_by_text m q)
  get-text_map m q = get-from_entries (map (named f) m.entries) q ∙ find-named q m.entries

  after : (bs : List ℕ) (m n : BTreeMap (String Global) X) (w : Option X) → UpdatesBy string_cmp (λ k. text_cmp bs (string_bytes k)) m n w → (q : List ℕ) → finite.get (text_map f n) q ≡ option_map f (cond (bytes_eq bs q) w (get_by_text m q))
  after bs m n w h q = get-text_map n q ∙ ap (option_map f) (btree_map_updates_text bs m n w h q)

  -- an insertion of the code is one of the map
  pub inserted : (bs : List ℕ) (m n : BTreeMap (String Global) X) (x : X) → UpdatesBy string_cmp (λ k. text_cmp bs (string_bytes k)) m n (Some x) → text_map f n ≡ finite.insert (text_map f m) bs (f x)
  inserted bs m n x h =
      same_map nat_list_cmp_total text_cmp-IsAntisymmetric _ _
      (λ q. after bs m n (Some x) h q ∙ sym (map-cond (bytes_eq bs q) x (get_by_text m q)) ∙ ap (cond (bytes_eq bs q) (Some (f x))) (sym (get-text_map m q)) ∙ sym (get-put (text_map f m) bs (f x) q))
