-- Chunks at the end of a list of chunks.
use Rattle.std.specs.Prelude.{◌≡◌, ℕ, ◌+◌, ◌-◌, ◌<◌, ◌≤◌, List, [], ◌∷◌, ◌++◌, Vec, drop, get_or, length, take}
use mathlib.Core.Path.{sym, ap, ◌∙◌}
use Rattle.std.specs.Arc.{arc_value}
use Rattle.std.specs.declared.sync.Arc.{Arc}
use Rattle.std.proofs.Common.{arith}
use Rattle.std.proofs.Math.Seq.{drop-append-add}
use Rattle.std.proofs.lemmas.List.{append-nil, append_assoc, take_all}
use Rattle.odb_chunks.specs.Represented.Chunks.{AreFilled, items_in}

module _ {T Y Z : Type 0} where
  pub items_in-push : (cs : List (Arc (Vec T Y) Z)) (c : Arc (Vec T Y) Z) → items_in (cs ++ c ∷ []) ≡ items_in cs ++ (arc_value c).items
  items_in-push [] c = append-nil _
  items_in-push (d ∷ ds) c = ap (λ xs. (arc_value d).items ++ xs) (items_in-push ds c) ∙ sym (append_assoc (arc_value d).items (items_in ds) (arc_value c).items)

  pub AreFilled-push : (cs : List (Arc (Vec T Y) Z)) (c : Arc (Vec T Y) Z) → AreFilled cs → 0 < length (arc_value c).items → AreFilled (cs ++ c ∷ [])
  AreFilled-push [] c all some = (some, tt)
  AreFilled-push (d ∷ ds) c all some = (all.0, AreFilled-push ds c all.1 some)

-- where an item moves from the rest to the end of the last part, and the parts before are joined in another way
pub moved_on : {T : Type 0} (a b a' b' b'' rest rest' whole : List T) (x : T) → a' ++ b' ≡ a ++ b → rest ≡ x ∷ rest' → b'' ≡ b' ++ x ∷ [] → a ++ (b ++ rest) ≡ whole → a' ++ (b'' ++ rest') ≡ whole
moved_on a b a' b' b'' rest rest' whole x same step put held =
    ap (λ ys. a' ++ (ys ++ rest')) put
    ∙ ap (λ ys. a' ++ ys) (append_assoc b' (x ∷ []) rest')
    ∙ ap (λ ys. a' ++ (b' ++ ys)) (sym step)
    ∙ sym (append_assoc a' b' rest)
    ∙ ap (λ ys. ys ++ rest) same
    ∙ append_assoc a b rest
    ∙ held

-- the first of a list and the others, as a slice pattern has them
pub front : {X : Type 0} (xs : List X) (x : X) → 1 ≤ length xs → x ≡ get_or xs 0 x → xs ≡ x ∷ take (length xs - 1) (drop 1 xs)
front [] x long is = absurd (omega arith)
front (y ∷ ys) x long is = λ i. sym is i ∷ sym (take_all (length (y ∷ ys) - 1) ys (omega arith)) i

-- what is left in the chunks after the slice, where all of that is passed over
pub passed_slice : {T Y Z : Type 0} (n : ℕ) (slice next : List T) (c : Arc (Vec T Y) Z) (chunks rest : List (Arc (Vec T Y) Z)) → length slice ≤ n → chunks ≡ c ∷ rest → next ≡ (arc_value c).items → drop (n - length slice) (next ++ items_in rest) ≡ drop n (slice ++ items_in chunks)
passed_slice n slice next c chunks rest fits is lies =
    let there : items_in chunks ≡ next ++ items_in rest = ap items_in is ∙ ap (λ xs. xs ++ items_in rest) (sym lies) in
    let sum : length slice + (n - length slice) ≡ n = omega arith in
    ap (drop (n - length slice)) (sym there) ∙ sym (drop-append-add slice (items_in chunks) (n - length slice)) ∙ ap (λ m. drop m (slice ++ items_in chunks)) sum
