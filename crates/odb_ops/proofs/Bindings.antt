-- Names that are bound from the first insert on stand as the definition binds them, from the last.
use Rattle.std.proofs.Common.{◌≡◌, ℕ, Bool, true, false, cond, ◌||◌, List, [], ◌∷◌, codes, Option, Some, None, is_some, refl, sym, ap, ◌∙◌}
use Rattle.std.proofs.lemmas.Bool.{false≢true}
use Rattle.std.specs.Cmp.Lexicographic.{nat_list_cmp_total}
use Rattle.std.specs.Option.{option_or}
use Rattle.std.specs.Ordering.{eq_by_cmp}
use Rattle.odb_atoms.specs.FinMap as map
use Rattle.odb_atoms.specs.Text.{text_cmp}
use Rattle.odb_atoms.specs.Uuid.{Uuid}
use Rattle.odb_atoms.proofs.FinMaps.{get-empty, get-insert, same_key, same_map}
use Rattle.odb_atoms.proofs.TextMaps.{text_cmp-IsAntisymmetric}
use Rattle.odb_json.specs.Operation.{is_insert}
use Rattle.odb_ops.specs.Execution.{bind_name, fresh_after, identifier_of, names_of}
use Rattle.odb_ops.specs.Represented.Parts.{AreTaken, bound}
use Rattle.odb_schema.specs.Json.{Data, string_member}
use Rattle.odb_schema.specs.Notation.{Names}
use Rattle.odb_schema.proofs.Places.{same_by_order}

same_name : (q k : List ℕ) → eq_by_cmp text_cmp q k ≡ true → q ≡ k
same_name q k e = same_key text_cmp-IsAntisymmetric q k e

or_here : (o p : Option Uuid) (u : Uuid) → is_some o ≡ true → option_or o p ≡ option_or o (Some u)
or_here (Some x) p u e = refl
or_here None p u e = absurd (false≢true e)

or_there : (o p : Option Uuid) (u : Uuid) → is_some o ≡ false → Some u ≡ option_or o (Some u)
or_there None p u e = refl
or_there (Some x) p u e = absurd (false≢true (sym e))

-- what is bound now, or else after, where one more name is bound
one_name : (n : List ℕ) (u : Uuid) (names rest : Names) (q : List ℕ) (b : Bool) → map.contains_key names n ≡ b
    → option_or (map.get (cond b names (map.insert names n u)) q) (map.get rest q) ≡ option_or (map.get names q) (map.get (map.insert rest n u) q)
one_name n u names rest q true e = by (eq_by_cmp text_cmp q n) refl ∙ sym (ap (option_or (map.get names q)) (get-insert nat_list_cmp_total rest n u q))
  where
    by : (b : Bool) → eq_by_cmp text_cmp q n ≡ b → option_or (map.get names q) (map.get rest q) ≡ option_or (map.get names q) (cond b (Some u) (map.get rest q))
    by true t = or_here (map.get names q) (map.get rest q) u (ap (λ k. is_some (map.get names k)) (same_name q n t) ∙ e)
    by false t = refl
one_name n u names rest q false e =
    ap (λ o. option_or o (map.get rest q)) (get-insert nat_list_cmp_total names n u q) ∙ by (eq_by_cmp text_cmp q n) refl
    ∙ sym (ap (option_or (map.get names q)) (get-insert nat_list_cmp_total rest n u q))
  where
    by : (b : Bool) → eq_by_cmp text_cmp q n ≡ b → option_or (cond b (Some u) (map.get names q)) (map.get rest q) ≡ option_or (map.get names q) (cond b (Some u) (map.get rest q))
    by true t = or_there (map.get names q) (map.get rest q) u (ap (λ k. is_some (map.get names k)) (same_name q n t) ∙ e)
    by false t = refl

one_operation : (inserts : Bool) (name : Option (List ℕ)) (u : Uuid) (names rest : Names) (q : List ℕ)
    → option_or (map.get (cond inserts (bound name u names) names) q) (map.get rest q) ≡ option_or (map.get names q) (map.get (cond inserts (bind_name name u rest) rest) q)
one_operation false name u names rest q = refl
one_operation true None u names rest q = refl
one_operation true (Some n) u names rest q = one_name n u names rest q (map.contains_key names n) refl

-- what a name stands for where names are bound already
abbrev pub stands : Names → List Data → List Uuid → List ℕ → Option Uuid
stands names ds fresh q = option_or (map.get names q) (map.get (names_of ds fresh) q)

pub one_more : (names new : Names) (d : Data) (ds : List Data) (fresh : List Uuid)
    → new ≡ cond (is_insert d) (bound (string_member (codes "uuid-name") d) (identifier_of d fresh) names) names
    → (q : List ℕ) → stands new ds (fresh_after d fresh) q ≡ stands names (d ∷ ds) fresh q
one_more names new d ds fresh e q =
    ap (λ m. stands m ds (fresh_after d fresh) q) e
    ∙ one_operation (is_insert d) (string_member (codes "uuid-name") d) (identifier_of d fresh) names (names_of ds (fresh_after d fresh)) q

pub none_bound : (names : Names) (ds : List Data) (fresh : List Uuid) → names ≡ map.empty → (q : List ℕ) → stands names ds fresh q ≡ map.get (names_of ds fresh) q
none_bound names ds fresh e q = ap (λ m. stands m ds fresh q) e ∙ ap (λ o. option_or o (map.get (names_of ds fresh) q)) (get-empty text_cmp q)

or_none : (o : Option Uuid) → option_or o None ≡ o
or_none None = refl
or_none (Some x) = refl

pub all_bound : (names whole : Names) (fresh : List Uuid) → ((q : List ℕ) → stands names [] fresh q ≡ map.get whole q) → names ≡ whole
all_bound names whole fresh h =
    same_map nat_list_cmp_total text_cmp-IsAntisymmetric names whole
    (λ q. sym (or_none (map.get names q)) ∙ sym (ap (option_or (map.get names q)) (get-empty text_cmp q)) ∙ h q)

-- ---- names that are taken

pub none_taken : AreTaken map.empty []
none_taken q = ap is_some (get-empty text_cmp q)

some_or : (b : Bool) (u : Uuid) (o : Option Uuid) → is_some (cond b (Some u) o) ≡ (b || is_some o)
some_or true u o = refl
some_or false u o = refl

pub one_taken : (taken : Names) (named : List (List ℕ)) (name : List ℕ) (u : Uuid) → AreTaken taken named → AreTaken (map.insert taken name u) (name ∷ named)
one_taken taken named name u h q =
    ap is_some (get-insert nat_list_cmp_total taken name u q) ∙ some_or (eq_by_cmp text_cmp q name) u (map.get taken q)
    ∙ (λ i. same_by_order q name i || h q i)
