-- The `params` of `monitor_cond_since`, test by test.
use Rattle.std.proofs.Common.{◌≡◌, ◌<◌, List, [], ◌∷◌, arith, get_or, length, map, true, Option, Some, None, refl, sym, ap, ◌∙◌}
use Rattle.std.specs.Prelude.{ℕ, if◌then◌else◌}
use Rattle.serde_json.specs.View.{view}
use Rattle.serde_json.specs.declared.value.Value.{Value}
use Rattle.odb_atoms.specs.Error.{syntax_error}
use Rattle.odb_atoms.specs.Uuid.{Uuid}
use Rattle.odb_request.specs.Request.{update2}
use Rattle.odb_schema.specs.Json.{Data}
use Rattle.odb_rpc.specs.Message.{Call, commit_of, failed, fault, is_object, monitor, of_db, of_monitor_since}

module _ (db : List ℕ) (id name i requests last : Data) where
  abbrev by_last : Option Uuid → Call
  by_last o = elim o as (λ _. Call) [ None ↦ fault id (failed syntax_error) | Some v ↦ of_db db id name (monitor id update2 i requests (Some v)) ]

  -- where the kinds are right, the database's name decides
  pub known : (v : Uuid) → is_object requests ≡ true → commit_of last ≡ Some v
      → of_monitor_since db id (name ∷ i ∷ requests ∷ last ∷ []) ≡ of_db db id name (monitor id update2 i requests (Some v))
  known v kind is = ap (λ b. if b then by_last (commit_of last) else fault id (failed syntax_error)) kind ∙ ap by_last is

-- with other numbers of members
pub few : (db : List ℕ) (id : Data) (xs : List Value) → length xs < 4 → fault id (failed syntax_error) ≡ of_monitor_since db id (map view xs)
few db id [] short = refl
few db id (a ∷ []) short = refl
few db id (a ∷ b ∷ []) short = refl
few db id (a ∷ b ∷ c ∷ []) short = refl
few db id (a ∷ b ∷ c ∷ d ∷ xs) short = absurd (omega (arith, short))

pub many : (db : List ℕ) (id : Data) (xs : List Value) → 4 < length xs → fault id (failed syntax_error) ≡ of_monitor_since db id (map view xs)
many db id [] long = absurd (omega (arith, long))
many db id (a ∷ []) long = absurd (omega (arith, long))
many db id (a ∷ b ∷ []) long = absurd (omega (arith, long))
many db id (a ∷ b ∷ c ∷ []) long = absurd (omega (arith, long))
many db id (a ∷ b ∷ c ∷ d ∷ []) long = absurd (omega (arith, long))
many db id (a ∷ b ∷ c ∷ d ∷ e ∷ xs) long = refl

-- a list of four elements
pub four_of : {X : Type 0} (xs : List X) (a b c d : X) → length xs ≡ 4 → a ≡ get_or xs 0 a → b ≡ get_or xs 1 b → c ≡ get_or xs 2 c → d ≡ get_or xs 3 d → xs ≡ a ∷ b ∷ c ∷ d ∷ []
four_of [] a b c d long p q r s = absurd (omega (arith, long))
four_of (x ∷ []) a b c d long p q r s = absurd (omega (arith, long))
four_of (x ∷ y ∷ []) a b c d long p q r s = absurd (omega (arith, long))
four_of (x ∷ y ∷ z ∷ []) a b c d long p q r s = absurd (omega (arith, long))
four_of (x ∷ y ∷ z ∷ w ∷ []) a b c d long p q r s = λ i. sym p i ∷ sym q i ∷ sym r i ∷ sym s i ∷ []
four_of (x ∷ y ∷ z ∷ w ∷ v ∷ vs) a b c d long p q r s = absurd (omega (arith, long))
