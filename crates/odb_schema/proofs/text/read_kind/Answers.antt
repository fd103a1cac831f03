use Rattle.std.proofs.Common.{◌≡◌, ℕ, List, Bool, true, false, codes, refl, sym}
use Rattle.std.specs.Cmp.Lexicographic as texts
use Rattle.odb_atoms.specs.First.{Err}
use Rattle.odb_atoms.specs.Text.{same_text}
use Rattle.odb_schema.specs.SchemaText.{bad_type, read_kind}
use Rattle.odb_schema.proofs.text.read_kind.Goals as goal

other : (name text : List ℕ) → (text ≡ name → ⊥) → same_text name text ≡ false
other name text differs = by (same_text name text) refl
  where
    by : (b : Bool) → same_text name text ≡ b → same_text name text ≡ false
    by false e = e
    by true e = absurd (differs (sym (texts.same_text name text (sym e))))

unknown : (name : List ℕ) → same_text (codes "integer") name ≡ false → same_text (codes "boolean") name ≡ false → same_text (codes "string") name ≡ false → same_text (codes "uuid") name ≡ false → read_kind name ≡ Err bad_type
unknown name a b c d = rw (a, b, c, d) refl

pub returns-in_default : goal.returns-in_default
returns-in_default c = unknown c.args.name.now (other _ _ c.in_default.not-integer) (other _ _ c.in_default.not-boolean) (other _ _ c.in_default.not-string) (other _ _ c.in_default.not-uuid)
