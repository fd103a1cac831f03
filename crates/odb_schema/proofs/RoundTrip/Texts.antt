-- The text that is printed of a schema is read as the schema.
use Rattle.std.specs.Prelude.{◌≡◌, ◌≤◌, ℕ, Bool, true, false, length, List, nat_le, ok_or, Option, Some, None, IfOk, Result, Ok, Err, Vec}
use Rattle.std.specs.Str.{IsUtf8, is_utf8}
use Rattle.std.specs.declared.alloc.Global.{Global}
use mathlib.Core.Path.{refl, sym, subst, ◌∙◌}
use Rattle.serde_json.specs.Read.{read}
use Rattle.odb_atoms.specs.First.{demand}
use Rattle.odb_schema.specs.Json.{Data, Members, object}
use Rattle.odb_schema.specs.Schema.{Schema}
use Rattle.odb_schema.specs.SchemaText.{IsReadBack, is_too_large, max_file, read_schema, schema_of_file, syntax, too_large, write_schema}
use Rattle.odb_schema.specs.Represented.Parts.{schema_in}
use Rattle.odb_schema.specs.Represented.Sound.{HasSound}
use Rattle.odb_schema.proofs.Holds.{Holds, behind, next, so_read}
use Rattle.odb_schema.proofs.Parts.{file_read, json_read}
use Rattle.odb_schema.proofs.RoundTrip.Sound.{text_sound}
use Rattle.odb_schema.proofs.RoundTrip.Whole.{members_back, read_back}

-- the JSON of a file that is a schema
json_of_file : (small utf8 : Bool) (o : Option Data) (s : Schema) → behind (demand small too_large) (behind (demand utf8 syntax) (behind (demand small too_large) (next (ok_or o syntax) read_schema))) ≡ Ok s → (d : Data) × (o ≡ Some d) × (read_schema d ≡ Ok s)
json_of_file false utf8 o s e = absurd (cc)
json_of_file true false o s e = absurd (cc)
json_of_file true true None s e = absurd (cc)
json_of_file true true (Some d) s e = (d, refl, e)

-- a schema that was read of a file is read back
pub file_read_back : (text : List ℕ) (s : Schema) → schema_of_file text ≡ Ok s → IsReadBack s
file_read_back text s e =
    let found = json_of_file (nat_le (length text) max_file) (is_utf8 text) (read text) s e in
    read_back found.0 s (text_sound text found.0 found.1) found.2

-- a schema of members is read back
pub members_read_back : (ms : Members) (s : Schema) → HasSound ms → is_too_large (object ms) ≡ false → schema_in ms ≡ Ok s → IsReadBack s
members_read_back ms s h small e = so_read IsReadBack s (subst (Holds IsReadBack) e (members_back ms h small))

-- a text of the schema's JSON, within the limit of files
pub text_read_back : {E : Type 0} (r : Result (Vec ℕ Global) E) (s : Schema) → IsReadBack s → IfOk r (λ b. IsUtf8 b.items) → IfOk r (λ b. read b.items ≡ Some (write_schema s)) → IfOk r (λ b. length b.items ≤ max_file → schema_of_file b.items ≡ Ok s)
text_read_back (Ok b) s back utf8 json = λ small. sym (file_read b.items (write_schema s) small (json_read b.items (write_schema s) utf8 json)) ∙ back
text_read_back (Err f) s back utf8 json = tt
