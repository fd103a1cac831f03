-- The tokens of rows.
use Rattle.std.proofs.Common.{◌≡◌, ℕ, List, [], ◌∷◌, ◌++◌, flat_map, map, Option, Some, None, option_map, refl, sym, ap, ◌∙◌, append_assoc}
use Rattle.json.specs.Token.{begin_object, end_object}
use Rattle.json.specs.Tree.{members_tokens}
use Rattle.serde_json.specs.Data.{Data}
use Rattle.serde_json.specs.Written.{members_outline}
use Rattle.odb_atoms.specs.Value.{Value}
use Rattle.odb_monitor.specs.Represented.Form.{column_tokens}
use Rattle.odb_monitor.specs.Update.{members, row_object}
use Rattle.odb_print.specs.Tokens.{member_tokens, tokens_of}
use Rattle.odb_request.specs.Request.{Column, column_names}
use Rattle.odb_schema.specs.Notation.{write_value}

-- a member that may be there, in front of others
pub member_more : (name : List ℕ) (d : Option Data) (ns : List (List ℕ)) (ds : List (Option Data))
    → members_tokens (members_outline (members (name ∷ ns) (d ∷ ds))) ≡ member_tokens name d ++ members_tokens (members_outline (members ns ds))
member_more name None ns ds = refl
member_more name (Some d) ns ds = refl

each_column : (f : Column → Option Value) (cs : List Column)
    → members_tokens (members_outline (members (column_names cs) (map (option_map write_value) (map f cs)))) ≡ flat_map (column_tokens f) cs ++ end_object ∷ []
each_column f [] = refl
each_column f (c ∷ cs) =
    member_more c.name (option_map write_value (f c)) (column_names cs) (map (option_map write_value) (map f cs))
    ∙ ap (λ ts. column_tokens f c ++ ts) (each_column f cs) ∙ sym (append_assoc (column_tokens f c) (flat_map (column_tokens f) cs) (end_object ∷ []))

pub object_tokens : (f : Column → Option Value) (cs : List Column) → tokens_of (row_object cs (map f cs)) ≡ begin_object ∷ (flat_map (column_tokens f) cs ++ end_object ∷ [])
object_tokens f cs = ap (λ ts. begin_object ∷ ts) (each_column f cs)
