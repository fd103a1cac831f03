-- The tokens of JSON, one after the other, as they are printed.
use Rattle.std.specs.Prelude.{ℕ, List, [], ◌∷◌, Option, Some, None}
use Rattle.json.specs.Token.{Token, key}
use Rattle.json.specs.Tree.{json_tokens}
use Rattle.serde_json.specs.Data.{Data}
use Rattle.serde_json.specs.Written.{outline}

abbrev pub tokens_of : Data → List Token
tokens_of d = json_tokens (outline d)

-- a member, where it has a value
abbrev pub member_tokens : List ℕ → Option Data → List Token
member_tokens name None = []
member_tokens name (Some d) = key name ∷ tokens_of d
