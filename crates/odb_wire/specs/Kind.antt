-- What a response is, beside requests and notifications. [P 7.2]
use Rattle.std.specs.Prelude.{Bool, ◌&&◌, ◌||◌, is_some, is_none, codes}
use Rattle.serde_json.specs.Data.{Data}
use Rattle.serde_json.specs.Find.{get}

-- a message without `method`, and with `result` or `error`
abbrev pub is_response : Data → Bool
is_response d = is_none (get (codes "method") d) && (is_some (get (codes "result") d) || is_some (get (codes "error") d))
