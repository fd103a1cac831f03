-- The text of a reply, from the texts of its members.
use Rattle.std.specs.Prelude.{ℕ, List, ◌++◌, codes}

abbrev pub response_text : List ℕ → List ℕ → List ℕ → List ℕ
response_text error id result = codes "{\"error\":" ++ (error ++ (codes ",\"id\":" ++ (id ++ (codes ",\"result\":" ++ (result ++ codes "}")))))
