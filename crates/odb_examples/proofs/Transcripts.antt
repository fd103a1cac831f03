-- Examples as transcripts: what a script on a fresh server prints, line by line.
--     codes "> A monitor 1 [\"net\",\"m\",{\"Bridge\":{}}]"      a line that goes in
--     codes "< A reply 1 {}"                                     a line that it prints
-- Whole lines have short forms:
--     > A METHOD N P             A {"method":"METHOD","params":P,"id":N}
--     > A transact N OPS         A {"method":"transact","params":[the database's name,OPS],"id":N}
--     < A reply N X              A {"error":null,"id":N,"result":X}
--     < A error N NAME           A {"error":{"error":"NAME"},"id":N,"result":null}, or with "error":"NAME" for the four that are printed as their name
--     < A METHOD P               A {"id":null,"method":"METHOD","params":P}
-- Other lines stand as they are: commands with `!`, pieces that don't begin with a letter or have no space. "U3" is the script's third UUID, "V2" the number 2 as a UUID.
-- The examples themselves are made from transcripts/ by `tests/examples` (OfSection*).
use Rattle.std.specs.Prelude.{◌≡◌, ⊤, ℕ, zero, suc, ◌+◌, ◌-◌, ◌*◌, ◌==◌, nat_lt, nat_le, length, Bool, true, false, cond, ◌&&◌, ◌||◌, List, [], ◌∷◌, ◌++◌, map, Option, Some, None, Ok, Err, codes, bytes_eq, drop}
use Rattle.std.specs.List.{list_any}
use Rattle.std.specs.Str.{is_utf8}
use Rattle.odb_atoms.specs.Uuid.{Uuid, uuid_from, uuid_text}
use Rattle.odb_schema.specs.Schema.{Schema}
use Rattle.odb_schema.specs.SchemaText.{schema_of_text}
use Rattle.odb_service.specs.Service.{service}
use Rattle.odb_wire.specs.Stream.{max_message}
use Rattle.odb_script.specs.Script.{Script, Command, command_of, fresh_script, perform, script_uuid}
use Rattle.odb_examples.proofs.Examples.{computes}

-- what an example opens
unfoldable pub shows : ⊤
unfolding computes is_utf8 max_message
shows = tt

-- ---- short forms

-- the first word, and what stands after its space
abbrev word : List ℕ → List ℕ
word [] = []
word (c ∷ cs) = elim (c == 32) as (λ _. List ℕ) [ true ↦ [] | false ↦ c ∷ word cs ]

abbrev rest : List ℕ → List ℕ
rest s = drop (length (word s) + 1) s

abbrev is_letter : List ℕ → Bool
is_letter [] = false
is_letter (c ∷ cs) = (nat_le 97 c && nat_le c 122) || (nat_le 65 c && nat_le c 90)

-- `U` or `V` with digits and a quote: the text of that UUID, and what stands after the quote
abbrev digits_at : ℕ → List ℕ → Option (ℕ × List ℕ)
digits_at n [] = None
digits_at n (c ∷ cs) = elim (c == 34) as (λ _. Option (ℕ × List ℕ)) [ true ↦ Some (n, cs) | false ↦ elim (nat_le 48 c && nat_le c 57) as (λ _. Option (ℕ × List ℕ)) [ true ↦ digits_at (10 * n + (c - 48)) cs | false ↦ None ] ]

abbrev with_text : (ℕ → Uuid) → Option (ℕ × List ℕ) → Option (List ℕ × List ℕ)
with_text f None = None
with_text f (Some p) = Some (uuid_text (f p.0), p.1)

abbrev name_at : List ℕ → Option (List ℕ × List ℕ)
name_at [] = None
name_at (c ∷ cs) = elim (c == 85) as (λ _. Option (List ℕ × List ℕ)) [ true ↦ with_text script_uuid (digits_at 0 cs) | false ↦ elim (c == 86) as (λ _. Option (List ℕ × List ℕ)) [ true ↦ with_text uuid_from (digits_at 0 cs) | false ↦ None ] ]

abbrev named : ℕ → List ℕ → List ℕ
named zero s = s
named (suc n) [] = []
named (suc n) (c ∷ cs) = elim (c == 34) as (λ _. List ℕ) [
  | false ↦ c ∷ named n cs
  | true ↦ elim (name_at cs) as (λ _. List ℕ) [ None ↦ 34 ∷ named n cs | Some p ↦ 34 ∷ (p.0 ++ 34 ∷ named n p.1) ]
]

abbrev whole : List ℕ → List ℕ
whole s = named (length s) s

-- a request of a session, from its method, its id and its params
abbrev request : List ℕ → List ℕ → List ℕ → List ℕ
request db who s =
    let method = word s in
    let id = word (rest s) in
    let params = rest (rest s) in
    who ++ codes " {\"method\":\"" ++ method ++ codes "\",\"params\":" ++ cond (bytes_eq method (codes "transact")) (codes "[\"" ++ db ++ codes "\"" ++ cond (length params == 0) [] (codes "," ++ params) ++ codes "]") params ++ codes ",\"id\":" ++ id ++ codes "}"

abbrev command : List ℕ → List ℕ → List ℕ
command db s = cond (is_letter s && is_letter (rest s) && nat_lt 0 (length (rest (rest s)))) (request db (word s) (rest s)) s

abbrev bare : List (List ℕ)
bare = codes "unknown method" ∷ codes "unknown database" ∷ codes "unknown monitor" ∷ codes "canceled" ∷ []

abbrev reply : List ℕ → List ℕ → List ℕ → List ℕ
reply who id x = who ++ codes " {\"error\":null,\"id\":" ++ id ++ codes ",\"result\":" ++ x ++ codes "}"

abbrev failure : List ℕ → List ℕ → List ℕ → List ℕ
failure who id x = who ++ codes " {\"error\":" ++ cond (list_any (bytes_eq x) bare) (codes "\"" ++ x ++ codes "\"") (codes "{\"error\":\"" ++ x ++ codes "\"}") ++ codes ",\"id\":" ++ id ++ codes ",\"result\":null}"

abbrev notification : List ℕ → List ℕ → List ℕ → List ℕ
notification who method params = who ++ codes " {\"id\":null,\"method\":\"" ++ method ++ codes "\",\"params\":" ++ params ++ codes "}"

abbrev answer : List ℕ → List ℕ
answer s =
    let who = word s in
    let kind = word (rest s) in
    let more = rest (rest s) in
    cond (bytes_eq kind (codes "reply")) (reply who (word more) (rest more))
    (cond (bytes_eq kind (codes "error")) (failure who (word more) (rest more))
    (cond (is_letter kind) (notification who kind more) s))

-- ---- playing

-- the lines of a text whose lines end in line feeds
abbrev lines_in : List ℕ → List ℕ → List (List ℕ)
lines_in line [] = []
lines_in line (c ∷ cs) = elim (c == 10) as (λ _. List (List ℕ)) [ true ↦ line ∷ lines_in [] cs | false ↦ lines_in (line ++ c ∷ []) cs ]

-- the state after a line, and what the line prints
abbrev played : Schema → Script → Option Command → Script × List ℕ
played s p None = (p, codes "bad command" ++ 10 ∷ [])
played s p (Some k) = perform (service s) k p

-- of a transcript's lines, those that go in, each followed by what it prints
abbrev play : Schema → Script → List (List ℕ) → List (List ℕ)
play s p [] = []
play s p ([] ∷ ls) = play s p ls
play s p ((c ∷ cs) ∷ ls) = elim (c == 62) as (λ _. List (List ℕ)) [
  | false ↦ play s p ls
  | true ↦ (let line : List ℕ = command s.name (whole (drop 1 cs)) in
      let r : Script × List ℕ = played s p (command_of line) in
      line ∷ (lines_in [] r.1 ++ play s r.0 ls))
]

abbrev full : List ℕ → List ℕ → List ℕ
full db [] = []
full db (c ∷ cs) = elim (c == 62) as (λ _. List ℕ) [ true ↦ command db (whole (drop 1 cs)) | false ↦ answer (whole (drop 1 cs)) ]

-- a fresh script with A, B and C open
abbrev opened : Schema → Script
opened s =
    let a = (played s (fresh_script s) (command_of (codes "!open A"))).0 in
    let b = (played s a (command_of (codes "!open B"))).0 in
    (played s b (command_of (codes "!open C"))).0

-- the transcript is that of the script
abbrev pub Plays : List ℕ → List (List ℕ) → Type 0
Plays schema lines = elim (schema_of_text schema) as (λ _. Type 0) [ Ok s ↦ (play s (opened s) lines ≡ map (full s.name) lines) | Err e ↦ ⊥ ]
