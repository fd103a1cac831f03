-- Compact texts of messages, from those of their members.
use Rattle.std.proofs.Common.{◌≡◌, ℕ, Bool, true, false, List, [], ◌∷◌, ◌++◌, codes, refl, sym, ap, ◌∙◌, append-nil, append_assoc}
use Rattle.json.specs.Print.{escape_byte, print, print_from, quoted}
use Rattle.json.specs.Token.{Token}
use Rattle.serde_json.specs.Data.{Data, boolean, string}
use Rattle.serde_json.specs.Written.{compact_text}
use Rattle.odb_schema.specs.Json.{array_of}
use Rattle.odb_request.specs.Request.{Notation, update, update2, update_method}
use Rattle.odb_rpc.specs.Message.{message, notification, one, reply}
use Rattle.odb_rpc.specs.Represented.Shared.{after_result, after_updates, before_id}
use Rattle.odb_rpc.specs.Represented.Since.{before_found}
use Rattle.odb_rpc.specs.Represented.Texts.{response_text}

pub message_text : (error id result : Data) → compact_text (message error id result) ≡ response_text (compact_text error) (compact_text id) (compact_text result)
unfolding escape_byte
message_text error id result = refl

pub one_text : (d : Data) → compact_text (one (codes "error") d) ≡ codes "{\"error\":" ++ (compact_text d ++ codes "}")
unfolding escape_byte
one_text d = refl

pub notification_text : (method : List ℕ) (ds : List Data) → compact_text (notification method ds) ≡ codes "{\"id\":null,\"method\":" ++ (compact_text (string method) ++ (codes ",\"params\":" ++ (compact_text (array_of ds) ++ codes "}")))
unfolding escape_byte
notification_text method ds = refl

pub one_printed : (s : List ℕ) → print (Token.string s ∷ []) ≡ compact_text (string s)
unfolding print_from
one_printed s = append-nil (quoted s)

pub in_a_row : (a b c d e : List ℕ) → (((a ++ b) ++ c) ++ d) ++ e ≡ a ++ (b ++ (c ++ (d ++ e)))
in_a_row a b c d e = append_assoc ((a ++ b) ++ c) d e ∙ append_assoc (a ++ b) c (d ++ e) ∙ append_assoc a b (c ++ (d ++ e))

-- ---- around a body that is shared

around : (a b c t z : List ℕ) → ((a ++ b) ++ c) ++ (t ++ z) ≡ a ++ (b ++ (c ++ (t ++ z)))
around a b c t z = append_assoc (a ++ b) c (t ++ z) ∙ append_assoc a b (c ++ (t ++ z))

reply_text : (id d : Data) → compact_text (reply id d) ≡ codes "{\"error\":null,\"id\":" ++ (compact_text id ++ (codes ",\"result\":" ++ (compact_text d ++ after_result)))
unfolding escape_byte
reply_text id d = refl

pub reply_around : (id d : Data) → ((codes "{\"error\":null,\"id\":" ++ compact_text id) ++ codes ",\"result\":") ++ (compact_text d ++ after_result) ≡ compact_text (reply id d)
reply_around id d = around (codes "{\"error\":null,\"id\":") (compact_text id) (codes ",\"result\":") (compact_text d) after_result ∙ sym (reply_text id d)

two_items : (i d : Data) → compact_text (array_of (i ∷ d ∷ [])) ++ codes "}" ≡ codes "[" ++ (compact_text i ++ (codes "," ++ (compact_text d ++ after_updates)))
two_items i d =
    ap (λ t. 91 ∷ t) (append_assoc (compact_text i) (44 ∷ (compact_text d ++ 93 ∷ [])) (125 ∷ []) ∙ ap (λ t. compact_text i ++ 44 ∷ t) (append_assoc (compact_text d) (93 ∷ []) (125 ∷ [])))

update_text : (n : Notation) (i d : Data) → compact_text (notification (update_method n) (i ∷ d ∷ [])) ≡ before_id n ++ (compact_text i ++ (codes "," ++ (compact_text d ++ after_updates)))
unfolding escape_byte
update_text update i d = ap (λ t. codes "{\"id\":null,\"method\":\"update\",\"params\":" ++ t) (two_items i d)
update_text update2 i d = ap (λ t. codes "{\"id\":null,\"method\":\"update2\",\"params\":" ++ t) (two_items i d)

pub update_around : (n : Notation) (i d : Data) → ((before_id n ++ compact_text i) ++ codes ",") ++ (compact_text d ++ after_updates) ≡ compact_text (notification (update_method n) (i ∷ d ∷ []))
update_around n i d = around (before_id n) (compact_text i) (codes ",") (compact_text d) after_updates ∙ sym (update_text n i d)

-- ---- around table updates that have a commit's number

since_items : (found : Bool) (n : List ℕ) (d : Data) → compact_text (array_of (boolean found ∷ string n ∷ d ∷ [])) ≡ before_found found ++ (compact_text (string n) ++ (codes "," ++ (compact_text d ++ codes "]")))
unfolding escape_byte
since_items true n d = refl
since_items false n d = refl

closed : (a b c d e f : List ℕ) → ((a ++ b) ++ c) ++ (d ++ (e ++ f)) ≡ a ++ ((b ++ (c ++ (d ++ e))) ++ f)
closed a b c d e f =
    append_assoc (a ++ b) c (d ++ (e ++ f)) ∙ append_assoc a b (c ++ (d ++ (e ++ f)))
    ∙ ap (λ t. a ++ (b ++ (c ++ t))) (sym (append_assoc d e f)) ∙ ap (λ t. a ++ (b ++ t)) (sym (append_assoc c (d ++ e) f)) ∙ ap (λ t. a ++ t) (sym (append_assoc b (c ++ (d ++ e)) f))

-- behind what comes before the result
pub since_around : (before : List ℕ) (id : Data) (found : Bool) (n : List ℕ) (d : Data)
    → ((r : Data) → before ++ (compact_text r ++ after_result) ≡ compact_text (reply id r))
    → (((before ++ before_found found) ++ compact_text (string n)) ++ codes ",") ++ (compact_text d ++ after_updates) ≡ compact_text (reply id (array_of (boolean found ∷ string n ∷ d ∷ [])))
since_around before id found n d whole =
    ap (λ t. (t ++ codes ",") ++ (compact_text d ++ after_updates)) (append_assoc before (before_found found) (compact_text (string n)))
    ∙ closed before (before_found found ++ compact_text (string n)) (codes ",") (compact_text d) (codes "]") (codes "}")
    ∙ ap (λ t. before ++ (t ++ codes "}")) (append_assoc (before_found found) (compact_text (string n)) (codes "," ++ (compact_text d ++ codes "]")) ∙ sym (since_items found n d))
    ∙ whole (array_of (boolean found ∷ string n ∷ d ∷ []))

three_items : (i d : Data) (n : List ℕ) → compact_text (array_of (i ∷ string n ∷ d ∷ [])) ≡ codes "[" ++ (compact_text i ++ (codes "," ++ (compact_text (string n) ++ (codes "," ++ (compact_text d ++ codes "]")))))
unfolding escape_byte
three_items i d n = refl

closing : (i d : Data) (n : List ℕ) → compact_text (array_of (i ∷ string n ∷ d ∷ [])) ++ codes "}" ≡ codes "[" ++ (compact_text i ++ (codes "," ++ (compact_text (string n) ++ (codes "," ++ (compact_text d ++ after_updates)))))
closing i d n =
    ap (λ t. t ++ codes "}") (three_items i d n)
    ∙ ap (λ t. 91 ∷ t) (append_assoc (compact_text i) (44 ∷ (compact_text (string n) ++ (44 ∷ (compact_text d ++ 93 ∷ [])))) (125 ∷ [])
    ∙ ap (λ t. compact_text i ++ 44 ∷ t) (append_assoc (compact_text (string n)) (44 ∷ (compact_text d ++ 93 ∷ [])) (125 ∷ [])
    ∙ ap (λ t. compact_text (string n) ++ 44 ∷ t) (append_assoc (compact_text d) (93 ∷ []) (125 ∷ []))))

update3_text : (i d : Data) (n : List ℕ) → compact_text (notification (codes "update3") (i ∷ string n ∷ d ∷ []))
    ≡ codes "{\"id\":null,\"method\":\"update3\",\"params\":[" ++ (compact_text i ++ (codes "," ++ (compact_text (string n) ++ (codes "," ++ (compact_text d ++ after_updates)))))
unfolding escape_byte
update3_text i d n = ap (λ t. codes "{\"id\":null,\"method\":\"update3\",\"params\":" ++ t) (closing i d n)

five : (a b c d e f : List ℕ) → ((((a ++ b) ++ c) ++ d) ++ e) ++ f ≡ a ++ (b ++ (c ++ (d ++ (e ++ f))))
five a b c d e f = append_assoc (((a ++ b) ++ c) ++ d) e f ∙ in_a_row a b c d (e ++ f)

pub update3_around : (i d : Data) (n : List ℕ)
    → ((((codes "{\"id\":null,\"method\":\"update3\",\"params\":[" ++ compact_text i) ++ codes ",") ++ compact_text (string n)) ++ codes ",") ++ (compact_text d ++ after_updates)
    ≡ compact_text (notification (codes "update3") (i ∷ string n ∷ d ∷ []))
update3_around i d n =
    five (codes "{\"id\":null,\"method\":\"update3\",\"params\":[") (compact_text i) (codes ",") (compact_text (string n)) (codes ",") (compact_text d ++ after_updates)
    ∙ sym (update3_text i d n)
