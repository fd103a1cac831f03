-- The parts of a job, joined: their tokens are those of the whole.
use Rattle.std.proofs.Common.{◌≡◌, ℕ, Bool, true, false, not, ◌&&◌, ◌||◌, if◌then◌else◌, List, [], ◌∷◌, ◌++◌, flat_map, map, Some, None, option_map, is_some, refl, sym, ap, ◌∙◌, append_assoc}
use Rattle.std.specs.List.{list_any}
use Rattle.json.specs.Print.{print}
use Rattle.json.specs.Token.{begin_object, end_object}
use Rattle.json.specs.Tree.{members_tokens}
use Rattle.serde_json.specs.Written.{compact_text, members_outline}
use Rattle.serde_json.proofs.Texts.{print-outline}
use Rattle.odb_monitor.specs.Job.{Job, Part, requests_of, shown_of, updates_of}
use Rattle.odb_monitor.specs.Represented.Part.{changes_shown, is_silent, part_tokens}
use Rattle.odb_print.specs.Tokens.{tokens_of}
use Rattle.odb_monitor.specs.Update.{members, table_parts, table_update, table_updates}
use Rattle.odb_monitor.specs.View.{delta, is_none, shown}
use Rattle.odb_monitor.proofs.Tokens.{member_more}
use Rattle.odb_request.specs.Request.{Notation, Request, shapes, table_names}

abbrev requests : List Part → List Request
requests ps = map (λ p. p.request) ps

shown_parts : (first : Bool) (ps : List Part) → shown first (requests ps) (delta (map (λ p. p.told) ps) (map (λ p. p.asked) ps)) ≡ map (changes_shown first) ps
shown_parts first [] = refl
shown_parts first (p ∷ ps) = ap (λ D. changes_shown first p ∷ D) (shown_parts first ps)

some_shown : (first : Bool) (ps : List Part) → not (is_none (map (changes_shown first) ps)) ≡ list_any (λ p. not (is_silent first p)) ps
some_shown first [] = refl
some_shown first (p ∷ ps) = by (is_silent first p) (some_shown first ps)
  where
    by : (b : Bool) → not (is_none (map (changes_shown first) ps)) ≡ list_any (λ p. not (is_silent first p)) ps → not (b && is_none (map (changes_shown first) ps)) ≡ (not b || list_any (λ p. not (is_silent first p)) ps)
    by true rest = rest
    by false rest = refl

module _ (n : Notation) (first : Bool) where
  each_table : (ps : List Part) → members_tokens (members_outline (members (table_names (shapes (requests ps))) (table_parts n first (shapes (requests ps)) (map (changes_shown first) ps)))) ≡ flat_map (part_tokens n first) ps ++ end_object ∷ []
  each_table [] = refl
  each_table (p ∷ ps) =
      member_more p.request.shape.name (table_update n first p.request.shape.columns (changes_shown first p).entries) (table_names (shapes (requests ps))) (table_parts n first (shapes (requests ps)) (map (changes_shown first) ps))
      ∙ ap (λ ts. part_tokens n first p ++ ts) (each_table ps) ∙ sym (append_assoc (part_tokens n first p) (flat_map (part_tokens n first) ps) (end_object ∷ []))

  updates_tokens : (ps : List Part) → tokens_of (table_updates n first (shapes (requests ps)) (shown first (requests ps) (delta (map (λ p. p.told) ps) (map (λ p. p.asked) ps)))) ≡ begin_object ∷ (flat_map (part_tokens n first) ps ++ end_object ∷ [])
  updates_tokens ps = ap (λ D. tokens_of (table_updates n first (shapes (requests ps)) D)) (shown_parts first ps) ∙ ap (λ ts. begin_object ∷ ts) (each_table ps)

-- whether something of the job is shown
pub job_shown : (j : Job) → not (is_none (shown_of j)) ≡ list_any (λ p. not (is_silent j.first p)) j.parts
job_shown j = ap (λ D. not (is_none D)) (shown_parts j.first j.parts) ∙ some_shown j.first j.parts

-- what is printed is the text of what is sent
pub job_text : (j : Job) → print (begin_object ∷ (flat_map (part_tokens j.notation j.first) j.parts ++ end_object ∷ [])) ≡ compact_text (table_updates j.notation j.first (shapes (requests_of j)) (shown_of j))
job_text j = ap print (sym (updates_tokens j.notation j.first j.parts)) ∙ print-outline (table_updates j.notation j.first (shapes (requests_of j)) (shown_of j))

pub none_sent : (j : Job) (found : Bool) → found ≡ list_any (λ p. not (is_silent j.first p)) j.parts → (j.reply || found) ≡ false → None ≡ option_map compact_text (updates_of j)
none_sent j found is stays = ap (λ b. option_map compact_text (if b then Some (table_updates j.notation j.first (shapes (requests_of j)) (shown_of j)) else None)) (sym stays ∙ ap (λ b. j.reply || b) (is ∙ sym (job_shown j)))

pub some_sent : (j : Job) (found : Bool) (text : List ℕ) → found ≡ list_any (λ p. not (is_silent j.first p)) j.parts → (j.reply || found) ≡ true
    → text ≡ print (begin_object ∷ (flat_map (part_tokens j.notation j.first) j.parts ++ end_object ∷ [])) → Some text ≡ option_map compact_text (updates_of j)
some_sent j found text is goes printed =
    ap Some (printed ∙ job_text j) ∙ ap (λ b. option_map compact_text (if b then Some (table_updates j.notation j.first (shapes (requests_of j)) (shown_of j)) else None)) (sym goes ∙ ap (λ b. j.reply || b) (is ∙ sym (job_shown j)))

-- where something is sent
pub is_sent : (j : Job) (found : Bool) → found ≡ list_any (λ p. not (is_silent j.first p)) j.parts → (j.reply || found) ≡ is_some (updates_of j)
is_sent j found is = ap (λ b. j.reply || b) (is ∙ sym (job_shown j)) ∙ by (j.reply || not (is_none (shown_of j)))
  where
    by : (b : Bool) → b ≡ is_some (if b then Some (table_updates j.notation j.first (shapes (requests_of j)) (shown_of j)) else None)
    by true = refl
    by false = refl
