-- What is put together of all tables of a job is the text of what is sent of it.
use Rattle.std.proofs.Common.{◌≡◌, ℕ, Bool, true, false, not, ◌||◌, List, [], ◌∷◌, ◌++◌, flat_map, length, nat_lt, None, Some, option_map, sym, ap, ◌∙◌, if◌then◌else◌}
use Rattle.std.specs.List.{list_all, list_any}
use Rattle.json.specs.Print.{print}
use Rattle.json.specs.Token.{begin_object, end_object, key}
use Rattle.serde_json.specs.Written.{compact_text}
use Rattle.odb_monitor.specs.Job.{Job, Part, updates_of}
use Rattle.odb_monitor.specs.Listing.{AreOfRows, Listing, all_tokens, listed_tokens}
use Rattle.odb_monitor.specs.Represented.Joining.{with_table}
use Rattle.odb_monitor.specs.Represented.Members.{AreRows}
use Rattle.odb_monitor.specs.Represented.Part.{is_silent, part_tokens, tables_text}
use Rattle.odb_monitor.specs.View.{is_empty}
use Rattle.odb_monitor.proofs.Joined.{none_sent, some_sent}
use Rattle.odb_monitor.proofs.Listed.{parts_members, tables_more, tables_same}
use Rattle.odb_monitor.proofs.Pieces.{none_shown, object_closed, object_text, table_put}
use Rattle.odb_request.specs.Request.{Notation}

-- a table that is put, where some row is shown
pub put_some : (l : Listing) (texts : List (List ℕ)) (text : List ℕ) (n : Notation) (first : Bool) (ps : List Part) (p : Part) → AreRows l.rows → AreOfRows l.rows texts → list_all is_empty texts ≡ false
    → text ≡ tables_text n first ps → listed_tokens l ≡ part_tokens n first p → with_table text (print (key l.name ∷ begin_object ∷ [])) texts ≡ tables_text n first (ps ++ p ∷ [])
put_some l texts text n first ps p each of some is listed =
    table_put (list_any (λ r. not (is_silent first r)) ps) l (flat_map (part_tokens n first) ps) texts text (parts_members n first ps) each of (sym (none_shown texts l.rows each of) ∙ some) is
    ∙ tables_more n first ps p (listed_tokens l) listed

-- and where none is
pub put_none : (l : Listing) (texts : List (List ℕ)) (text : List ℕ) (n : Notation) (first : Bool) (ps : List Part) (p : Part) → AreRows l.rows → AreOfRows l.rows texts → list_all is_empty texts ≡ true
    → text ≡ tables_text n first ps → listed_tokens l ≡ part_tokens n first p → text ≡ tables_text n first (ps ++ p ∷ [])
put_none l texts text n first ps p each of none is listed =
    is ∙ tables_same n first ps p (sym (ap (λ b. if b then [] else key l.name ∷ begin_object ∷ (all_tokens l.rows ++ end_object ∷ [])) (sym (none_shown texts l.rows each of) ∙ none)) ∙ listed)

module _ (j : Job) (text : List ℕ) (is : text ≡ tables_text j.notation j.first j.parts) where
  some_row : nat_lt 1 (length text) ≡ list_any (λ p. not (is_silent j.first p)) j.parts
  some_row = object_text (list_any (λ p. not (is_silent j.first p)) j.parts) (flat_map (part_tokens j.notation j.first) j.parts) text (parts_members j.notation j.first j.parts) is

  pub nothing_sent : (found : Bool) → found ≡ nat_lt 1 (length text) → (j.reply || found) ≡ false → None ≡ option_map compact_text (updates_of j)
  nothing_sent found tested stays = none_sent j found (tested ∙ some_row) stays

  pub text_sent : (found : Bool) → found ≡ nat_lt 1 (length text) → (j.reply || found) ≡ true → Some (text ++ 125 ∷ []) ≡ option_map compact_text (updates_of j)
  text_sent found tested goes = some_sent j found (text ++ 125 ∷ []) (tested ∙ some_row) goes (object_closed (flat_map (part_tokens j.notation j.first) j.parts) text is)
