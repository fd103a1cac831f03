-- The rows of a listing, and the tables that stand in a text: their tokens are members.
use Rattle.std.proofs.Common.{◌≡◌, ℕ, Bool, true, false, not, if◌then◌else◌, List, [], ◌∷◌, ◌++◌, codes, flat_map, filter_map, map, Option, Some, None, refl, sym, ap, ◌∙◌, append-nil}
use Rattle.std.specs.List.{cons_option, list_any}
use Rattle.std.proofs.lemmas.Grind.{flat_map-append, fold-append}
use Rattle.json.specs.Print.{ends, print}
use Rattle.json.specs.Json as json
use Rattle.json.specs.Token.{Token, begin_object, end_object, key}
use Rattle.json.specs.Tree.{json_tokens, members_tokens}
use Rattle.serde_json.specs.Data.{Data, Members, member, no_members, null, object}
use Rattle.serde_json.specs.Written.{members_outline}
use Rattle.odb_atoms.specs.Uuid.{Uuid, uuid_text}
use Rattle.odb_monitor.specs.Job.{Part}
use Rattle.odb_monitor.specs.Listing.{Listing, all_tokens, listed_tokens}
use Rattle.odb_monitor.specs.Represented.Layout.{Layout, row_tokens}
use Rattle.odb_monitor.specs.Represented.Listing.{listing_in, shown_tokens}
use Rattle.odb_monitor.specs.Represented.Members.{AreMembers, AreRows, ended}
use Rattle.odb_monitor.specs.Represented.Part.{changes_shown, is_silent, part_tokens, tables_text}
use Rattle.odb_monitor.specs.Represented.Sides.{line_at, sides_in}
use Rattle.odb_monitor.specs.Update.{all_cells, differences, old_cells, one, row_object, row_update, row_updates, set_cells, table_update}
use Rattle.odb_monitor.specs.View.{Change, comes_in, differs, goes_out, is_empty}
use Rattle.odb_monitor.specs.declared.comparison.Comparison.{Comparison}
use Rattle.odb_monitor.specs.declared.sides.Sides.{Sides}
use Rattle.odb_monitor.specs.declared.told.Told.{Told}
use Rattle.odb_monitor.proofs.Pieces.{members_more}
use Rattle.odb_monitor.proofs.TableTexts.{each_row}
use Rattle.odb_print.specs.Tokens.{member_tokens, tokens_of}
use Rattle.odb_request.specs.Request.{Column, Notation, Request, update, update2}

-- an object is the end of a value
members_end : (after : Bool) (ms : json.Members) → ended after (members_tokens ms) ≡ true
members_end after json.no_members = refl
members_end after (json.member k j ms) = fold-append (λ _ t. ends t) false (json_tokens j) (members_tokens ms) ∙ members_end (ended false (json_tokens j)) ms

object_end : (after : Bool) (ms : Members) → ended after (tokens_of (object ms)) ≡ true
object_end after ms = members_end false (members_outline ms)

one_end : (after : Bool) (name : List ℕ) (d : Data) → ended after (tokens_of (one name d)) ≡ true
one_end after name d = object_end after (member name d no_members)

row_end : (n : Notation) (first : Bool) (cs : List Column) (c : Change) (after : Bool) → ended after (tokens_of (row_update n first cs c)) ≡ true
row_end update first cs (comes_in new) after = one_end after (codes "new") (row_object cs (all_cells new))
row_end update first cs (goes_out old) after = one_end after (codes "old") (row_object cs (all_cells old))
row_end update first cs (differs old new) after = object_end after (member (codes "new") (row_object cs (all_cells new)) (member (codes "old") (row_object cs (old_cells old new)) no_members))
row_end update2 first cs (comes_in new) after = one_end after (if first then codes "initial" else codes "insert") (row_object cs (set_cells cs new))
row_end update2 first cs (goes_out old) after = one_end after (codes "delete") null
row_end update2 first cs (differs old new) after = one_end after (codes "modify") (row_object cs (differences cs old new))

shown_members : (l : Layout) (o : Option (Uuid × Change)) → (b : Bool) × AreMembers b (shown_tokens l o)
shown_members l None = (false, refl)
shown_members l (Some e) = (true, ((uuid_text e.0, tokens_of (row_update l.notation l.first l.columns e.1), refl), λ after. row_end l.notation l.first l.columns e.1 false))

-- each row of a listing is a member, or nothing
pub listed_rows : {X : Type 0} (l : Layout) (f : X → Option (Uuid × Change)) (xs : List X) → AreRows (map (λ x. shown_tokens l (f x)) xs)
listed_rows l f [] = tt
listed_rows l f (x ∷ xs) = (shown_members l (f x), listed_rows l f xs)

-- ---- the rows of a part

each_shown : {X : Type 0} (l : Layout) (g : X → Option (Uuid × Change)) (xs : List X) → all_tokens (map (λ x. shown_tokens l (g x)) xs) ≡ flat_map (row_tokens l) (filter_map g xs)
each_shown l g [] = refl
each_shown l g (x ∷ xs) = by (g x) (each_shown l g xs)
  where
    by : (o : Option (Uuid × Change)) → all_tokens (map (λ y. shown_tokens l (g y)) xs) ≡ flat_map (row_tokens l) (filter_map g xs)
        → shown_tokens l o ++ all_tokens (map (λ y. shown_tokens l (g y)) xs) ≡ flat_map (row_tokens l) (cons_option o (filter_map g xs))
    by None h = h
    by (Some e) h = ap (λ ts. row_tokens l e ++ ts) h

mapped_rows : {X Y : Type 0} (g : Y → Option (Uuid × Change)) (h : X → Y) (xs : List X) → filter_map (λ x. g (h x)) xs ≡ filter_map g (map h xs)
mapped_rows g h [] = refl
mapped_rows g h (x ∷ xs) = ap (cons_option (g (h x))) (mapped_rows g h xs)

as_member : (l : Layout) (name : List ℕ) (es : List (Uuid × Change))
    → (if is_empty (flat_map (row_tokens l) es) then [] else key name ∷ begin_object ∷ (flat_map (row_tokens l) es ++ end_object ∷ [])) ≡ member_tokens name (table_update l.notation l.first l.columns es)
as_member l name [] = refl
as_member l name (e ∷ es) = ap (λ ts. key name ∷ begin_object ∷ ts) (sym (each_row l (e ∷ es)))

abbrev plain : Notation → Bool → Told → Request → List Sides → Listing
plain n first w q sides = record { name = q.shape.name; rows = map (λ s. shown_tokens (record { notation = n; first = first; columns = q.shape.columns }) (line_at first w q (sides_in s))) sides }

-- where the rows are those of which something is shown
pub listed_part : (n : Notation) (by : Comparison) (sides : List Sides) (first : Bool) (w : Told) (q : Request) (p : Part) → by.first ≡ first → by.told ≡ w → by.request.now ≡ q → q ≡ p.request
    → filter_map (line_at first w q) (map sides_in sides) ≡ (changes_shown first p).entries → listed_tokens (listing_in n by sides) ≡ part_tokens n first p
listed_part n by sides first w q p f g h asked is =
    (λ j. listed_tokens (plain n (f j) (g j) (h j) sides))
    ∙ ap (λ ts. if is_empty ts then [] else key q.shape.name ∷ begin_object ∷ (ts ++ end_object ∷ [])) (each_shown l (λ s. line_at first w q (sides_in s)) sides ∙ ap (flat_map (row_tokens l)) (mapped_rows (line_at first w q) sides_in sides ∙ is))
    ∙ as_member l q.shape.name (changes_shown first p).entries
    ∙ ap (λ (r : Request). member_tokens r.shape.name (table_update n first r.shape.columns (changes_shown first p).entries)) asked
  where
    l : Layout
    l = record { notation = n; first = first; columns = q.shape.columns }

-- ---- tables

module _ (n : Notation) (first : Bool) where
  part_members : (p : Part) → AreMembers (not (is_silent first p)) (part_tokens n first p)
  part_members p = by (changes_shown first p).entries
    where
      by : (es : List (Uuid × Change)) → AreMembers (not (is_empty es)) (member_tokens p.request.shape.name (table_update n first p.request.shape.columns es))
      by [] = refl
      by (e ∷ es) = ((p.request.shape.name, tokens_of (object (row_updates n first p.request.shape.columns (e ∷ es))), refl), λ after. object_end false (row_updates n first p.request.shape.columns (e ∷ es)))

  pub parts_members : (ps : List Part) → AreMembers (list_any (λ p. not (is_silent first p)) ps) (flat_map (part_tokens n first) ps)
  parts_members [] = refl
  parts_members (p ∷ ps) = members_more (not (is_silent first p)) (list_any (λ r. not (is_silent first r)) ps) (part_tokens n first p) (flat_map (part_tokens n first) ps) (part_members p) (parts_members ps)

  -- one table more
  pub tables_more : (ps : List Part) (p : Part) (ts : List Token) → ts ≡ part_tokens n first p → print (begin_object ∷ (flat_map (part_tokens n first) ps ++ ts)) ≡ tables_text n first (ps ++ p ∷ [])
  tables_more ps p ts is =
      ap (λ us. print (begin_object ∷ (flat_map (part_tokens n first) ps ++ us))) (is ∙ sym (append-nil (part_tokens n first p)))
      ∙ ap (λ us. print (begin_object ∷ us)) (sym (flat_map-append (part_tokens n first) ps (p ∷ [])))

  -- a table of which nothing is shown
  pub tables_same : (ps : List Part) (p : Part) → [] ≡ part_tokens n first p → tables_text n first ps ≡ tables_text n first (ps ++ p ∷ [])
  tables_same ps p is = ap (λ us. print (begin_object ∷ us)) (sym (append-nil (flat_map (part_tokens n first) ps))) ∙ tables_more ps p [] is
