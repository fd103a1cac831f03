-- What views and messages have to do with each other: the printed difference of two views leads from the one to the other, and no other message does.
use Rattle.std.specs.Prelude.{◌≡◌, Bool, true, false, List, [], ◌∷◌, Option, Some, None}
use Rattle.serde_json.specs.Data.{Data}
use Rattle.odb_atoms.specs.FinMap.{get}
use Rattle.odb_atoms.specs.Uuid.{Uuid}
use Rattle.odb_request.specs.Request.{Column, Shape, Notation}
use Rattle.odb_monitor.specs.Fold.{fold}
use Rattle.odb_monitor.specs.Names.{AreNamed}
use Rattle.odb_monitor.specs.Update.{table_updates}
use Rattle.odb_monitor.specs.View.{Cells, Contents, View, delta, is_none, nothing}

abbrev pub IsAsLong : {A B : Type 0} → List A → List B → Type 0
IsAsLong [] [] = Unit {0}
IsAsLong [] (y ∷ ys) = ⊥
IsAsLong (x ∷ xs) [] = ⊥
IsAsLong (x ∷ xs) (y ∷ ys) = IsAsLong xs ys

-- a row, if there is one, has a value for each column
abbrev pub IsRowOf : List Column → Option Cells → Type 0
IsRowOf cs None = Unit {0}
IsRowOf cs (Some c) = IsAsLong cs c

abbrev pub IsTableOf : List Column → Contents → Type 0
IsTableOf cs t = (u : Uuid) → IsRowOf cs (get t u)

-- a view of these tables and columns
abbrev pub IsViewOf : List Shape → View → Type 0
IsViewOf [] [] = Unit {0}
IsViewOf [] (t ∷ V) = ⊥
IsViewOf (s ∷ ss) [] = ⊥
IsViewOf (s ∷ ss) (t ∷ V) = IsTableOf s.columns t × IsViewOf ss V

-- A first reply with all of a view folds into the empty one, and gives that view.
abbrev pub FirstReplyGives : Type 0
FirstReplyGives = (n : Notation) (ss : List Shape) → AreNamed ss → (W : View) → IsViewOf ss W → fold n true ss (nothing ss) (table_updates n true ss (delta (nothing ss) W)) ≡ Some W

-- The printed difference of two views that differ leads from the one to the other.
abbrev pub DifferenceLeads : Type 0
DifferenceLeads = (n : Notation) (ss : List Shape) → AreNamed ss → (V W : View) → IsViewOf ss V → IsViewOf ss W → is_none (delta V W) ≡ false → fold n false ss V (table_updates n false ss (delta V W)) ≡ Some W

-- Whatever message the strict client takes from one view to another is the printed difference of the two.
abbrev pub NoOtherLeads : Type 0
NoOtherLeads = (n : Notation) (first : Bool) (ss : List Shape) (V W : View) (d : Data) → IsViewOf ss V → fold n first ss V d ≡ Some W → d ≡ table_updates n first ss (delta V W)
