-- How the rows of a table are printed.
use Rattle.std.specs.Prelude.{◌∷◌, Bool, List, codes, refl}
use Rattle.std.specs.Coded.{Coded, code_by, coded×, coded_bool, coded_list}
use Rattle.json.specs.Token.{Token, key}
use Rattle.odb_atoms.specs.Uuid.{Uuid, uuid_text}
use Rattle.serde_json.specs.Data.{Data, member, no_members, object}
use Rattle.odb_print.specs.Tokens.{tokens_of}
use Rattle.odb_monitor.specs.Update.{row_update}
use Rattle.odb_monitor.specs.View.{Change}
use Rattle.odb_request.specs.Represented.Codes.{column_code, notation_code}
use Rattle.odb_request.specs.Request.{Column, Notation}

-- the notation, whether this is a first reply, and the monitored columns
pub record Layout : Type 0 where
  pub notation : Notation
  pub first : Bool
  pub columns : List Column

abbrev pub layout_code : Coded Layout
layout_code =
    code_by (Notation × (Bool × List Column)) (coded× notation_code (coded× coded_bool (coded_list column_code)))
    (λ l. (l.notation, (l.first, l.columns))) (λ p. record { notation = p.0; first = p.1.0; columns = p.1.1 }) (λ l. refl)

-- `{"new": .., "old": ..}`
abbrev pub new_and_old : Data → Data → Data
new_and_old new old = object (member (codes "new") new (member (codes "old") old no_members))

-- a row under its identifier
abbrev pub row_tokens : Layout → Uuid × Change → List Token
row_tokens l e = key (uuid_text e.0) ∷ tokens_of (row_update l.notation l.first l.columns e.1)
