-- What a listing of the code stands for.
use Rattle.std.specs.Prelude.{ℕ, [], List, Option, Some, None, map, refl}
use Rattle.std.specs.Coded.{Coded, code_by, coded×, coded_list, coded_ℕ}
use Rattle.json.specs.Token.{Token, tokens_code}
use Rattle.odb_atoms.specs.Uuid.{Uuid}
use Rattle.odb_monitor.specs.Listing.{Listing}
use Rattle.odb_monitor.specs.Represented.Layout.{Layout, row_tokens}
use Rattle.odb_monitor.specs.Represented.Sides.{line_at, sides_in}
use Rattle.odb_monitor.specs.View.{Change}
use Rattle.odb_monitor.specs.declared.comparison.Comparison.{Comparison}
use Rattle.odb_monitor.specs.declared.sides.Sides.{Sides}
use Rattle.odb_request.specs.Request.{Notation}

abbrev pub listing_code : Coded Listing
listing_code =
    code_by (List ℕ × List (List Token)) (coded× (coded_list coded_ℕ) (coded_list tokens_code))
    (λ l. (l.name, l.rows)) (λ p. record { name = p.0; rows = p.1 }) (λ l. refl)

-- what is shown of a row, if something is
abbrev pub shown_tokens : Layout → Option (Uuid × Change) → List Token
shown_tokens l None = []
shown_tokens l (Some e) = row_tokens l e

-- of a row as it was and as it is
abbrev pub side_tokens : Layout → Comparison → Sides → List Token
side_tokens l by s = shown_tokens l (line_at by.first by.told by.request.now (sides_in s))

-- how the rows are printed that are compared so
abbrev pub layout_of : Notation → Comparison → Layout
layout_of n by = record { notation = n; first = by.first; columns = by.request.now.shape.columns }

abbrev pub listing_in : Notation → Comparison → List Sides → Listing
listing_in n by sides = record { name = by.request.now.shape.name; rows = map (side_tokens (layout_of n by) by) sides }
