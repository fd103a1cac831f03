-- By what an index finds rows: the tags of a row. What counts is that no pair is lacking; one too many does no harm, since each row that is found so is tested.
use Rattle.std.specs.Prelude.{◌≡◌, Bool, true, false, Option, Some, None}
use Rattle.odb_atoms.specs.Atom.{Atom, boolean, integer, text, uuid}
use Rattle.odb_atoms.specs.Row.{Row, cell, declared}
use Rattle.odb_atoms.specs.Uuid.{Uuid, same_uuid, zero_uuid}
use Rattle.odb_tables.specs.Indexed.{cells_at, mentions}
use Rattle.odb_tables.specs.Represented.Digest.{digest}
use Rattle.odb_tables.specs.Represented.Pairs.{Pairs, has}
use Rattle.odb_tables.specs.declared.facet.Facet.{Facet}
use Rattle.odb_tables.specs.declared.facet.Facet.TheVariants.{Mentions, Values}

abbrev pub identifier_in : Atom → Option Uuid
identifier_in (integer z) = None
identifier_in (boolean b) = None
identifier_in (text s) = None
identifier_in (uuid u) = Some u

-- the row is found under the tag: the digest of its values in the columns, or an identifier that it mentions
abbrev pub is_tag : Facet → Uuid → Row → Bool
is_tag (Values keys places) tag r = same_uuid tag (digest keys (cells_at places.items r))
is_tag (Mentions place) tag r = mentions tag (cell zero_uuid r (declared place))

-- so is the row, if there is one
abbrev pub is_tag_now : Facet → Uuid → Option Row → Bool
is_tag_now f tag None = false
is_tag_now f tag (Some r) = is_tag f tag r

-- the row of the identifier, if there is one, stands under each of its tags
abbrev pub HasTagsNow : Facet → Pairs → Uuid → Option Row → Type 0
HasTagsNow f s u o = (tag : Uuid) → is_tag_now f tag o ≡ true → has s tag u ≡ true

-- pairs go out of one row alone, and none under a tag that the row has now
abbrev pub Cuts : Facet → Pairs → Pairs → Uuid → Option Row → Type 0
Cuts f old new u now = (tag v : Uuid) → has old tag v ≡ true → (v ≡ u → is_tag_now f tag now ≡ true) → has new tag v ≡ true
