-- Three marks between the changes of one row: from what each stands for to now, and how much is kept for them. [P 10.3]
use Rattle.std.specs.Prelude.{◌≡◌, ℕ, pos, List, [], ◌∷◌, Option, Some, None, option_map, refl}
use Rattle.odb_atoms.specs.Atom.{integer}
use Rattle.odb_atoms.specs.FinMap.{empty, entries_of, insert}
use Rattle.odb_atoms.specs.Row.{Row}
use Rattle.odb_atoms.specs.Uuid.{Uuid, zero_uuid}
use Rattle.odb_atoms.specs.Value.{atoms, set_of}
use Rattle.odb_chain.specs.Chains.{Chains, absorbed, chains_of, marked, released, standing}
use Rattle.odb_chain.specs.Segments.{contents_held, segments_held}
use Rattle.odb_examples.proofs.Examples.{computes}
use Rattle.odb_tables.specs.Change.{change, change_between}
use Rattle.odb_tables.specs.Database.{Db, Table, table_at}

abbrev with_n : ℕ → Row
with_n n = record { version = zero_uuid; columns = set_of (atoms (integer (pos n) ∷ [])) ∷ [] }

-- a table whose only row may have this number
abbrev holding : Option ℕ → Table
holding None = empty
holding (Some n) = insert empty zero_uuid (with_n n)

abbrev then_holding : Option ℕ → Chains → Chains
then_holding n k = absorbed (change_between k.db (holding n ∷ [])) k

-- mark 0; the row comes with 1; mark 1; it has 2; mark 2; it goes
abbrev three_marks : Chains
three_marks = then_holding None (marked 0 (then_holding (Some 2) (marked 0 (then_holding (Some 1) (marked 0 (chains_of (holding None ∷ [])))))))

abbrev without_second : Chains
without_second = released 0 1 three_marks

abbrev with_third_alone : Chains
with_third_alone = released 0 0 without_second

-- the rows by which the content of a mark differs from now, each as it was and as it is
abbrev since : Chains → ℕ → Option (List (Uuid × (Option Row × Option Row)))
since k p = option_map (λ x. entries_of (change x.content (table_at k.db 0))) (standing k 0 p)

abbrev gone_from : ℕ → Option (List (Uuid × (Option Row × Option Row)))
gone_from n = Some ((zero_uuid, (Some (with_n n), None)) ∷ [])

pub a_row_that_came_and_went_is_no_change : since three_marks 0 ≡ Some []
unfolding computes
a_row_that_came_and_went_is_no_change = refl

pub a_later_mark_has_the_row_as_it_was : since three_marks 1 ≡ gone_from 1
unfolding computes
a_later_mark_has_the_row_as_it_was = refl

pub the_last_mark_has_the_row_as_it_was_last : since three_marks 2 ≡ gone_from 2
unfolding computes
the_last_mark_has_the_row_as_it_was_last = refl

pub three_contents_are_held : contents_held three_marks 0 ≡ 3
unfolding computes
three_contents_are_held = refl

pub another_mark_that_goes_leaves_the_first : since without_second 0 ≡ Some []
unfolding computes
another_mark_that_goes_leaves_the_first = refl

pub another_mark_that_goes_leaves_the_last : since without_second 2 ≡ gone_from 2
unfolding computes
another_mark_that_goes_leaves_the_last = refl

pub its_content_goes_with_its_mark : since without_second 1 ≡ None
unfolding computes
its_content_goes_with_its_mark = refl

pub two_contents_are_held : contents_held without_second 0 ≡ 2
unfolding computes
two_contents_are_held = refl

pub one_content_is_held : contents_held with_third_alone 0 ≡ 1
unfolding computes
one_content_is_held = refl

pub one_segment_is_held : segments_held with_third_alone 0 ≡ 1
unfolding computes
one_segment_is_held = refl
