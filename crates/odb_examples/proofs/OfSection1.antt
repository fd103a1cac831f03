-- Transcripts of section 1 of docs/PROTOCOL.md. Made by `tests/examples` from transcripts/: no hand writes here.
use Rattle.std.specs.Prelude.{◌∷◌, [], ◌≡◌, Err, codes, refl}
use Rattle.odb_schema.specs.SchemaText.{bad_id, bad_index, bad_type, schema_of_text, syntax, too_large, unknown_ref_table}
use Rattle.odb_examples.proofs.Examples.{computes}
use Rattle.odb_examples.proofs.TestSchemas.{cnt, fault_257_tables, fault_bounds_on_strings, fault_column_with_an_underscore, fault_empty_enum, fault_empty_index, fault_enum_fraction, fault_enum_null, fault_enum_object, fault_enum_of_another_kind, fault_ephemeral_index, fault_index_of_a_number, fault_index_of_an_unknown_column, fault_name_of_a_digit, fault_no_version, fault_reference_of_strings, fault_reference_to_no_table, fault_type_int, fault_version_of_two_numbers, lengths, net}
use Rattle.odb_examples.proofs.Transcripts.{Plays, shows}

-- A column whose name begins with an underscore
pub a_column_whose_name_begins_with_an_underscore : schema_of_text fault_column_with_an_underscore ≡ Err bad_id
unfolding computes
a_column_whose_name_begins_with_an_underscore = refl

-- A name of the database that is none
pub a_name_of_the_database_that_is_none : schema_of_text fault_name_of_a_digit ≡ Err bad_id
unfolding computes
a_name_of_the_database_that_is_none = refl

-- A version of two numbers
pub a_version_of_two_numbers : schema_of_text fault_version_of_two_numbers ≡ Err syntax
unfolding computes
a_version_of_two_numbers = refl

-- An atomic type that is none
pub an_atomic_type_that_is_none : schema_of_text fault_type_int ≡ Err bad_type
unfolding computes
an_atomic_type_that_is_none = refl

-- A reference to no table
pub a_reference_to_no_table : schema_of_text fault_reference_to_no_table ≡ Err unknown_ref_table
unfolding computes
a_reference_to_no_table = refl

-- An index of an ephemeral column
pub an_index_of_an_ephemeral_column : schema_of_text fault_ephemeral_index ≡ Err bad_index
unfolding computes
an_index_of_an_ephemeral_column = refl

-- Bounds of integers on strings
pub bounds_of_integers_on_strings : schema_of_text fault_bounds_on_strings ≡ Err bad_type
unfolding computes
bounds_of_integers_on_strings = refl

-- Lengths may be negative, and are printed again
pub lengths_may_be_negative_and_are_printed_again : Plays lengths (
    codes "> A get_schema 1 [\"lengths\"]"
    ∷ codes "< A reply 1 {\"name\":\"lengths\",\"tables\":{\"T\":{\"columns\":{\"c\":{\"type\":{\"key\":{\"minLength\":-1,\"type\":\"string\"}}}}}},\"version\":\"1.0.0\"}"
    ∷ [])
unfolding shows
lengths_may_be_negative_and_are_printed_again = refl

-- A column of an index that is no string comes before one that is not there
pub a_column_of_an_index_that_is_no_string_comes_before_one_that_is_not_there : schema_of_text fault_index_of_a_number ≡ Err syntax
unfolding computes
a_column_of_an_index_that_is_no_string_comes_before_one_that_is_not_there = refl

-- A column of an index that is not there comes before one that is no string
pub a_column_of_an_index_that_is_not_there_comes_before_one_that_is_no_string : schema_of_text fault_index_of_an_unknown_column ≡ Err bad_index
unfolding computes
a_column_of_an_index_that_is_not_there_comes_before_one_that_is_no_string = refl

-- A reference of strings comes before one to no table
pub a_reference_of_strings_comes_before_one_to_no_table : schema_of_text fault_reference_of_strings ≡ Err bad_type
unfolding computes
a_reference_of_strings_comes_before_one_to_no_table = refl

-- A schema of 257 tables
pub a_schema_of_257_tables : schema_of_text fault_257_tables ≡ Err too_large
unfolding computes
a_schema_of_257_tables = refl

-- A schema without a version
pub a_schema_without_a_version : schema_of_text fault_no_version ≡ Err syntax
unfolding computes
a_schema_without_a_version = refl

-- An enum of another kind of atom
pub an_enum_of_another_kind_of_atom : schema_of_text fault_enum_of_another_kind ≡ Err bad_type
unfolding computes
an_enum_of_another_kind_of_atom = refl

-- An enum that is a number with a fraction
pub an_enum_that_is_a_number_with_a_fraction : schema_of_text fault_enum_fraction ≡ Err syntax
unfolding computes
an_enum_that_is_a_number_with_a_fraction = refl

-- An enum that is an object
pub an_enum_that_is_an_object : schema_of_text fault_enum_object ≡ Err syntax
unfolding computes
an_enum_that_is_an_object = refl

-- An enum that is null
pub an_enum_that_is_null : schema_of_text fault_enum_null ≡ Err syntax
unfolding computes
an_enum_that_is_null = refl

-- An enum without atoms
pub an_enum_without_atoms : schema_of_text fault_empty_enum ≡ Err bad_type
unfolding computes
an_enum_without_atoms = refl

-- An index without columns
pub an_index_without_columns : schema_of_text fault_empty_index ≡ Err bad_index
unfolding computes
an_index_without_columns = refl

-- A schema is printed without its defaults
pub a_schema_is_printed_without_its_defaults : Plays cnt (
    codes "> A get_schema 1 [\"cnt\"]"
    ∷ codes "< A reply 1 {\"name\":\"cnt\",\"tables\":{\"C\":{\"columns\":{\"n\":{\"type\":\"integer\"},\"s\":{\"type\":{\"key\":\"integer\",\"max\":\"unlimited\",\"min\":0}}}}},\"version\":\"1.0.0\"}"
    ∷ [])
unfolding shows
a_schema_is_printed_without_its_defaults = refl

-- The schema as it is printed
pub the_schema_as_it_is_printed : Plays net (
    codes "> A get_schema 1 [\"net\"]"
    ∷ codes "< A reply 1 {\"name\":\"net\",\"tables\":{\"Bridge\":{\"columns\":{\"name\":{\"type\":\"string\"},\"ports\":{\"type\":{\"key\":{\"refTable\":\"Port\",\"type\":\"uuid\"},\"max\":\"unlimited\",\"min\":0}}},\"indexes\":[[\"name\"]],\"isRoot\":true},\"Port\":{\"columns\":{\"name\":{\"type\":\"string\"},\"opts\":{\"type\":{\"key\":\"string\",\"max\":\"unlimited\",\"min\":0,\"value\":\"string\"}},\"peer\":{\"type\":{\"key\":{\"refTable\":\"Port\",\"refType\":\"weak\",\"type\":\"uuid\"},\"min\":0}},\"tag\":{\"type\":{\"key\":{\"maxInteger\":4095,\"minInteger\":0,\"type\":\"integer\"},\"min\":0}}}}},\"version\":\"1.0.0\"}"
    ∷ codes "> A get_schema 2 [\"other\"]"
    ∷ codes "< A error 2 unknown database"
    ∷ codes "> A get_schema 3 []"
    ∷ codes "< A error 3 syntax error"
    ∷ codes "> A get_schema 4 [5]"
    ∷ codes "< A error 4 syntax error"
    ∷ codes "> A get_schema 5 [\"net\",\"net\"]"
    ∷ codes "< A error 5 syntax error"
    ∷ [])
unfolding shows
the_schema_as_it_is_printed = refl
