-- Which lines are commands of a script, and the identifiers that it hands in.
use Rattle.std.specs.Prelude.{◌≡◌, true, false, is_some, codes, refl}
use Rattle.odb_atoms.specs.Uuid.{uuid_text}
use Rattle.odb_examples.proofs.Examples.{computes}
use Rattle.odb_script.specs.Script.{command_of, script_uuid}

pub a_name_of_16 : is_some (command_of (codes "!open ABCDEFGHabcdef09")) ≡ true
a_name_of_16 = refl

pub a_name_of_17 : is_some (command_of (codes "!open ABCDEFGHabcdef090")) ≡ false
a_name_of_17 = refl

pub no_name : is_some (command_of (codes "!open ")) ≡ false
no_name = refl

pub a_name_with_another_character : is_some (command_of (codes "!open A_")) ≡ false
a_name_with_another_character = refl

pub a_space_behind_a_name : is_some (command_of (codes "!open D ")) ≡ false
a_space_behind_a_name = refl

pub two_spaces_in_front_of_a_name : is_some (command_of (codes "!open  D")) ≡ false
two_spaces_in_front_of_a_name = refl

pub open_alone : is_some (command_of (codes "!open")) ≡ false
open_alone = refl

pub the_first_moment : is_some (command_of (codes "!tick ")) ≡ false
the_first_moment = refl

pub a_moment_of_20_digits : is_some (command_of (codes "!tick 00000000000000000005")) ≡ true
a_moment_of_20_digits = refl

pub a_moment_of_21_digits : is_some (command_of (codes "!tick 000000000000000000005")) ≡ false
a_moment_of_21_digits = refl

pub the_last_moment : is_some (command_of (codes "!tick 18446744073709551615")) ≡ true
the_last_moment = refl

pub past_the_last_moment : is_some (command_of (codes "!tick 18446744073709551616")) ≡ false
past_the_last_moment = refl

pub the_most_of_20_digits : is_some (command_of (codes "!tick 99999999999999999999")) ≡ false
the_most_of_20_digits = refl

pub a_space_behind_a_moment : is_some (command_of (codes "!tick 5 ")) ≡ false
a_space_behind_a_moment = refl

pub a_moment_with_a_sign : is_some (command_of (codes "!tick +5")) ≡ false
a_moment_with_a_sign = refl

pub a_word_alone : is_some (command_of (codes "A")) ≡ false
a_word_alone = refl

pub another_command : is_some (command_of (codes "!foo A")) ≡ false
another_command = refl

pub a_blank_in_front : is_some (command_of (codes " {}")) ≡ false
a_blank_in_front = refl

pub a_mark_alone : is_some (command_of (codes "! A")) ≡ false
a_mark_alone = refl

pub an_empty_piece : is_some (command_of (codes "A ")) ≡ true
an_empty_piece = refl

pub a_piece_for_a_name_of_17 : is_some (command_of (codes "ABCDEFGHabcdef090 x")) ≡ false
a_piece_for_a_name_of_17 = refl

pub a_capital_in_a_command : is_some (command_of (codes "!Open A")) ≡ false
a_capital_in_a_command = refl

-- ---- the identifiers of a script's inserts

pub the_first_identifier : uuid_text (script_uuid 1) ≡ codes "00000000-0000-4000-8000-000000000001"
unfolding computes
the_first_identifier = refl

-- the number goes to 2^48, in lower case
pub the_last_identifier : uuid_text (script_uuid 281474976710655) ≡ codes "00000000-0000-4000-8000-ffffffffffff"
unfolding computes
the_last_identifier = refl

pub identifiers_begin_again : uuid_text (script_uuid 281474976710657) ≡ codes "00000000-0000-4000-8000-000000000001"
unfolding computes
identifiers_begin_again = refl
