-- What the words of a command line ask for.
use Rattle.std.specs.Prelude.{ℕ, List, [], ◌∷◌, Option, Some, None, bytes_eq, codes, if◌then◌else◌}
use Rattle.std.specs.Str.Parse.{digits_value}
use Rattle.command_replies.specs.Numbers.{is_entry_number}
use Rattle.where_text.specs.declared.listing.Listing.{Listing}
use Rattle.where_text.specs.declared.listing.Listing.TheVariants as listing
use Rattle.where_command.specs.declared.asked.Asked.{Asked}
use Rattle.where_command.specs.declared.asked.Asked.TheVariants as asked

abbrev pub one_asked : List ℕ → Listing → Option Asked
one_asked number l = if is_entry_number number then Some (asked.Solid (digits_value 10 number) l) else None

-- FILE, FILE N or FILE N all
abbrev pub asked_of : List (List ℕ) → Option Asked
asked_of [] = None
asked_of (file ∷ []) = Some asked.Overview
asked_of (file ∷ number ∷ []) = one_asked number listing.Few
asked_of (file ∷ number ∷ word ∷ []) = if bytes_eq word (codes "all") then one_asked number listing.All else None
asked_of (file ∷ number ∷ word ∷ more ∷ words) = None

abbrev pub first_word : Option Asked → List (List ℕ) → Option (List ℕ)
first_word None words = None
first_word (Some q) [] = None
first_word (Some q) (file ∷ words) = Some file

-- the file that the words name
abbrev pub file_named : List (List ℕ) → Option (List ℕ)
file_named words = first_word (asked_of words) words

abbrev pub usage_line : List ℕ
usage_line = codes "usage: igesolid-where FILE [N [all]]\n"
