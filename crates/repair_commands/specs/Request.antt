-- What the words of a command line ask for.
use Rattle.std.specs.Prelude.{ℕ, ◌-◌, ◌||◌, nat_lt, List, [], ◌∷◌, Option, Some, None, bytes_eq, codes, option_map, if◌then◌else◌}
use Rattle.std.specs.Str.Parse.{digits_value}
use Rattle.command_replies.specs.Numbers.{is_entry_number}
use Rattle.solid_mend.specs.declared.mending.Choice.{Choice}
use Rattle.solid_mend.specs.declared.mending.Choice.TheVariants.{Sure, Numbered}
use Rattle.repair_commands.specs.declared.request.LineCommand.{LineCommand}
use Rattle.repair_commands.specs.declared.request.LineCommand.TheVariants.{Relayout, Layout}
use Rattle.repair_commands.specs.declared.request.Request.{Request}
use Rattle.repair_commands.specs.declared.request.Request.TheVariants as request

abbrev pub command_named : List ℕ → Option LineCommand
command_named word = if bytes_eq word (codes "relayout") then Some Relayout else (if bytes_eq word (codes "layout") then Some Layout else None)

abbrev pub one_request : List ℕ → Option Request
one_request number = if is_entry_number number then Some (request.Reorient (digits_value 10 number)) else None

abbrev pub mend_request : List ℕ → Choice → Option Request
mend_request number choice = if is_entry_number number then Some (request.Mend (digits_value 10 number) choice) else None

abbrev pub mended_request : List ℕ → Choice → Option Request
mended_request number choice = if is_entry_number number then Some (request.Mended (digits_value 10 number) choice) else None

abbrev pub numbered_request : List ℕ → List ℕ → Option Request
numbered_request command number =
    if bytes_eq command (codes "reorient") then one_request number
    else (if bytes_eq command (codes "mend") then mend_request number Sure else (if bytes_eq command (codes "mended") then mended_request number Sure else None))

-- the digit from 1 to 6 with this code
abbrev pub choice_at : ℕ → Option Choice
choice_at digit = if nat_lt digit 49 || nat_lt 54 digit then None else Some (Numbered (digit - 48))

-- one digit from 1 to 6
abbrev pub choice_of : List ℕ → Option Choice
choice_of [] = None
choice_of (digit ∷ []) = choice_at digit
choice_of (digit ∷ other ∷ word) = None

abbrev pub chosen_request : List ℕ → List ℕ → Option Choice → Option Request
chosen_request command number None = None
chosen_request command number (Some choice) =
    if bytes_eq command (codes "mend") then mend_request number choice else (if bytes_eq command (codes "mended") then mended_request number choice else None)

-- relayout FILE, layout FILE, reorient FILE N, mend FILE N, mend FILE N R, mended FILE N or mended FILE N R
abbrev pub request_of : List (List ℕ) → Option Request
request_of [] = None
request_of (command ∷ []) = None
request_of (command ∷ file ∷ []) = option_map request.Lines (command_named command)
request_of (command ∷ file ∷ number ∷ []) = numbered_request command number
request_of (command ∷ file ∷ number ∷ word ∷ []) = chosen_request command number (choice_of word)
request_of (command ∷ file ∷ number ∷ word ∷ other ∷ words) = None

abbrev pub second : List (List ℕ) → Option (List ℕ)
second [] = None
second (command ∷ []) = None
second (command ∷ file ∷ words) = Some file

abbrev pub where_requested : Option Request → Option (List ℕ) → Option (List ℕ)
where_requested None file = None
where_requested (Some q) file = file

-- the file that the words name
abbrev pub file_named : List (List ℕ) → Option (List ℕ)
file_named words = where_requested (request_of words) (second words)

abbrev pub usage_line : List ℕ
usage_line = codes "usage: igesolid-repair relayout FILE | layout FILE | reorient FILE N | mend FILE N [R] | mended FILE N [R]\n"
