-- The forms that the words of a command line may have.
use Rattle.std.specs.Prelude.{ℕ, ◌≤◌, Bool, true, false, ◌&&◌, nat_eq, List, [], ◌∷◌, ◌++◌, length, map, flat_map, zip, Option, Some, None, option_map}
use Rattle.std.specs.Prelude.{option_and_then, unwrap_or, find, position, slice_get, bytes_eq, codes}
use Rattle.std.specs.List.{list_any, list_all}
use Rattle.std.specs.Str.Parse.{digits_value}
use Rattle.iges_base.specs.declared.TheConstants.{LINE_LIMIT}
use Rattle.command_replies.specs.Numbers.{is_number}
use Rattle.iges_solid_cmd.specs.declared.form.Command.{Command}
use Rattle.iges_solid_cmd.specs.declared.form.Command.TheVariants as command
use Rattle.iges_solid_cmd.specs.declared.form.FileCommand.TheVariants as of_file
use Rattle.iges_solid_cmd.specs.declared.form.WholeCommand.{WholeCommand}
use Rattle.iges_solid_cmd.specs.declared.form.WholeCommand.TheVariants as of_whole
use Rattle.iges_solid_cmd.specs.declared.form.EntityCommand.{EntityCommand}
use Rattle.iges_solid_cmd.specs.declared.form.EntityCommand.TheVariants as of_entity
use Rattle.iges_solid_cmd.specs.declared.form.CertificateCommand.{CertificateCommand}
use Rattle.iges_solid_cmd.specs.declared.form.CertificateCommand.TheVariants as of_certificate
use Rattle.iges_solid_cmd.specs.declared.form_slot.Operand.{Operand}
use Rattle.iges_solid_cmd.specs.declared.form_slot.Operand.TheVariants as operand

-- a fixed word, the name of a file or of a certificate, or a number with its most digits, its least and its greatest value
pub data FormSlot : Type 0 where
  word : List ℕ → FormSlot
  file certificate : FormSlot
  number : ℕ → ℕ → ℕ → FormSlot

-- what the words of a form are, and the command for the number among them
pub record Form : Type 0 where
  pub slots : List FormSlot
  pub command : ℕ → Command

abbrev pub entry_number : FormSlot
entry_number = number 7 1 LINE_LIMIT

abbrev pub sample_number : FormSlot
sample_number = number 3 3 200

-- these slots for a command for all of a file
abbrev pub for_whole : List FormSlot → WholeCommand → Form
for_whole slots c = record { slots = slots; command = λ _. command.File (of_file.Whole c) }

-- this word, a file and a directory number
abbrev pub for_entity : List ℕ → EntityCommand → Form
for_entity text c = record { slots = word text ∷ file ∷ entry_number ∷ []; command = λ n. command.File (of_file.Entity c n) }

-- this word, a file and a certificate
abbrev pub for_certificate : List ℕ → CertificateCommand → Form
for_certificate text c = record { slots = word text ∷ file ∷ certificate ∷ []; command = λ _. command.File (of_file.Certificate c) }

-- the listed forms, in the order of the usage line
abbrev pub forms : List Form
forms =
    for_whole (word (codes "solids") ∷ file ∷ []) of_whole.Solids ∷
    for_entity (codes "show") of_entity.Show ∷
    for_entity (codes "certify") of_entity.Certify ∷
    for_certificate (codes "verify") of_certificate.Verify ∷
    for_entity (codes "extract") of_entity.Extract ∷
    record { slots = word (codes "sample") ∷ sample_number ∷ []; command = λ n. command.Sample n } ∷
    for_certificate (codes "upgrade") of_certificate.Upgrade ∷
    for_whole (word (codes "certify") ∷ file ∷ word (codes "all") ∷ []) of_whole.CertifyAll ∷
    for_entity (codes "open") of_entity.Open ∷
    for_certificate (codes "open-verify") of_certificate.OpenVerify ∷
    for_entity (codes "orient") of_entity.Orient ∷
    for_certificate (codes "orient-verify") of_certificate.OrientVerify ∷
    for_entity (codes "compact") of_entity.Compact ∷ []

-- ---- reading words

abbrev pub fits : FormSlot → List ℕ → Bool
fits (word text) w = bytes_eq w text
fits file w = true
fits certificate w = true
fits (number digits least greatest) w = is_number digits least greatest w

-- the words are in the slots, one in each
abbrev pub all_fit : List FormSlot → List (List ℕ) → Bool
all_fit slots words = nat_eq (length slots) (length words) && list_all (λ p. fits p.0 p.1) (zip slots words)

-- the slot is for such a word
abbrev pub holds : Operand → FormSlot → Bool
holds operand.File file = true
holds operand.Certificate certificate = true
holds operand.Number (number digits least greatest) = true
holds _ _ = false

-- the word that is in the first slot for such
abbrev pub word_in : Operand → List FormSlot → List (List ℕ) → Option (List ℕ)
word_in what slots words = option_and_then (slice_get words) (position (holds what) slots)

-- the number among the words, and 0 where there is none
abbrev pub number_among : List FormSlot → List (List ℕ) → ℕ
number_among slots words = unwrap_or (option_map (digits_value 10) (word_in operand.Number slots words)) 0

abbrev pub form_of : List (List ℕ) → Option Form
form_of words = find (λ (form : Form). all_fit form.slots words) forms

-- the command of the first form that the words have
abbrev pub command_of : List (List ℕ) → Option Command
command_of words = option_map (λ (form : Form). form.command (number_among form.slots words)) (form_of words)

-- ---- which sources a form reads

-- the words have a form with a slot for such
abbrev pub has_named : Operand → List (List ℕ) → Bool
has_named what words = elim (form_of words) [ Some form ↦ list_any (holds what) form.slots | None ↦ false ]

-- the word in the first such slot of the form that the words have
abbrev pub named : Operand → List (List ℕ) → Option (List ℕ)
named what words = elim (form_of words) [ Some form ↦ word_in what form.slots words | None ↦ None ]

abbrev pub reads_file : List (List ℕ) → Bool
reads_file = has_named operand.File

abbrev pub reads_certificate : List (List ℕ) → Bool
reads_certificate = has_named operand.Certificate

-- the file and the certificate that the words name
abbrev pub file_named : List (List ℕ) → Option (List ℕ)
file_named = named operand.File

abbrev pub certificate_named : List (List ℕ) → Option (List ℕ)
certificate_named = named operand.Certificate

-- the command is for a file
abbrev pub takes_file : Command → Bool
takes_file (command.File c) = true
takes_file (command.Sample n) = false

-- the command is for a file and a certificate
abbrev pub takes_certificate : Command → Bool
takes_certificate (command.File (of_file.Certificate c)) = true
takes_certificate _ = false

-- the sizes of samples
abbrev pub IsSize : ℕ → Type 0
IsSize n = (3 ≤ n) × (n ≤ 200)

-- of a sample the size is one
abbrev pub IsSized : Command → Type 0
IsSized (command.File c) = Unit {0}
IsSized (command.Sample n) = IsSize n

-- ---- the usage line

abbrev pub slot_text : FormSlot → List ℕ
slot_text (word text) = text
slot_text file = codes "FILE"
slot_text certificate = codes "CERT"
slot_text (number digits least greatest) = codes "N"

-- this text before each of these
abbrev pub joined_after : List ℕ → List (List ℕ) → List ℕ
joined_after between texts = flat_map (λ text. between ++ text) texts

-- these texts, with this one between each two
abbrev pub join_with : List ℕ → List (List ℕ) → List ℕ
join_with between [] = []
join_with between (text ∷ texts) = text ++ joined_after between texts

abbrev pub form_text : Form → List ℕ
form_text form = join_with (codes " ") (map slot_text form.slots)

abbrev pub usage_line : List ℕ
usage_line = codes "usage: igesolid " ++ join_with (codes " | ") (map form_text forms) ++ 10 ∷ []
