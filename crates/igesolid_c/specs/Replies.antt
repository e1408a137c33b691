-- What a caller gets.
use Rattle.std.specs.Prelude.{◌≡◌, ℕ, List, []}
use Rattle.command_replies.specs.Answer.{code_of}
use Rattle.command_replies.specs.declared.answer.Answer.{Answer}
use Rattle.command_replies.specs.declared.answer.Answer.TheVariants.{ReadFault, WriteFault, NoMemory}
use Rattle.iges_solid_cmd.specs.Due.{Due}
use Rattle.repair_commands.specs.Due as of_repair
use Rattle.where_command.specs.Due as of_where
use Rattle.igesolid_c.specs.Words.{AreWords}

-- the status is that of an answer that is due with this text, for the words and the bytes of the file and of the certificate
abbrev pub IsDue : List ℕ → List ℕ → List ℕ → ℕ → List ℕ → Type 0
IsDue words file certificate status text =
    (ws : List (List ℕ)) × AreWords words ws × (answer : Answer) × (status ≡ code_of answer) × Due ws file certificate answer text

-- the same for words of igesolid-where
abbrev pub IsDueOfWhere : List ℕ → List ℕ → ℕ → List ℕ → Type 0
IsDueOfWhere words file status text =
    (ws : List (List ℕ)) × AreWords words ws × (answer : Answer) × (status ≡ code_of answer) × of_where.Due ws file answer text

-- the same for words of igesolid-repair
abbrev pub IsDueOfRepair : List ℕ → List ℕ → ℕ → List ℕ → Type 0
IsDueOfRepair words file status text =
    (ws : List (List ℕ)) × AreWords words ws × (answer : Answer) × (status ≡ code_of answer) × of_repair.Due ws file answer text

-- the status says that memory ran out, and there is no text
abbrev pub IsNone : ℕ → List ℕ → Type 0
IsNone status text = (status ≡ 6) × (text ≡ [])

-- the answers that a text goes with, where no read and no write has failed
abbrev pub IsSettled : Answer → Type 0
IsSettled ReadFault = ⊥
IsSettled WriteFault = ⊥
IsSettled NoMemory = ⊥
IsSettled _ = Unit {0}
