-- The lines of an open shell's certificate, how they are spelled, and what is wrong with its first two.
use Rattle.std.specs.Prelude.{◌≡◌, ℕ, List, ◌<◌, [], ◌∷◌, ◌++◌, length, codes, ⊤}
use Rattle.cert_text.specs.declared.fault.Misfit.{Misfit}
use Rattle.cert_text.specs.declared.fault.Misfit.TheVariants.{Misspelt, Unfit}
use Rattle.std.specs.List.{AllByRecursion}
use Rattle.cert_text.specs.Text.{IsShort, spaced}

-- Rows, faces and loops are numbered from 1 in a line.
pub data OpenLine : Type 0 where
  head : OpenLine
  -- its directory number, how many rows, edges, corners and faces it has, and how many border lines there are
  shell : ℕ → ℕ → ℕ → ℕ → ℕ → ℕ → OpenLine
  -- the row along an edge, and the row against it
  edge : ℕ → ℕ → OpenLine
  -- the only row of an edge
  lone : ℕ → OpenLine
  -- the rows round a vertex, in a cycle or in a path
  cycle : List ℕ → OpenLine
  path : List ℕ → OpenLine
  -- a face, and which of its loops it is
  point : ℕ → ℕ → OpenLine
  reach : ℕ → OpenLine
  -- border rows one after the other
  border : List ℕ → OpenLine
  end : OpenLine

abbrev pub words : OpenLine → List ℕ
words head = codes "IGESOPEN 1"
words (shell n rows edges corners faces borders) = codes "SHELL" ++ spaced (n ∷ rows ∷ edges ∷ corners ∷ faces ∷ borders ∷ [])
words (edge a b) = codes "E" ++ spaced (a ∷ b ∷ [])
words (lone a) = codes "E" ++ spaced (a ∷ [])
words (cycle rs) = codes "C" ++ spaced rs
words (path rs) = codes "P" ++ spaced rs
words (point face l) = codes "I" ++ spaced (face ∷ l ∷ [])
words (reach r) = codes "R" ++ spaced (r ∷ [])
words (border rs) = codes "B" ++ spaced rs
words end = codes "END"

-- the bytes of a line, with the LF at its end
abbrev pub spelling : OpenLine → List ℕ
spelling line = words line ++ 10 ∷ []

-- the numbers of a line
abbrev pub numbers_of : OpenLine → List ℕ
numbers_of head = []
numbers_of (shell n rows edges corners faces borders) = n ∷ rows ∷ edges ∷ corners ∷ faces ∷ borders ∷ []
numbers_of (edge a b) = a ∷ b ∷ []
numbers_of (lone a) = a ∷ []
numbers_of (cycle rs) = rs
numbers_of (path rs) = rs
numbers_of (point face l) = face ∷ l ∷ []
numbers_of (reach r) = r ∷ []
numbers_of (border rs) = rs
numbers_of end = []

-- a line of rows round a vertex or of border rows has a row
abbrev pub HasRows : OpenLine → Type 0
HasRows (cycle rs) = 0 < length rs
HasRows (path rs) = 0 < length rs
HasRows (border rs) = 0 < length rs
HasRows _ = ⊤

-- each number has at most 9 digits
abbrev pub HasSpelling : OpenLine → Type 0
HasSpelling line = AllByRecursion IsShort (numbers_of line) × HasRows line

-- the bytes are the spelling of the line
abbrev pub IsSpelled : List ℕ → OpenLine → Type 0
IsSpelled bytes line = HasSpelling line × (bytes ≡ spelling line)

-- The bytes spell no line, as a rest without LF never does. No line is too long to be read.
abbrev pub IsMisspelt : List ℕ → Type 0
IsMisspelt bytes = (line : OpenLine) → ¬ IsSpelled bytes line

abbrev pub IsHeadLine : OpenLine → Type 0
IsHeadLine line = line ≡ head

-- a SHELL line of this number
abbrev pub NamesShell : ℕ → OpenLine → Type 0
NamesShell n line = (rows edges corners faces borders : ℕ) × (line ≡ shell n rows edges corners faces borders)

abbrev pub IsShell : OpenLine → Type 0
IsShell line = (n : ℕ) × NamesShell n line

-- The bytes spell a line of this kind.
abbrev pub IsOf : (OpenLine → Type 0) → List ℕ → Type 0
IsOf Wanted bytes = (line : OpenLine) × IsSpelled bytes line × Wanted line

-- The bytes spell no line, or one of another kind.
abbrev pub IsMisfit : (OpenLine → Type 0) → List ℕ → Misfit → Type 0
IsMisfit Wanted bytes Misspelt = IsMisspelt bytes
IsMisfit Wanted bytes Unfit = IsOf (λ line. ¬ Wanted line) bytes
