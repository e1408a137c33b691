-- Lines taken one after the other, and bytes fed piece after piece.
use Rattle.std.specs.Prelude.{◌≡◌, ℕ, ◌+◌, ◌<◌, Bool, List, length, map, Option, None, IsTrue, MatchOption}
use Rattle.std.specs.Str.Lines.{strip_carriage_return}
use Rattle.iges_base.specs.Ended.{IsBegun}
use Rattle.iges_base.specs.First.{IsFirst}
use Rattle.iges_base.specs.InLine.{is_in_line}
use Rattle.iges_lines.specs.declared.fault.LineFault.{LineFault}
use Rattle.iges_lines.specs.Lines.{SectionLines}
use Rattle.iges_lines.specs.LineFaults.{sections_of, is_terminated, line_fault}

-- what is kept of lines: their sections, whether a terminate line was one of them, the number of the next line, and the first fault
pub record Taken : Type 0 where
  pub sections : SectionLines
  pub terminated : Bool
  pub number : ℕ
  pub fault : Option LineFault

-- None of these lines fails, and this is what is kept of them.
pub record ArePassed (ls : List (List ℕ)) (t : Taken) : Type 0 where
  pub passed : (i : ℕ) → i < length ls → line_fault ls i ≡ None
  pub sections : t.sections ≡ sections_of ls
  pub terminated : t.terminated ≡ is_terminated ls
  pub number : t.number ≡ length ls + 1

-- the first of these lines that fails, and why
pub record FailsAt (ls : List (List ℕ)) (fault : LineFault) : Type 0 where
  pub place : ℕ
  pub within : place < length ls
  pub line : fault.line ≡ place + 1
  pub first : IsFirst (line_fault ls) place fault.reason

abbrev pub AreTaken : List (List ℕ) → Taken → Type 0
AreTaken ls t = MatchOption t.fault (ArePassed ls t) (FailsAt ls)

-- The bytes are lines that were taken, each ended by an LF, and a rest. After a fault the rest isn't kept.
pub record StandsFor (t : Taken) (rest bytes : List ℕ) : Type 0 where
  pub pieces : List (List ℕ)
  pub more : List ℕ
  pub begun : IsBegun bytes pieces more
  pub taken : AreTaken (map strip_carriage_return pieces) t
  pub still : t.fault ≡ None → (more ≡ rest) × IsTrue (is_in_line rest)

-- what a feed keeps: the lines that were taken, the rest after the last LF, and how many bytes came
pub record Fed : Type 0 where
  pub taken : Taken
  pub rest : List ℕ
  pub len : ℕ

-- the feed stands for these bytes
pub record IsFed (feed : Fed) (bytes : List ℕ) : Type 0 where
  pub len : feed.len ≡ length bytes
  pub stands : StandsFor feed.taken feed.rest bytes
