-- How many lines of each section have come.
use Rattle.std.specs.Prelude.{ℕ, ◌+◌, ◌≤◌, Bool, true, not, ◌&&◌, ◌==◌}
use Rattle.line_layout.specs.declared.counting.LineCounts.{LineCounts}
use Rattle.line_layout.specs.declared.letters.Section.{Section}
use Rattle.line_layout.specs.declared.letters.Section.TheVariants.{Start, Global, Directory, Param, Terminate}

abbrev pub no_lines : LineCounts
no_lines = record { start = 0; global = 0; directory = 0; param = 0 }

-- the lines of a section so far, and none of the last, which has one
abbrev pub count_of : LineCounts → Section → ℕ
count_of c Start = c.start
count_of c Global = c.global
count_of c Directory = c.directory
count_of c Param = c.param
count_of c Terminate = 0

abbrev pub next_number : LineCounts → Section → ℕ
next_number c s = count_of c s + 1

-- with one more line
abbrev pub counted : LineCounts → Section → LineCounts
counted c Start = record c { start = c.start + 1 }
counted c Global = record c { global = c.global + 1 }
counted c Directory = record c { directory = c.directory + 1 }
counted c Param = record c { param = c.param + 1 }
counted c Terminate = c

-- no line of a later section has come
abbrev pub is_in_order : LineCounts → Section → Bool
is_in_order c Start = c.global == 0 && c.directory == 0 && c.param == 0
is_in_order c Global = c.directory == 0 && c.param == 0
is_in_order c Directory = c.param == 0
is_in_order c Param = true
is_in_order c Terminate = true

-- the sections that must come before it have come
abbrev pub is_due : LineCounts → Section → Bool
is_due c Start = true
is_due c Global = not (c.start == 0)
is_due c Directory = not (c.global == 0)
is_due c Param = not (c.global == 0)
is_due c Terminate = not (c.global == 0)

-- seven columns can number them
pub record AreFew (c : LineCounts) : Type 0 where
  pub start : c.start ≤ 9999999
  pub global : c.global ≤ 9999999
  pub directory : c.directory ≤ 9999999
  pub param : c.param ≤ 9999999
