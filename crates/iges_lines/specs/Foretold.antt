-- Private: how the next line will end, where that is known.
use Rattle.std.specs.Prelude.{◌≡◌, ◌<◌, ℕ, ◌+◌, false, List, ◌++◌, length, Option, None, ⊤, MatchOption, IsTrue}
use Rattle.std.specs.Char.{is_ascii_digit}
use Rattle.std.specs.List.{list_all}
use Rattle.std.specs.Str.Parse.{digits_value_after}
use Rattle.iges_base.specs.First.{first_failing}
use Rattle.iges_lines.specs.Feeding.{Taken}
use Rattle.iges_lines.specs.Lines.{SectionLines, columns}
use Rattle.iges_lines.specs.LineFaults.{line_tests}

-- each line of 80 bytes that ends so passes
abbrev pub Foretells : SectionLines → List ℕ → Type 0
Foretells s ending = (line : List ℕ) → length line ≡ 80 → columns 73 80 line ≡ ending → None ≡ first_failing (line_tests s line)

abbrev pub IsForetold : Taken → Option (List ℕ) → Type 0
IsForetold t due = MatchOption due ⊤ (λ ending. (t.terminated ≡ false) × (t.fault ≡ None) × Foretells t.sections ending)

-- the same number of digits, which write the next number
pub record AreNextDigits (digits next : List ℕ) : Type 0 where
  pub some : 0 < length digits
  pub next_some : 0 < length next
  pub all : IsTrue (list_all is_ascii_digit digits)
  pub next_all : IsTrue (list_all is_ascii_digit next)
  pub value : (n : ℕ) → digits_value_after 10 n next ≡ digits_value_after 10 n digits + 1

-- the ending of the next line: only digits at its end change
pub record IsNextEnding (ending next : List ℕ) : Type 0 where
  pub front : List ℕ
  pub digits : List ℕ
  pub next_digits : List ℕ
  pub is : ending ≡ front ++ digits
  pub next_is : next ≡ front ++ next_digits
  pub some : 0 < length front
  pub are_next : AreNextDigits digits next_digits
