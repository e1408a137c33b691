-- Private: the two lines of an entry, each with what it holds.
use Rattle.std.specs.Prelude.{◌≡◌, ℕ, ◌+◌, false, List, Some, None, Result, Ok, Err, IsTrue}
use Rattle.std.specs.Char.{is_ascii_digit}
use Rattle.std.specs.List.{list_all}
use Rattle.iges_base.specs.First.{first_failing}
use Rattle.iges_lines.specs.declared.fault.LineFault.{LineFault}
use Rattle.iges_directory.specs.declared.entry.Placed.{Placed}
use Rattle.iges_directory.specs.declared.half.FirstHalf.{FirstHalf}
use Rattle.iges_directory.specs.declared.half.SecondHalf.{SecondHalf}
use Rattle.iges_directory.specs.declared.pair.PairFault.{PairFault}
use Rattle.iges_directory.specs.declared.pair.PairFault.TheVariants.{First, Second}
use Rattle.iges_directory.specs.Entries.{field, status_of, Holds, IsEntry, has_record}
use Rattle.iges_directory.specs.DirectoryFaults.{first_tests, second_tests}

pub record IsFirstHalf (line : List ℕ) (h : FirstHalf) : Type 0 where
  pub kind : Holds 1 line h.kind
  pub record_first : Holds 2 line h.record_first
  pub structure : Holds 3 line h.structure
  pub font : Holds 4 line h.font
  pub level : Holds 5 line h.level
  pub view : Holds 6 line h.view
  pub matrix : Holds 7 line h.matrix
  pub display : Holds 8 line h.display
  pub status : h.status ≡ status_of (field 9 line)
  pub status_digits : IsTrue (list_all is_ascii_digit h.status)

pub record IsSecondHalf (line : List ℕ) (h : SecondHalf) : Type 0 where
  pub kind : Holds 1 line h.kind
  pub weight : Holds 2 line h.weight
  pub colour : Holds 3 line h.colour
  pub record_count : Holds 4 line h.record_count
  pub form : Holds 5 line h.form
  pub label : h.label ≡ field 8 line
  pub subscript : Holds 9 line h.subscript

abbrev pub placed_from : FirstHalf → SecondHalf → Placed
placed_from one two = record {
  entry = record {
    kind = one.kind;
    structure = one.structure;
    font = one.font;
    level = one.level;
    view = one.view;
    matrix = one.matrix;
    display = one.display;
    weight = two.weight;
    colour = two.colour;
    form = two.form;
    subscript = two.subscript;
    status = one.status;
    label = two.label;
  };
  first = one.record_first;
  count = two.record_count;
}

-- the entry of two lines, or the first test that one of them fails
abbrev pub AnswersPair : ℕ → List ℕ → List ℕ → Result Placed PairFault → Type 0
AnswersPair n first second (Ok p) = IsEntry first second p × IsTrue (has_record n p.entry.kind p.first p.count)
AnswersPair n first second (Err (First r)) = first_failing (first_tests false first) ≡ Some r
AnswersPair n first second (Err (Second r)) = (first_failing (first_tests false first) ≡ None) × (first_failing (second_tests n first second) ≡ Some r)

-- the line of the file that fails, with so many lines above the entry
abbrev pub fault_at : ℕ → PairFault → LineFault
fault_at above (First r) = record { line = above + 1; reason = r }
fault_at above (Second r) = record { line = above + 2; reason = r }
