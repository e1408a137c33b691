-- Marks by the numbers of entries.
use Rattle.std.specs.Prelude.{ℕ, List, get_or}
use Rattle.brep_numbering.specs.declared.marks.Mark.{Mark}
use Rattle.brep_numbering.specs.declared.marks.Mark.TheVariants.{Unknown}

abbrev pub mark_of : List Mark → ℕ → Mark
mark_of marks n = get_or marks n Unknown
