-- How a path is written.
use Rattle.std.specs.Prelude.{ℕ, List, [], ◌∷◌, ◌++◌, codes, decimal, Option, Some, None}
use Rattle.iges_base.specs.declared.entry_no.EntryNo.{EntryNo}
use Rattle.where_text.specs.Spelled.{space_word}
use Rattle.record_paths.specs.declared.path.Path.{Path}
use Rattle.record_paths.specs.declared.path.Step.{Step}

unfoldable pub solid_line : EntryNo → List ℕ
solid_line entry = codes "  in solid" ++ space_word (decimal entry.0) ++ codes "\n"

-- the word for the step's entity, its number, and the item that names it; no line where the path ends before
unfoldable pub step_line : List ℕ → Option Step → List ℕ
step_line word None = []
step_line word (Some step) = codes "  in" ++ space_word word ++ space_word (decimal step.entity.0) ++ space_word (codes "item")
    ++ space_word (decimal step.item) ++ codes "\n"

-- A line for the solid, and one for each step.
unfoldable pub path_text : EntryNo → Path → List ℕ
path_text entry path = solid_line entry ++ step_line (codes "shell") path.shell ++ step_line (codes "face") path.face ++ step_line (codes "loop") path.the_loop

abbrev pub step_named : Option Step → List EntryNo
step_named None = []
step_named (Some step) = step.entity ∷ []

-- The entries that these lines name, in order.
unfoldable pub path_named : EntryNo → Path → List EntryNo
path_named entry path = entry ∷ step_named path.shell ++ step_named path.face ++ step_named path.the_loop
