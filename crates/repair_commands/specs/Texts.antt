-- What is written of a layout.
use Rattle.std.specs.Prelude.{ℕ, ◌==◌, List, [], ◌++◌, codes, decimal, if◌then◌else◌}
use Rattle.line_layout.specs.declared.change.Change.{Change}
use Rattle.line_layout.specs.declared.change.Change.TheVariants.{Mark, Blank, End, Letter, Past, Number, Ahead, Counts, FewerStart, FewerGlobal, FewerDirectory, FewerParam, After}
use Rattle.line_layout.specs.declared.change.ChangeCount.{ChangeCount}
use Rattle.line_layout.specs.declared.fault.LayoutFault.{LayoutFault}
use Rattle.line_layout.specs.declared.fault.LayoutReason.{LayoutReason}
use Rattle.line_layout.specs.declared.fault.LayoutReason.TheVariants as reason
use Rattle.line_layout.specs.Changes.{changed_lines, tally_of}

abbrev pub layout_word : LayoutReason → List ℕ
layout_word reason.Utf16 = codes "utf16"
layout_word reason.Gzip = codes "gzip"
layout_word reason.Tab = codes "tab"
layout_word reason.Short = codes "short"
layout_word reason.Letter = codes "letter"
layout_word reason.Number = codes "number"
layout_word reason.Long = codes "long"
layout_word reason.Order = codes "order"
layout_word reason.Missing = codes "missing"
layout_word reason.Many = codes "many"
layout_word reason.Shuffled = codes "shuffled"

-- the first line whose content can't be told apart, or of a section whose order isn't certain, and why
abbrev pub bad_layout_line : LayoutFault → List ℕ
bad_layout_line fault = codes "bad layout line " ++ decimal fault.line ++ codes " " ++ layout_word fault.reason ++ codes "\n"

abbrev pub in_layout_line : List ℕ
in_layout_line = codes "in layout\n"

abbrev pub change_word : Change → List ℕ
change_word Mark = codes "mark"
change_word Blank = codes "blank"
change_word End = codes "end"
change_word Letter = codes "letter"
change_word Past = codes "past"
change_word Number = codes "number"
change_word Ahead = codes "ahead"
change_word Counts = codes "counts"
change_word FewerStart = codes "fewer-S"
change_word FewerGlobal = codes "fewer-G"
change_word FewerDirectory = codes "fewer-D"
change_word FewerParam = codes "fewer-P"
change_word After = codes "after"

-- how often, and the first line; nothing where it doesn't happen
abbrev pub tally_line : List ℕ → ChangeCount → List ℕ
tally_line word t = if t.times == 0 then [] else word ++ codes " " ++ decimal t.times ++ codes " line " ++ decimal t.first ++ codes "\n"

unfoldable pub change_line : List ℕ → Change → List ℕ
change_line bytes k = tally_line (change_word k) (tally_of (changed_lines k bytes))

-- a line for each kind of change that is made, in this order
unfoldable pub changes_text : List ℕ → List ℕ
changes_text bytes =
    change_line bytes Mark ++ change_line bytes Blank ++ change_line bytes End ++ change_line bytes Letter ++ change_line bytes Past
    ++ change_line bytes Number ++ change_line bytes Ahead ++ change_line bytes Counts ++ change_line bytes FewerStart ++ change_line bytes FewerGlobal
    ++ change_line bytes FewerDirectory ++ change_line bytes FewerParam ++ change_line bytes After
