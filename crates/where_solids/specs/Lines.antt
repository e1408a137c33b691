-- The lines before the paragraphs.
use Rattle.std.specs.Prelude.{ℕ, ◌+◌, Bool, List, [], ◌++◌, length, Option, Some, None, slice_get, codes, decimal, if◌then◌else◌}
use Rattle.iges_params.specs.Contents.{Contents}
use Rattle.solid_data.specs.RuleNames.{rule_name}
use Rattle.solid_data.specs.SolidData.{SolidData}
use Rattle.solid_data.specs.declared.solid.Shell.{Shell}
use Rattle.solid_data.specs.declared.verdict.Failing.{Failing}
use Rattle.solid_data.specs.declared.verdict.Verdict.{Verdict}
use Rattle.solid_data.specs.declared.verdict.Verdict.TheVariants.{Closed, Fails}
use Rattle.edge_uses.specs.ShellRows.{ShellRows, shell_rows}
use Rattle.solid_faults.specs.Faults.{Faults, Linking}
use Rattle.solid_faults.specs.Parts.{faces_apart}
use Rattle.where_text.specs.Spelled.{space_word, spelled_if}

-- the rule that fails, the entity and the place
unfoldable pub failing_words : Failing → List ℕ
failing_words x = codes "fail" ++ space_word (rule_name x.rule) ++ space_word (decimal x.entity.0) ++ space_word (decimal x.place)

-- the verdict on solid n, as `certify` gives it where the solid isn't closed
unfoldable pub verdict_line : ℕ → Verdict → List ℕ
verdict_line n Closed = codes "closed" ++ space_word (decimal n) ++ codes "\n"
verdict_line n (Fails x) = failing_words x ++ codes "\n"

-- the units of the file: its global parameters 14 and 15, of which the third is the first value
unfoldable pub units_line : Contents → List ℕ
units_line f = codes "units" ++ space_word (spelled_if (slice_get f.global.values 11)) ++ space_word (spelled_if (slice_get f.global.values 12)) ++ codes "\n"

-- a word and a number, each after a space
abbrev pub counted : List ℕ → ℕ → List ℕ
counted word n = space_word word ++ space_word (decimal n)

-- how many shells there are, and how many of them fail
unfoldable pub shells_line : ℕ → ℕ → List ℕ
shells_line shells failing = codes "shells" ++ space_word (decimal shells) ++ counted (codes "failing") failing ++ codes "\n"

abbrev pub flag_number : Bool → ℕ
flag_number flag = if flag then 1 else 0

-- what shell k, from 0, is made of
unfoldable pub shell_words : ℕ → Shell → ShellRows → List ℕ
shell_words k shell d =
    codes "shell" ++ space_word (decimal (k + 1)) ++ counted (codes "entity") shell.entity.0 ++ counted (codes "flag") (flag_number shell.flag)
    ++ counted (codes "faces") (length shell.faces) ++ counted (codes "edges") (length d.edges) ++ counted (codes "vertices") (length d.vertices)

-- how many vertices aren't linked; nothing is counted where fans aren't judged
abbrev pub link_word : Option Linking → List ℕ
link_word None = codes "-"
link_word (Some l) = decimal (length l.unlinked)

-- how often each rule fails
unfoldable pub count_words : Faults → List ℕ
count_words x =
    counted (codes "JOIN") (length x.gaps) ++ counted (codes "PAIR") (length x.unpaired) ++ counted (codes "REACH") (length (faces_apart x.firsts))
    ++ (codes " LINK" ++ space_word (link_word x.linking)) ++ counted (codes "APART") (length x.shared)

abbrev pub shell_line : SolidData → ℕ → Option Shell → Option Faults → List ℕ
shell_line s k (Some h) (Some x) = shell_words k h (shell_rows s h) ++ count_words x ++ codes "\n"
shell_line s k (Some h) None = []
shell_line s k None x = []

-- the line of shell k, from 0
abbrev pub line_at : SolidData → List Faults → ℕ → List ℕ
line_at s xs k = shell_line s k (slice_get s.shells k) (slice_get xs k)
