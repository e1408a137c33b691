-- The sentences of the rules and of the reasons for which a file is refused, cut into lines of at most 78 columns.
use Rattle.std.specs.Prelude.{ℕ, List, codes}
use Rattle.solid_data.specs.declared.verdict.Rule.{Rule}
use Rattle.solid_data.specs.declared.verdict.Rule.TheVariants as rule
use Rattle.iges_lines.specs.declared.reason.Reason.{Reason}
use Rattle.iges_lines.specs.declared.reason.Reason.TheVariants as reason

unfoldable pub rule_sentence : Rule → List ℕ
rule_sentence rule.NoEntry = codes "  The number at this place names no entity of the file.\n"
rule_sentence rule.WrongKind = codes "  The entity at this place isn't of the type and form that is due here.\n"
rule_sentence rule.BadLayout = codes "  The values of this record aren't laid out as its type's: the value named is\n  the first that can't stand there.\n"
rule_sentence rule.Twice = codes "  This shell, face or loop is named a second time in the solid.\n"
rule_sentence rule.BadIndex = codes "  The index at this place is outside of its list.\n"
rule_sentence rule.BadGeometry = codes "  A curve or a surface is due at this place.\n"
rule_sentence rule.Unjoined = codes "  The uses of a loop must join end to start. Here one ends at another vertex\n  than the next one starts at.\n"
rule_sentence rule.Unpaired = codes "  Each edge of a closed shell is used by faces twice, once along it and once\n  against it. These aren't.\n"
rule_sentence rule.Unreached = codes "  A shell is one connected set of faces. This one falls into parts that share\n  no edge.\n"
rule_sentence rule.Unlinked = codes "  Round each vertex of a closed shell the faces form one fan. Here several\n  fans touch at a vertex only.\n"
rule_sentence rule.Shared = codes "  Two shells of a solid share no vertex. These do.\n"

unfoldable pub reason_sentence : Reason → List ℕ
reason_sentence reason.NotFixed = codes "  The file is in the binary or the compressed form. Export it in the fixed\n  ASCII form.\n"
reason_sentence reason.Length = codes "  Each line has 80 columns and an end of line. This one doesn't: an editor, a\n  mail program or a transfer in text mode may have cut or joined lines.\n"
reason_sentence reason.Letter = codes "  Column 73 must hold the section's letter S, G, D, P or T, in this order.\n"
reason_sentence reason.Number = codes "  Columns 74 to 80 must hold the line's number in its section.\n"
reason_sentence reason.Counts = codes "  The last line must tell how many lines each section has.\n"
reason_sentence reason.Missing = codes "  A section is missing, or the file ends before its T line: it was cut off.\n"
reason_sentence reason.After = codes "  Something stands behind the T line.\n"
reason_sentence reason.Unpaired = codes "  A directory entry has two lines; the last one has one only.\n"
reason_sentence reason.Field = codes "  A field of the directory entry isn't a number.\n"
reason_sentence reason.TypesDiffer = codes "  The two lines of the entry tell different types.\n"
reason_sentence reason.Range = codes "  The entry points to parameter lines that aren't there.\n"
reason_sentence reason.Delimiter = codes "  The global names no two good delimiters.\n"
reason_sentence reason.GlobalValue = codes "  A value of the global isn't spelled rightly; often a text whose count before\n  the H is wrong.\n"
reason_sentence reason.GlobalKind = codes "  A value of the global is of another kind than is due.\n"
reason_sentence reason.BackPointer = codes "  Columns 66 to 72 must hold the number of the entry that owns the line.\n"
reason_sentence reason.RecordValue =
    codes "  A value of the record isn't spelled rightly: a text whose count before the H\n  is wrong, a number with a blank in it, or no record delimiter.\n"
reason_sentence reason.RecordType = codes "  The record doesn't begin with the type that its directory entry tells.\n"
