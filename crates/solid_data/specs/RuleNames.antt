-- The printed names of the rules.
use Rattle.std.specs.Prelude.{ℕ, List, codes}
use Rattle.solid_data.specs.declared.verdict.Rule.{Rule}
use Rattle.solid_data.specs.declared.verdict.Rule.TheVariants as rule

abbrev pub rule_name : Rule → List ℕ
rule_name rule.NoEntry = codes "ENTRY"
rule_name rule.WrongKind = codes "TYPE"
rule_name rule.BadLayout = codes "RECORD"
rule_name rule.Twice = codes "ONCE"
rule_name rule.BadIndex = codes "INDEX"
rule_name rule.BadGeometry = codes "GEOMETRY"
rule_name rule.Unjoined = codes "JOIN"
rule_name rule.Unpaired = codes "PAIR"
rule_name rule.Unreached = codes "REACH"
rule_name rule.Unlinked = codes "LINK"
rule_name rule.Shared = codes "APART"
