-- What is named where a rule fails.
use Rattle.std.specs.Prelude.{ℕ}
use Rattle.solid_data.specs.declared.verdict.Rule.{Rule}
use Rattle.solid_data.specs.declared.verdict.Failing.{Failing}

-- the rule, the entity and the item of its record
abbrev pub failing : Rule → ℕ → ℕ → Failing
failing rule entity place = record { rule = rule; entity = record { 0 = entity }; place = place }
