-- The printed lines of what is refused and of what is accepted.
use Rattle.std.specs.Prelude.{ℕ, List, ◌++◌, flat_map, codes, decimal}
use Rattle.iges_lines.specs.declared.fault.LineFault.{LineFault}
use Rattle.iges_lines.specs.Reasons.{reason_word}
use Rattle.solid_data.specs.RuleNames.{rule_name}
use Rattle.solid_data.specs.declared.verdict.Failing.{Failing}
use Rattle.cert_text.specs.declared.fault.Illegal.{Illegal}
use Rattle.cert_text.specs.declared.fault.Illegal.TheVariants.{Misspelt, Unfit, Missing}

abbrev pub bad_file_line : LineFault → List ℕ
bad_file_line fault = codes "bad file line " ++ decimal fault.line ++ codes " " ++ reason_word fault.reason ++ codes "\n"

-- the rule of this name fails of this entity, at this place
abbrev pub fail_text : List ℕ → ℕ → ℕ → List ℕ
fail_text name entity place = codes "fail " ++ name ++ codes " " ++ decimal entity ++ codes " " ++ decimal place ++ codes "\n"

abbrev pub fail_line : Failing → List ℕ
fail_line x = fail_text (rule_name x.rule) x.entity.0 x.place

abbrev pub no_solid_line : List ℕ
no_solid_line = codes "no solid\n"

-- of one among many solids, a line with its number and the line of the rule that fails
abbrev pub solid_fail_text : ℕ → Failing → List ℕ
solid_fail_text n x = codes "solid " ++ decimal n ++ codes "\n" ++ fail_line x

abbrev pub illegal_word : Illegal → List ℕ
illegal_word (Misspelt n) = codes "misspelt"
illegal_word (Unfit n) = codes "unfit"
illegal_word (Missing n) = codes "missing"

abbrev pub illegal_number : Illegal → ℕ
illegal_number (Misspelt n) = n
illegal_number (Unfit n) = n
illegal_number (Missing n) = n

-- what is wrong with a line of a certificate
abbrev pub illegal_line : Illegal → List ℕ
illegal_line bad = codes "line " ++ decimal (illegal_number bad) ++ codes " " ++ illegal_word bad ++ codes "\n"

abbrev pub accepted_line : ℕ → List ℕ
accepted_line n = codes "accepted " ++ decimal n ++ codes "\n"

-- a line for each of these solids
abbrev pub accepted_lines : List ℕ → List ℕ
accepted_lines ns = flat_map accepted_line ns
