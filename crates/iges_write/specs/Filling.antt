-- Private: the text as a function of the file. IsFilled and IsText say what it means.
use Rattle.std.specs.Prelude.{ℕ, ◌+◌, nat_le, true, false, List, [], ◌∷◌, ◌++◌, length, map, if◌then◌else◌, flat_map}
use Rattle.iges_fields.specs.declared.value.Value.{Value}
use Rattle.iges_fields.specs.declared.value.Value.TheVariants as value
use Rattle.iges_fields.specs.Delims.{Delims}
use Rattle.iges_directory.specs.declared.entry.Entry.{Entry}
use Rattle.iges_params.specs.declared.global.Global26.{Global26}
use Rattle.iges_params.specs.Contents.{Contents}
use Rattle.iges_write.specs.Parts.{parts}
use Rattle.iges_write.specs.Filled.{padded}
use Rattle.iges_write.specs.Text.{has_no_record, global_values, text_lines}

-- the lines of n columns, the first of which holds this text already
abbrev pub fill : ℕ → List ℕ → List (List ℕ) → List (List ℕ)
fill n line [] = padded n line ∷ []
fill n line (part ∷ parts) = elim (nat_le (length line + length part) n) [ true ↦ fill n (line ++ part) parts | false ↦ padded n line ∷ fill n part parts ]

-- the lines of a record: the type number and the values, in 64 columns
abbrev pub used_lines : Delims → Entry → List Value → List (List ℕ)
used_lines d e values = fill 64 [] (parts 64 d (value.Int e.kind ∷ values))

abbrev pub record_text_lines : Delims → Entry × List Value → List (List ℕ)
record_text_lines d e = if has_no_record e.0 then [] else used_lines d e.0 e.1

-- the lines of a global
abbrev pub global_lines : Global26 → List (List ℕ)
global_lines g = fill 72 [] (parts 72 g.delims (global_values g))

-- the lines of all records
abbrev pub records_lines : Contents → List (List (List ℕ))
records_lines f = map (record_text_lines f.global.delims) f.entries

abbrev pub text_of : Contents → List ℕ
text_of f = flat_map (λ l. l ++ 10 ∷ []) (text_lines f (global_lines f.global) (records_lines f))
