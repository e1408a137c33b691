-- The values of a passage, read as they are defined.
use Rattle.std.proofs.Common.{◌≡◌, ℕ, ◌+◌, ◌-◌, true, List, length, Result, Ok, Err, ap}
use Rattle.iges_fields.specs.declared.value.Value.{Value}
use Rattle.iges_fields.specs.declared.fault.FieldFault.{FieldFault}
use Rattle.iges_fields.specs.Delims.{Delims, are_permitted}
use Rattle.iges_fields.specs.FreeText.{FreeText, IsFieldFault}
use Rattle.iges_fields.specs.Reading.{◌>>=◌}
use Rattle.iges_fields.proofs.Whole.{FreeText-read_values, IsFieldFault-read_values}
use Rattle.iges_lines.specs.declared.reason.Reason.{Reason}
use Rattle.iges_params.specs.Global.{line_of_byte}
use Rattle.iges_params.specs.Reading.{at_line, read_passage}

module _ (first width : ℕ) (columns : List ℕ) (reason : Reason) (d : Delims) (text : List ℕ) (ok : are_permitted d ≡ true) where
  pub passage_ok : (values : List Value) (used : ℕ) → FreeText d text values used → read_passage first width columns reason d text ≡ Ok values
  unfolding read_passage
  passage_ok values used h = ap (λ (r : Result (List Value × ℕ) FieldFault). at_line first width columns
      (length columns - length text) reason r >>= λ x. Ok x.0) (FreeText-read_values d ok text values used h)

  pub passage_err : (fault : FieldFault) → IsFieldFault d text fault
      → read_passage first width columns reason d text ≡ Err (record {
        line =
            first + line_of_byte width columns (length columns - length text + fault.at);
        reason = reason;
      })
  unfolding read_passage
  passage_err fault h = ap (λ (r : Result (List Value × ℕ) FieldFault). at_line first width columns (length columns - length text) reason r >>= λ x. Ok x.0)
      (IsFieldFault-read_values d ok text fault h)
