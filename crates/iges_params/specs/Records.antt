-- The record of an entry: its P lines and their values.
use Rattle.std.specs.Prelude.{◌≡◌, ℕ, ◌+◌, ◌-◌, ◌*◌, ◌<◌, Bool, false, not, List, [], ◌∷◌, length, ℤ, pos, unsigned_abs, Some, IsTrue, IsFalse, MatchBool}
use Rattle.std.specs.Prelude.{slice_get, slice_range, flat_map}
use Rattle.std.specs.List.{list_all, position_from}
use Rattle.std.specs.Ordering.{int_eq}
use Rattle.iges_fields.specs.declared.value.Value.{Value}
use Rattle.iges_fields.specs.declared.value.Value.TheVariants as value
use Rattle.iges_fields.specs.declared.fault.FieldFault.{FieldFault}
use Rattle.iges_fields.specs.Delims.{Delims}
use Rattle.iges_fields.specs.FreeText.{FreeText, IsFieldFault}
use Rattle.iges_lines.specs.declared.reason.Reason.{Reason}
use Rattle.iges_lines.specs.declared.reason.Reason.TheVariants.{BackPointer, RecordValue, RecordType}
use Rattle.iges_lines.specs.declared.fault.LineFault.{LineFault}
use Rattle.iges_lines.specs.Lines.{SectionLines, columns, has_number}
use Rattle.iges_directory.specs.declared.entry.Entry.{Entry}
use Rattle.iges_directory.specs.declared.entry.Placed.{Placed}
use Rattle.iges_params.specs.Global.{line_of_byte}

-- the lines of an entry's record, among the P lines
abbrev pub record_lines : List (List ℕ) → Placed → List (List ℕ)
record_lines params p = slice_range params (unsigned_abs p.first - 1) (unsigned_abs p.first - 1 + unsigned_abs p.count)

abbrev pub record_text : List (List ℕ) → Placed → List ℕ
record_text params p = flat_map (columns 1 64) (record_lines params p)

-- the line names its owner
abbrev pub points_back : ℕ → List ℕ → Bool
points_back number line = has_number (columns 66 72 line) number

-- the record of the entry with this number: each line points back to it, and the text has the type number and these values
pub record IsRecord (params : List (List ℕ)) (d : Delims) (number : ℕ) (p : Placed) (values : List Value) : Type 0 where
  pub pointers : IsTrue (list_all (points_back number) (record_lines params p))
  pub used : ℕ
  pub text : FreeText d (record_text params p) (value.Int p.entry.kind ∷ values) used

-- an entry of type 0 has no values, and another has those of its record
abbrev pub HasRecord : List (List ℕ) → Delims → ℕ → Placed → List Value → Type 0
HasRecord params d number p values = MatchBool (int_eq p.entry.kind (pos 0)) (values ≡ []) (IsRecord params d number p values)

-- entry by entry, the first of which has this number
abbrev pub AreRecords : List (List ℕ) → Delims → ℕ → List Placed → List (Entry × List Value) → Type 0
AreRecords params d number [] [] = Unit {0}
AreRecords params d number (p ∷ ps) (e ∷ es) = (e.0 ≡ p.entry) × HasRecord params d number p e.1 × AreRecords params d (number + 2) ps es
AreRecords params d number [] (e ∷ es) = ⊥
AreRecords params d number (p ∷ ps) [] = ⊥

-- ---- faults

abbrev pub is_number : ℤ → Value → Bool
is_number n (value.Int m) = int_eq m n
is_number n _ = false

-- what is wrong with the record of the entry with this number, for each reason, and in which of its lines, from 0
abbrev pub RecordFault : List (List ℕ) → Delims → ℕ → Placed → Reason → ℕ → Type 0
RecordFault params d number p BackPointer line = position_from (λ l. not (points_back number l)) 0 (record_lines params p) ≡ Some line
RecordFault params d number p RecordValue line =
    IsTrue (list_all (points_back number) (record_lines params p))
    × (fault : FieldFault) × IsFieldFault d (record_text params p) fault × (line ≡ line_of_byte 64 (record_text params p) fault.at)
RecordFault params d number p RecordType line =
    IsTrue (list_all (points_back number) (record_lines params p))
    × (first : Value) × (values : List Value) × (used : ℕ) × FreeText d (record_text params p) (first ∷ values) used × IsFalse (is_number p.entry.kind first) ×
    (line ≡ 0)
RecordFault params d number p _ line = ⊥

-- the first entry whose record fails, and the first of its faults
pub record IsRecordFault (s : SectionLines) (d : Delims) (entries : List Placed) (fault : LineFault) : Type 0 where
  pub place : ℕ
  pub entry : Placed
  pub entry_is : slice_get entries place ≡ Some entry
  pub has_type : IsFalse (int_eq entry.entry.kind (pos 0))
  pub line : ℕ
  pub here : RecordFault s.param d (2 * place + 1) entry fault.reason line
  pub line_is : fault.line ≡ length s.start + length s.global + length s.directory + unsigned_abs entry.first + line
  pub before : (i : ℕ) (p : Placed) → i < place → slice_get entries i ≡ Some p → (values : List Value) × HasRecord s.param d (2 * i + 1) p values
