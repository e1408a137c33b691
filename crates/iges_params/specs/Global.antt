-- The text of the global: how its delimiters are named, and the kinds of its values.
use Rattle.std.specs.Prelude.{◌≡◌, ℕ, ◌+◌, ◌-◌, ◌/◌, min, Bool, true, false, ◌&&◌, nat_eq, nat_lt, List, [], ◌∷◌, length, drop, Option, Some, None, IsTrue}
use Rattle.std.specs.Prelude.{IsFalse, if◌then◌else◌, slice_index, flat_map, zip, codes}
use Rattle.std.specs.List.{list_all, starts_with}
use Rattle.iges_fields.specs.declared.value.Value.{Value}
use Rattle.iges_fields.specs.declared.value.Value.TheVariants as value
use Rattle.iges_fields.specs.declared.fault.FieldFault.{FieldFault}
use Rattle.iges_base.specs.Word.{after_spaces}
use Rattle.iges_fields.specs.Delims.{Delims, are_permitted}
use Rattle.iges_fields.specs.FreeText.{begins_with, FreeText, IsFieldFault}
use Rattle.iges_lines.specs.declared.reason.Reason.{Reason}
use Rattle.iges_lines.specs.declared.reason.Reason.TheVariants.{Delimiter, GlobalValue, GlobalKind}
use Rattle.iges_lines.specs.Lines.{SectionLines, columns}
use Rattle.iges_params.specs.declared.global.Global26.{Global26}
use Rattle.iges_params.specs.declared.kinds.Kind.{Kind}
use Rattle.iges_params.specs.declared.kinds.Kind.TheVariants.{Text, Integer, Real}

-- ---- the delimiters

-- After spaces `1Hx` names x. Where it isn't there the default is meant. Beside the delimiter: what follows.
abbrev pub delimiter_at : ℕ → List ℕ → ℕ × List ℕ
delimiter_at default text =
    let front = after_spaces text in
    if starts_with nat_eq front (codes "1H") && nat_lt 2 (length front) then (slice_index front 2, drop 3 front) else (default, front)

-- what comes after spaces and this byte, if it is there
abbrev pub behind_byte : ℕ → List ℕ → Option (List ℕ)
behind_byte b text = let front = after_spaces text in if begins_with (nat_eq b) front then Some (drop 1 front) else None

-- the two delimiters, and the text of the values where there is one
pub record Head : Type 0 where
  pub delims : Delims
  pub values : Option (List ℕ)

-- after the delimiter r: p and the values, or r and a comment
abbrev pub head_end : ℕ → ℕ → Option (List ℕ) → Option (List ℕ) → Option Head
head_end p r (Some values) _ = Some (record { delims = record { param = p; end = r }; values = Some values })
head_end p r None (Some comment) = Some (record { delims = record { param = p; end = r }; values = None })
head_end p r None None = None

abbrev pub head_with : ℕ → List ℕ → Option Head
head_with p text = let r = delimiter_at 59 text in head_end p r.0 (behind_byte p r.1) (behind_byte r.0 r.1)

-- after the delimiter p: p and the delimiter r, or a semicolon and a comment
abbrev pub head_start : ℕ → Option (List ℕ) → Option (List ℕ) → Option Head
head_start p (Some rest) _ = head_with p rest
head_start p None (Some comment) = Some (record { delims = record { param = p; end = 59 }; values = None })
head_start p None None = None

abbrev pub any_head : List ℕ → Option Head
any_head text = let p = delimiter_at 44 text in head_start p.0 (behind_byte p.0 p.1) (behind_byte 59 p.1)

abbrev pub if_permitted : Option Head → Option Head
if_permitted None = None
if_permitted (Some head) = if are_permitted head.delims then Some head else None

-- how the text of a global begins, where it names two permitted delimiters
abbrev pub head : List ℕ → Option Head
head text = if_permitted (any_head text)

-- ---- the kinds

-- the kinds of the parameters 3 to 26
abbrev pub kinds : List Kind
kinds =
    Text ∷ Text ∷ Text ∷ Text ∷ Integer ∷ Integer ∷ Integer ∷ Integer ∷ Integer ∷ Text ∷ Real ∷ Integer ∷
    Text ∷ Integer ∷ Real ∷ Text ∷ Real ∷ Real ∷ Text ∷ Text ∷ Integer ∷ Integer ∷ Text ∷ Text ∷ []

-- A value that is left out has any kind, and an integer stands for a real too.
abbrev pub has_kind : Kind → Value → Bool
has_kind kind value.Default = true
has_kind Text (value.Text t) = true
has_kind Integer (value.Int n) = true
has_kind Real (value.Int n) = true
has_kind Real (value.Real spelling) = true
has_kind _ _ = false

abbrev pub have_kinds : List Value → Bool
have_kinds values = list_all (λ (p : Kind × Value). has_kind p.0 p.1) (zip kinds values)

-- ---- the global

abbrev pub global_text : SectionLines → List ℕ
global_text s = flat_map (columns 1 72) s.global

-- no values follow the delimiters, or those of the rest of the text
abbrev pub HasValues : Delims → Option (List ℕ) → List Value → Type 0
HasValues d None values = values ≡ []
HasValues d (Some rest) values = (used : ℕ) × FreeText d rest values used

-- the text names the delimiters, and after them come the values
pub record GlobalText (text : List ℕ) (global : Global26) : Type 0 where
  pub start : Head
  pub head_is : head text ≡ Some start
  pub delims : global.delims ≡ start.delims
  pub values : HasValues start.delims start.values global.values
  pub kinds_fit : IsTrue (have_kinds global.values)

-- the line, from 0, that holds a byte of a text in lines of this width; the last one, where the byte is the text's end
abbrev pub line_of_byte : ℕ → List ℕ → ℕ → ℕ
line_of_byte width text place = min (place / width) (length text / width - 1)

-- what is wrong with the global, for each reason, and where
abbrev pub GlobalFault : SectionLines → Reason → ℕ → Type 0
GlobalFault s Delimiter line = (head (global_text s) ≡ None) × (line ≡ length s.start + 1)
GlobalFault s GlobalValue line =
    (h : Head) × (rest : List ℕ) × (fault : FieldFault) × (head (global_text s) ≡ Some h) × (h.values ≡ Some rest) × IsFieldFault h.delims rest fault
    × (line ≡ length s.start + 1 + line_of_byte 72 (global_text s) (length (global_text s) - length rest + fault.at))
GlobalFault s GlobalKind line =
    (h : Head) × (values : List Value) × (head (global_text s) ≡ Some h) × HasValues h.delims h.values values × IsFalse (have_kinds values) ×
    (line ≡ length s.start + 1)
GlobalFault s _ line = ⊥
