-- Records that are equal: the same type and form, and the same own values, whatever their numbers.
use Rattle.std.specs.Prelude.{◌≡◌, ◌↔◌, ◌⊎◌, ⊤, ℕ, zero, suc, ℤ, pos, List, ◌∷◌, length, map, take, Option, Some, None, slice_get, if◌then◌else◌}
use Rattle.std.specs.List.{enumerate_from, AllZip}
use Rattle.std.specs.Ordering.{int_eq}
use Rattle.iges_fields.specs.declared.value.Value.{Value}
use Rattle.iges_fields.specs.declared.value.Value.TheVariants as value
use Rattle.iges_directory.specs.declared.entry.Entry.{Entry}
use Rattle.iges_params.specs.Contents.{Contents}
use Rattle.iges_params.specs.Named.{named}
use Rattle.entry_references.specs.EntrySets.{is_among}
use Rattle.entry_references.specs.Layout.{Own}
use Rattle.entry_references.specs.Refs.{Record, own_of, entry_fault, number_of}
use Rattle.equal_values.specs.Equal.{AreEqualValues}

-- A part of a record: a pointer, to an entry or to none, or another value.
pub data Part : Type 0 where
  pointer : Option ℤ → Part
  plain : Value → Part

-- a pointer that isn't followed counts as 0
abbrev pub cut_value : Value → Value
cut_value (value.Int n) = value.Int (pos 0)
cut_value v = v

abbrev pub part_at : Own → ℕ → Value → Part
part_at own k v = if is_among own.pointers k then pointer (number_of v) else (if is_among own.cut k then plain (cut_value v) else plain v)

abbrev pub matrix_part : Entry → Part
matrix_part e = pointer (if int_eq e.matrix (pos 0) then None else Some e.matrix)

-- the matrix and the own values, as extraction leaves them
abbrev pub parts_of : Record → Own → List Part
parts_of r own = matrix_part r.0 ∷ map (λ (v : ℕ × Value). part_at own v.0 v.1) (enumerate_from 1 (take own.count r.1))

-- what a record says, wherever it stands
pub record Told : Type 0 where
  pub kind : ℤ
  pub form : ℤ
  pub parts : List Part

abbrev pub told_by : Record → Option Own → Option Told
told_by r None = None
told_by r (Some own) = Some (record { kind = r.0.kind; form = r.0.form; parts = parts_of r own })

-- the own values of a record of a listed type without a fault
abbrev pub faultless_own : Contents → Record → Option Own
faultless_own f r = elim (entry_fault f r) [ Some reason ↦ None | None ↦ own_of r ]

-- what the record that a number names says, if it's of a listed type and without a fault
abbrev pub told : Contents → ℤ → Option Told
told f z = elim (named f z) [ None ↦ None | Some r ↦ told_by r (faultless_own f r) ]

-- two parts say the same, if R says which entries are equal
abbrev pub SaySame : (ℤ → ℤ → Type 0) → Part → Part → Type 0
SaySame R (pointer None) (pointer None) = ⊤
SaySame R (pointer (Some a)) (pointer (Some b)) = R a b
SaySame R (plain v) (plain w) = AreEqualValues v w
SaySame R _ _ = ⊥

-- two records do; one that says nothing is equal to itself alone
abbrev pub AreTold : (ℤ → ℤ → Type 0) → Option Told → Option Told → Type 0
AreTold R (Some x) (Some y) = (x.kind ≡ y.kind) × (x.form ≡ y.form) × AllZip (SaySame R) x.parts y.parts
AreTold R _ _ = ⊥

-- equal, and no chain of pointers from them is longer than this
abbrev pub EqualUpTo : Contents → ℕ → ℤ → ℤ → Type 0
EqualUpTo f zero a b = ⊥
EqualUpTo f (suc n) a b = ((told f a ≡ None) × (a ≡ b)) ⊎ AreTold (EqualUpTo f n) (told f a) (told f b)

-- Equal records. One from which pointers lead round in a circle is equal to itself alone.
abbrev pub AreEqualRecords : Contents → ℤ → ℤ → Type 0
AreEqualRecords f a b = (a ≡ b) ⊎ ((n : ℕ) × EqualUpTo f n a b)

-- a number for each of some entries, equal for two exactly if their records are equal
pub record AreFair (f : Contents) (entries : List ℤ) (numbers : List ℕ) : Type 0 where
  pub each : length numbers ≡ length entries
  pub same : (i j : ℕ) (a b : ℤ) → slice_get entries i ≡ Some a → slice_get entries j ≡ Some b → (slice_get numbers i ≡ slice_get numbers j) ↔ AreEqualRecords f a b
