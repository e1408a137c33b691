-- Private: entries that have numbers.
use Rattle.std.specs.Prelude.{◌≡◌, ◌⊎◌, ◌<◌, ◌^◌, ⊤, ℕ, ℤ, pos, negsuc, List, [], ◌∷◌, ◌++◌, flat_map, set, get_or, Option, Some, None, IsSomeAnd}
use Rattle.std.specs.Fmt.{decimal, signed_decimal}
use Rattle.std.specs.Int.Signed.{mag}
use Rattle.std.specs.List.{AllByRecursion}
use Rattle.iges_params.specs.Contents.{Contents}
use Rattle.iges_params.specs.Named.{named}
use Rattle.equal_values.specs.Keys.{key_of, marked}
use Rattle.record_numbers.specs.EqualRecords.{Part, pointer, plain, Told, told, EqualUpTo}
use Rattle.record_numbers.specs.Keys.{KeyMap, number_by, AreNumbers}
use Rattle.record_numbers.specs.declared.marks.Mark.{Mark}
use Rattle.record_numbers.specs.declared.marks.Mark.TheVariants.{Unknown, Endless, Numbered}

abbrev pub mark_of : List Mark → ℤ → Mark
mark_of marks (pos n) = get_or marks n Unknown
mark_of marks (negsuc n) = Unknown

abbrev pub with_mark : List Mark → ℤ → Mark → List Mark
with_mark marks (pos n) mark = set marks n mark
with_mark marks (negsuc n) mark = marks

abbrev pub number_in : Mark → ℕ
number_in (Numbered n) = n
number_in _ = 0

-- ---- keys

abbrev pub part_key : List Mark → Part → List ℕ
part_key marks (plain v) = key_of v
part_key marks (pointer None) = 2 ∷ []
part_key marks (pointer (Some z)) = 3 ∷ marked (decimal (number_in (mark_of marks z)))

abbrev pub told_key : List Mark → Told → List ℕ
told_key marks t = marked (signed_decimal t.kind) ++ (marked (signed_decimal t.form) ++ flat_map (part_key marks) t.parts)

abbrev pub alone_key : ℤ → List ℕ
alone_key z = 2 ∷ signed_decimal z

-- what a part names has a number
abbrev pub HasNumber : List Mark → Part → Type 0
HasNumber marks (pointer (Some z)) = (n : ℕ) × (mark_of marks z ≡ Numbered n) × (n < 2 ^ 32)
HasNumber marks (pointer None) = ⊤
HasNumber marks (plain v) = ⊤

abbrev pub HaveNumbers : List Mark → List Part → Type 0
HaveNumbers marks parts = AllByRecursion (HasNumber marks) parts

abbrev pub IsToldKey : List Mark → ℤ → Option Told → List ℕ → Type 0
IsToldKey marks z None key = (mag z < 2 ^ 63) × (key ≡ alone_key z)
IsToldKey marks z (Some t) key = HaveNumbers marks t.parts × (mag t.kind < 2 ^ 63) × (mag t.form < 2 ^ 63) × (key ≡ told_key marks t)

abbrev pub IsKey : Contents → List Mark → ℤ → List ℕ → Type 0
IsKey f marks z key = IsToldKey marks z (told f z) key

-- ---- numbers

-- an entry of a number has it by its key, and two of one number are equal
pub record IsNumbering {Z : Type 0} (f : Contents) (marks : List Mark) (keys : KeyMap Z) : Type 0 where
  pub each : (z : ℤ) (x : ℕ) → mark_of marks z ≡ Numbered x → (key : List ℕ) × IsKey f marks z key × (number_by keys key ≡ Some x)
  pub equal : (a b : ℤ) (x : ℕ) → mark_of marks a ≡ Numbered x → mark_of marks b ≡ Numbered x → (n : ℕ) × EqualUpTo f n a b
  pub numbers : AreNumbers keys

-- it names an entry from which pointers lead round
abbrev pub IsEndlessPart : List Mark → Part → Type 0
IsEndlessPart marks (pointer (Some z)) = mark_of marks z ≡ Endless
IsEndlessPart marks (pointer None) = ⊥
IsEndlessPart marks (plain v) = ⊥

-- one of the parts does
abbrev pub NamesEndless : List Mark → List Part → Type 0
NamesEndless marks [] = ⊥
NamesEndless marks (p ∷ ps) = IsEndlessPart marks p ⊎ NamesEndless marks ps

abbrev pub LeadsOn : Contents → List Mark → ℤ → Type 0
LeadsOn f marks z = IsSomeAnd (told f z) (λ t. NamesEndless marks t.parts)

abbrev pub AreEndless : Contents → List Mark → Type 0
AreEndless f marks = (z : ℤ) → mark_of marks z ≡ Endless → LeadsOn f marks z

-- an entry that is equal to itself alone
abbrev pub IsAlone : Contents → List Mark → ℤ → Type 0
IsAlone f marks z = (mark_of marks z ≡ Endless) ⊎ (named f z ≡ None)

abbrev pub IsNumberOf : {Z : Type 0} → Contents → List Mark → KeyMap Z → ℤ → ℕ → Type 0
IsNumberOf f marks keys z x = (mark_of marks z ≡ Numbered x) ⊎ (IsAlone f marks z × (mag z < 2 ^ 63) × (number_by keys (alone_key z) ≡ Some x))
