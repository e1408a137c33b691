-- What flags and rings say together.
use Rattle.std.specs.Prelude.{◌≡◌, ℕ, ◌⊎◌, Bool, List}
use Rattle.solid_data.specs.SolidData.{SolidData}
use Rattle.orient_certificate.specs.Partners.{AllHaveTwoRows, AllReached}
use Rattle.orient_certificate.specs.Flags.{rows_at, FlagsFit}
use Rattle.orient_certificate.specs.OddRing.{OddRing}

abbrev pub ExactlyOne : {A : Type 0} → (A → Type 0) → Type 0
ExactlyOne {A = A} P = (x : A) × P x × ((y : A) → P y → y ≡ x)

-- where each edge has two rows, no flags fit beside an odd ring
abbrev pub RingsRefuseFlags : Type 0
RingsRefuseFlags = (s : SolidData) (k : ℕ) (rows : List ℕ) (flags : List Bool) → AllHaveTwoRows (rows_at s k) → OddRing s k rows → ¬ FlagsFit s k flags

-- where each face is reached too, exactly one list of flags fits, or there is an odd ring
abbrev pub FlagsOrRing : Type 0
FlagsOrRing = (s : SolidData) (k : ℕ) → AllHaveTwoRows (rows_at s k) → AllReached (rows_at s k)
    → ExactlyOne (FlagsFit s k) ⊎ ((rows : List ℕ) × OddRing s k rows)
