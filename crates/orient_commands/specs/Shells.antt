-- What is judged of each shell before the lines of an orientation, and what first fails.
use Rattle.std.specs.Prelude.{ℕ, ◌<◌, length}
use Rattle.solid_data.specs.SolidData.{SolidData}
use Rattle.orient_certificate.specs.Flags.{rows_at}
use Rattle.orient_certificate.specs.Outcome.{IsFirstFailing, CountFails}
use Rattle.orient_certificate.specs.Partners.{AllHaveTwoRows, AllReached}
use Rattle.orient_certificate.specs.declared.fault.OrientFailing.{OrientFailing}

-- COUNT holds of shell k
abbrev pub IsCounted : SolidData → ℕ → Type 0
IsCounted s k = AllHaveTwoRows (rows_at s k)

-- COUNT and REACH hold of shell k
pub record IsReady (s : SolidData) (k : ℕ) : Type 0 where
  pub counted : IsCounted s k
  pub reached : AllReached (rows_at s k)

-- it holds of each shell
abbrev pub OfAllShells : (SolidData → ℕ → Type 0) → SolidData → Type 0
OfAllShells Holds s = (k : ℕ) → k < length s.shells → Holds s k

-- Of the first shell of which it doesn't hold, x fails.
pub record FailsInShell (Holds : SolidData → ℕ → Type 0) (Fails : SolidData → ℕ → OrientFailing → Type 0) (s : SolidData) (x : OrientFailing) : Type 0 where
  pub shell : ℕ
  pub within : shell < length s.shells
  pub before : (k : ℕ) → k < shell → Holds s k
  pub fails : Fails s shell x

-- x is the first that fails of COUNT, and REACH, of each shell in order
abbrev pub IsFirstUnready : SolidData → OrientFailing → Type 0
IsFirstUnready s x = FailsInShell IsReady IsFirstFailing s x

-- x is the first that fails of COUNT of each shell in order
abbrev pub IsFirstUncounted : SolidData → OrientFailing → Type 0
IsFirstUncounted s x = FailsInShell IsCounted CountFails s x
