-- What a finding says of solid n of the bytes.
use Rattle.std.specs.Prelude.{◌<◌, ℕ, List, length, ⊤}
use Rattle.iges_base.specs.declared.TheConstants.{FILE_LIMIT}
use Rattle.iges_params.specs.Contents.{Contents}
use Rattle.iges_params.specs.IsFile.{IsFile}
use Rattle.iges_params.specs.Refusal.{IsOnly, Refusal}
use Rattle.solid_verdict.specs.Closed.{IsVerdictOn}
use Rattle.solid_data.specs.declared.verdict.Verdict.{Verdict}
use Rattle.solid_data.specs.declared.verdict.Verdict.TheVariants as verdict
use Rattle.library_example.specs.declared.Finding.{Finding}
use Rattle.library_example.specs.declared.Finding.TheVariants.{Closed, Fails, BadFile, TooLarge, NoMemory}

-- The bytes are one file, and this is the one verdict on its solid n.
abbrev pub HasVerdict : List ℕ → ℕ → Verdict → Type 0
HasVerdict bytes n v = (f : Contents) × IsOnly (IsFile bytes) f × IsOnly (IsVerdictOn f n) v

-- It says nothing only where memory runs out.
abbrev pub Finds : List ℕ → ℕ → Finding → Type 0
Finds bytes n Closed = HasVerdict bytes n verdict.Closed
Finds bytes n (Fails failing) = HasVerdict bytes n (verdict.Fails failing)
Finds bytes n (BadFile fault) = IsOnly (Refusal bytes) fault
Finds bytes n TooLarge = FILE_LIMIT < length bytes
Finds bytes n NoMemory = ⊤
