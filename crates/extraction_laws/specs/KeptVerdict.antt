-- The verdict on an extracted solid.
use Rattle.std.specs.Prelude.{◌≡◌, ◌↔◌, ℕ, List}
use Rattle.iges_params.specs.Contents.{Contents}
use Rattle.solid_data.specs.declared.verdict.Verdict.{Verdict}
use Rattle.solid_data.specs.declared.verdict.Verdict.TheVariants.{Closed, Fails}
use Rattle.solid_verdict.specs.Closed.{IsClosed, IsVerdictOn}
use Rattle.solid_extract.specs.Extracted.{new_number, IsExtracted}
use Rattle.extraction_laws.specs.Kept.{renamed_failing}

-- the same, said of the entity by its new number
abbrev pub renamed_verdict : List ℕ → Verdict → Verdict
renamed_verdict kept Closed = Closed
renamed_verdict kept (Fails x) = Fails (renamed_failing kept x)

-- What is the verdict on the solid in its file is, with the entity renamed, the verdict on it in the extracted one, and the other way round.
abbrev pub VerdictIsKept : Type 0
VerdictIsKept = (f new : Contents) (n : ℕ) (x : IsExtracted f n new) (v : Verdict)
    → IsVerdictOn f n v ↔ IsVerdictOn new (new_number x.kept n) (renamed_verdict x.kept v)

-- Each verdict on it in the extracted file is such a one.
abbrev pub NoOtherVerdict : Type 0
NoOtherVerdict = (f new : Contents) (n : ℕ) (x : IsExtracted f n new) (w : Verdict) → IsVerdictOn new (new_number x.kept n) w
    → (v : Verdict) × (w ≡ renamed_verdict x.kept v) × IsVerdictOn f n v

-- It is closed in the one exactly where it is closed in the other.
abbrev pub ClosedIsKept : Type 0
ClosedIsKept = (f new : Contents) (n : ℕ) (x : IsExtracted f n new) → IsClosed f n ↔ IsClosed new (new_number x.kept n)
