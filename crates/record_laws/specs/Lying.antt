-- Where the first false obligation on the records of a solid lies, and what comes before it.
use Rattle.std.specs.Prelude.{◌≡◌, ℕ, List, [], ◌∷◌, ◌⊎◌, Option}
use Rattle.iges_params.specs.Contents.{Contents}
use Rattle.brep_walk.specs.Places.{places}
use Rattle.solid_data.specs.Obligations.{Obligation, FirstFalse}
use Rattle.solid_data.specs.declared.verdict.Failing.{Failing}
use Rattle.record_paths.specs.declared.path.Path.{Path}
use Rattle.record_paths.specs.Paths.{Sited, IsPathTo, sited}

-- The path of the first that is false, which bears the name: all before it hold.
abbrev pub LiesOn : Failing → List Sited → Option Path → Type 0
LiesOn name [] path = ⊥
LiesOn name (s ∷ ss) path = (¬ s.owed.holds × (name ≡ s.owed.failing) × (path ≡ s.path)) ⊎ (s.owed.holds × LiesOn name ss path)

-- Where this is the first false obligation of a solid, the path of the first that bears its name is the path on which it lies.
abbrev pub PathsLeadToFalse : Type 0
PathsLeadToFalse = (f : Contents) (n : ℕ) (x : Failing) (path : Option Path) → FirstFalse (places f n) x → IsPathTo x (sited f n) path
    → LiesOn x (sited f n) path

-- An obligation of the one name holds, and comes before the first that is false, which bears the other.
abbrev pub ComesBefore : Failing → Failing → List Obligation → Type 0
ComesBefore y x [] = ⊥
ComesBefore y x (o ∷ os) = o.holds × (((y ≡ o.failing) × FirstFalse os x) ⊎ ComesBefore y x os)
