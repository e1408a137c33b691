-- What extraction keeps of a solid: its places, what its records describe, and its verdict.
use Rattle.std.specs.Prelude.{◌≡◌, ◌↔◌, ℕ, List, Contains}
use Rattle.iges_params.specs.Contents.{Contents}
use Rattle.brep_walk.specs.Places.{places}
use Rattle.brep_walk.specs.SolidOf.{solid_of}
use Rattle.solid_data.specs.Obligations.{Obligation, AllHold, FirstFalse}
use Rattle.solid_data.specs.declared.verdict.Failing.{Failing}
use Rattle.solid_extract.specs.Extracted.{new_number, IsExtracted}
use Rattle.extraction_laws.specs.Alike.{FailAlike}
use Rattle.extraction_laws.specs.Relabelled.{Names, renumbered, IsRelabelled, AreNamedAlike}

-- the entry is kept, and this is its new number
abbrev pub IsNewNumber : List ℕ → ℕ → ℕ → Type 0
IsNewNumber kept m k = Contains kept m × (k ≡ new_number kept m)

-- entities and lists have their new numbers, and indices stay
abbrev pub kept_names : List ℕ → Names
kept_names kept = renumbered (IsNewNumber kept)

-- the same, said of the entity by its new number
abbrev pub renamed_failing : List ℕ → Failing → Failing
renamed_failing kept x = record x { entity = record { 0 = new_number kept x.entity.0 } }

-- All of the one list hold exactly where all of the other do, and else the same one fails first, with its entity renamed.
pub record KeepsVerdict (kept : List ℕ) (ps qs : List Obligation) : Type 0 where
  pub all : AllHold ps ↔ AllHold qs
  pub fails : (x : Failing) → FirstFalse ps x ↔ FirstFalse qs (renamed_failing kept x)
  pub only : (y : Failing) → FirstFalse qs y → (x : Failing) × (y ≡ renamed_failing kept x) × FirstFalse ps x

-- Item by item the places of the extracted solid are those that it had.
abbrev pub PlacesAreAlike : Type 0
PlacesAreAlike = (f new : Contents) (n : ℕ) (x : IsExtracted f n new)
    → FailAlike (AreNamedAlike (kept_names x.kept)) (places f n) (places new (new_number x.kept n))

-- So they have its first false one.
abbrev pub PlacesAreKept : Type 0
PlacesAreKept = (f new : Contents) (n : ℕ) (x : IsExtracted f n new) → KeepsVerdict x.kept (places f n) (places new (new_number x.kept n))

-- Where the places hold, the extracted file describes the solid that its file described, with each number renamed.
abbrev pub SolidIsKept : Type 0
SolidIsKept = (f new : Contents) (n : ℕ) (x : IsExtracted f n new) → AllHold (places f n)
    → IsRelabelled (kept_names x.kept) (solid_of f n) (solid_of new (new_number x.kept n))
