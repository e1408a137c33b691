-- Private: what a solid keeps of a file, and the values taken from it.
use Rattle.std.specs.Prelude.{◌≡◌, ℕ, ◌/◌, ◌≤◌, List, [], pos, Some, None, IsTrue, set}
use Rattle.iges_base.specs.declared.TheConstants.{FILE_LIMIT}
use Rattle.iges_base.specs.declared.entry_no.EntryNo.{EntryNo}
use Rattle.iges_params.specs.Contents.{Contents, value_count}
use Rattle.iges_params.specs.Named.{named}
use Rattle.iges_params.specs.Solids.{is_solid}
use Rattle.entry_references.specs.EntrySets.{AreRising, numbers_of}
use Rattle.entry_references.specs.Refs.{Record}
use Rattle.solid_extract.specs.Flooding.{IsFlooded}
use Rattle.solid_extract.specs.Making.{records_of}

-- the solid n keeps what it reaches, none of which has a fault
pub record IsKept (f : Contents) (n : ℕ) (kept : List ℕ) : Type 0 where
  pub reached : List ℕ
  pub numbers : List EntryNo
  pub is : kept ≡ numbers_of numbers
  pub solid : IsTrue (is_solid f n)
  pub flooded : IsFlooded f n reached None
  pub rising : AreRising numbers reached
  pub few : value_count (records_of f kept) ≤ FILE_LIMIT

-- the file, and the same without the values of what a number names
abbrev pub IsWithout : Contents → ℕ → Contents → Type 0
IsWithout f m g = (r : Record) → named f (pos m) ≡ Some r → g ≡ record f { entries = set f.entries (m / 2) (r.0, []) }
