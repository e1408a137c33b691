-- Flags for the shells of a solid of a file.
use Rattle.std.specs.Prelude.{ℕ, Bool, List}
use Rattle.iges_params.specs.Contents.{Contents}
use Rattle.solid_data.specs.Obligations.{AllHold}
use Rattle.brep_walk.specs.Places.{places}
use Rattle.brep_walk.specs.SolidOf.{solid_of}
use Rattle.flag_choice.specs.Suiting.{AllSuit}

-- The places of solid n hold, and these are flags for its shells.
pub record HasFlags (f : Contents) (n : ℕ) (flags : List (List Bool)) : Type 0 where
  pub places : AllHold (places f n)
  pub suit : AllSuit (solid_of f n) flags
