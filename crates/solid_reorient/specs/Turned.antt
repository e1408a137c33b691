-- The solid of a file with other flags.
use Rattle.std.specs.Prelude.{◌≡◌, ℕ, Bool, List}
use Rattle.iges_params.specs.Contents.{Contents}
use Rattle.brep_walk.specs.Places.{places}
use Rattle.brep_walk.specs.SolidOf.{solid_of}
use Rattle.solid_data.specs.Obligations.{AllHold}
use Rattle.flag_choice.specs.Turned.{turned, AreListsFor}
use Rattle.solid_reorient.specs.Reflagged.{reflagged}

-- Where the places hold, they still hold with other flags, and the records describe the solid with these flags.
abbrev pub ReflaggedPlaces : Type 0
ReflaggedPlaces = (g : Contents) (n : ℕ) (flags : List (List Bool)) → AllHold (places g n) → AllHold (places (reflagged g n flags) n)

abbrev pub ReflaggedSolid : Type 0
ReflaggedSolid = (g : Contents) (n : ℕ) (flags : List (List Bool)) → AllHold (places g n)
    → AreListsFor flags (let s = solid_of g n in s.shells) → solid_of (reflagged g n flags) n ≡ turned flags (solid_of g n)
