-- What a closed solid says of its shells as open ones.
use Rattle.std.specs.Prelude.{ℕ, pos, Bool, Contains}
use Rattle.iges_params.specs.Contents.{Contents}
use Rattle.brep_walk.specs.OpenPlaces.{open_places, shell_solid_of}
use Rattle.brep_walk.specs.Places.{places, shells}
use Rattle.solid_data.specs.Obligations.{AllHold}
use Rattle.solid_verdict.specs.Closed.{IsClosed}
use Rattle.open_certificate.specs.Sound.{IsBorder}
use Rattle.open_certificate.specs.Progress.{shell_of}
use Rattle.open_commands.specs.Verdict.{IsOpenVerdict, sound}

-- Where the places of a solid hold, so do those of each of its shells as an open one.
abbrev pub ShellsHavePlaces : Type 0
ShellsHavePlaces = (f : Contents) (n m : ℕ) (flag : Bool) → AllHold (places f n) → Contains (shells f (pos n)) (pos m, flag) → AllHold (open_places f m)

-- Where solid n is closed, each of its shells m is sound as an open one, whatever its flag is, and has no border row.
abbrev pub ClosedIsSound : Type 0
ClosedIsSound = (f : Contents) (n m : ℕ) (flag : Bool) → IsClosed f n → Contains (shells f (pos n)) (pos m, flag)
    → IsOpenVerdict f m sound × ((r : ℕ) → ¬ IsBorder (shell_of (shell_solid_of f m)) r)
