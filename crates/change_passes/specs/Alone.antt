-- Private: what fails in a shell by itself.
use Rattle.std.specs.Prelude.{[]}
use Rattle.solid_faults.specs.Faults.{Faults}

-- the same without the vertices of earlier shells
abbrev pub alone : Faults → Faults
alone x = record { gaps = x.gaps; unpaired = x.unpaired; firsts = x.firsts; linking = x.linking; shared = [] }
