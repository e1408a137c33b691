use Rattle.std.proofs.Common.{◌≡◌, ◌≤◌, take}
use Rattle.std.specs.Prelude.{count_by}
use Rattle.solid_hints.proofs.Counts.{is_unset}
use Rattle.solid_hints.proofs.flags.unset_in.Given as goal

abbrev pub invariant-faces : goal.invariant-faces
invariant-faces l = record { count : l.count ≡ count_by is_unset (take l.i l.faces); few : l.count ≤ l.i }
