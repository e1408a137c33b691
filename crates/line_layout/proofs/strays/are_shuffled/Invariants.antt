use Rattle.std.proofs.Common.{◌≡◌, drop}
use Rattle.std.specs.List.{list_all}
use Rattle.line_layout.specs.declared.strays.Stray.{Stray}
use Rattle.line_layout.specs.Strays.{are_shuffled, is_held}
use Rattle.line_layout.proofs.strays.are_shuffled.Given as goal

abbrev pub invariant-strays : goal.invariant-strays
invariant-strays l = list_all (λ (r : Stray). is_held r.place l.strays) (drop l.i l.strays) ≡ are_shuffled l.strays
