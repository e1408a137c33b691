use Rattle.std.proofs.Common.{◌≡◌, ◌≤◌, ◌∷◌, take}
use Rattle.std.specs.List.{sum_by}
use Rattle.named_sizes.specs.declared.TheConstants.{MOST}
use Rattle.named_sizes.specs.Sizes.{capped, shell_size}
use Rattle.named_sizes.proofs.Sums.{sized}
use Rattle.named_sizes.proofs.records.shells_size.Given as goal

abbrev pub invariant-shells : goal.invariant-shells
invariant-shells l = record { within : l.total ≤ MOST; sum : l.total ≡ capped (sum_by (sized (shell_size l.file)) (take l.i (l.record.outer ∷ l.record.voids))) }
