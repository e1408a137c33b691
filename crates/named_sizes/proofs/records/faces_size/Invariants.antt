use Rattle.std.proofs.Common.{◌≡◌, ◌≤◌, take}
use Rattle.std.specs.List.{sum_by}
use Rattle.named_sizes.specs.declared.TheConstants.{MOST}
use Rattle.named_sizes.specs.Sizes.{capped, face_size}
use Rattle.named_sizes.proofs.Sums.{sized}
use Rattle.named_sizes.proofs.records.faces_size.Given as goal

abbrev pub invariant-faces : goal.invariant-faces
invariant-faces l = record { within : l.total ≤ MOST; sum : l.total ≡ capped (sum_by (sized (face_size l.file)) (take l.i l.record)) }
