use Rattle.std.proofs.Common.{◌≡◌, length}
use Rattle.named_sizes.specs.Sizes.{AreSizes, face_size}
use Rattle.named_sizes.proofs.sizes.face_sizes.Given as goal

abbrev pub invariant-numbers : goal.invariant-numbers
invariant-numbers l = record { many : length l.sizes ≡ l.n; each : AreSizes (face_size l.file) l.sizes }
