use Rattle.std.proofs.Common.{◌≡◌, length}
use Rattle.named_sizes.specs.Sizes.{AreSizes, shell_size}
use Rattle.named_sizes.proofs.sizes.shell_sizes.Given as goal

abbrev pub invariant-numbers : goal.invariant-numbers
invariant-numbers l = record { many : length l.sizes ≡ l.n; each : AreSizes (shell_size l.file) l.sizes }
