use Rattle.std.proofs.Common.{◌≡◌, ℕ, Bool, List, Some, length}
use Rattle.std.specs.Prelude.{slice_get}
use Rattle.flag_choice.specs.Suiting.{FlagsSuit}
use Rattle.flag_choice.proofs.fitting.fitting_flags.Given as goal

abbrev pub invariant-shells : goal.invariant-shells
invariant-shells l = record {
  each : length l.lists ≡ l.k;
  suit : (j : ℕ) (x : List Bool) → slice_get l.lists j ≡ Some x → FlagsSuit l.solid j x;
}
