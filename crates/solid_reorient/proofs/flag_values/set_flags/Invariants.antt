use Rattle.std.proofs.Common.{◌≡◌, ◌+◌, ◌*◌, drop}
use Rattle.solid_reorient.specs.Steps.{put_from}
use Rattle.solid_reorient.proofs.flag_values.set_flags.Given as goal

abbrev pub invariant-flags : goal.invariant-flags
invariant-flags l = put_from (2 * l.k + 2) (drop l.k l.flags) l.values ≡ put_from 2 l.flags l.fn.values
