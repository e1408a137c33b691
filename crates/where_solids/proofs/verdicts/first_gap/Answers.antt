use Rattle.std.proofs.Common.{refl}
use Rattle.solid_faults.specs.Gaps.{gap_failing}
use Rattle.where_solids.proofs.FirstFailing.{first_item}
use Rattle.where_solids.proofs.verdicts.first_gap.Goals as goal

pub returns : goal.returns
returns c = first_item gap_failing c.args.gaps.now _ _ c.in-len1-up.len_at_least refl
