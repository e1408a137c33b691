use Rattle.solid_data.proofs.Members.{has_get}
use Rattle.solid_faults.proofs.Definite.{faultless_holds, holds_faultless}
use Rattle.solid_mend.proofs.shells.keeps.Goals as goal

pub returns : goal.returns
returns c = λ h at. (
  (λ t. faultless_holds c.args.solid.now c.args.at.0 h c.in_ok-faults.faults c.recall_numbering.ensures.numbered
      (has_get c.args.solid.now.shells c.args.at.0 h at) (c.in_ok-faults.ensures h at) (c.is_empty.ensures.0 t)),
  (λ k. c.is_empty.ensures.1 (holds_faultless c.args.solid.now c.args.at.0 h c.in_ok-faults.faults c.recall_numbering.ensures.numbered
      (has_get c.args.solid.now.shells c.args.at.0 h at) (c.in_ok-faults.ensures h at) k)),
)
