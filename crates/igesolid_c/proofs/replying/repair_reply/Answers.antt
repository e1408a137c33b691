use Rattle.std.proofs.Common.{ap}
use Rattle.igesolid_c.proofs.Settled.{replied_repair, told_repair}
use Rattle.igesolid_c.specs.Text.{Text}
use Rattle.igesolid_c.proofs.replying.repair_reply.Goals as goal

pub returns : goal.returns
returns c =
    let empty = ap (λ (s : Text). s.text) c.new-text.ensures in
    let outcome = told_repair _ _ _ _ _ _ c.new-file.ensures empty c.run_repair-answer.ensures.outcome in
    replied_repair _ _ _ _ _ c.in_ok-words.ensures outcome _ c.finished.ensures
