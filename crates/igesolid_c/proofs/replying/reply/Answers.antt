use Rattle.std.proofs.Common.{ap}
use Rattle.igesolid_c.proofs.Settled.{replied, told}
use Rattle.igesolid_c.specs.Text.{Text}
use Rattle.igesolid_c.proofs.replying.reply.Goals as goal

pub returns : goal.returns
returns c =
    let empty = ap (λ (s : Text). s.text) c.new-text.ensures in
    let outcome = told _ _ _ _ _ _ _ _ c.new-file.ensures c.new-certificate.ensures empty c.run-answer.ensures.outcome in
    replied _ _ _ _ _ _ c.in_ok-words.ensures outcome _ c.finished.ensures
