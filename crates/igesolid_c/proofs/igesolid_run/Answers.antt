use Rattle.igesolid_c.proofs.Settled.{handed}
use Rattle.igesolid_c.specs.Replies.{IsDue}
use Rattle.igesolid_c.proofs.igesolid_run.Goals as goal

pub returns : goal.returns
returns c = handed (IsDue c.args.words.now c.args.file.now c.args.certificate.now) _ _ _ c.hand_over.ensures c.reply.ensures
