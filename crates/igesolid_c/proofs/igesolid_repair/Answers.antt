use Rattle.igesolid_c.proofs.Settled.{handed}
use Rattle.igesolid_c.specs.Replies.{IsDueOfRepair}
use Rattle.igesolid_c.proofs.igesolid_repair.Goals as goal

pub returns : goal.returns
returns c = handed (IsDueOfRepair c.args.words.now c.args.file.now) _ _ _ c.hand_over.ensures c.repair_reply.ensures
