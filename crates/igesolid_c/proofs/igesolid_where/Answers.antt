use Rattle.igesolid_c.proofs.Settled.{handed}
use Rattle.igesolid_c.specs.Replies.{IsDueOfWhere}
use Rattle.igesolid_c.proofs.igesolid_where.Goals as goal

pub returns : goal.returns
returns c = handed (IsDueOfWhere c.args.words.now c.args.file.now) _ _ _ c.hand_over.ensures c.where_reply.ensures
