use Rattle.iges_solid_cmd.proofs.sampling.sample_reply.Goals as goal

pub returns : goal.returns
returns c = c.solid_reply-reply.ensures
