use Rattle.iges_solid_cmd.proofs.sampling.text_reply.Goals as goal

pub returns : goal.returns
returns c = c.sample_reply-reply.ensures
