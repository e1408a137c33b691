use Rattle.iges_solid_cmd.proofs.sampling.certify_sample.Goals as goal

pub returns : goal.returns
returns c = c.text_reply.ensures
