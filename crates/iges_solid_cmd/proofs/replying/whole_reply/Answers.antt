use Rattle.iges_solid_cmd.proofs.replying.whole_reply.Goals as goal

pub returns-in-CertifyAll : goal.returns-in-CertifyAll
returns-in-CertifyAll c = rw c.in-CertifyAll.is c.certify_solids.ensures
