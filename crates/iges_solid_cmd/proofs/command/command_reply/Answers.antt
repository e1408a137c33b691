use Rattle.iges_solid_cmd.proofs.Outcomes.{sample_owed}
use Rattle.iges_solid_cmd.proofs.command.command_reply.Goals as goal

pub returns-in_ok-certify_sample-in-Sample-clause-found : goal.returns-in_ok-certify_sample-in-Sample-clause-found
returns-in_ok-certify_sample-in-Sample-clause-found g c =
    rw c.in-Sample.is (sample_owed c.in-Sample.n _ _ c.in_ok-certify_sample-in-Sample.field-0 c.in_ok-certify_sample-in-Sample.ensures)
