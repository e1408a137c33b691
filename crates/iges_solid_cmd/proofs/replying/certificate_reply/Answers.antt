use Rattle.iges_solid_cmd.proofs.replying.certificate_reply.Goals as goal

pub returns-in-Verify-clause-found : goal.returns-in-Verify-clause-found
returns-in-Verify-clause-found g c = rw c.in-Verify.is c.verify_certificate.ensures.found

pub returns-in-Upgrade-clause-found : goal.returns-in-Upgrade-clause-found
returns-in-Upgrade-clause-found g c = rw c.in-Upgrade.is c.upgrade_certificate.ensures.found

pub returns-in-OpenVerify-clause-found : goal.returns-in-OpenVerify-clause-found
returns-in-OpenVerify-clause-found g c = rw c.in-OpenVerify.is c.verify_shell.ensures.found

pub returns-in-OrientVerify-clause-found : goal.returns-in-OrientVerify-clause-found
returns-in-OrientVerify-clause-found g c = rw c.in-OrientVerify.is c.verify_orientation.ensures.found
