use Rattle.iges_solid_cmd.proofs.replying.entity_reply.Goals as goal

pub returns-in-Show : goal.returns-in-Show
returns-in-Show c = rw c.in-Show.is c.shown.ensures

pub returns-in-Certify : goal.returns-in-Certify
returns-in-Certify c = rw c.in-Certify.is c.certify_solid.ensures

pub returns-in-Extract : goal.returns-in-Extract
returns-in-Extract c = rw c.in-Extract.is c.extract_solid.ensures

pub returns-in-Open : goal.returns-in-Open
returns-in-Open c = rw c.in-Open.is c.certify_shell.ensures

pub returns-in-Orient : goal.returns-in-Orient
returns-in-Orient c = rw c.in-Orient.is c.orient_solid.ensures

pub returns-in-Compact : goal.returns-in-Compact
returns-in-Compact c = rw c.in-Compact.is c.compact_solid.ensures
