use Rattle.iges_solid_cmd.proofs.Outcomes.{alone_owed}
use Rattle.iges_solid_cmd.proofs.replying.file_reply.Goals as goal

pub returns-in_ok-whole_reply-in-Whole-clause-found : goal.returns-in_ok-whole_reply-in-Whole-clause-found
returns-in_ok-whole_reply-in-Whole-clause-found g c =
    rw c.in-Whole.is (alone_owed _ _ c.in_ok-whole_reply-in-Whole.field-0 c.in_ok-whole_reply-in-Whole.ensures)

pub returns-in_ok-entity_reply-in-Entity-clause-found : goal.returns-in_ok-entity_reply-in-Entity-clause-found
returns-in_ok-entity_reply-in-Entity-clause-found g c =
    rw c.in-Entity.is (alone_owed _ _ c.in_ok-entity_reply-in-Entity.field-0 c.in_ok-entity_reply-in-Entity.ensures)
