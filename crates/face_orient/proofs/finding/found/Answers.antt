use Rattle.face_orient.proofs.Climbs.{flags_suit}
use Rattle.face_orient.proofs.finding.found.Goals as goal

pub returns-in_ok-flags_of-in-None : goal.returns-in_ok-flags_of-in-None
returns-in_ok-flags_of-in-None c = flags_suit c.args.faces c.args.crossings.now c.args.first c.args.walk.now.places.items c.args.walk.now.order.items
    c.in_ok-flags_of-in-None.field-0 c.requires.walk c.in-None.ensures c.in_ok-flags_of-in-None.ensures
