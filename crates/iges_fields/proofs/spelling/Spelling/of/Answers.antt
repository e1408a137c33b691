use Rattle.iges_fields.proofs.WordKinds.{other_kind}
use Rattle.iges_fields.proofs.spelling.Spelling.of.Goals as goal

pub returns-in_default : goal.returns-in_default
returns-in_default c = other_kind c.args.word.now c.kind_of.result c.kind_of.ensures c.in_default.not-Real
