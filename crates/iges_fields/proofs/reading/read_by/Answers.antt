use Rattle.iges_fields.proofs.Loop.{left_onto, others_fail}
use Rattle.iges_fields.proofs.reading.read_by.Goals as goal

pub returns-in-Err-clause-gives : goal.returns-in-Err-clause-gives
returns-in-Err-clause-gives c front h = others_fail c.args.delims.now c.args.text.now _ (c.in-Err.ensures front h)

pub returns-in-Err-read_onto-clause-gives : goal.returns-in-Err-read_onto-clause-gives
returns-in-Err-read_onto-clause-gives c front h =
    others_fail c.args.delims.now c.args.text.now _ (c.in-Err-read_onto.ensures front (left_onto _ _ front _ _ c.requires.spare_empty h))
