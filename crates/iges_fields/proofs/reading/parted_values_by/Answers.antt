use Rattle.iges_fields.proofs.Loop.{parted_fault, parted_found}
use Rattle.iges_fields.proofs.FaultPlaces.{places_within}
use Rattle.iges_fields.proofs.Whole.{FreeText-read_values, IsFieldFault-read_values}
use Rattle.iges_fields.proofs.reading.parted_values_by.Goals as goal

pub returns-clause-found : goal.returns-clause-found
returns-clause-found c = parted_found c.args.delims c.read_parted.ensures.permitted c.args.text.now c.read_parted.result c.read_parted.ensures.gives

pub returns-clause-fault : goal.returns-clause-fault
returns-clause-fault c = parted_fault c.args.delims c.read_parted.ensures.permitted c.args.text.now c.read_parted.result c.read_parted.ensures.gives

pub returns-clause-only : goal.returns-clause-only
returns-clause-only c = λ vs used h. rw (FreeText-read_values c.args.delims c.read_parted.ensures.permitted c.args.text.now vs used h) at
    c.read_parted.ensures.gives

pub returns-clause-only_fault : goal.returns-clause-only_fault
returns-clause-only_fault c = λ f h. rw (IsFieldFault-read_values c.args.delims c.read_parted.ensures.permitted c.args.text.now f h) at
    c.read_parted.ensures.gives

pub returns-clause-place : goal.returns-clause-place
returns-clause-place c = places_within c.args.delims c.args.text.now c.read_parted.result
    (parted_fault c.args.delims c.read_parted.ensures.permitted c.args.text.now c.read_parted.result c.read_parted.ensures.gives)
