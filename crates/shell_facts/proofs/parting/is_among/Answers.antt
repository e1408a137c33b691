use Rattle.shell_facts.proofs.PartSteps.{among}
use Rattle.shell_facts.proofs.parting.is_among.Goals as goal

pub returns : goal.returns
returns c = among c.args.n c.args.numbers.now c.places.result.now c.is_empty.result c.places.ensures c.is_empty.ensures
