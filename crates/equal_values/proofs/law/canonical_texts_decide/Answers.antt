use Rattle.equal_values.proofs.Texts.{texts_decide}
use Rattle.equal_values.proofs.law.canonical_texts_decide.Goals as goal

pub returns : goal.returns
returns c = texts_decide
