use Rattle.std.proofs.Common.{arith, rules}
use Rattle.std.proofs.lemmas.Nat.{be_bytes_8}
use Rattle.iges_params.proofs.pointer.word_of.Goals as goal

pub returns : goal.returns
returns c = be_bytes_8 c.args.bytes c.from_be_bytes.result (omega arith) (λ i. search rules) c.from_be_bytes.ensures
