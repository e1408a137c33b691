use Rattle.named_sizes.specs.Sizes.{face_size}
use Rattle.named_sizes.proofs.Sums.{capped_within}
use Rattle.named_sizes.proofs.records.known_face.Goals as goal

pub returns-in-Some-clause-within : goal.returns-in-Some-clause-within
returns-in-Some-clause-within c = capped_within c.in-Some.size _ (c.in-Some.ensures (face_size c.args.file.now) c.requires)
