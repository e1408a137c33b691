use Rattle.std.proofs.Common.{refl}
use Rattle.std.proofs.lemmas.Bool.{false≢true}
use Rattle.change_names.proofs.Among.{is_there}
use Rattle.change_names.proofs.owning.is_among.Goals as goal

pub returns-then-stands_at : goal.returns-then-stands_at
returns-then-stands_at c = ((λ t. is_there c.args.numbers.now _ c.args.n (c.stands_at.ensures c.if-stands_at.true)), (λ h. refl))

pub returns-in-Some : goal.returns-in-Some
returns-in-Some c = ((λ t. is_there c.args.numbers.now _ c.args.n c.in-Some.ensures), (λ h. refl))

pub returns-in-None : goal.returns-in-None
returns-in-None c = ((λ t. absurd (false≢true t)), (λ h. absurd (c.in-None.ensures h)))
