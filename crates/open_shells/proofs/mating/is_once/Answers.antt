use Rattle.std.proofs.Common.{arith, refl, ◌≡◌, true, false}
use Rattle.open_shells.proofs.OnceMates.{once_counts, counts_once}
use Rattle.open_shells.proofs.mating.is_once.Goals as goal

pub returns-then-seen-gt1 : goal.returns-then-seen-gt1
returns-then-seen-gt1 c =
    λ d e s. ((λ t. absurd (let f : false ≡ true = t in cc)), λ once. absurd (let k = once_counts d e once in omega (arith, k.0, s.along, c.if-seen-gt1.true)))

pub returns-then-seen-gt1-2 : goal.returns-then-seen-gt1-2
returns-then-seen-gt1-2 c =
    λ d e s. (
      (λ t. absurd (let f : false ≡ true = t in cc)),
      λ once. absurd
          (let k = once_counts d e once in omega (arith, k.1, s.against, c.if-seen-gt1-2.true)),
    )

pub returns-then-seen-eq0 : goal.returns-then-seen-eq0
returns-then-seen-eq0 c =
    λ d e s. (
      (λ t. absurd (let f : false ≡ true = t in cc)),
      λ once. absurd
          (let k = once_counts d e once in omega (arith, k.2, s.along, s.against, c.if-seen-eq0.true)),
    )

pub returns : goal.returns
returns c = λ d e s. (
  (λ t. counts_once d e c.args.seen.along c.args.seen.against s.along s.against (omega (arith, c.if-seen-gt1.false))
      (omega (arith, c.if-seen-gt1-2.false)) (omega (arith, c.if-seen-eq0.false))),
  λ once. refl,
)
