use Rattle.std.proofs.Common.{sym, ap, ◌∙◌, ◌≡◌, true, false}
use Rattle.std.specs.Prelude.{Some, None}
use Rattle.std.proofs.lemmas.Bool.{eq-eqb, eqb-true}
use Rattle.std.proofs.lemmas.Option.{same_Some}
use Rattle.cert_state.proofs.ring.turns_to.Goals as goal

pub returns-in-Some : goal.returns-in-Some
returns-in-Some c = λ pairs hm. (
  λ t. (c.in-Some.ensures pairs hm c.args.next).0 (ap (λ z. Some z) (eqb-true c.in-Some.turn c.from.result t ∙ c.from.ensures)),
  λ h. eq-eqb c.in-Some.turn c.from.result (same_Some c.in-Some.turn c.args.next ((c.in-Some.ensures pairs hm c.args.next).1 h) ∙ sym c.from.ensures),
)

pub returns-in-None : goal.returns-in-None
returns-in-None c = λ pairs hm.
    (λ t. absurd (let e : false ≡ true = t in cc), λ h. absurd (let e : None ≡ Some c.args.next = (c.in-None.ensures pairs hm c.args.next).1 h in cc))
