use Rattle.std.proofs.Common.{rules, arith, sym, ◌∙◌, ◌≡◌, ⊎_elim, true, false}
use Rattle.std.proofs.lemmas.Bool.{cases_lt}
use Rattle.cert_state.proofs.PointOrder.{not_low, not_high, none_named, one_named}
use Rattle.cert_state.proofs.points.point_place.Goals as goal

pub returns-then-is_named : goal.returns-then-is_named
returns-then-is_named c = one_named c.args.rows.now c.args.face c.args.place _ (c.point_at.result.0, c.point_at.result.1.0) c.requires c.point_at.ensures
    (search rules)

pub returns : goal.returns
returns c =
    none_named c.args.rows.now c.args.face c.args.place
    (λ i p at named. ⊎_elim (λ low. c.halves.invariant.below i p low at named)
    (λ high. c.halves.invariant.above i p (omega (arith, high, c.halves-test.false)) at named) (cases_lt i c.halves.low))

pub halves-preserved : goal.halves-preserved
halves-preserved c = record {
  within = omega (arith, c.halves-test.true, c.halves.invariant.within);
  below = c.halves.invariant.below;
  above =
      not_high c.args.rows.now.points c.args.face c.args.place _ (c.point_at.result.0, c.point_at.result.1.0) c.requires c.point_at.ensures
      (λ k. let e : false ≡ true = sym c.if-is_named.false ∙ c.is_named.ensures.1 k in cc)
      (λ k. let e : false ≡ true = sym c.if-is_before.false ∙ c.is_before.ensures.1 k in cc);
}

pub halves-preserved-then-is_before : goal.halves-preserved-then-is_before
halves-preserved-then-is_before c = record {
  within = c.halves.invariant.within;
  below = not_low c.args.rows.now.points c.args.face c.args.place _ (c.point_at.result.0, c.point_at.result.1.0) c.requires c.point_at.ensures (search rules);
  above = c.halves.invariant.above;
}
