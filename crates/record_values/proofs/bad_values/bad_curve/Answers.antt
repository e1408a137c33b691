use Rattle.std.proofs.Common.{ℤ, Option, ◌≡◌, ◌≤◌, ◌<◌, true, false, length, sym, ◌∙◌, ap, subst, arith, rules}
use Rattle.std.specs.Prelude.{IsSome, unwrap_or}
use Rattle.std.proofs.lemmas.Int.{to_z-of_z}
use mir.Val.{SFits}
use mir.Syntax.{w64}
use Rattle.record_values.specs.BadValue.{names_geometry}
use Rattle.record_values.proofs.Curves.{bad_here, good_here, is_curve, none_bad}
use Rattle.record_values.proofs.bad_values.bad_curve.Goals as goal

pub unwrap-curve-requires : goal.unwrap-curve-requires
unwrap-curve-requires c =
    let cs = c.args.tuple.now.curves in
    let within : c.curves.i < length cs = omega arith in
    subst (λ (o : Option ℤ). IsSome o) (sym c.curve.ensures) (is_curve cs c.curves.i within)

pub returns-then-not-names_geometry-clause-is : goal.returns-then-not-names_geometry-clause-is
returns-then-not-names_geometry-clause-is c =
    let f = c.args.file.now in
    let z = c.unwrap-curve.result in
    let fits : SFits w64 z = search rules in
    let bad : names_geometry f z ≡ false = ap (names_geometry f) (sym (to_z-of_z w64 z fits)) ∙ sym c.names_geometry.ensures ∙ c.if-not-names_geometry.true in
    ap (λ o. unwrap_or o 0) (sym (bad_here f c.args.tuple.now.curves c.curves.i z (sym c.unwrap-curve.ensures ∙ c.curve.ensures) bad) ∙ c.curves.invariant)

pub curves-preserved : goal.curves-preserved
curves-preserved c =
    let f = c.args.file.now in
    let z = c.unwrap-curve.result in
    let fits : SFits w64 z = search rules in
    let good : names_geometry f z ≡ true = ap (names_geometry f) (sym (to_z-of_z w64 z fits)) ∙ sym c.names_geometry.ensures ∙ c.if-not-names_geometry.false in
    sym (good_here f c.args.tuple.now.curves c.curves.i z (sym c.unwrap-curve.ensures ∙ c.curve.ensures) good) ∙ c.curves.invariant

pub returns-clause-is : goal.returns-clause-is
returns-clause-is c =
    let cs = c.args.tuple.now.curves in
    let past : length cs ≤ c.curves.i = omega arith in
    ap (λ o. unwrap_or o 0) (sym (none_bad c.args.file.now cs c.curves.i past) ∙ c.curves.invariant)
