use Rattle.std.proofs.Common.{◌∙◌, ◌++◌, ℤ, SFits, [], sym, ap, rules, w64}
use Rattle.std.specs.Prelude.{◌∷◌}
use Rattle.std.proofs.lemmas.Int.{to_z-of_z}
use Rattle.solid_reorient.proofs.FlagsFound.{next_number}
use Rattle.solid_reorient.proofs.reflagging.shell_numbers.Goals as goal

pub shells-preserved : goal.shells-preserved
shells-preserved c =
    let fits : SFits w64 c.unwrap-number.result.0 = search rules in
    next_number (c.in-Some-of.record.outer ∷ c.in-Some-of.record.voids) c.shells.i c.unwrap-number.result c.shells.list c.push.new.self (sym c.item.ensures
    ∙ c.unwrap-number.ensures) c.shells.invariant
    (c.in_ok-push.ensures.ok ∙ ap (λ (z : ℤ). c.shells.list ++ z ∷ []) (to_z-of_z w64 c.unwrap-number.result.0 fits))
