use Rattle.std.proofs.Common.{◌≡◌, ◌<◌, ℕ, ℤ, ◌^◌, pos, Ok, subst, sym, ap, ◌∙◌, refl, arith, w64}
use Rattle.std.proofs.lemmas.Int.{to_z_pos}
use Rattle.iges_fields.specs.declared.value.Value.TheVariants as value
use Rattle.iges_fields.proofs.PlainIntegers.{plain_item}
use Rattle.iges_fields.proofs.plain.plain_number.Goals as goal

pub returns : goal.returns
returns c =
    let ds = c.requires.digits in
    let limit : 10 ^ 18 ≡ 1000000000000000000 = refl in
    let few = subst (λ (n : ℕ). n < 10 ^ 18) ds.value ds.few in
    plain_item c.args.delims.now c.requires.permitted c.args.text.now c.args.digits.len ds.within ds.all c.split_at.result.1.now c.split_at.ensures.back
    c.in-len1-up.len_at_least
    (sym c.has.ensures ∙ c.if-not-has.false) (omega (arith, c.if-digits-eq0.false)) few
    ∙ ap (λ (z : ℤ). Ok (value.Int z, c.split_at.result.1.now)) (ap pos (sym ds.value) ∙ sym (to_z_pos w64 c.args.digits.value (omega (arith, ds.few, limit))))
