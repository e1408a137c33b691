use Rattle.std.proofs.Common.{ℤ, Ok, ap, sym, ◌∙◌, rules, SFits, w64}
use Rattle.std.proofs.lemmas.Int.{to_z-of_z}
use Rattle.iges_fields.specs.declared.value.Value.TheVariants as value
use Rattle.iges_fields.proofs.Loop.{good_at}
use Rattle.iges_fields.proofs.reading.first_item.Goals as goal

pub returns-in-Some : goal.returns-in-Some
returns-in-Some c =
    let number = c.in-Some.number in
    let fits : SFits w64 number = search rules in
    good_at c.args.delims.now 0 c.args.text.now _ (c.in-Some.ensures {u = tt})
    ∙ ap (λ (n : ℤ). Ok (value.Int n, c.in-Some.rest.now)) (sym (to_z-of_z w64 number fits))
