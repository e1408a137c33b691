use Rattle.std.proofs.Common.{◌≡◌, ◌∙◌, ◌+◌, ◌*◌, arith, rules, to_z, of_z, w64}
use Rattle.solid_extract.proofs.renaming.Renaming.renamed.Goals as goal

pub returns-clause-few : goal.returns-clause-few
returns-clause-few c =
    let is : to_z w64 (of_z w64 c.number_of_place.result) ≡ c.number_of_place.result = search rules in
    (2 * c.place.result + 1, is ∙ c.number_of_place.ensures, omega (arith, c.place.ensures.few))
