use Rattle.std.proofs.Common.{sym, arith, rules}
use Rattle.std.proofs.lemmas.Int.{to_z-of_z}
use mir.Val.{SFits}
use mir.Syntax.{w64}
use Rattle.where_places.proofs.FieldNumbers.{field_is}
use Rattle.where_places.proofs.fields.field_number.Goals as goal

pub returns-in-Some : goal.returns-in-Some
returns-in-Some c = λ n holds.
    let fits : SFits w64 c.in-Some.number = search rules in
    field_is c.args.k c.args.line.now c.columns.result.now c.in-Some.number _ n c.size.result (omega (arith, c.columns.ensures.length, c.requires.some))
    c.columns.ensures.is (sym c.in-Some.ensures) (to_z-of_z w64 c.in-Some.number fits) holds c.size.ensures
