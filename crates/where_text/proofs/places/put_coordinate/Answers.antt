use Rattle.std.proofs.Common.{◌≡◌, ◌∷◌, ◌++◌, OnOk, subst}
use Rattle.where_text.proofs.Coordinates.{coordinate_is}
use Rattle.where_text.proofs.places.put_coordinate.Goals as goal

pub returns-in-Some : goal.returns-in-Some
returns-in-Some c =
    subst (λ word. OnOk c.put_listed.result (c.put_listed.new.out ≡ c.args.out.now ++ 32 ∷ word))
    (coordinate_is c.args.file.now c.args.key c.args.axis c.saturating_sub-place.result c.in-Some.values.now _ c.in-Some.ensures c.saturating_sub-place.ensures
    c.get.ensures.value) c.put_listed.ensures.text
