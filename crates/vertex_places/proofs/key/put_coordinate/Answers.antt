use Rattle.std.proofs.Common.{◌≡◌, ◌++◌, OnOk, subst}
use Rattle.vertex_places.proofs.Coordinates.{coordinate_is}
use Rattle.vertex_places.proofs.key.put_coordinate.Goals as goal

pub returns-in-Some : goal.returns-in-Some
returns-in-Some c =
    subst (λ word. OnOk c.put_value.result (c.put_value.new.key.items ≡ c.args.key.now.items ++ word))
    (coordinate_is c.args.file.now c.args.vertex c.args.axis c.saturating_sub-place.result c.in-Some.values.now _ c.in-Some.ensures c.saturating_sub-place.ensures
    c.get.ensures.value) c.put_value.ensures
