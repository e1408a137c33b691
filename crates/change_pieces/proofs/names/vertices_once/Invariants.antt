use Rattle.std.specs.Prelude.{◌≡◌, Some}
use Rattle.shell_change.proofs.Matching.{EachBelow}
use Rattle.change_pieces.specs.OneName.{vertex_name, place_by}
use Rattle.change_pieces.proofs.names.vertices_once.Given as goal

abbrev pub invariant-names : goal.invariant-names
invariant-names l = EachBelow (λ i name. place_by l.vertices.places.is_near l.vertices.places.least l.vertices.places.old l.vertices.places.slots.items l.vertices.places.far.keys (vertex_name name) ≡ Some i) l.names l.i
