use Rattle.std.specs.Prelude.{◌≡◌, Some}
use Rattle.shell_change.proofs.Matching.{EachBelow}
use Rattle.change_pieces.specs.OneName.{edge_name, place_by}
use Rattle.change_pieces.proofs.names.edges_once.Given as goal

abbrev pub invariant-names : goal.invariant-names
invariant-names l = EachBelow (λ i name. place_by l.edges.places.is_near l.edges.places.least l.edges.places.old l.edges.places.slots.items l.edges.places.far.keys (edge_name name) ≡ Some i) l.names l.i
