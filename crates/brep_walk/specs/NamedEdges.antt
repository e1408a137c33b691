-- Private: edges that tuples name.
use Rattle.std.specs.Prelude.{◌≡◌, true, false, Option, Some}
use Rattle.std.specs.List.{list_any}
use Rattle.brep_lists.specs.declared.edge_list.EdgeTuple.{EdgeTuple}
use Rattle.brep_numbering.specs.Keys.{Keys}
use Rattle.brep_walk.specs.declared.naming.NamedEdge.{NamedEdge}
use Rattle.brep_walk.specs.declared.naming.NamedEdge.TheVariants.{Known, New}
use Rattle.solid_data.specs.Ring.{place_of}
use Rattle.solid_data.specs.SolidData.{same_edge}
use Rattle.solid_data.specs.declared.solid.EdgeKey.{EdgeKey}

-- The edge has this key and this tuple, and it is known where the key is among those numbered.
abbrev pub IsNamedEdge : Keys → EdgeKey → Option EdgeTuple → NamedEdge → Type 0
IsNamedEdge keys key ends (Known id) = (list_any (same_edge key) keys.edges ≡ true) × (id.0 ≡ place_of same_edge keys.edges key)
IsNamedEdge keys key ends (New k e) = (list_any (same_edge key) keys.edges ≡ false) × (k ≡ key) × (ends ≡ Some e)
