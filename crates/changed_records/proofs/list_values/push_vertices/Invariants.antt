use Rattle.std.proofs.Common.{◌≡◌, ◌++◌, drop, flat_map}
use Rattle.changed_records.specs.Lists.{new_vertex_values}
use Rattle.changed_records.proofs.list_values.push_vertices.Given as goal

abbrev pub invariant-vertices : goal.invariant-vertices
invariant-vertices l = l.list ++ flat_map (new_vertex_values l.file l.solid) (drop l.i l.vertices)
    ≡ l.fn.list ++ flat_map (new_vertex_values l.file l.solid) l.vertices
