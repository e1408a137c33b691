use Rattle.std.proofs.Common.{◌≡◌, ◌∷◌, ◌++◌, [], ℕ, pos, take, flat_map}
use Rattle.iges_params.specs.Contents.{Contents}
use Rattle.list_compact.specs.Marking.{MarksItems, int_value, vertex_spelled}
use Rattle.list_compact.specs.Used.{is_used_vertex, used_from}
use Rattle.list_compact.proofs.values.used_vertices.Given as goal

abbrev pub invariant-vertices : goal.invariant-vertices
invariant-vertices l = (g : Contents) (v : ℕ) → MarksItems l.row (is_used_vertex g v)
    → l.list ≡ (int_value (pos l.used) ∷ []) ++ flat_map vertex_spelled (used_from (is_used_vertex g v) 1 (take l.i l.listed))
