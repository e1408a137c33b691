use Rattle.std.proofs.Common.{◌≡◌, ◌∷◌, ◌++◌, [], ℕ, pos, take}
use Rattle.iges_params.specs.Contents.{Contents}
use Rattle.list_compact.specs.Marking.{IsVertexTable, MarksItems, int_value}
use Rattle.list_compact.specs.Used.{is_used_edge, used_from}
use Rattle.list_compact.proofs.ListSteps.{edges_spelled}
use Rattle.list_compact.proofs.values.used_edges.Given as goal

abbrev pub invariant-edges : goal.invariant-edges
invariant-edges l = (g : Contents) (e : ℕ) → IsVertexTable g l.ranks → MarksItems l.row (is_used_edge g e)
    → l.list ≡ (int_value (pos l.used) ∷ []) ++ edges_spelled g (used_from (is_used_edge g e) 1 (take l.i l.listed))
