use Rattle.std.proofs.Common.{◌≡◌, ◌||◌, ℕ, Bool, take}
use Rattle.std.specs.List.{list_any}
use Rattle.list_compact.specs.Marking.{AreMarks, MarksItems, sizes}
use Rattle.list_compact.specs.Used.{has_end, used_from}
use Rattle.list_compact.proofs.marking.mark_list_ends.Given as goal

abbrev pub invariant-edges : goal.invariant-edges
invariant-edges l = record {
  marked : (edge_used : ℕ → Bool) → MarksItems l.row edge_used → (used : ℕ → ℕ → Bool) → AreMarks l.fn.vertices used
      → AreMarks l.vertices (λ v j. used v j || list_any (has_end v j) (used_from edge_used 1 (take l.i l.listed)));
  sizes : sizes l.vertices ≡ sizes l.fn.vertices;
}
