use Rattle.std.proofs.Common.{◌≡◌, ◌||◌, ◌+◌, ◌*◌, ℕ, Bool, take, flat_map}
use Rattle.std.specs.List.{enumerate_from, list_any}
use Rattle.entry_references.specs.Refs.{Record}
use Rattle.list_compact.specs.Marking.{AreMarks, sizes}
use Rattle.list_compact.specs.Used.{edges_in, has_end, used_from}
use Rattle.list_compact.proofs.marking.mark_all_ends.Given as goal

abbrev pub invariant-entries : goal.invariant-entries
invariant-entries l = record {
  marked : (edge_used used : ℕ → ℕ → Bool) → AreMarks l.edges edge_used → AreMarks l.fn.vertices used
      → AreMarks l.vertices (λ v j. used v j
      || list_any (has_end v j)
      (flat_map (λ (p : ℕ × Record). used_from (edge_used (2 * p.0 + 1)) 1 (edges_in p.1)) (take l.i (enumerate_from 0 l.file.entries))));
  sizes : sizes l.vertices ≡ sizes l.fn.vertices;
}
