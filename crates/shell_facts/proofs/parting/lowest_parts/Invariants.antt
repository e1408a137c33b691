use Rattle.std.proofs.Common.{◌≡◌, ◌<◌, ◌^◌, ◌||◌, ◌==◌, ℕ, nat_lt, drop, flat_map}
use Rattle.std.specs.List.{list_any}
use Rattle.solid_data.specs.Ranges.{IsWithin}
use Rattle.edge_uses.specs.Before.{face_vertices}
use Rattle.shell_facts.specs.PartFacts.{faces_where, faces_before}
use Rattle.shell_facts.specs.PartTables.{is_low, AreMarks}
use Rattle.shell_facts.proofs.parting.lowest_parts.Given as goal

abbrev pub invariant-faces : goal.invariant-faces
invariant-faces l = record {
  numbers : l.lows.numbers ≡ l.vertices;
  marks : AreMarks l.lows;
  lows : (v p : ℕ) → IsWithin l.lows.span v → p < 2 ^ 32
      → (is_low l.lows p v || list_any (λ m. m == v) (flat_map (face_vertices l.solid) (faces_where (λ q. nat_lt q p) (drop l.i l.faces) (drop l.i l.firsts))))
      ≡ list_any (λ m. m == v) (flat_map (face_vertices l.solid) (faces_before l.shell l.firsts p));
}
