use Rattle.std.proofs.Common.{◌≡◌, ◌<◌, ◌||◌, ◌∷◌, ℕ, false, get_or, length, drop}
use Rattle.std.specs.List.{list_any}
use Rattle.where_unjudged.specs.Named.{is_at}
use Rattle.where_unjudged.proofs.marking.mark_shells.Given as goal

abbrev pub invariant-shells : goal.invariant-shells
invariant-shells l = record {
  len : length l.marks ≡ length l.fn.marks;
  marks : (k : ℕ) → k < length l.fn.marks
      → (get_or l.marks k false || list_any (is_at k) (drop l.i (l.of.outer ∷ l.of.voids)))
      ≡ (get_or l.fn.marks k false || list_any (is_at k) (l.of.outer ∷ l.of.voids));
}
