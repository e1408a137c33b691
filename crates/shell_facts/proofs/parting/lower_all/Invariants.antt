use Rattle.std.proofs.Common.{◌≡◌, ◌||◌, ◌&&◌, ◌==◌, ℕ, nat_lt, drop}
use Rattle.std.specs.List.{list_any}
use Rattle.solid_data.specs.Ranges.{IsWithin}
use Rattle.shell_facts.specs.PartTables.{is_low, AreKept}
use Rattle.shell_facts.proofs.parting.lower_all.Given as goal

abbrev pub invariant-vertices : goal.invariant-vertices
invariant-vertices l = record {
  kept : AreKept l.fn.lows l.lows;
  lows : (v p : ℕ) → IsWithin l.fn.lows.span v → (is_low l.lows p v || (list_any (λ m. m == v) (drop l.i l.vertices) && nat_lt l.part p))
      ≡ (is_low l.fn.lows p v || (list_any (λ m. m == v) l.vertices && nat_lt l.part p));
}
