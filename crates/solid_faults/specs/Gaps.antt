-- Where a loop has a gap: a use that ends at another vertex than the next one starts at.
use Rattle.std.specs.Prelude.{ℕ, ◌==◌, List, [], ◌∷◌, map, flat_map, if◌then◌else◌}
use Rattle.solid_data.specs.Ring.{next_of_each}
use Rattle.solid_data.specs.SolidData.{SolidData, PlacedLoop, placed_loops}
use Rattle.solid_data.specs.declared.solid.Shell.{Shell}
use Rattle.solid_data.specs.declared.verdict.Failing.{Failing}
use Rattle.solid_data.specs.declared.verdict.Rule.TheVariants.{Unjoined}
use Rattle.edge_uses.specs.Joins.{start_of, end_of, ends_and_starts}
use Rattle.solid_faults.specs.declared.gap.Gap.{Gap}

-- a use by its number, with where it ends and where the next one starts
abbrev pub gap_at : PlacedLoop → ℕ × ℕ × ℕ → List Gap
gap_at p u = if u.1 == u.2 then [] else record { at = p.at; entity = p.loop.entity; tuple = u.0 } ∷ []

abbrev pub loop_gaps : SolidData → PlacedLoop → List Gap
loop_gaps s p = flat_map (gap_at p) (ends_and_starts 1 (map (end_of s) p.loop.uses) (next_of_each (map (start_of s) p.loop.uses)))

-- the gaps of a shell, in file order
abbrev pub gaps_of : SolidData → Shell → List Gap
gaps_of s shell = flat_map (loop_gaps s) (placed_loops shell)

-- the obligation that fails there
abbrev pub gap_failing : Gap → Failing
gap_failing g = record { rule = Unjoined; entity = g.entity; place = g.tuple }
