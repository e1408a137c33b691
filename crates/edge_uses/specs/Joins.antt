-- Where the uses of a loop start and end, that they join, and the first loop of a shell that doesn't.
use Rattle.std.specs.Prelude.{◌≡◌, ℕ, ◌+◌, true, false, Bool, not, List, [], ◌∷◌, map, Option, Some, None, slice_get}
use Rattle.solid_data.specs.Ring.{next_of_each}
use Rattle.solid_data.specs.SolidData.{SolidData, PlacedLoop, placed_loops}
use Rattle.solid_data.specs.Obligations.{Obligation, obligation, of_each, FirstFalse, FirstNot}
use Rattle.solid_data.specs.declared.solid.Edge.{Edge}
use Rattle.solid_data.specs.declared.solid.Loop.{Loop}
use Rattle.solid_data.specs.declared.solid.LoopAt.{LoopAt}
use Rattle.solid_data.specs.declared.solid.LoopUse.{LoopUse}
use Rattle.solid_data.specs.declared.solid.LoopUse.TheVariants.{EdgeUse, VertexUse}
use Rattle.solid_data.specs.declared.solid.Shell.{Shell}
use Rattle.solid_data.specs.declared.verdict.Rule.TheVariants.{Unjoined}

-- where an edge begins that is walked along it or against it
abbrev pub begin_of : Option Edge → Bool → ℕ
begin_of None along = 0
begin_of (Some e) true = e.from.0
begin_of (Some e) false = e.to.0

-- where a use starts and ends, by the flag of the loop alone
abbrev pub start_of : SolidData → LoopUse → ℕ
start_of s (EdgeUse edge along) = begin_of (slice_get s.edges edge.0) along
start_of s (VertexUse vertex) = vertex.0

abbrev pub end_of : SolidData → LoopUse → ℕ
end_of s (EdgeUse edge along) = begin_of (slice_get s.edges edge.0) (not along)
end_of s (VertexUse vertex) = vertex.0

-- Each use ends where the next one starts, and the last where the first starts.
abbrev pub IsJoined : SolidData → Loop → Type 0
IsJoined s l = map (end_of s) l.uses ≡ next_of_each (map (start_of s) l.uses)

-- where each use ends and where the next one starts, by number
abbrev pub ends_and_starts : ℕ → List ℕ → List ℕ → List (ℕ × ℕ × ℕ)
ends_and_starts i [] starts = []
ends_and_starts i (e ∷ ends) [] = []
ends_and_starts i (e ∷ ends) (s ∷ starts) = (i, e, s) ∷ ends_and_starts (i + 1) ends starts

-- one for each use of a loop: it ends where the next one starts
abbrev pub loop_obligations : SolidData → Loop → List Obligation
loop_obligations s l =
    map (λ (u : ℕ × ℕ × ℕ). obligation Unjoined l.entity.0 u.0 (u.1 ≡ u.2))
    (ends_and_starts 1 (map (end_of s) l.uses) (next_of_each (map (start_of s) l.uses)))

-- the first loop of a shell that doesn't join, and its first use whose end differs, from 1
pub record IsFirstUnjoined (s : SolidData) (shell : Shell) (at : LoopAt) (place : ℕ) : Type 0 where
  pub placed : PlacedLoop
  pub first : FirstNot (λ (p : PlacedLoop). IsJoined s p.loop) (placed_loops shell) placed
  pub is_at : at ≡ placed.at
  pub is_place : FirstFalse (loop_obligations s placed.loop) (record { rule = Unjoined; entity = placed.loop.entity; place = place })

abbrev pub join_obligations : SolidData → Shell → List Obligation
join_obligations s shell = of_each (λ (p : PlacedLoop). loop_obligations s p.loop) (placed_loops shell)
