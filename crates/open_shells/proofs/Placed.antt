-- A loop of a shell is found at its place.
use Rattle.std.specs.Prelude.{◌≡◌, ◌<◌, ◌+◌, ℕ, zero, suc, List, [], ◌∷◌, Some, Contains, slice_get, length}
use Rattle.std.specs.List.{enumerate_from}
use Rattle.std.proofs.Common.{sym, ◌∙◌, ap, subst, arith, inl, inr}
use Rattle.std.proofs.lemmas.Option.{same_Some, slice_get_within}
use Rattle.solid_data.specs.SolidData.{PlacedLoop, placed_in_face, placed_loops}
use Rattle.solid_data.specs.declared.solid.FaceUse.{FaceUse}
use Rattle.solid_data.specs.declared.solid.Loop.{Loop}
use Rattle.solid_data.specs.declared.solid.LoopAt.{LoopAt}
use Rattle.solid_data.specs.declared.solid.Shell.{Shell}
use Rattle.solid_data.proofs.Members.{Has, Has-from_Contains, from_flat_map, has_map}
use Rattle.shell_rules.proofs.Placed.{enum_get, found}

-- its face, and the loop there
abbrev Found : Shell → PlacedLoop → Type 0
Found h p = (f : FaceUse) × (slice_get h.faces p.at.face.0 ≡ Some f) × (slice_get f.loops p.at.place ≡ Some p.loop)

-- a loop of the shell stands at this place
abbrev pub IsPlace : Shell → LoopAt → Type 0
IsPlace h at = (p : PlacedLoop) × Contains (placed_loops h) p × (at ≡ p.at)
