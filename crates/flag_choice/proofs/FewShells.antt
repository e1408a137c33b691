-- A solid has few shells, since each has a face.
use Rattle.std.specs.Prelude.{◌<◌, ◌≤◌, ◌^◌, List, [], ◌∷◌, length, flat_map}
use Rattle.std.specs.List.{AllByRecursion}
use Rattle.std.proofs.Common.{arith}
use Rattle.std.proofs.lemmas.List.{length-append}
use Rattle.std.proofs.lemmas.List.Elements.{recursion_from_All}
use Rattle.solid_data.specs.Numbering.{IsNumberedSolid}
use Rattle.solid_data.specs.SolidData.{SolidData}
use Rattle.solid_data.specs.declared.solid.Shell.{Shell}

no_fewer : (hs : List Shell) → AllByRecursion (λ (h : Shell). 0 < length h.faces) hs → length hs ≤ length (flat_map (λ (h : Shell). h.faces) hs)
no_fewer [] all = omega arith
no_fewer (h ∷ hs) all = omega (arith, all.0, no_fewer hs all.1, length-append h.faces (flat_map (λ (h : Shell). h.faces) hs))

pub few_shells : (s : SolidData) → IsNumberedSolid s → length s.shells < 2 ^ 29
few_shells s numbered = omega (
  arith,
  numbered.few_faces,
  no_fewer s.shells (recursion_from_All (λ (h : Shell). 0 < length h.faces) s.shells numbered.each_shell),
)
