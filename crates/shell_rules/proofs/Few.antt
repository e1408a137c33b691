-- A numbered solid has few parts.
use Rattle.std.specs.Prelude.{◌<◌, ◌≤◌, List, [], ◌∷◌, length, flat_map}
use Rattle.std.proofs.Common.{refl, arith, length-append, inl, inr}
use Rattle.std.proofs.lemmas.List.Elements.{All-contains}
use Rattle.solid_data.specs.SolidData.{SolidData}
use Rattle.solid_data.specs.Numbering.{IsNumberedSolid, HasFewParts}
use Rattle.solid_data.specs.declared.solid.Shell.{Shell}
use Rattle.solid_data.proofs.Members.{Has, Contains-from_Has}

each_has_one : (shells : List Shell) → ((h : Shell) → Has shells h → 0 < length h.faces) → length shells ≤ length (flat_map (λ (h : Shell). h.faces) shells)
each_has_one [] some = omega arith
each_has_one (h ∷ shells) some =
    omega (arith, some h (inl refl), each_has_one shells (λ x m. some x (inr m)), length-append h.faces (flat_map (λ (x : Shell). x.faces) shells))

pub few_parts : (s : SolidData) → IsNumberedSolid s → HasFewParts s s.entity.0
few_parts s numbered = record {
  few_uses = numbered.few_uses;
  few_loops = numbered.few_loops;
  few_faces = numbered.few_faces;
  few_shells = omega (
    arith,
    numbered.few_faces,
    each_has_one s.shells
        (λ h m. All-contains (λ (x : Shell). 0 < length x.faces) s.shells h numbered.each_shell (Contains-from_Has s.shells h m)),
  );
  number = numbered.number;
}
