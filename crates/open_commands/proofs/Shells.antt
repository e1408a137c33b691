-- The solid that is one shell of a file is an open shell.
use Rattle.std.specs.Prelude.{◌≡◌, ℕ, ◌<◌, List, [], ◌∷◌, pos, true, length, slice_get, Some}
use Rattle.std.proofs.Common.{refl, sym, ◌∙◌, ap, subst, arith}
use Rattle.std.proofs.lemmas.Option.{same_Some}
use Rattle.iges_params.specs.Contents.{Contents}
use Rattle.brep_walk.specs.OpenPlaces.{shell_solid_of}
use Rattle.brep_walk.specs.SolidOf.{shell_by, keys_in, solid_listing}
use Rattle.solid_data.specs.SolidData.{SolidData}
use Rattle.solid_data.specs.declared.solid.Shell.{Shell}
use Rattle.open_certificate.specs.Legal.{IsOpenShell}

pub open_shell : (f : Contents) (n : ℕ) → IsOpenShell (shell_solid_of f n)
unfolding solid_listing
open_shell f n = record { shell = shell_by f (keys_in f ((pos n, true) ∷ [])) (pos n, true); alone = refl; named = refl }

pub entity_is : (f : Contents) (n : ℕ) → (shell_solid_of f n).entity.0 ≡ n
unfolding solid_listing
entity_is f n = refl

-- s is the solid as it was walked
module _ (f : Contents) (n : ℕ) (s : SolidData) (same : s ≡ shell_solid_of f n) where
  pub is_open : IsOpenShell s
  is_open = subst IsOpenShell (sym same) (open_shell f n)

  pub has_first : 0 < length s.shells
  has_first = let long : length s.shells ≡ 1 = ap (λ (hs : List Shell). length hs) is_open.alone in omega (arith, long)

  pub alone : (h : Shell) → slice_get s.shells 0 ≡ Some h → s.shells ≡ h ∷ []
  alone h at = is_open.alone ∙ ap (λ x. x ∷ []) (same_Some is_open.shell h (sym (ap (λ (hs : List Shell). slice_get hs 0) is_open.alone) ∙ at))
