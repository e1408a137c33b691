-- The hints on the failing shells of a solid.
use Rattle.std.specs.Prelude.{◌≡◌, ◌⊎◌, ◌<◌, ◌==◌, ◌+◌, ◌-◌, ℕ, Bool, List, [], ◌∷◌, ◌++◌, All, IsTrue, Some, length, map, flat_map, slice_get, take}
use Rattle.std.specs.List.{enumerate_from}
use Rattle.iges_base.specs.declared.entry_no.EntryNo.{EntryNo}
use Rattle.iges_params.specs.Contents.{Contents}
use Rattle.solid_data.specs.SolidData.{SolidData}
use Rattle.solid_faults.specs.FaceFlags.{IsClosedFlagged}
use Rattle.solid_faults.specs.Faults.{Faults}
use Rattle.shell_change.specs.declared.change.Remedy.{Remedy}
use Rattle.shell_change.specs.declared.geometry.Geometry.{Geometry}
use Rattle.solid_geometry.specs.Known.{IsGeometryOf}
use Rattle.tried_remedies.specs.Tried.{IsTried}
use Rattle.remedy_text.specs.Remedies.{more_remedies, remedy_text, stuck_text}
use Rattle.remedy_text.specs.Steps.{steps_named}
use Rattle.where_text.specs.declared.listing.Listing.{Listing}
use Rattle.where_text.specs.declared.listing.Listing.TheVariants as how
use Rattle.solid_hints.specs.Flags.{flags_hint, pair_fails, unset_flags}

-- ---- the remedies of a shell

-- A remedy of shell k, from 0: the change fits, with places and curves known as the file has them, and with it the shell passes.
pub record IsRemedy (f : Contents) (s : SolidData) (k : ℕ) (r : Remedy) : Type 0 where
  pub geometry : Geometry
  pub known : IsGeometryOf f s geometry
  pub tried : IsTried s geometry (record { 0 = k }) r

-- the number of a shell, from 0, and remedies of it
abbrev pub ShellRemedies : Type 0
ShellRemedies = ℕ × List Remedy

-- Remedies are told of each of these shells, in order.
pub record AreRemediesOf (f : Contents) (s : SolidData) (ks : List ℕ) (told : List ShellRemedies) : Type 0 where
  pub shells : map (λ (t : ShellRemedies). t.0) told ≡ ks
  pub each : (i : ℕ) (t : ShellRemedies) → slice_get told i ≡ Some t → All (IsRemedy f s t.0) t.1

-- ---- and how they are written

-- how many remedies of a shell are written
abbrev pub written_count : Listing → ℕ
written_count how.Few = 3
written_count how.All = 6

-- those that are written, the first ones
unfoldable pub written : Listing → List Remedy → List Remedy
written listing rs = take (written_count listing) rs

-- the remedy at this place, from 0; the first with the sentence on all
unfoldable pub remedy_at : Listing → Contents → SolidData → ℕ × Remedy → List ℕ
remedy_at listing f s t = remedy_text listing f s (record { number = t.0 + 1; explained = t.0 == 0 }) t.1.change

-- the faces that it names
unfoldable pub faces_named : Listing → SolidData → Remedy → List EntryNo
faces_named listing s r = steps_named listing s r.change

-- the first remedies of a shell, and how many more there are
abbrev pub written_remedies : Listing → Contents → SolidData → List Remedy → List ℕ
written_remedies listing f s rs =
    flat_map (remedy_at listing f s) (enumerate_from 0 (written listing rs)) ++ more_remedies (length rs - length (written listing rs))

-- the same, or that there is none
abbrev pub remedies_text : Listing → Contents → SolidData → ℕ → List Remedy → List ℕ
remedies_text listing f s k [] = stuck_text k
remedies_text listing f s k (r ∷ rs) = written_remedies listing f s (r ∷ rs)

abbrev pub remedies_at : Listing → Contents → SolidData → ShellRemedies → List ℕ
remedies_at listing f s t = remedies_text listing f s t.0 t.1

-- the faces that remedies of a shell name
abbrev pub named_at : Listing → SolidData → ShellRemedies → List EntryNo
named_at listing s t = flat_map (faces_named listing s) (written listing t.1)

-- ---- the hints

-- Edges aren't paired, a face has the flag 0, and with all flags of faces 1 the solid is closed.
abbrev pub TellsFlags : SolidData → Bool → Type 0
TellsFlags s unpaired = IsTrue unpaired × (0 < unset_flags s) × IsClosedFlagged s

-- Where flags are told, that is said alone; else remedies of each of these shells are told. These are the faces that are named.
abbrev pub IsHint : Listing → Contents → SolidData → List Faults → List ℕ → List ShellRemedies → List ℕ → List EntryNo → Type 0
IsHint listing f s faults ks told hint faces =
    (TellsFlags s (pair_fails faults ks) × (told ≡ []) × (hint ≡ flags_hint (unset_flags s)) × (faces ≡ []))
    ⊎ ((¬ TellsFlags s (pair_fails faults ks)) × AreRemediesOf f s ks told × (hint ≡ flat_map (remedies_at listing f s) told)
    × (faces ≡ flat_map (named_at listing s) told))
