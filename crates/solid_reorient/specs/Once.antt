-- A solid is reoriented in one way.
use Rattle.std.specs.Prelude.{◌≡◌, ℕ, ℤ, pos, Bool, List, length}
use Rattle.std.specs.List.{AllZip}
use Rattle.iges_params.specs.Contents.{Contents}
use Rattle.brep_walk.specs.Places.{shells, faces}
use Rattle.solid_extract.specs.Extracted.{IsExtracted}
use Rattle.solid_reorient.specs.Fitting.{HasFlags}
use Rattle.solid_reorient.specs.Reflagged.{reflagged}
use Rattle.solid_reorient.specs.Reoriented.{IsReoriented}

-- A solid has one choice of flags.
abbrev pub NoOtherFlags : Type 0
NoOtherFlags = (f : Contents) (n : ℕ) (x y : List (List Bool)) → HasFlags f n x → HasFlags f n y → x ≡ y

abbrev pub OneReoriented : Type 0
OneReoriented = (f : Contents) (n : ℕ) (a b : Contents) → IsReoriented f n a → IsReoriented f n b → a ≡ b

-- A file that is what is extracted of it still is with other flags, one for each face.
abbrev pub ReflaggedIsExtracted : Type 0
ReflaggedIsExtracted = (g : Contents) (n : ℕ) (flags : List (List Bool)) → IsExtracted g n g
    → AllZip (λ (x : List Bool) (i : ℤ × Bool). length x ≡ length (faces g i.0)) flags (shells g (pos n))
    → IsExtracted (reflagged g n flags) n (reflagged g n flags)
