-- When a reoriented file is the extracted one.
use Rattle.std.specs.Prelude.{◌≡◌, ℕ, Bool, List, map}
use Rattle.iges_params.specs.Contents.{Contents}
use Rattle.iges_params.specs.Limits.{FitsLimits}
use Rattle.brep_walk.specs.SolidOf.{solid_of}
use Rattle.solid_data.specs.SolidData.{SolidData}
use Rattle.solid_data.specs.declared.solid.FaceUse.{FaceUse}
use Rattle.solid_data.specs.declared.solid.Shell.{Shell}
use Rattle.iges_write.specs.Writable.{IsWritable}
use Rattle.solid_verdict.specs.Closed.{IsClosed}
use Rattle.solid_reorient.specs.Reoriented.{IsReoriented}
use Rattle.reorient_laws.specs.Closed.{number_in}

-- the flags that the faces of a solid's shells have
abbrev pub own_flags : SolidData → List (List Bool)
own_flags s = map (λ (h : Shell). map (λ (f : FaceUse). f.flag) h.faces) s.shells

-- Where the flags that are found are the solid's own, the file is the extracted one.
abbrev pub OwnFlagsStay : Type 0
OwnFlagsStay = (f : Contents) (n : ℕ) (new : Contents) (r : IsReoriented f n new) → r.flags ≡ own_flags (solid_of f n) → new ≡ r.«between»

-- They are where the solid is closed already.
abbrev pub ClosedStays : Type 0
ClosedStays = (f : Contents) (n : ℕ) (new : Contents) (r : IsReoriented f n new) → FitsLimits f → IsClosed f n → new ≡ r.«between»

-- Reoriented again, it is the same file, and no other.
abbrev pub ReorientedAgain : Type 0
ReorientedAgain = (f : Contents) (n : ℕ) (new : Contents) (r : IsReoriented f n new) → IsWritable f
    → IsReoriented new (number_in f n new r n) new × ((again : Contents) → IsReoriented new (number_in f n new r n) again → again ≡ new)
