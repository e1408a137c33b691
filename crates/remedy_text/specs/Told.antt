-- What is told of a change of a shell, as lists: of its faces, and what becomes of each. Of a face without a fate, or a loop without one, nothing is told.
use Rattle.std.specs.Prelude.{ℕ, ◌+◌, ◌-◌, Bool, true, false, not, List, [], ◌∷◌, length, flat_map, Option, Some, None, slice_get, if◌then◌else◌}
use Rattle.std.specs.List.{enumerate_from}
use Rattle.iges_base.specs.declared.entry_no.EntryNo.{EntryNo}
use Rattle.solid_data.specs.SolidData.{SolidData, same_flag}
use Rattle.solid_data.specs.declared.solid.FaceUse.{FaceUse}
use Rattle.solid_data.specs.declared.solid.Loop.{Loop}
use Rattle.solid_data.specs.declared.solid.Shell.{Shell}
use Rattle.shell_change.specs.declared.change.Fate.{Fate}
use Rattle.shell_change.specs.declared.change.Fate.TheVariants.{Removed, Kept}
use Rattle.shell_change.specs.declared.change.LoopNow.{LoopNow}
use Rattle.shell_change.specs.declared.change.UseNow.{UseNow}
use Rattle.shell_change.specs.declared.change.UseNow.TheVariants.{OnEdge, AtVertex}
use Rattle.remedy_text.specs.declared.told.FaceLoop.{FaceLoop}
use Rattle.remedy_text.specs.declared.told.TupleFlag.{TupleFlag}

-- what is told of an item; nothing where there is none
abbrev pub told_if : {A B : Type 0} → (A → List B) → Option A → List B
told_if told None = []
told_if told (Some x) = told x

abbrev pub shell_faces : Shell → List FaceUse
shell_faces h = h.faces

-- the faces of shell k, from 0
abbrev pub faces_of : SolidData → ℕ → List FaceUse
faces_of s k = told_if shell_faces (slice_get s.shells k)

-- ---- faces that are removed

abbrev pub removed_if : EntryNo → Fate → List EntryNo
removed_if face Removed = face ∷ []
removed_if face (Kept now) = []

abbrev pub removed_at : List Fate → ℕ × FaceUse → List EntryNo
removed_at fates (i, face) = told_if (removed_if face.entity) (slice_get fates i)

abbrev pub removed : List FaceUse → List Fate → List EntryNo
removed faces fates = flat_map (removed_at fates) (enumerate_from 0 faces)

-- ---- faces that are kept with another flag

abbrev pub turned_if : FaceUse → Fate → List EntryNo
turned_if face Removed = []
turned_if face (Kept now) = if same_flag face.flag now.flag then [] else face.entity ∷ []

abbrev pub turned_at : List Fate → ℕ × FaceUse → List EntryNo
turned_at fates (i, face) = told_if (turned_if face) (slice_get fates i)

abbrev pub turned : List FaceUse → List Fate → List EntryNo
turned faces fates = flat_map (turned_at fates) (enumerate_from 0 faces)

-- ---- loops that are reversed, each with its face

abbrev pub reversed_if : EntryNo → Loop → LoopNow → List FaceLoop
reversed_if face walk now = if now.reversed then record { walk = walk.entity; face = face } ∷ [] else []

abbrev pub reversed_at : EntryNo → List LoopNow → ℕ × Loop → List FaceLoop
reversed_at face nows (i, walk) = told_if (reversed_if face walk) (slice_get nows i)

abbrev pub reversed_in : FaceUse → Fate → List FaceLoop
reversed_in face Removed = []
reversed_in face (Kept now) = flat_map (reversed_at face.entity now.loops) (enumerate_from 0 face.loops)

abbrev pub reversed_of : List Fate → ℕ × FaceUse → List FaceLoop
reversed_of fates (i, face) = told_if (reversed_in face) (slice_get fates i)

abbrev pub reversed : List FaceUse → List Fate → List FaceLoop
reversed faces fates = flat_map (reversed_of fates) (enumerate_from 0 faces)

-- ---- uses of edges that are turned: the tuple of each in the loop's record, from 1, and the flag that it has then, as if the loop weren't reversed

-- the tuple that use i, from 0, of a loop of n is: those of a loop that is reversed come in opposite order
abbrev pub tuple_of : Bool → ℕ → ℕ → ℕ
tuple_of true n i = n - i
tuple_of false n i = i + 1

abbrev pub turned_use : EntryNo → Bool → ℕ → UseNow → List TupleFlag
turned_use walk reversed tuple (OnEdge u) =
    if u.turned then record { walk = walk; tuple = tuple; flag = same_flag u.along (not reversed) } ∷ [] else []
turned_use walk reversed tuple (AtVertex v by) = []

abbrev pub turned_use_at : EntryNo → Bool → ℕ → ℕ × UseNow → List TupleFlag
turned_use_at walk reversed n (i, now) = turned_use walk reversed (tuple_of reversed n i) now

abbrev pub flags_if : EntryNo → LoopNow → List TupleFlag
flags_if walk now = flat_map (turned_use_at walk now.reversed (length now.uses)) (enumerate_from 0 now.uses)

abbrev pub flags_at : List LoopNow → ℕ × Loop → List TupleFlag
flags_at nows (i, walk) = told_if (flags_if walk.entity) (slice_get nows i)

abbrev pub flags_in : FaceUse → Fate → List TupleFlag
flags_in face Removed = []
flags_in face (Kept now) = flat_map (flags_at now.loops) (enumerate_from 0 face.loops)

abbrev pub flags_of : List Fate → ℕ × FaceUse → List TupleFlag
flags_of fates (i, face) = told_if (flags_in face) (slice_get fates i)

abbrev pub flags : List FaceUse → List Fate → List TupleFlag
flags faces fates = flat_map (flags_of fates) (enumerate_from 0 faces)
