-- Private: shells in which nothing is empty, and their uses face by face.
use Rattle.std.specs.Prelude.{◌<◌, List, length, flat_map}
use Rattle.std.specs.List.{AllByRecursion}
use Rattle.solid_data.specs.declared.solid.FaceUse.{FaceUse}
use Rattle.solid_data.specs.declared.solid.Loop.{Loop}
use Rattle.solid_data.specs.declared.solid.LoopUse.{LoopUse}
use Rattle.solid_data.specs.declared.solid.Shell.{Shell}

abbrev pub loop_uses : Loop → List LoopUse
loop_uses l = l.uses

abbrev pub face_uses : FaceUse → List LoopUse
face_uses f = flat_map loop_uses f.loops

abbrev pub IsFilledLoop : Loop → Type 0
IsFilledLoop l = 0 < length l.uses

abbrev pub IsFilledFace : FaceUse → Type 0
IsFilledFace f = (0 < length f.loops) × AllByRecursion IsFilledLoop f.loops

abbrev pub IsFilledShell : Shell → Type 0
IsFilledShell h = (0 < length h.faces) × AllByRecursion IsFilledFace h.faces
