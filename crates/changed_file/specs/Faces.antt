-- What becomes of the faces of a shell, one by one.
use Rattle.std.specs.Prelude.{ℕ, ◌+◌, max, ℤ, pos, List, [], ◌∷◌, ◌++◌, map, Option, set, slice_index_or, replicate}
use Rattle.iges_fields.specs.declared.value.Value.{Value}
use Rattle.iges_params.specs.Contents.{Contents}
use Rattle.iges_params.specs.Named.{values_of}
use Rattle.solid_data.specs.SolidData.{SolidData}
use Rattle.solid_data.specs.declared.solid.FaceUse.{FaceUse}
use Rattle.solid_data.specs.declared.solid.Loop.{Loop}
use Rattle.shell_change.specs.declared.change.Fate.{Fate}
use Rattle.shell_change.specs.declared.change.Fate.TheVariants.{Removed, Kept}
use Rattle.shell_change.specs.declared.change.LoopNow.{LoopNow}
use Rattle.changed_records.specs.declared.named.NewLists.{NewLists}
use Rattle.changed_records.specs.declared.shells.FaceFlag.{FaceFlag}
use Rattle.changed_records.specs.Loops.{loop_values}
use Rattle.changed_file.specs.Folds.{fold_items, fold_pairs}
use Rattle.changed_file.specs.Draft.{with_values}

-- ---- pieces: each kept face comes to its piece, in the shell's order, with its flag

abbrev pub with_count : ℕ → Fate → ℕ
with_count n Removed = n
with_count n (Kept x) = max n (x.piece + 1)

abbrev pub piece_count : List Fate → ℕ
piece_count fates = fold_items with_count 0 fates

abbrev pub with_face : List (List FaceFlag) → ℕ → FaceFlag → List (List FaceFlag)
with_face pieces k face = set pieces k (slice_index_or pieces k [] ++ face ∷ [])

abbrev pub with_kept : List (List FaceFlag) → Fate → FaceUse → List (List FaceFlag)
with_kept pieces Removed face = pieces
with_kept pieces (Kept x) face = with_face pieces x.piece (record { number = face.entity.0; flag = x.flag })

unfoldable pub pieces_of : List Fate → List FaceUse → List (List FaceFlag)
pieces_of fates faces = fold_pairs with_kept (replicate (piece_count fates) []) fates faces

-- ---- loops of kept faces have their uses then

abbrev pub with_loop : Contents → SolidData → NewLists → List (Option (List Value)) → LoopNow → Loop → List (Option (List Value))
with_loop f s n slots now old = with_values slots old.entity.0 (loop_values s n (values_of f (pos old.entity.0)) now)

abbrev pub with_loops_of : Contents → SolidData → NewLists → List (Option (List Value)) → Fate → FaceUse → List (Option (List Value))
with_loops_of f s n slots Removed face = slots
with_loops_of f s n slots (Kept x) face = fold_pairs (with_loop f s n) slots x.loops face.loops

unfoldable pub with_loops : Contents → SolidData → NewLists → List (Option (List Value)) → List Fate → List FaceUse → List (Option (List Value))
with_loops f s n slots fates faces = fold_pairs (with_loops_of f s n) slots fates faces

-- ---- removed faces, and their loops

abbrev pub loop_number : Loop → ℤ
loop_number l = pos l.entity.0

abbrev pub with_removed : List ℤ → Fate → FaceUse → List ℤ
with_removed ns Removed face = ns ++ pos face.entity.0 ∷ []
with_removed ns (Kept x) face = ns

abbrev pub with_removed_loops : List ℤ → Fate → FaceUse → List ℤ
with_removed_loops ns Removed face = ns ++ map loop_number face.loops
with_removed_loops ns (Kept x) face = ns
