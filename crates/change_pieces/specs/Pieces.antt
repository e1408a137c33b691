-- The pieces of a changed shell, as the shells of a solid with numbers of its own.
use Rattle.std.specs.Prelude.{◌≡◌, ◌<◌, ℕ, ◌==◌, Bool, false, List, [], ◌∷◌, ◌++◌, length, map, filter, flat_map, None}
use Rattle.solid_data.specs.SolidData.{SolidData}
use Rattle.solid_data.specs.declared.solid.FaceUse.{FaceUse}
use Rattle.solid_data.specs.declared.solid.Loop.{Loop}
use Rattle.solid_data.specs.declared.solid.Shell.{Shell}
use Rattle.edge_uses.specs.Before.{above_of}
use Rattle.shell_change.specs.declared.change.Change.{Change}
use Rattle.shell_change.specs.declared.change.EdgeName.{EdgeName}
use Rattle.shell_change.specs.declared.change.FaceNow.{FaceNow}
use Rattle.shell_change.specs.declared.change.Fate.{Fate}
use Rattle.shell_change.specs.declared.change.Fate.TheVariants.{Removed, Kept}
use Rattle.shell_change.specs.declared.change.LoopNow.{LoopNow}
use Rattle.shell_change.specs.declared.change.Rim.{Rim}
use Rattle.shell_change.specs.declared.change.RimEdge.{RimEdge}
use Rattle.shell_change.specs.declared.change.UseNow.{UseNow}
use Rattle.shell_change.specs.declared.change.UseNow.TheVariants.{OnEdge}
use Rattle.shell_change.specs.declared.change.VertexName.{VertexName}
use Rattle.shell_change.specs.Matching.{EachAt, Matched}
use Rattle.change_pieces.specs.Names.{StandOnce, IsUse, ends_named, HasEnds}

abbrev pub kept_face : Fate → List FaceNow
kept_face Removed = []
kept_face (Kept face) = face ∷ []

abbrev pub kept_faces : List Fate → List FaceNow
kept_faces fates = flat_map kept_face fates

abbrev pub rim_use : RimEdge → UseNow
rim_use x = OnEdge (record { edge = x.edge; along = x.along; turned = false; seam = None; start_by = None; end_by = None })

-- the loop of a rim's edges
abbrev pub rim_loop : Rim → LoopNow
rim_loop rim = record { reversed = false; uses = map rim_use rim.edges }

-- The face that is made on a rim: the rim is its only loop, and it has the flag that is given.
abbrev pub face_on : Bool → Rim → FaceNow
face_on flag rim = record { piece = rim.piece; flag = flag; loops = rim_loop rim ∷ [] }

-- the faces of all pieces: those that are kept, in the shell's order, and then one on each rim, with the shell's flag
abbrev pub faces_after : Bool → Change → List FaceNow
faces_after flag c = kept_faces c.faces ++ map (face_on flag) c.rims

abbrev pub is_of : ℕ → FaceNow → Bool
is_of piece face = face.piece == piece

-- the faces of one piece
abbrev pub faces_of : Bool → Change → ℕ → List FaceNow
faces_of flag c piece = filter (is_of piece) (faces_after flag c)

abbrev pub piece_of : FaceNow → ℕ
piece_of face = face.piece

-- how many pieces there are: one more than the greatest that a kept face is of
abbrev pub piece_count : Change → ℕ
piece_count c = above_of (map piece_of (kept_faces c.faces))

abbrev pub IsLoop : List VertexName → List EdgeName → LoopNow → Loop → Type 0
IsLoop vs es now l = Matched (IsUse vs es) now.uses l.uses

-- A face by numbers is the face that is named: with its flag, and with its loops, use by use.
pub record IsFace (vs : List VertexName) (es : List EdgeName) (now : FaceNow) (f : FaceUse) : Type 0 where
  pub flag : f.flag ≡ now.flag
  pub loops : Matched (IsLoop vs es) now.loops f.loops

-- A shell has this flag and these faces.
pub record IsPiece (vs : List VertexName) (es : List EdgeName) (shell_flag : Bool) (now : List FaceNow) (h : Shell) : Type 0 where
  pub flag : h.flag ≡ shell_flag
  pub faces : Matched (IsFace vs es) now h.faces

-- The shells of t are the pieces, in order, of a changed shell with this flag: each edge and each vertex of t stands for a name.
pub record ArePieces (s : SolidData) (c : Change) (flag : Bool) (vs : List VertexName) (es : List EdgeName) (t : SolidData) : Type 0 where
  pub vertices_once : StandOnce vs
  pub edges_once : StandOnce es
  pub vertices : length vs ≡ length t.vertices
  pub ends : Matched (λ name e. HasEnds vs (ends_named s c name) e) es t.edges
  pub count : length t.shells ≡ piece_count c
  pub rims : EachAt (λ _ (rim : Rim). rim.piece < piece_count c) c.rims
  pub each : EachAt (λ piece h. IsPiece vs es flag (faces_of flag c piece) h) t.shells
