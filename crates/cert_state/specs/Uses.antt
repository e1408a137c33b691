-- Private: how many uses loops have.
use Rattle.std.specs.Prelude.{ℕ, ◌+◌, List, [], ◌∷◌, length}
use Rattle.solid_data.specs.declared.solid.Loop.{Loop}
use Rattle.solid_data.specs.declared.solid.FaceUse.{FaceUse}
use Rattle.solid_data.specs.declared.solid.Shell.{Shell}

abbrev pub loops_size : List Loop → ℕ
loops_size [] = 0
loops_size (l ∷ ls) = length l.uses + loops_size ls

abbrev pub faces_size : List FaceUse → ℕ
faces_size [] = 0
faces_size (f ∷ fs) = loops_size f.loops + faces_size fs

abbrev pub shells_size : List Shell → ℕ
shells_size [] = 0
shells_size (h ∷ hs) = faces_size h.faces + shells_size hs
