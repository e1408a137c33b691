-- What stays of a file in which shells of a solid change.
use Rattle.std.specs.Prelude.{◌≡◌, ℕ, ◌/◌, List, Contains, Some, slice_get}
use Rattle.iges_params.specs.Contents.{Contents}
use Rattle.entry_references.specs.Refs.{Record}
use Rattle.solid_data.specs.SolidData.{SolidData}
use Rattle.solid_data.specs.declared.solid.FaceUse.{FaceUse}
use Rattle.solid_data.specs.declared.solid.Loop.{Loop}
use Rattle.solid_data.specs.declared.solid.Shell.{Shell}
use Rattle.shell_change.specs.declared.change.Change.{Change}
use Rattle.shell_change.specs.declared.change.Fate.TheVariants.{Removed}
use Rattle.changed_file.specs.Changed.{changed}

-- the place in the directory, from 0, of the entry with a number
abbrev pub place_of : ℕ → ℕ
place_of n = n / 2

-- At this place is the solid, a shell of it, or a loop of a face of it.
pub data IsTopology (s : SolidData) (i : ℕ) : Type 0 where
  solid : place_of s.entity.0 ≡ i → IsTopology s i
  shell : (h : Shell) → Contains s.shells h → place_of h.entity.0 ≡ i → IsTopology s i
  «loop» : (h : Shell) (x : FaceUse) (l : Loop) → Contains s.shells h → Contains h.faces x → Contains x.loops l → place_of l.entity.0 ≡ i → IsTopology s i

-- At this place is a face that one of the changes removes from its shell.
pub data IsRemoved (s : SolidData) (cs : List Change) (i : ℕ) : Type 0 where
  face : (c : Change) (h : Shell) (k : ℕ) (x : FaceUse) → Contains cs c → slice_get s.shells c.shell.0 ≡ Some h → slice_get c.faces k ≡ Some Removed
      → slice_get h.faces k ≡ Some x → place_of x.entity.0 ≡ i → IsRemoved s cs i

-- Of the first file the second has the start, the global, and each other entry where it is, with its directory fields and its values: lists of
-- vertices and edges, curves and surfaces, faces that aren't removed, and all that the solid doesn't name.
pub record OthersStayIn (f : Contents) (s : SolidData) (cs : List Change) (new : Contents) : Type 0 where
  pub start : new.start ≡ f.start
  pub global : new.global ≡ f.global
  pub entries : (i : ℕ) (r : Record) → slice_get f.entries i ≡ Some r → ¬ IsTopology s i → ¬ IsRemoved s cs i → slice_get new.entries i ≡ Some r

abbrev pub OthersStay : Type 0
OthersStay = (f : Contents) (s : SolidData) (cs : List Change) → OthersStayIn f s cs (changed f s cs)
