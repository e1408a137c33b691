-- Private: what a walk of tuples does to its state.
use Rattle.std.specs.Prelude.{◌≡◌, ℤ, pos, Bool, List, [], flat_map, Result, OnOk}
use Rattle.iges_base.specs.declared.entry_no.EntryNo.{EntryNo}
use Rattle.iges_params.specs.Contents.{Contents}
use Rattle.brep_lists.specs.Record.{LoopTuple}
use Rattle.brep_numbering.specs.Keys.{Keys}
use Rattle.brep_walk.specs.Numbered.{IsMadeBy, keys_after}
use Rattle.brep_walk.specs.Places.{faces, loops, numbers, loop_at, loop_places, face_at, face_places, shell_at, shell_places}
use Rattle.brep_walk.specs.Stands.{Stands}
use Rattle.brep_walk.specs.declared.fault.WalkFault.{WalkFault}
use Rattle.solid_data.specs.declared.place.Place.{Place}
use Rattle.brep_walk.specs.declared.state.WalkState.{WalkState}
use Rattle.solid_data.specs.Obligations.{Obligation, after_each}

-- A walk through the file that has numbered and named nothing yet.
pub record Begins (f : Contents) (state : WalkState) : Type 0 where
  pub stands : Stands f state.lists state.numbering
  pub keys : state.numbering.keys ≡ record { edges = []; vertices = [] }
  pub loops : state.loops ≡ []
  pub faces : state.faces ≡ []

-- The file stays. Where the walk of the tuples ends well, what they name is numbered.
pub record Walks (before after : WalkState) {X : Type 0} (result : Result X WalkFault) (ts : List LoopTuple) : Type 0 where
  pub file : after.lists ≡ before.lists
  pub stands : OnOk result (Stands before.lists after.lists after.numbering)
  pub keys : OnOk result (after.numbering.keys ≡ keys_after before.lists before.numbering.keys ts)

-- x is what the keys so far make, whatever keys come after them
abbrev pub IsMadeAt : WalkState → {X : Type 0} → (Keys → X) → X → Type 0
IsMadeAt state make x = IsMadeBy state.numbering.keys make x

-- the same loops, faces and shells are named
abbrev pub NamesAlike : WalkState → WalkState → Type 0
NamesAlike before after = (after.loops ≡ before.loops) × (after.faces ≡ before.faces) × (after.shells ≡ before.shells)

-- the same faces and shells are named
abbrev pub FacesAlike : WalkState → WalkState → Type 0
FacesAlike before after = (after.faces ≡ before.faces) × (after.shells ≡ before.shells)

-- the loops that are named are those of the faces, and the faces those of the shells
abbrev pub NamesLoops : Contents → WalkState → Type 0
NamesLoops f state = state.loops ≡ flat_map (loops f) state.faces

abbrev pub NamesFaces : Contents → WalkState → Type 0
NamesFaces f state = state.faces ≡ flat_map (λ shell. numbers (faces f shell)) state.shells

-- What the item at a place must name, after what was named before.

abbrev pub loop_here : WalkState → Place → ℤ → List Obligation
loop_here before at l = loop_at before.lists (pos at.entity.0) at.item before.loops l

abbrev pub face_here : WalkState → Place → ℤ → List Obligation
face_here before at c = face_at before.lists (pos at.entity.0) at.item before.faces c

abbrev pub shell_here : WalkState → Place → ℤ → List Obligation
shell_here before at s = shell_at before.lists (pos at.entity.0) at.item before.shells s

-- What all items of an entry must name.

abbrev pub loops_in_face : WalkState → EntryNo → List ℤ → List Obligation
loops_in_face before entity ls = after_each (loop_places before.lists (pos entity.0) before.loops) [] ls

abbrev pub faces_in_shell : WalkState → EntryNo → List (ℤ × Bool) → List Obligation
faces_in_shell before entity items = after_each (face_places before.lists (pos entity.0) before.faces) [] items

abbrev pub shells_in_solid : WalkState → EntryNo → List (ℤ × Bool) → List Obligation
shells_in_solid before entity items = after_each (shell_places before.lists (pos entity.0)) [] items
