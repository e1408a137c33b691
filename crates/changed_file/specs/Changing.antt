-- What each change makes of a file's records, one after the other.
use Rattle.std.specs.Prelude.{ℕ, ◌==◌, pos, List, [], ◌∷◌, ◌++◌, Option, Some, None, slice_get, if◌then◌else◌}
use Rattle.iges_params.specs.Contents.{Contents}
use Rattle.iges_params.specs.Named.{values_of}
use Rattle.solid_data.specs.SolidData.{SolidData}
use Rattle.solid_data.specs.declared.solid.Shell.{Shell}
use Rattle.shell_change.specs.declared.change.Change.{Change}
use Rattle.shell_change.specs.declared.change.NewEdge.{NewEdge}
use Rattle.shell_change.specs.declared.change.NewVertex.{NewVertex}
use Rattle.changed_records.specs.declared.named.NewLists.{NewLists}
use Rattle.changed_records.specs.declared.shells.FaceFlag.{FaceFlag}
use Rattle.changed_records.specs.Lists.{vertex_source, edge_source, vertex_list_values, edge_list_values}
use Rattle.changed_records.specs.Shells.{new_shell_values, shell_values, new_solid_values, solid_values}
use Rattle.changed_file.specs.declared.draft.Draft.{Draft}
use Rattle.changed_file.specs.declared.draft.NewEntry.{NewEntry}
use Rattle.changed_file.specs.Folds.{fold_items, fold_pairs}
use Rattle.changed_file.specs.Draft.{blank_draft, next_number, with_values}
use Rattle.changed_file.specs.Faces.{pieces_of, with_loops, with_removed, with_removed_loops}

-- ---- a list of new vertices and one of new edges, where there are any, like those of the first item's source

abbrev pub vertex_list : Contents → SolidData → List NewVertex → List NewEntry
vertex_list f s [] = []
vertex_list f s (v ∷ vs) = record { like = (vertex_source s v).list; values = vertex_list_values f s (v ∷ vs) } ∷ []

abbrev pub edge_list : Contents → SolidData → NewLists → List NewEdge → List NewEntry
edge_list f s n [] = []
edge_list f s n (e ∷ es) = record { like = (edge_source s e).list; values = edge_list_values f s n (e ∷ es) } ∷ []

-- the numbers of both lists
abbrev pub new_lists : Contents → SolidData → List NewEntry → Change → NewLists
new_lists f s added c = record { vertices = next_number f added; edges = next_number f (added ++ vertex_list f s c.vertices) }

-- ---- a piece but the first: a shell like the changed one

-- The outer shell's become solids of their own.
abbrev pub with_outer : Contents → SolidData → Shell → Draft → List FaceFlag → Draft
with_outer f s h d faces = record d {
  added = (d.added ++ record { like = h.entity.0; values = new_shell_values faces } ∷ [])
      ++ record { like = s.entity.0; values = new_solid_values (record { number = next_number f d.added; flag = h.flag }) } ∷ [];
}

-- Those of a void stay voids.
abbrev pub with_void : Contents → Shell → Draft → List FaceFlag → Draft
with_void f h d faces = record d {
  added = d.added ++ record { like = h.entity.0; values = new_shell_values faces } ∷ [];
  voids = d.voids ++ record { number = next_number f d.added; flag = h.flag } ∷ [];
}

abbrev pub with_piece : Contents → SolidData → ℕ → Shell → Draft → List FaceFlag → Draft
with_piece f s k h d faces = if k == 0 then with_outer f s h d faces else with_void f h d faces

-- ---- a change

-- The first piece stays in the shell.
abbrev pub with_first : Contents → Shell → Draft → List FaceFlag → Draft
with_first f h d faces = record d { slots = with_values d.slots h.entity.0 (shell_values (values_of f (pos h.entity.0)) faces) }

abbrev pub with_pieces : Contents → SolidData → ℕ → Shell → Draft → List (List FaceFlag) → Draft
with_pieces f s k h d [] = d
with_pieces f s k h d (faces ∷ more) =
    fold_items (with_piece f s k h) (with_first f h d faces) more

-- the new lists, and the loops that name their items
abbrev pub with_uses : Contents → SolidData → Change → Shell → Draft → Draft
with_uses f s c h d = record d {
  slots = with_loops f s (new_lists f s d.added c) d.slots c.faces h.faces;
  added = (d.added ++ vertex_list f s c.vertices) ++ edge_list f s (new_lists f s d.added c) c.edges;
}

-- what is removed
abbrev pub with_gone : Change → Shell → Draft → Draft
with_gone c h d = record d {
  faces = fold_pairs with_removed d.faces c.faces h.faces;
  loops = fold_pairs with_removed_loops d.loops c.faces h.faces;
}

abbrev pub with_shell : Contents → SolidData → Change → Draft → Option Shell → Draft
with_shell f s c d None = d
with_shell f s c d (Some h) = with_gone c h (with_pieces f s c.shell.0 h (with_uses f s c h d) (pieces_of c.faces h.faces))

unfoldable pub with_change : Contents → SolidData → Draft → Change → Draft
with_change f s d c = with_shell f s c d (slice_get s.shells c.shell.0)

-- ---- all changes, and then the solid with the new voids

abbrev pub with_voids : Contents → SolidData → Draft → List FaceFlag → Draft
with_voids f s d [] = d
with_voids f s d (v ∷ vs) = record d { slots = with_values d.slots s.entity.0 (solid_values (values_of f (pos s.entity.0)) (v ∷ vs)) }

abbrev pub with_changes : Contents → SolidData → List Change → Draft
with_changes f s cs = fold_items (with_change f s) (blank_draft f) cs

unfoldable pub drafted : Contents → SolidData → List Change → Draft
drafted f s cs = let d = with_changes f s cs in with_voids f s d d.voids
