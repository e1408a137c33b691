-- The words of entity types.
use Rattle.std.specs.Prelude.{ℕ, ℤ, pos, List, [], ◌∷◌, ◌++◌, Option, Some, None, find, codes}
use Rattle.std.specs.Ordering.{int_eq}
use Rattle.iges_directory.specs.declared.entry.Entry.{Entry}
use Rattle.iges_fields.specs.declared.value.Value.{Value}
use Rattle.iges_params.specs.Contents.{Contents}
use Rattle.iges_params.specs.Named.{named}
use Rattle.where_text.specs.Spelled.{signed}

-- the types that have a word of their own
abbrev pub type_names : List (ℤ × List ℕ)
type_names =
    (pos 100, codes "circular-arc") ∷
    (pos 102, codes "composite-curve") ∷
    (pos 104, codes "conic-arc") ∷
    (pos 106, codes "copious-data") ∷
    (pos 108, codes "plane") ∷
    (pos 110, codes "line") ∷
    (pos 112, codes "spline-curve") ∷
    (pos 114, codes "spline-surface") ∷
    (pos 116, codes "point") ∷
    (pos 118, codes "ruled-surface") ∷
    (pos 120, codes "surface-of-revolution") ∷
    (pos 122, codes "tabulated-cylinder") ∷
    (pos 123, codes "direction") ∷
    (pos 124, codes "matrix") ∷
    (pos 126, codes "b-spline-curve") ∷
    (pos 128, codes "b-spline-surface") ∷
    (pos 130, codes "offset-curve") ∷
    (pos 140, codes "offset-surface") ∷
    (pos 141, codes "boundary") ∷
    (pos 142, codes "curve-on-surface") ∷
    (pos 143, codes "bounded-surface") ∷
    (pos 144, codes "trimmed-surface") ∷
    (pos 150, codes "block") ∷
    (pos 152, codes "wedge") ∷
    (pos 154, codes "right-cylinder") ∷
    (pos 156, codes "right-cone") ∷
    (pos 158, codes "ball") ∷
    (pos 160, codes "ring") ∷
    (pos 162, codes "solid-of-revolution") ∷
    (pos 164, codes "solid-of-extrusion") ∷
    (pos 168, codes "ellipsoid") ∷
    (pos 180, codes "boolean-tree") ∷
    (pos 184, codes "assembly") ∷
    (pos 186, codes "solid") ∷
    (pos 190, codes "plane-surface") ∷
    (pos 192, codes "cylinder") ∷
    (pos 194, codes "cone") ∷
    (pos 196, codes "sphere") ∷
    (pos 198, codes "torus") ∷
    (pos 212, codes "note") ∷
    (pos 308, codes "subfigure") ∷
    (pos 314, codes "colour") ∷
    (pos 402, codes "group") ∷
    (pos 406, codes "property") ∷
    (pos 408, codes "instance") ∷
    (pos 430, codes "solid-instance") ∷
    (pos 502, codes "vertex-list") ∷
    (pos 504, codes "edge-list") ∷
    (pos 508, codes "loop") ∷
    (pos 510, codes "face") ∷
    (pos 514, codes "shell") ∷ []

abbrev pub name_or_number : ℤ → Option (ℤ × List ℕ) → List ℕ
name_or_number kind None = codes "type-" ++ signed kind
name_or_number kind (Some row) = row.1

unfoldable pub type_word : ℤ → List ℕ
type_word kind = name_or_number kind (find (λ (row : ℤ × List ℕ). int_eq kind row.0) type_names)

-- the word for what a number names; `-` where it names no entry
abbrev pub word_of_entry : Option (Entry × List Value) → List ℕ
word_of_entry None = codes "-"
word_of_entry (Some e) = type_word e.0.kind

unfoldable pub type_of : Contents → ℤ → List ℕ
type_of f number = word_of_entry (named f number)
