-- The hints on what isn't judged, each with its sentence in lines of at most 78 columns.
use Rattle.std.specs.Prelude.{ℕ, Bool, not, ◌||◌, nat_lt, ℤ, pos, List, [], ◌∷◌, codes, if◌then◌else◌}
use Rattle.std.specs.List.{list_any}
use Rattle.std.specs.Ordering.{int_eq}
use Rattle.iges_base.specs.Word.{is_empty}
use Rattle.iges_base.specs.declared.entry_no.EntryNo.{EntryNo}
use Rattle.iges_params.specs.Contents.{Contents}
use Rattle.where_unjudged.specs.Counts.{count_of_type}
use Rattle.where_unjudged.specs.Lines.{form_of}

unfoldable pub loose_shells_hint : List ℕ
loose_shells_hint = codes "hint loose-shells\n  No solid whose record fits names these shells, so nothing is said of them.\n  To judge one by itself, as an open or a closed one, run igesolid open with\n  its number. Shells of one face each are as a rule faces that were never\n  sewn.\n"

unfoldable pub loose_faces_hint : List ℕ
loose_faces_hint = codes "hint loose-faces\n  No shell whose record fits names these faces, so nothing is said of them. If\n  they belong to a solid, sew them and write the file again.\n"

unfoldable pub trimmed_hint : List ℕ
trimmed_hint = codes "hint trimmed\n  Trimmed and bounded surfaces (144, 143) share no edges, so whether they\n  close can't be told from them. Sew them in the CAD system and write solids\n  (186, often called B-rep mode).\n"

unfoldable pub other_solids_hint : List ℕ
other_solids_hint = codes "hint other-solids\n  Solids of these types are made of others: nothing is said of them.\n"

-- bounded and trimmed surfaces
abbrev pub surface_types : List ℕ
surface_types = 143 ∷ 144 ∷ []

-- solids that are made by other means than faces: primitives, those swept from curves, Boolean trees, assemblies and instances of solids
abbrev pub other_solid_types : List ℕ
other_solid_types = 150 ∷ 152 ∷ 154 ∷ 156 ∷ 158 ∷ 160 ∷ 162 ∷ 164 ∷ 168 ∷ 180 ∷ 184 ∷ 430 ∷ []

abbrev pub hint_if : Bool → List ℕ → List ℕ
hint_if applies hint = if applies then hint else []

-- a form of a shell, closed or open
abbrev pub is_shell_form : ℤ → Bool
is_shell_form form = int_eq form (pos 1) || int_eq form (pos 2)

abbrev pub has_shell_form : Contents → EntryNo → Bool
has_shell_form f n = is_shell_form (form_of f n)

-- of the shells that aren't named
abbrev pub shells_hint : Contents → List EntryNo → List ℕ
shells_hint f ns = hint_if (list_any (has_shell_form f) ns) loose_shells_hint

-- of the faces that aren't named
abbrev pub faces_hint : List EntryNo → List ℕ
faces_hint ns = hint_if (not (is_empty ns)) loose_faces_hint

-- there are entities of one of these types
abbrev pub has_some : Contents → List ℕ → Bool
has_some f types = list_any (λ t. nat_lt 0 (count_of_type f t)) types
