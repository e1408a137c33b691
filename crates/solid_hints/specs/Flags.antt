-- The hint on face flags, with its sentence in lines of at most 78 columns.
use Rattle.std.specs.Prelude.{ℕ, Bool, false, not, List, ◌++◌, flat_map, Option, Some, None, count_by, slice_get, codes, decimal}
use Rattle.std.specs.List.{list_any}
use Rattle.iges_base.specs.Word.{is_empty}
use Rattle.solid_data.specs.SolidData.{SolidData}
use Rattle.solid_data.specs.declared.solid.FaceUse.{FaceUse}
use Rattle.solid_data.specs.declared.solid.Shell.{Shell}
use Rattle.solid_faults.specs.Faults.{Faults}
use Rattle.where_text.specs.Spelled.{space_word}

unfoldable pub flags_sentence : List ℕ
flags_sentence = codes "  With every face flag read as 1 this solid is closed. If its writer lets a\n  face's flag speak of the surface alone, as Parasolid's translator does, the\n  part is sound; if not, the faces with flag 0 may be turned. The receiver may\n  turn them inside out: check their normals there, or send STEP. igesolid\n  reorient FILE N writes the solid with flags that fit, not always all 1, or\n  says why it can't.\n"

unfoldable pub flags_hint : ℕ → List ℕ
flags_hint n = codes "hint face-flags faces" ++ space_word (decimal n) ++ codes "\n" ++ flags_sentence

-- how many faces of a solid have the flag 0
unfoldable pub unset_flags : SolidData → ℕ
unset_flags s = count_by (λ (face : FaceUse). not face.flag) (flat_map (λ (h : Shell). h.faces) s.shells)

abbrev pub has_unpaired : Option Faults → Bool
has_unpaired None = false
has_unpaired (Some x) = not (is_empty x.unpaired)

-- an edge isn't paired in one of these shells
abbrev pub pair_fails : List Faults → List ℕ → Bool
pair_fails xs ks = list_any (λ k. has_unpaired (slice_get xs k)) ks
