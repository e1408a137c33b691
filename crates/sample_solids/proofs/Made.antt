-- A sample is a file that can be made.
use Rattle.std.specs.Prelude.{◌≡◌, ℕ, ◌≤◌, false, List, [], ◌∷◌, flat_map, pos, IsTrue}
use Rattle.std.specs.List.{AllByRecursion}
use Rattle.std.specs.Ordering.{int_eq}
use Rattle.std.proofs.Common.{refl, sym, ◌∙◌, arith}
use Rattle.std.proofs.lemmas.Bool.{false≢true}
use Rattle.iges_params.specs.Made.{IsMadeEntry, IsMade}
use Rattle.iges_directory.specs.Bounds.{fits_columns}
use Rattle.solid_data.proofs.Members.{all_append, all_flat_map}
use Rattle.sample_solids.specs.Sample.{squares, start_line, shell_record, vertex_record, edge_record, face_record, loop_record, entry, first_entries}
use Rattle.sample_solids.specs.Sample.{face_entries, sample}
use Rattle.sample_solids.proofs.Sizes.{fits}

made_entry : (kind form : ℕ) (ns : List ℕ) → IsTrue (fits_columns (pos kind)) → IsTrue (fits_columns (pos form)) → int_eq (pos kind) (pos 0) ≡ false
    → IsMadeEntry (entry kind form ns)
made_entry kind form ns high fits_too used = record {
  bounded = record {
    kind = high;
    structure = refl;
    font = refl;
    level = refl;
    view = refl;
    matrix = refl;
    display = refl;
    weight = refl;
    colour = refl;
    form = fits_too;
    subscript = refl;
    status = refl;
    label = refl;
  };
  unused = λ h. absurd (false≢true (sym used ∙ h));
}

first_made : (n : ℕ) → AllByRecursion IsMadeEntry (first_entries n)
first_made n = (
  made_entry 186 0 (3 ∷ 1 ∷ 0 ∷ []) refl refl refl,
  (
    made_entry 514 1 (shell_record n) refl refl refl,
    (
      made_entry 502 1 (vertex_record n) refl refl refl,
      (
        made_entry 504 1 (edge_record n) refl refl refl,
        (
          made_entry 110 0 (0 ∷ 0 ∷ 0 ∷ 1 ∷ 0 ∷ 0 ∷ []) refl refl refl,
          (made_entry 108 0 (0 ∷ 0 ∷ 1 ∷ 0 ∷ 0 ∷ 0 ∷ 0 ∷ 0 ∷ 0 ∷ []) refl refl refl, tt),
        ),
      ),
    ),
  ),
)

-- A sample keeps what each file keeps.
pub made : (n : ℕ) → n ≤ 200 → IsMade (sample n)
unfolding sample start_line
made n few = record {
  some_start = omega arith;
  start = refl;
  kinds = refl;
  entries = all_append IsMadeEntry (first_entries n) (flat_map (face_entries n) (squares n)) (first_made n)
      (all_flat_map IsMadeEntry (face_entries n) (squares n)
      (λ s h. (made_entry 510 1 (face_record n s) refl refl refl, (made_entry 508 1 (loop_record n s) refl refl refl, tt))));
  limits = fits n few;
}
