-- The text of a sample is within the limit, and is that sample.
use Rattle.std.specs.Prelude.{◌≡◌, ℕ, ◌<◌, ◌≤◌, List, [], ◌∷◌, length, map, flat_map}
use Rattle.std.specs.List.{AllByRecursion}
use Rattle.std.proofs.Common.{refl, arith}
use Rattle.std.proofs.lemmas.List.{length-map}
use Rattle.iges_fields.specs.Delims.{Delims}
use Rattle.iges_write.specs.Parts.{parts}
use Rattle.iges_write.specs.Text.{global_values}
use Rattle.iges_write.specs.Writable.{IsWritable}
use Rattle.iges_write.proofs.Columns.{Are72}
use Rattle.iges_write.proofs.FileBack.{reads_back, one_text}
use Rattle.solid_data.proofs.Members.{all_append, all_flat_map}
use Rattle.sample_solids.specs.Sample.{squares, whole, start_line, no_values, shell_record, vertex_record, edge_record, face_record, loop_record, entry}
use Rattle.sample_solids.specs.Sample.{first_entries, face_entries, sample}
use Rattle.sample_solids.specs.Laws.{SamplesAreWithin, SamplesHaveTexts, SamplesReadBack}
use Rattle.sample_solids.proofs.Sizes.{sample_total, sample_length, few_squares}
use Rattle.sample_solids.proofs.Made.{made}
use Rattle.sample_solids.proofs.Small.{IsSmall, AreSmall, shell_small, vertices_small, edges_small, face_small, loop_small}
use Rattle.sample_solids.proofs.Filling.{are_values, length-parts, length-global}
use Rattle.sample_solids.proofs.Lengths.{IsShort, all_held, few_bytes}

-- ---- the entries

entry_short : (d : Delims) (kind form : ℕ) (ns : List ℕ) → IsSmall kind → AreSmall ns → IsShort d (entry kind form ns)
entry_short d kind form ns small h = record {
  held = record { status = refl; label = refl; values = are_values ns h };
  few = let same : length (map whole ns) ≡ length ns = length-map ns whole in omega (arith, length-parts d kind ns small h, same);
}

module _ (d : Delims) (n : ℕ) (some : 0 < n) (few : n ≤ 200) where
  first_short : AllByRecursion (IsShort d) (first_entries n)
  first_short = (
    entry_short d 186 0 (3 ∷ 1 ∷ 0 ∷ []) (omega arith) (omega arith, (omega arith, (omega arith, tt))),
    (
      entry_short d 514 1 (shell_record n) (omega arith) (shell_small n some few),
      (
        entry_short d 502 1 (vertex_record n) (omega arith) (vertices_small n some few),
        (
          entry_short d 504 1 (edge_record n) (omega arith) (edges_small n some few),
          (
            entry_short d 110 0 (0 ∷ 0 ∷ 0 ∷ 1 ∷ 0 ∷ 0 ∷ []) (omega arith)
                (omega arith, (omega arith, (omega arith, (omega arith, (omega arith, (omega arith, tt)))))),
            (
              entry_short d 108 0 (0 ∷ 0 ∷ 1 ∷ 0 ∷ 0 ∷ 0 ∷ 0 ∷ 0 ∷ 0 ∷ []) (omega arith)
                  (omega arith, (omega arith, (omega arith, (omega arith, (omega arith, (omega arith, (omega arith, (omega arith, (omega arith, tt))))))))),
              tt,
            ),
          ),
        ),
      ),
    ),
  )

  all_short : AllByRecursion (IsShort d) (sample n).entries
  unfolding sample
  all_short =
      all_append (IsShort d) (first_entries n) (flat_map (face_entries n) (squares n)) first_short
      (all_flat_map (IsShort d) (face_entries n) (squares n) (λ s h. (
        entry_short d 510 1 (face_record n s) (omega arith) (face_small n some few s),
        (entry_short d 508 1 (loop_record n s) (omega arith) (loop_small n some few s), tt),
      )))

-- ---- the file

start_wide : (n : ℕ) → Are72 (sample n).start
unfolding sample start_line
start_wide n = (refl, tt)

one_start : (n : ℕ) → length (sample n).start ≡ 1
unfolding sample
one_start n = refl

global_parts : (n : ℕ) → length (parts 72 (sample n).global.delims (global_values (sample n).global)) ≡ 6
unfolding sample
global_parts n = length-global no_values.delims

pub writable : (n : ℕ) → 0 < n → n ≤ 200 → IsWritable (sample n)
unfolding sample
writable n some few = record {
  made = made n few;
  delims = refl;
  global_values = refl;
  held =
      all_held no_values.delims (sample n).entries (all_short no_values.delims n some few);
}

pub within : SamplesAreWithin
within n low high text t =
    let some : 0 < n = omega (arith, low) in
    let bytes = few_bytes (sample n) text t (start_wide n) (all_short (sample n).global.delims n some high) in
    omega (arith, bytes, one_start n, global_parts n, sample_length n, sample_total n, few_squares n high)

pub back : SamplesReadBack
back n low high text t = reads_back (sample n) text (writable n (omega (arith, low)) high) t (within n low high text t)

pub has_text : SamplesHaveTexts
has_text n low high = let one = one_text (sample n) in (one.0, one.1, within n low high one.0 one.1)
