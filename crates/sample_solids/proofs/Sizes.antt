-- How large a sample is.
use Rattle.std.specs.Prelude.{◌≡◌, ℕ, ◌+◌, ◌*◌, ◌<◌, ◌≤◌, List, [], ◌∷◌, ◌++◌, length, map, flat_map}
use Rattle.std.proofs.Common.{refl, ◌∙◌, ap, arith, length-append}
use Rattle.std.proofs.lemmas.Nat.{mul-le}
use Rattle.std.proofs.lemmas.List.{length-map}
use Rattle.iges_base.specs.declared.TheConstants.{ENTRY_LIMIT, FILE_LIMIT}
use Rattle.iges_fields.specs.declared.value.Value.{Value}
use Rattle.iges_directory.specs.declared.entry.Entry.{Entry}
use Rattle.iges_params.specs.Contents.{value_count}
use Rattle.iges_params.specs.Limits.{FitsLimits}
use Rattle.solid_data.proofs.Members.{total, fold-total}
use Rattle.sample_solids.specs.Sample.{squares, whole, face_listed, vertex_listed, edges_listed, shell_record, vertex_record, edge_record, first_entries}
use Rattle.sample_solids.specs.Sample.{face_entries, sample}
use Rattle.sample_solids.proofs.Squares.{length_squares, length_chunks}

pub total_append : {A : Type 0} (f : A → ℕ) (xs ys : List A) → total f (xs ++ ys) ≡ total f xs + total f ys
total_append f [] ys = omega arith
total_append f (x ∷ xs) ys = omega (arith, total_append f xs ys)

pub total_chunks : {A B : Type 0} (f : B → ℕ) (g : A → List B) (c : ℕ) (xs : List A) → ((x : A) → total f (g x) ≡ c) → total f (flat_map g xs) ≡ c * length xs
total_chunks f g c [] each = omega arith
total_chunks f g c (x ∷ xs) each = omega (arith, total_append f (g x) (flat_map g xs), each x, total_chunks f g c xs each)

abbrev pub values_in : Entry × List Value → ℕ
values_in e = length e.1

pub value_total : (es : List (Entry × List Value)) → value_count es ≡ total values_in es
value_total es = fold-total values_in 0 es ∙ omega arith

length_record : (g : ℕ × ℕ → List ℕ) (c n k : ℕ) → ((s : ℕ × ℕ) → length (g s) ≡ c) → length (map whole (k ∷ flat_map g (squares n))) ≡ 1 + c * (n * n)
length_record g c n k each =
    let a : length (map whole (k ∷ flat_map g (squares n))) ≡ length (k ∷ flat_map g (squares n)) = length-map (k ∷ flat_map g (squares n)) whole in
    let b : length (flat_map g (squares n)) ≡ c * length (squares n) = length_chunks g c (squares n) (λ s h. each s) in
    let d : c * length (squares n) ≡ c * (n * n) = ap (λ m. c * m) (length_squares n) in
    omega (arith, a, b, d)

pub first_total : (n : ℕ) → total values_in (first_entries n) ≡ 21 + 15 * (n * n)
first_total n =
    let a : length (map whole (shell_record n)) ≡ 1 + 2 * (n * n) = length_record (face_listed n) 2 n (n * n) (λ s. refl) in
    let b : length (map whole (vertex_record n)) ≡ 1 + 3 * (n * n) = length_record vertex_listed 3 n (n * n) (λ s. refl) in
    let d : length (map whole (edge_record n)) ≡ 1 + 10 * (n * n) = length_record (edges_listed n) 10 n (2 * n * n) (λ s. refl) in
    omega (arith, a, b, d)

pub sample_total : (n : ℕ) → total values_in (sample n).entries ≡ 21 + 40 * (n * n)
unfolding sample
sample_total n =
    let a = total_append values_in (first_entries n) (flat_map (face_entries n) (squares n)) in
    let b : total values_in (flat_map (face_entries n) (squares n)) ≡ 25 * length (squares n) =
    total_chunks values_in (face_entries n) 25 (squares n) (λ s. refl) in
    omega (arith, a, b, first_total n, length_squares n)

pub sample_length : (n : ℕ) → length (sample n).entries ≡ 6 + 2 * (n * n)
unfolding sample
sample_length n =
    let a : length (first_entries n ++ flat_map (face_entries n) (squares n)) ≡ length (first_entries n) + length (flat_map (face_entries n) (squares n)) =
    length-append (first_entries n) (flat_map (face_entries n) (squares n)) in
    let b : length (flat_map (face_entries n) (squares n)) ≡ 2 * length (squares n) = length_chunks (face_entries n) 2 (squares n) (λ s h. refl) in
    omega (arith, a, b, length_squares n)

pub few_squares : (n : ℕ) → n ≤ 200 → n * n ≤ 40_000
few_squares n few = mul-le n n 200 200 few few

-- A sample fits the limits.
pub fits : (n : ℕ) → n ≤ 200 → FitsLimits (sample n)
fits n few = record {
  entries = let a = few_squares n few in omega (arith, a, sample_length n);
  values = let a = few_squares n few in omega (arith, a, value_total (sample n).entries, sample_total n);
}

-- and so does each front of it, with one entry more
pub fronts_fit : (n : ℕ) (es rest : List (Entry × List Value)) (e : Entry × List Value) → n ≤ 200 → es ++ e ∷ rest ≡ (sample n).entries
    → (length es < ENTRY_LIMIT) × (value_count es + length e.1 ≤ FILE_LIMIT)
fronts_fit n es rest e few is =
    let a = few_squares n few in
    let long : length (es ++ e ∷ rest) ≡ 6 + 2 * (n * n) = ap (λ xs. length xs) is ∙ sample_length n in
    let many : total values_in (es ++ e ∷ rest) ≡ 21 + 40 * (n * n) = ap (total values_in) is ∙ sample_total n in
    (omega (arith, a, long, length-append es (e ∷ rest)), omega (arith, a, many, total_append values_in es (e ∷ rest), value_total es))
