-- The integers of a sample's records are small.
use Rattle.std.specs.Prelude.{ℕ, ◌+◌, ◌*◌, ◌%◌, ◌<◌, ◌≤◌, List, ◌++◌}
use Rattle.std.specs.List.{AllByRecursion}
use Rattle.std.proofs.Common.{arith}
use Rattle.std.proofs.Math.Nat.{mod-lt, mul_assoc}
use Rattle.std.proofs.lemmas.Nat.{mul-add-lt}
use Rattle.solid_data.proofs.Members.{all_append, all_flat_map}
use Rattle.sample_solids.specs.Sample.{squares, square, vertex_index, across_index, up_index, edge_between, use_record, face_listed, vertex_listed}
use Rattle.sample_solids.specs.Sample.{edges_listed, shell_record, vertex_record, edge_record, face_record, loop_record}
use Rattle.sample_solids.proofs.Squares.{squares_below}
use Rattle.sample_solids.proofs.Sizes.{few_squares}

abbrev pub IsSmall : ℕ → Type 0
IsSmall k = k ≤ 1_000_000

abbrev pub AreSmall : List ℕ → Type 0
AreSmall ns = AllByRecursion IsSmall ns

square_few : (n i j : ℕ) → 0 < n → n ≤ 200 → square n i j < 40_000
square_few n i j some few =
    let a : i % n * n + j % n < n * n = mul-add-lt (i % n) n (j % n) n (mod-lt i some) (mod-lt j some) in
    omega (arith, a, few_squares n few)

edge_small : (from to : ℕ) → IsSmall from → IsSmall to → AreSmall (edge_between from to)
edge_small from to a b = (omega arith, (omega arith, (a, (omega arith, (b, tt)))))

use_small : (index flag : ℕ) → IsSmall index → IsSmall flag → AreSmall (use_record index flag)
use_small index flag a b = (omega arith, (omega arith, (a, (b, (omega arith, tt)))))

module _ (n : ℕ) (some : 0 < n) (few : n ≤ 200) where
  vertex_few : (i j : ℕ) → IsSmall (vertex_index n i j)
  vertex_few i j = omega (arith, square_few n i j some few)

  across_few : (i j : ℕ) → IsSmall (across_index n i j)
  across_few i j = omega (arith, square_few n i j some few)

  up_few : (i j : ℕ) → IsSmall (up_index n i j)
  up_few i j = omega (arith, square_few n i j some few)

  pub shell_small : AreSmall (shell_record n)
  shell_small = (
    omega (arith, few_squares n few),
    all_flat_map IsSmall (face_listed n) (squares n) (λ s h. (omega (arith, square_few n s.0 s.1 some few), (omega arith, tt))),
  )

  pub vertices_small : AreSmall (vertex_record n)
  vertices_small = (
    omega (arith, few_squares n few),
    all_flat_map IsSmall vertex_listed (squares n)
        (λ s h. let b = squares_below n s h in (omega (arith, b.0, few), (omega (arith, b.1, few), (omega arith, tt)))),
  )

  pub edges_small : AreSmall (edge_record n)
  edges_small = (
    omega (arith, few_squares n few, mul_assoc 2 n n),
    all_flat_map IsSmall (edges_listed n) (squares n) (λ s h.
        all_append IsSmall (edge_between (vertex_index n s.0 s.1) (vertex_index n s.0 (s.1 + 1)))
        (edge_between (vertex_index n s.0 s.1) (vertex_index n (s.0 + 1) s.1))
        (edge_small _ _ (vertex_few s.0 s.1) (vertex_few s.0 (s.1 + 1))) (edge_small _ _ (vertex_few s.0 s.1) (vertex_few (s.0 + 1) s.1))),
  )

  pub face_small : (s : ℕ × ℕ) → AreSmall (face_record n s)
  face_small s = (omega arith, (omega arith, (omega arith, (omega (arith, square_few n s.0 s.1 some few), tt))))

  pub loop_small : (s : ℕ × ℕ) → AreSmall (loop_record n s)
  loop_small s =
      let a = use_record (across_index n s.0 s.1) 1 in
      let b = use_record (up_index n s.0 (s.1 + 1)) 1 in
      let c = use_record (across_index n (s.0 + 1) s.1) 0 in
      let d = use_record (up_index n s.0 s.1) 0 in (
        omega arith,
        all_append IsSmall ((a ++ b) ++ c) d
            (all_append IsSmall (a ++ b) c
            (all_append IsSmall a b (use_small (across_index n s.0 s.1) 1 (across_few s.0 s.1) (omega arith))
            (use_small (up_index n s.0 (s.1 + 1)) 1 (up_few s.0 (s.1 + 1)) (omega arith)))
            (use_small (across_index n (s.0 + 1) s.1) 0 (across_few (s.0 + 1) s.1) (omega arith)))
            (use_small (up_index n s.0 s.1) 0 (up_few s.0 s.1) (omega arith)),
      )
