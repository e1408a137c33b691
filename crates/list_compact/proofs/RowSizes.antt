-- Rows of marks as long as the lists of a file.
use Rattle.std.specs.Prelude.{◌≡◌, ℕ, ◌+◌, ◌*◌, ◌/◌, ◌%◌, ◌<◌, ◌==◌, ◌&&◌, ◌||◌, nat_le, Bool, true, false, pos, List, length, map, Some, None, option_map}
use Rattle.std.specs.Prelude.{slice_get}
use Rattle.std.specs.List.{enumerate_from, list_any}
use Rattle.std.specs.Ordering.{int_eq}
use Rattle.std.proofs.Common.{sym, ◌∙◌, ap, arith}
use Rattle.std.proofs.lemmas.Bool.{and_from, cond-true, cond-false, eq-eqb, le-leb}
use Rattle.std.proofs.lemmas.List.{length-map}
use Rattle.std.proofs.lemmas.Option.{same_Some, slice_get-map, slice_get_within}
use Rattle.iges_directory.specs.Named.{unless_unused}
use Rattle.iges_params.specs.Contents.{Contents}
use Rattle.iges_params.specs.Named.{kind_of, named}
use Rattle.solid_data.proofs.Members.{get_some}
use Rattle.entry_references.specs.Refs.{Record}
use Rattle.entry_references.proofs.Marks.{place_is, odd_is}
use Rattle.solid_extract.proofs.Copies.{all_at}
use Rattle.list_compact.specs.Used.{edges_in, vertices_in, edge_count, vertex_count, all_uses, names_edge, names_vertex, is_item, is_used_edge, used_edges}
use Rattle.list_compact.specs.Used.{has_end, is_used_vertex}
use Rattle.list_compact.specs.Marking.{AreMarks, HasType, AreRecords, sizes, edge_sizes, vertex_sizes}
use Rattle.list_compact.proofs.DroppedEntries.{get_enumerated}

pub row_size : (rows : List (List Bool)) (rs : List Record) (count : Record → ℕ) (i : ℕ) (row : List Bool) (r : Record) → sizes rows ≡ map count rs
    → slice_get rows i ≡ Some row → slice_get rs i ≡ Some r → length row ≡ count r
row_size rows rs count i row r e at there =
    same_Some (length row) (count r)
    (sym (slice_get-map (λ (x : List Bool). length x) rows i ∙ ap (option_map (λ (x : List Bool). length x)) at)
    ∙ (ap (λ (ns : List ℕ). slice_get ns i) e ∙ (slice_get-map count rs i ∙ ap (option_map count) there)))

pub enumerated_at : (rs : List Record) (i : ℕ) (r : Record) → slice_get rs i ≡ Some r → slice_get (enumerate_from 0 rs) i ≡ Some (i, r)
enumerated_at rs i r at = let none : 0 + i ≡ i = omega arith in get_enumerated 0 rs i
    ∙ (ap (option_map (λ (x : Record). (0 + i, x))) at ∙ ap (λ m. Some (m, r)) none)

-- an entry that has a type is named by its number
pub named_odd : (g : Contents) (k : ℕ) (r : Record) → slice_get g.entries k ≡ Some r → HasType r → named g (pos (2 * k + 1)) ≡ Some r
named_odd g k r at kind =
    cond-true ((2 * k + 1) % 2 == 1) (unless_unused kind_of (slice_get g.entries ((2 * k + 1) / 2))) None (eq-eqb ((2 * k + 1) % 2) 1 (odd_is k))
    ∙ (ap (λ (i : ℕ). unless_unused kind_of (slice_get g.entries i)) (place_is k)
    ∙ (ap (unless_unused kind_of) at ∙ cond-false (int_eq r.0.kind (pos 0)) None (Some r) kind))

module _ (g : Contents) (records : AreRecords g) (rows : List (List Bool)) (k i : ℕ) (row : List Bool) (at : slice_get rows k ≡ Some row)
    (lt : i < length row) where
  row_record : (count : Record → ℕ) → sizes rows ≡ map count g.entries → (r : Record) × (slice_get g.entries k ≡ Some r) × (length row ≡ count r)
  row_record count e =
      let within : k < length g.entries =
      omega (arith, slice_get_within rows k row at, ap length e, length-map g.entries count, length-map rows (λ (x : List Bool). length x)) in
      let r = get_some g.entries k within in
      (r.0, r.1, row_size rows g.entries count k row r.0 e at r.1)

  item_there : (n : ℕ) → length row ≡ n → is_item n (i + 1) ≡ true
  item_there n e = and_from (nat_le 1 (i + 1)) (nat_le (i + 1) n) (le-leb 1 (i + 1) (omega arith)) (le-leb (i + 1) n (omega (arith, lt, e)))

  pub edge_is_used : sizes rows ≡ edge_sizes g → list_any (names_edge (2 * k + 1) (i + 1)) (all_uses g) ≡ is_used_edge g (2 * k + 1) (i + 1)
  unfolding is_used_edge
  edge_is_used e =
      let r = row_record (λ r. length (edges_in r)) e in
      let name : named g (pos (2 * k + 1)) ≡ Some r.0 = named_odd g k r.0 r.1 (all_at HasType g.entries k r.0 records.typed r.1) in
      let count : edge_count g (2 * k + 1) ≡ length (edges_in r.0) = ap (λ o. elim o as (λ _. ℕ) [ Some q ↦ length (edges_in q) | None ↦ 0 ]) name in
      sym (ap (λ b. b && list_any (names_edge (2 * k + 1) (i + 1)) (all_uses g)) (item_there (edge_count g (2 * k + 1)) (r.2 ∙ sym count)))

  pub vertex_is_used : sizes rows ≡ vertex_sizes g
      → (list_any (names_vertex (2 * k + 1) (i + 1)) (all_uses g) || list_any (has_end (2 * k + 1) (i + 1)) (used_edges g))
      ≡ is_used_vertex g (2 * k + 1) (i + 1)
  unfolding is_used_vertex
  vertex_is_used e =
      let r = row_record (λ r. length (vertices_in r)) e in
      let name : named g (pos (2 * k + 1)) ≡ Some r.0 = named_odd g k r.0 r.1 (all_at HasType g.entries k r.0 records.typed r.1) in
      let count : vertex_count g (2 * k + 1) ≡ length (vertices_in r.0) = ap (λ o. elim o as (λ _. ℕ) [ Some q ↦ length (vertices_in q) | None ↦ 0 ]) name in
      sym (ap (λ b. b && (list_any (names_vertex (2 * k + 1) (i + 1)) (all_uses g) || list_any (has_end (2 * k + 1) (i + 1)) (used_edges g)))
      (item_there (vertex_count g (2 * k + 1)) (r.2 ∙ sym count)))

pub edges_marked : (g : Contents) → AreRecords g → (rows : List (List Bool)) → sizes rows ≡ edge_sizes g
    → AreMarks rows (λ e j. false || list_any (names_edge e j) (all_uses g)) → AreMarks rows (is_used_edge g)
edges_marked g records rows e h k i row at lt = h k i row at lt ∙ edge_is_used g records rows k i row at lt e

pub vertices_marked : (g : Contents) → AreRecords g → (rows : List (List Bool)) → sizes rows ≡ vertex_sizes g
    → AreMarks rows (λ v j. (false || list_any (names_vertex v j) (all_uses g)) || list_any (has_end v j) (used_edges g)) → AreMarks rows (is_used_vertex g)
vertices_marked g records rows e h k i row at lt = h k i row at lt ∙ vertex_is_used g records rows k i row at lt e
