-- The entries of a file whose unused items are dropped.
use Rattle.std.specs.Prelude.{◌≡◌, ℕ, zero, suc, ◌+◌, ◌*◌, ◌/◌, ◌%◌, ◌==◌, Bool, true, false, ℤ, pos, negsuc, List, [], ◌∷◌, map, Option, Some, None}
use Rattle.std.specs.Prelude.{option_map, slice_get, if◌then◌else◌}
use Rattle.std.specs.List.{enumerate_from}
use Rattle.std.specs.Ordering.{int_eq}
use Rattle.std.proofs.Common.{refl, ◌∙◌, ap, arith}
use Rattle.std.proofs.Math.Nat.{div-add-mod}
use Rattle.std.proofs.lemmas.Bool.{eqb-true, cond-false}
use Rattle.std.proofs.lemmas.Bool.Decides.{Decides-int_eq}
use Rattle.std.proofs.lemmas.Option.{slice_get-map}
use Rattle.iges_fields.specs.declared.value.Value.{Value}
use Rattle.iges_directory.specs.Named.{unless_unused}
use Rattle.iges_params.specs.Contents.{Contents}
use Rattle.iges_params.specs.Named.{kind_of, named, record_values, values_of}
use Rattle.brep_lists.specs.Record.{type_number, kind_of_type}
use Rattle.brep_lists.specs.declared.entity_kind.EntityKind.{EntityKind}
use Rattle.brep_lists.specs.declared.entity_kind.EntityKind.TheVariants.{Solid as solid, Shell as shell, Face as face, Loop as «loop», EdgeList as edges}
use Rattle.brep_lists.specs.declared.entity_kind.EntityKind.TheVariants.{VertexList as vertices}
use Rattle.brep_lists.proofs.KindTypes.{kind_known}
use Rattle.solid_data.specs.Obligations.{entry_number}
use Rattle.entry_references.specs.Refs.{Record}
use Rattle.list_compact.specs.Used.{is_kind}
use Rattle.list_compact.specs.Dropped.{loop_values, edge_values, vertex_values, dropped_values, dropped_record, dropped}

pub get_enumerated : {X : Type 0} (m : ℕ) (xs : List X) (k : ℕ) → slice_get (enumerate_from m xs) k ≡ option_map (λ (x : X). (m + k, x)) (slice_get xs k)
get_enumerated m [] k = refl
get_enumerated m (x ∷ xs) zero = let here : m ≡ m + 0 = omega arith in ap (λ n. Some (n, x)) here
get_enumerated {X} m (x ∷ xs) (suc k) = let on : m + 1 + k ≡ m + suc k = omega arith in get_enumerated (m + 1) xs k
    ∙ ap (λ n. option_map (λ (y : X). (n, y)) (slice_get xs k)) on

-- an entry with its number
abbrev pub as_dropped : Contents → ℕ → Record → Record
as_dropped g m r = (r.0, dropped_values g m r)

-- the entry at a place
pub entry_dropped : (g : Contents) (k : ℕ) → slice_get (map (dropped_record g) (enumerate_from 0 g.entries)) k
    ≡ option_map (as_dropped g (2 * k + 1)) (slice_get g.entries k)
entry_dropped g k =
    slice_get-map (dropped_record g) (enumerate_from 0 g.entries) k
    ∙ (ap (option_map (dropped_record g)) (get_enumerated 0 g.entries k)
    ∙ by_entry (slice_get g.entries k))
  where
    by_entry : (o : Option Record) → option_map (dropped_record g) (option_map (λ (r : Record). (0 + k, r)) o) ≡ option_map (as_dropped g (2 * k + 1)) o
    by_entry None = refl
    by_entry (Some r) = let same : 2 * (0 + k) + 1 ≡ 2 * k + 1 = omega arith in ap (λ m. Some (as_dropped g m r)) same

-- A number names the same entry, with other values.
pub named_dropped : (g : Contents) (m : ℕ) → named (dropped g) (pos m) ≡ option_map (as_dropped g m) (named g (pos m))
unfolding dropped
named_dropped g m = by_test (m % 2 == 1) refl
  where
    unused : (k : ℕ) (o : Option Record) → unless_unused kind_of (option_map (as_dropped g k) o) ≡ option_map (as_dropped g k) (unless_unused kind_of o)
    unused k None = refl
    unused k (Some r) = by_kind (int_eq r.0.kind (pos 0))
      where
        by_kind : (b : Bool) → (if b then None else Some (as_dropped g k r)) ≡ option_map (as_dropped g k) (if b then None else Some r)
        by_kind true = refl
        by_kind false = refl

    by_test : (b : Bool) → (m % 2 == 1) ≡ b
        → (if b then unless_unused kind_of (slice_get (map (dropped_record g) (enumerate_from 0 g.entries)) (m / 2)) else None)
        ≡ option_map (as_dropped g m) (if b then unless_unused kind_of (slice_get g.entries (m / 2)) else None)
    by_test true t =
        let odd : m % 2 ≡ 1 = eqb-true (m % 2) 1 t in
        let number : 2 * (m / 2) + 1 ≡ m = omega (arith, odd, div-add-mod m 2) in
        ap (unless_unused kind_of) (entry_dropped g (m / 2))
        ∙ (unused (2 * (m / 2) + 1) (slice_get g.entries (m / 2))
        ∙ ap (λ k. option_map (as_dropped g k) (unless_unused kind_of (slice_get g.entries (m / 2)))) number)
    by_test false t = refl

-- by any number
pub names_dropped : (g : Contents) (z : ℤ) → named (dropped g) z ≡ option_map (as_dropped g (entry_number z)) (named g z)
names_dropped g (pos m) = named_dropped g m
names_dropped g (negsuc m) = refl

pub named_as : (g : Contents) (z : ℤ) (r : Record) → named g z ≡ Some r → named (dropped g) z ≡ Some (as_dropped g (entry_number z) r)
named_as g z r e = names_dropped g z ∙ ap (option_map (as_dropped g (entry_number z))) e

pub values_as : (g : Contents) (z : ℤ) (r : Record) → named g z ≡ Some r → values_of (dropped g) z ≡ dropped_values g (entry_number z) r
values_as g z r e = ap record_values (named_as g z r e)

-- ---- the values by the type

abbrev by_type : Contents → ℕ → List Value → ℤ → List Value
by_type g e vs kind = if int_eq kind (pos 508) then loop_values g vs else if int_eq kind (pos 504) then edge_values g e vs else if int_eq kind (pos 502) then
    vertex_values g e vs else vs

module _ (g : Contents) (e : ℕ) (r : Record) where
  pub loop_dropped : r.0.kind ≡ type_number «loop» → dropped_values g e r ≡ loop_values g r.1
  loop_dropped k = ap (by_type g e r.1) k

  pub edges_dropped : r.0.kind ≡ type_number edges → dropped_values g e r ≡ edge_values g e r.1
  edges_dropped k = ap (by_type g e r.1) k

  pub vertices_dropped : r.0.kind ≡ type_number vertices → dropped_values g e r ≡ vertex_values g e r.1
  vertices_dropped k = ap (by_type g e r.1) k

  pub solid_same : r.0.kind ≡ type_number solid → dropped_values g e r ≡ r.1
  solid_same k = ap (by_type g e r.1) k

  pub shell_same : r.0.kind ≡ type_number shell → dropped_values g e r ≡ r.1
  shell_same k = ap (by_type g e r.1) k

  pub face_same : r.0.kind ≡ type_number face → dropped_values g e r ≡ r.1
  face_same k = ap (by_type g e r.1) k

  pub unused_same : r.0.kind ≡ pos 0 → dropped_values g e r ≡ r.1
  unused_same k = ap (by_type g e r.1) k

  -- an entry of none of the three types stays
  pub other_same : is_kind «loop» r ≡ false → is_kind edges r ≡ false → is_kind vertices r ≡ false → dropped_values g e r ≡ r.1
  other_same l d v =
      cond-false (is_kind «loop» r) (loop_values g r.1)
      (if is_kind edges r then edge_values g e r.1 else if is_kind vertices r then vertex_values g e r.1 else r.1) l
      ∙ (cond-false (is_kind edges r) (edge_values g e r.1) (if is_kind vertices r then vertex_values g e r.1 else r.1) d
      ∙ cond-false (is_kind vertices r) (vertex_values g e r.1) r.1 v)

-- ---- kinds by types

pub kind_is : (kind : EntityKind) (r : Record) → is_kind kind r ≡ true → kind_of_type r.0.kind ≡ Some kind
kind_is kind r t = ap kind_of_type ((Decides-int_eq r.0.kind (type_number kind)).0 t) ∙ kind_known kind

pub kind_test : (kind : EntityKind) (r : Record) → r.0.kind ≡ type_number kind → is_kind kind r ≡ true
kind_test kind r e = (Decides-int_eq r.0.kind (type_number kind)).1 e
