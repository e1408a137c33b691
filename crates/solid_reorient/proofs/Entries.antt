-- The entries of a file with other flags.
use Rattle.std.specs.Prelude.{◌≡◌, ℕ, zero, suc, ◌+◌, ◌*◌, ◌/◌, ◌%◌, ◌==◌, Bool, true, false, ℤ, pos, negsuc, List, [], ◌∷◌, length, Option, Some, None}
use Rattle.std.specs.Prelude.{option_map, slice_get, if◌then◌else◌}
use Rattle.std.specs.List.{enumerate_from}
use Rattle.std.specs.Ordering.{int_eq}
use Rattle.std.proofs.Common.{refl, ◌∙◌, ap, arith}
use Rattle.std.proofs.Math.Nat.{div-add-mod}
use Rattle.std.proofs.lemmas.Bool.{eqb-true, cond-true, cond-false}
use Rattle.std.proofs.lemmas.Option.{slice_get-map}
use Rattle.iges_fields.specs.declared.value.Value.{Value}
use Rattle.iges_directory.specs.Named.{unless_unused}
use Rattle.iges_params.specs.Contents.{Contents}
use Rattle.iges_params.specs.Named.{kind_of, named}
use Rattle.brep_lists.specs.Record.{type_number}
use Rattle.brep_lists.specs.declared.entity_kind.EntityKind.TheVariants.{Shell as shell}
use Rattle.brep_walk.specs.Places.{shells, numbers}
use Rattle.solid_data.specs.Obligations.{entry_number}
use Rattle.entry_references.specs.Refs.{Record}
use Rattle.solid_reorient.specs.Reflagged.{values_with, pairs_with, flags_for, reflagged_values, reflagged_record, reflagged_entries, reflagged}

-- ---- values

pub length-pairs : (bs : List Bool) (vs : List Value) → length (pairs_with bs vs) ≡ length vs
length-pairs [] vs = refl
length-pairs (b ∷ bs) [] = refl
length-pairs (b ∷ bs) (p ∷ []) = refl
length-pairs (b ∷ bs) (p ∷ v ∷ vs) = ap (λ n. suc (suc n)) (length-pairs bs vs)

pub length-values : (bs : List Bool) (vs : List Value) → length (values_with bs vs) ≡ length vs
length-values bs [] = refl
length-values bs (n ∷ vs) = ap suc (length-pairs bs vs)

pub values_none : (vs : List Value) → values_with [] vs ≡ vs
values_none [] = refl
values_none (n ∷ vs) = refl

pub length-reflagged : (bs : List Bool) (r : Record) → length (reflagged_values bs r) ≡ length r.1
length-reflagged bs r = by_test (int_eq r.0.kind (type_number shell))
  where
    by_test : (b : Bool) → length (if b then values_with bs r.1 else r.1) ≡ length r.1
    by_test true = length-values bs r.1
    by_test false = refl

-- an entry of another type stays
pub other_stays : (bs : List Bool) (r : Record) → int_eq r.0.kind (type_number shell) ≡ false → reflagged_values bs r ≡ r.1
other_stays bs r e = cond-false (int_eq r.0.kind (type_number shell)) (values_with bs r.1) r.1 e

pub shell_changes : (bs : List Bool) (r : Record) → int_eq r.0.kind (type_number shell) ≡ true → reflagged_values bs r ≡ values_with bs r.1
shell_changes bs r e = cond-true (int_eq r.0.kind (type_number shell)) (values_with bs r.1) r.1 e

-- no flags change nothing
pub none_changes : (r : Record) → reflagged_values [] r ≡ r.1
none_changes r = by_test (int_eq r.0.kind (type_number shell))
  where
    by_test : (b : Bool) → (if b then values_with [] r.1 else r.1) ≡ r.1
    by_test true = values_none r.1
    by_test false = refl

-- ---- entries

pub get_enumerated : {X : Type 0} (m : ℕ) (xs : List X) (k : ℕ) → slice_get (enumerate_from m xs) k ≡ option_map (λ (x : X). (m + k, x)) (slice_get xs k)
get_enumerated m [] k = refl
get_enumerated m (x ∷ xs) zero = let here : m ≡ m + 0 = omega arith in ap (λ n. Some (n, x)) here
get_enumerated {X} m (x ∷ xs) (suc k) = let on : m + 1 + k ≡ m + suc k = omega arith in get_enumerated (m + 1) xs k
    ∙ ap (λ n. option_map (λ (y : X). (n, y)) (slice_get xs k)) on

module _ (flags : List (List Bool)) (zs : List ℤ) where
  -- an entry with its number
  abbrev pub as_reflagged : ℕ → Record → Record
  as_reflagged m r = (r.0, reflagged_values (flags_for flags zs m) r)

  pub entry_reflagged : (rs : List Record) (k : ℕ) → slice_get (reflagged_entries flags zs rs) k ≡ option_map (as_reflagged (2 * k + 1)) (slice_get rs k)
  entry_reflagged rs k =
      slice_get-map (reflagged_record flags zs) (enumerate_from 0 rs) k
      ∙ (ap (option_map (reflagged_record flags zs)) (get_enumerated 0 rs k)
      ∙ by_entry (slice_get rs k))
    where
      by_entry : (o : Option Record) → option_map (reflagged_record flags zs) (option_map (λ (r : Record). (0 + k, r)) o) ≡ option_map
          (as_reflagged (2 * k + 1)) o
      by_entry None = refl
      by_entry (Some r) = let same : 2 * (0 + k) + 1 ≡ 2 * k + 1 = omega arith in ap (λ m. Some (as_reflagged m r)) same

-- A number names the same entry, with other values.
module _ (g : Contents) (n : ℕ) (flags : List (List Bool)) where
  abbrev pub shells_of : List ℤ
  shells_of = numbers (shells g (pos n))

  named_reflagged : (m : ℕ) → named (reflagged g n flags) (pos m) ≡ option_map (as_reflagged flags shells_of m) (named g (pos m))
  unfolding reflagged
  named_reflagged m = by_test (m % 2 == 1) refl
    where
      unused : (k : ℕ) (o : Option Record) → unless_unused kind_of (option_map (as_reflagged flags shells_of k) o) ≡ option_map
          (as_reflagged flags shells_of k) (unless_unused kind_of o)
      unused k None = refl
      unused k (Some r) = by_kind (int_eq r.0.kind (pos 0))
        where
          by_kind : (b : Bool) → (if b then None else Some (as_reflagged flags shells_of k r)) ≡ option_map (as_reflagged flags shells_of k)
              (if b then None else Some r)
          by_kind true = refl
          by_kind false = refl

      by_test : (b : Bool) → (m % 2 == 1) ≡ b → (if b then unless_unused kind_of (slice_get (reflagged_entries flags shells_of g.entries) (m / 2)) else None) ≡
          option_map (as_reflagged flags shells_of m) (if b then unless_unused kind_of (slice_get g.entries (m / 2)) else None)
      by_test true t =
          let odd : m % 2 ≡ 1 = eqb-true (m % 2) 1 t in
          let number : 2 * (m / 2) + 1 ≡ m = omega (arith, odd, div-add-mod m 2) in
          ap (unless_unused kind_of) (entry_reflagged flags shells_of g.entries (m / 2))
          ∙ (unused (2 * (m / 2) + 1) (slice_get g.entries (m / 2))
          ∙ ap (λ k. option_map (as_reflagged flags shells_of k) (unless_unused kind_of (slice_get g.entries (m / 2)))) number)
      by_test false t = refl

  -- by any number
  pub names_reflagged : (z : ℤ) → named (reflagged g n flags) z ≡ option_map (as_reflagged flags shells_of (entry_number z)) (named g z)
  names_reflagged (pos m) = named_reflagged m
  names_reflagged (negsuc m) = refl

  pub named_as : (z : ℤ) (r : Record) → named g z ≡ Some r → named (reflagged g n flags) z ≡ Some (as_reflagged flags shells_of (entry_number z) r)
  named_as z r e = names_reflagged z ∙ ap (option_map (as_reflagged flags shells_of (entry_number z))) e
