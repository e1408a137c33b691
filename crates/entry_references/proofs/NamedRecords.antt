-- What a number names.
use Rattle.std.specs.Prelude.{◌≡◌, ℕ, zero, suc, ◌+◌, ◌/◌, ◌%◌, ◌≤◌, ◌==◌, Bool, true, false, pos, List, [], ◌∷◌, length, Option, Some, None, slice_get}
use Rattle.std.specs.Prelude.{option_map, IsSome, if◌then◌else◌}
use Rattle.std.specs.Ordering.{int_eq}
use Rattle.std.proofs.Common.{refl, sym, ap, ◌∙◌, arith}
use Rattle.std.proofs.lemmas.Bool.{eqb-true}
use Rattle.std.proofs.lemmas.List.Sums.{sum_by-cons}
use Rattle.std.proofs.lemmas.Option.{same_Some, slice_get_within}
use Rattle.iges_fields.specs.declared.value.Value.{Value}
use Rattle.iges_directory.specs.declared.entry.Entry.{Entry}
use Rattle.iges_directory.specs.Named.{unless_unused}
use Rattle.iges_params.specs.Contents.{Contents, value_count}
use Rattle.iges_params.specs.Named.{kind_of, named}
use Rattle.iges_params.specs.Made.{IsMade}
use Rattle.entry_references.specs.Refs.{Record}
use Rattle.entry_references.specs.EntrySets.{IsWithin}

used_is : (o : Option Record) (r : Record) → unless_unused kind_of o ≡ Some r → o ≡ Some r
used_is None r e = absurd (let none : None ≡ Some r = e in cc)
used_is (Some x) r e = by_test (int_eq x.0.kind (pos 0)) e
  where
    by_test : (b : Bool) → (if b then None else Some x) ≡ Some r → Some x ≡ Some r
    by_test true k = absurd (let none : None ≡ Some r = k in cc)
    by_test false k = k

-- the place of what a number names
pub named_place : (f : Contents) (m : ℕ) (r : Record) → named f (pos m) ≡ Some r → (m % 2 ≡ 1) × (slice_get f.entries (m / 2) ≡ Some r)
named_place f m r e = by_test (m % 2 == 1) refl e
  where
    by_test : (b : Bool) → (m % 2 == 1) ≡ b → (if b then unless_unused kind_of (slice_get f.entries (m / 2)) else None) ≡ Some r
        → (m % 2 ≡ 1) × (slice_get f.entries (m / 2) ≡ Some r)
    by_test true t k = (eqb-true (m % 2) 1 t, used_is (slice_get f.entries (m / 2)) r k)
    by_test false t k = absurd (let none : None ≡ Some r = k in cc)

pub named_within : (f : Contents) (m : ℕ) (r : Record) → named f (pos m) ≡ Some r → IsWithin (length f.entries) m
named_within f m r e = let p = named_place f m r e in (p.0, slice_get_within f.entries (m / 2) r p.1)

one_value_count : (es : List Record) (k : ℕ) (r : Record) → slice_get es k ≡ Some r → length r.1 ≤ value_count es
one_value_count [] k r e = absurd (let none : None ≡ Some r = e in cc)
one_value_count (x ∷ es) zero r e =
    let same : length x.1 ≡ length r.1 = ap (λ (q : Record). length q.1) (same_Some x r e) in
    let sum : value_count (x ∷ es) ≡ length x.1 + value_count es = sum_by-cons (λ (q : Record). length q.1) x es in
    omega (arith, same, sum)
one_value_count (x ∷ es) (suc k) r e =
    let on : length r.1 ≤ value_count es = one_value_count es k r e in
    let sum : value_count (x ∷ es) ≡ length x.1 + value_count es = sum_by-cons (λ (q : Record). length q.1) x es in
    omega (arith, on, sum)

pub named_few : (f : Contents) (m : ℕ) (r : Record) → IsMade f → named f (pos m) ≡ Some r → length r.1 ≤ 164000000
named_few f m r made e =
    let most : value_count f.entries ≤ 164000000 = made.limits.values in
    omega (arith, most, one_value_count f.entries (m / 2) r (named_place f m r e).1)

pub named_pair : (o : Option Record) (e : Entry) (vs : List Value) → Some e ≡ option_map (λ (r : Record). r.0) o → Some vs ≡ option_map (λ (r : Record). r.1) o
    → o ≡ Some (e, vs)
named_pair None e vs h k = absurd (let some : Some e ≡ None = h in cc)
named_pair (Some r) e vs h k =
    let first : e ≡ r.0 = same_Some e r.0 h in
    let second : vs ≡ r.1 = same_Some vs r.1 k in
    ap (λ (x : Entry). Some (x, r.1)) (sym first) ∙ ap (λ (ys : List Value). Some (e, ys)) (sym second)

pub none_there : {A : Type 0} (h : Record → A) (o : Option Record) → None ≡ option_map h o → o ≡ None
none_there h None e = refl
none_there h (Some r) e = absurd (let none : None ≡ Some (h r) = e in cc)

pub none_past : (f : Contents) (m : ℕ) → length f.entries ≤ m / 2 → named f (pos m) ≡ None
none_past f m past = by_option (named f (pos m)) refl
  where
    by_option : (o : Option Record) → named f (pos m) ≡ o → named f (pos m) ≡ None
    by_option None e = e
    by_option (Some r) e = absurd (omega (arith, past, (named_within f m r e).1))

pub is_within : (f : Contents) (m : ℕ) → IsSome (named f (pos m)) → IsWithin (length f.entries) m
is_within f m h = by_option (named f (pos m)) refl h
  where
    by_option : (o : Option Record) → named f (pos m) ≡ o → IsSome o → IsWithin (length f.entries) m
    by_option None e k = absurd (let g : false ≡ true = k in cc)
    by_option (Some r) e k = named_within f m r e
