-- The records that numbers name.
use Rattle.std.specs.Prelude.{◌≡◌, ℕ, zero, suc, ◌+◌, ◌/◌, ◌%◌, ◌==◌, ◌≤◌, Bool, true, false, if◌then◌else◌, ℤ, pos, negsuc, List, [], ◌∷◌, length, option_map}
use Rattle.std.specs.Prelude.{Option, Some, None, slice_get}
use Rattle.std.specs.Ordering.{int_eq}
use Rattle.std.proofs.Common.{refl, ap, arith, Bor}
use Rattle.std.specs.Option.{option_copied}
use Rattle.std.specs.Prelude.{IfSome}
use Rattle.std.proofs.lemmas.List.Sums.{sum_by-cons}
use Rattle.iges_base.specs.declared.TheConstants.{FILE_LIMIT}
use Rattle.iges_fields.specs.declared.value.Value.{Value}
use Rattle.iges_directory.specs.declared.entry.Entry.{Entry}
use Rattle.iges_directory.specs.Named.{unless_unused, named_in}
use Rattle.iges_params.specs.Contents.{Contents, value_count}
use Rattle.iges_params.specs.Limits.{FitsLimits}
use Rattle.iges_params.specs.Named.{kind_of, named, record_values}

abbrev pub entries : Type 0
entries = List (Entry × List Value)

abbrev pub second : Option (Entry × List Value) → Option (List Value)
second o = option_map (λ (e : Entry × List Value). e.1) o

pub no_values : (o : Option (Entry × List Value)) → None ≡ second o → record_values o ≡ []
no_values None e = refl
no_values (Some x) e = absurd cc

pub the_values : (o : Option (Entry × List Value)) (vs : List Value) → Some vs ≡ second o → record_values o ≡ vs
the_values None vs e = absurd cc
the_values (Some x) vs e = cc

-- a record has no more values than all records together

within : (es : entries) (i : ℕ) (vs : List Value) → Some vs ≡ second (slice_get es i) → length vs ≤ value_count es
within [] i vs e = absurd cc
within (x ∷ es) zero vs e =
    let same : vs ≡ x.1 = cc in
    let long : length vs ≡ length x.1 = ap length same in
    let sum : value_count (x ∷ es) ≡ length x.1 + value_count es = sum_by-cons (λ (y : Entry × List Value). length y.1) x es in
    omega arith
within (x ∷ es) (suc i) vs e =
    let sum : value_count (x ∷ es) ≡ length x.1 + value_count es = sum_by-cons (λ (y : Entry × List Value). length y.1) x es in
    omega (arith, within es i vs e)

of_used : (o : Option (Entry × List Value)) (vs : List Value) → Some vs ≡ second (unless_unused kind_of o) → Some vs ≡ second o
of_used None vs e = absurd cc
of_used (Some x) vs e = by_test (int_eq x.0.kind (pos 0)) e
  where
    by_test : (b : Bool) → Some vs ≡ second (if b then None else Some x) → Some vs ≡ second (Some x)
    by_test true e = absurd cc
    by_test false e = e

of_named : (es : entries) (z : ℤ) (vs : List Value) → Some vs ≡ second (named_in kind_of es z) → length vs ≤ value_count es
of_named es (negsuc n) vs e = absurd cc
of_named es (pos n) vs e = by_test (n % 2 == 1) e
  where
    by_test : (b : Bool) → Some vs ≡ second (if b then unless_unused kind_of (slice_get es (n / 2)) else None) → length vs ≤ value_count es
    by_test true e = within es (n / 2) vs (of_used (slice_get es (n / 2)) vs e)
    by_test false e = absurd cc

pub few_values : (f : Contents) (z : ℤ) (vs : List Value) → FitsLimits f → Some vs ≡ second (named f z) → length vs ≤ FILE_LIMIT
few_values f z vs limits e = let few = limits.values in omega (arith, of_named f.entries z vs e, few)

pub if_few : (f : Contents) (z : ℤ) (r : Option (Bor (List Value))) → FitsLimits f → option_copied r ≡ second (named f z)
    → IfSome r (λ v. length v.now ≤ FILE_LIMIT)
if_few f z None limits e = tt
if_few f z (Some v) limits e = few_values f z v.now limits e
