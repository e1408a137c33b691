-- A file of which one entry has no values any more.
use Rattle.std.proofs.Common.{◌≡◌, ◌⊎◌, inl, inr, ℕ, zero, suc, ◌<◌, ◌≤◌, List, [], ◌∷◌, length, set, Some, None, refl, sym, ap, subst, arith, get_or}
use Rattle.std.specs.Prelude.{option_map, slice_get}
use Rattle.std.specs.List.{AllByRecursion}
use Rattle.std.proofs.lemmas.List.Sums.{sum_by-cons}
use Rattle.std.proofs.lemmas.Option.{same_Some, slice_get_cases}
use Rattle.iges_directory.specs.Bounds.{IsBounded}
use Rattle.iges_directory.specs.declared.entry.Entry.{Entry}
use Rattle.iges_fields.specs.declared.value.Value.{Value}
use Rattle.iges_params.specs.Contents.{Contents, value_count}
use Rattle.iges_params.specs.Made.{IsMade, IsMadeEntry}
use Rattle.iges_directory.specs.Paired.{Pairs}

abbrev entry_of : Entry × List Value → Entry
entry_of e = e.0

set_made : (es : Pairs) (i : ℕ) (entry : Entry) → AllByRecursion IsMadeEntry es → option_map entry_of (slice_get es i) ≡ Some entry →
    AllByRecursion IsMadeEntry (set es i (entry, []))
set_made [] i entry h is = absurd cc
set_made (e ∷ es) zero entry h is = (record { bounded = subst IsBounded (same_Some e.0 entry is) h.0.bounded; unused = λ _. refl }, h.1)
set_made (e ∷ es) (suc i) entry h is = (h.0, set_made es i entry h.1 is)

set_long : (es : Pairs) (i : ℕ) (x : Entry × List Value) → length (set es i x) ≡ length es
set_long [] i x = refl
set_long (e ∷ es) zero x = refl
set_long (e ∷ es) (suc i) x = omega (arith, set_long es i x)

set_fewer : (es : Pairs) (i : ℕ) (entry : Entry) → value_count (set es i (entry, [])) ≤ value_count es
set_fewer [] i entry = omega arith
set_fewer (e ∷ es) zero entry = omega (
  arith,
  sum_by-cons (λ (x : Entry × List Value). length x.1) (entry, []) es,
  sum_by-cons (λ (x : Entry × List Value). length x.1) e es,
)
set_fewer (e ∷ es) (suc i) entry = omega (
  arith,
  set_fewer es i entry,
  sum_by-cons (λ (x : Entry × List Value). length x.1) e (set es i (entry, [])),
  sum_by-cons (λ (x : Entry × List Value). length x.1) e es,
)

pub emptied : (f : Contents) (i : ℕ) (new : Pairs) → IsMade f → i < length f.entries →
    ((entry : Entry) → option_map entry_of (slice_get f.entries i) ≡ Some entry → new ≡ set f.entries i (entry, [])) →
    IsMade (record { start = f.start; global = f.global; entries = new })
emptied f i new h within left = by_place (slice_get_cases f.entries i).1
  where
    by_place : ((x : Entry × List Value) × (i < length f.entries) × (slice_get f.entries i ≡ Some x) × (get_or f.entries i x ≡ x))
        ⊎ ((length f.entries ≤ i) × (slice_get f.entries i ≡ None)) → IsMade (record { start = f.start; global = f.global; entries = new })
    by_place (inr past) = absurd (omega (arith, within, past.0))
    by_place (inl at) =
        let entry : Entry = at.0.0 in
        let is : option_map entry_of (slice_get f.entries i) ≡ Some entry = ap (option_map entry_of) at.2 in
        let new_is : new ≡ set f.entries i (entry, []) = left entry is in
        let long : length new ≡ length (set f.entries i (entry, [])) = ap length new_is in
        let count : value_count new ≡ value_count (set f.entries i (entry, [])) = ap value_count new_is in
        record {
          some_start = h.some_start;
          start = h.start;
          kinds = h.kinds;
          entries = subst (AllByRecursion IsMadeEntry) (sym new_is) (set_made f.entries i entry h.entries is);
          limits = record {
            entries = omega (arith, long, set_long f.entries i (entry, []), h.limits.entries);
            values = omega (arith, count, set_fewer f.entries i entry, h.limits.values);
          };
        }
