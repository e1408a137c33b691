-- How many entities of a type there are, entry by entry.
use Rattle.std.specs.Prelude.{◌≡◌, ◌∷◌, ℕ, suc, true, false, Bool, ◌||◌, nat_lt, ◌+◌, ◌<◌, ◌≤◌}
use Rattle.std.specs.Prelude.{◌^◌, ℤ, pos, List, length, count_by, Some, None, unwrap_or, option_map, slice_get, if◌then◌else◌}
use Rattle.std.specs.Ordering.{int_eq}
use Rattle.std.proofs.Common.{sym, ap, ◌∙◌, arith, get_or, take, drop, inl, inr}
use Rattle.std.proofs.Math.Seq.{drop-cons}
use Rattle.std.proofs.lemmas.List.Folds.{list_any_at}
use Rattle.std.proofs.lemmas.List.{length-take}
use Rattle.std.proofs.lemmas.List.Sums.{count_by-le-length, sum_by_more}
use Rattle.std.proofs.lemmas.Bool.{lt-ltb}
use Rattle.std.proofs.lemmas.Option.{slice_get_cases}
use Rattle.iges_fields.specs.declared.value.Value.{Value}
use Rattle.iges_directory.specs.declared.entry.Entry.{Entry}
use Rattle.iges_params.specs.Contents.{Contents}
use Rattle.iges_params.specs.Named.{kind_of}
use Rattle.where_unjudged.specs.Counts.{count_of_type, has_type}
use Rattle.where_unjudged.specs.Hints.{has_some}

pub count_small : (entries : List (Entry × List Value)) (i t n : ℕ) → n ≡ count_by (has_type t) (take i entries) → i < 2 ^ 32 → n < 2 ^ 60
count_small entries i t n is few =
    let within = count_by-le-length (has_type t) (take i entries) in
    let taken = length-take i entries in
    omega (arith, is, few, within, taken)

pub count_more : (entries : List (Entry × List Value)) (i t : ℕ) (kind z : ℤ) (old new : ℕ) → option_map kind_of (slice_get entries i) ≡ Some kind
    → old ≡ count_by (has_type t) (take i entries) → z ≡ kind
    → new ≡ old + (if int_eq z (pos t) then 1 else 0) → new ≡ count_by (has_type t) (take (i + 1) entries)
count_more entries i t kind z old new at is fits more =
    elim ((slice_get_cases entries i).1) [
      | inl p ↦
          let same : p.0.0.kind ≡ kind = ap (λ o. unwrap_or o kind) (sym (ap (option_map kind_of) p.2) ∙ at) in
          let here : get_or entries i p.0 ≡ p.0 = p.3 in
          more ∙ (ap (λ n. n + (if int_eq z (pos t) then 1 else 0)) is
          ∙ (ap (λ y. count_by (has_type t) (take i entries) + (if int_eq y (pos t) then 1 else 0)) (fits ∙ sym same)
          ∙ (ap (λ (e : Entry × List Value). count_by (has_type t) (take i entries) + (if has_type t e then 1 else 0)) (sym here)
          ∙ sym (sum_by_more (λ e. if has_type t e then 1 else 0) entries i p.0 p.1))))
      | inr p ↦ absurd (let e : None ≡ Some kind = sym (ap (option_map kind_of) p.1) ∙ at in cc)
    ]

-- ---- whether there are some of these types

none_above : (n : ℕ) → n ≤ 0 → nat_lt 0 n ≡ false
none_above n h = let none : n ≡ 0 = omega (arith, h) in ap (nat_lt 0) none

-- there are some of a type
pub some_at : (f : Contents) (types : List ℕ) (i n : ℕ) → i < length types → 0 < n → n ≡ count_of_type f (get_or types i 0) → true ≡ has_some f types
some_at f types i n lt some is =
    sym (list_any_at (λ t. nat_lt 0 (count_of_type f t)) types i 0 lt (lt-ltb 0 (count_of_type f (get_or types i 0)) (omega (arith, some, is))))

-- there are none of the next type
pub none_at : (f : Contents) (types : List ℕ) (i n : ℕ) (b : Bool) → i < length types → n ≤ 0 → n ≡ count_of_type f (get_or types i 0)
    → has_some f (drop i types) ≡ b → has_some f (drop (i + 1) types) ≡ b
none_at f types i n b lt none is h =
    let more : suc i ≡ i + 1 = omega arith in
    let rest : Bool = has_some f (drop (i + 1) types) in
    let split : has_some f (drop i types) ≡ (nat_lt 0 (count_of_type f (get_or types i 0)) || rest) =
    ap (has_some f) (drop-cons types i 0 lt ∙ ap (λ n. get_or types i 0 ∷ drop n types) more) in
    ap (λ t. t || rest) (sym (none_above (count_of_type f (get_or types i 0)) (omega (arith, none, is)))) ∙ (sym split ∙ h)
