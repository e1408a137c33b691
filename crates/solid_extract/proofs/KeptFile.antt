-- The file of the entries that are kept.
use Rattle.std.specs.Prelude.{◌≡◌, ◌⊎◌, ◌↔◌, ℕ, suc, ◌+◌, ◌-◌, ◌*◌, ◌/◌, ◌%◌, ◌<◌, ◌≤◌, true, false, pos, List, [], ◌∷◌, ◌++◌, length, map, take, drop}
use Rattle.std.specs.Prelude.{Option, Some, None, Result, Ok, Err, IsSome, IsTrue, is_some, IfOk, IfErr, sum_by, slice_get, Contains}
use Rattle.std.specs.List.{AllByRecursion, AllZip, cons_option, list_all}
use Rattle.std.specs.List.Sorted.{IsStrictlyIncreasing}
use Rattle.std.proofs.Common.{refl, sym, ap, subst, ◌∙◌, arith, inl, inr, length-take}
use Rattle.std.proofs.Math.Nat.{div-add-mod, mod-lt}
use Rattle.std.proofs.lemmas.Bool.{cases_lt}
use Rattle.std.proofs.lemmas.List.{map-append, length-map, take-append-drop}
use Rattle.std.proofs.lemmas.List.Sums.{sum_by-cons, sum_by-append}
use Rattle.std.proofs.lemmas.List.Elements.{filter_map-append, All-from_recursion}
use Rattle.std.proofs.lemmas.Option.{same_Some}
use Rattle.iges_base.specs.declared.entry_no.EntryNo.{EntryNo}
use Rattle.iges_fields.specs.declared.value.Value.{Value}
use Rattle.iges_params.specs.Contents.{Contents, value_count}
use Rattle.iges_params.specs.Named.{named}
use Rattle.iges_params.specs.declared.global.Global26.{Global26}
use Rattle.iges_params.specs.Global.{have_kinds}
use Rattle.iges_params.specs.Made.{IsMade, IsMadeEntry, is_start_line}
use Rattle.entry_references.specs.declared.fault.ExtractReason.{ExtractReason}
use Rattle.entry_references.specs.EntrySets.{AreRising, numbers_of}
use Rattle.entry_references.specs.Refs.{Record, names_entry, entry_fault}
use Rattle.entry_references.proofs.NamedRecords.{named_place}
use Rattle.entry_references.proofs.RisingLists.{In, contains_at, tail_rises, contains_pass}
use Rattle.entry_references.proofs.RefLists.{refs_named}
use Rattle.solid_extract.specs.MadeAgain.{ExtractedIsMade}
use Rattle.solid_extract.proofs.Entries.{kept_bounded}
use Rattle.solid_extract.proofs.NewNumbers.{has_kind}
use Rattle.solid_extract.specs.declared.fault.ExtractFault.{ExtractFault}
use Rattle.solid_extract.specs.declared.fault.ExtractFault.TheVariants as fault
use Rattle.solid_extract.specs.declared.fault.Refusal.{Refusal}
use Rattle.iges_params.specs.Solids.{is_solid, is_solid_entry}
use Rattle.solid_extract.specs.Extracted.{Reaches, here, further, IsExtracted, IsExtractedAs, IsRefused, new_number, new_record, new_values}
use Rattle.solid_extract.specs.Flooding.{fault_at, IsFlooded, IsLeastFault}
use Rattle.solid_extract.specs.Making.{records_of, IsFaultless, IsExtractFault, GivesFile, GivesRefusal}
use Rattle.solid_extract.specs.Taking.{IsKept}
use Rattle.iges_params.proofs.Copies.{one_more}
use Rattle.solid_extract.proofs.Copies.{all_at, zip_length, filter_map_few}
use Rattle.solid_extract.proofs.KeptValues.{values_few}
use Rattle.solid_extract.proofs.One.{IsExtracted-unique, IsRefused-unique, IsExtracted-IsRefused}

-- ---- how many values there are

module _ (f : Contents) (kept : List ℕ) where
  one_record : (m : ℕ) (r : Record) → named f (pos m) ≡ Some r → value_count (records_of f (m ∷ [])) ≡ length r.1
  one_record m r e =
      let only : value_count (r ∷ []) ≡ length r.1 + value_count [] = sum_by-cons (λ (q : Record). length q.1) r [] in
      let none : value_count [] ≡ 0 = refl in
      ap (λ (o : Option Record). value_count (cons_option o [])) e ∙ (omega (arith, only, none))

  pub push_room : (m : ℕ) (r : Record) (old : List Record) (vs : List Value) → named f (pos m) ≡ Some r → vs ≡ new_values f kept r
      → value_count old + value_count (records_of f (m ∷ [])) ≤ 164000000 → value_count old + length vs ≤ 164000000
  push_room m r old vs en ev room = omega (arith, one_record m r en, ap length ev, values_few f kept r, room)

  pub mapped_few : (rs : List Record) → value_count (map (new_record f kept) rs) ≤ value_count rs
  mapped_few [] = omega arith
  mapped_few (r ∷ rs) =
      let on : value_count (map (new_record f kept) rs) ≤ value_count rs = mapped_few rs in
      omega (
        arith,
        on,
        values_few f kept r,
        sum_by-cons (λ (q : Record). length q.1) (new_record f kept r) (map (new_record f kept) rs),
        sum_by-cons
            (λ (q : Record). length q.1) r rs,
      )

  records_append : (ms ns : List ℕ) → records_of f (ms ++ ns) ≡ records_of f ms ++ records_of f ns
  records_append ms ns = filter_map-append (λ m. named f (pos m)) ms ns

  next_records : (ms : List ℕ) (i m : ℕ) → slice_get ms i ≡ Some m → records_of f (take (i + 1) ms) ≡ records_of f (take i ms) ++ records_of f (m ∷ [])
  next_records ms i m at = ap (records_of f) (one_more ms i m at) ∙ records_append (take i ms) (m ∷ [])

  part_few : (ms : List ℕ) (k : ℕ) → value_count (records_of f (take k ms)) ≤ value_count (records_of f ms)
  part_few ms k =
      let whole : records_of f ms ≡ records_of f (take k ms) ++ records_of f (drop k ms) = ap (records_of f) (sym (take-append-drop k ms))
      ∙ records_append (take k ms) (drop k ms) in
      omega (arith, ap value_count whole, sum_by-append (λ (q : Record). length q.1) (records_of f (take k ms)) (records_of f (drop k ms)))

  pub next_room : (ms : List ℕ) (i m : ℕ) (es : List Record) → slice_get ms i ≡ Some m → es ≡ map (new_record f kept) (records_of f (take i ms))
      → value_count (records_of f ms) ≤ 164000000
      → value_count es + value_count (records_of f (m ∷ [])) ≤ 164000000
  next_room ms i m es at e few =
      let sum : value_count (records_of f (take (i + 1) ms)) ≡ value_count (records_of f (take i ms)) + value_count (records_of f (m ∷ [])) =
      ap value_count (next_records ms i m at) ∙ sum_by-append (λ (q : Record). length q.1) (records_of f (take i ms)) (records_of f (m ∷ [])) in
      omega (arith, ap value_count e, mapped_few (records_of f (take i ms)), sum, part_few ms (i + 1), few)

  pub next_few : (ms : List ℕ) (i : ℕ) (es : List Record) → es ≡ map (new_record f kept) (records_of f (take i ms)) → i < length ms → length ms ≤ 4999999
      → length es < 4999999
  next_few ms i es e lt few =
      omega (
        arith,
        ap length e,
        length-map (records_of f (take i ms)) (new_record f kept),
        filter_map_few (λ m. named f (pos m)) (take i ms),
        length-take i
            ms,
        lt,
        few,
      )

  pub next_entries : (ms : List ℕ) (i m : ℕ) (es new : List Record) → slice_get ms i ≡ Some m → es ≡ map (new_record f kept) (records_of f (take i ms))
      → new ≡ es ++ map (new_record f kept) (records_of f (m ∷ []))
      → new ≡ map (new_record f kept) (records_of f (take (i + 1) ms))
  next_entries ms i m es new at e en =
      en ∙ (ap (λ (xs : List Record). xs ++ map (new_record f kept) (records_of f (m ∷ []))) e
      ∙ sym (ap (map (new_record f kept)) (next_records ms i m at) ∙ map-append (new_record f kept) (records_of f (take i ms)) (records_of f (m ∷ []))))

-- ---- rising numbers name different entries

pub Rises : ℕ → List ℕ → Type 0
Rises k [] = Unit {0}
Rises k (m ∷ ms) = (k ≤ m) × Rises (m + 1) ms

rises_behind : (m : ℕ) (ms : List ℕ) → IsStrictlyIncreasing (m ∷ ms) → Rises (m + 1) ms
unfolding Rises
rises_behind m [] h = tt
rises_behind m (x ∷ ms) h = let lt : m < x = h 0 (omega arith) in (omega (arith, lt), rises_behind x ms (tail_rises m (x ∷ ms) h))

pub rises_all : (ms : List ℕ) → IsStrictlyIncreasing ms → Rises 0 ms
unfolding Rises
rises_all [] h = tt
rises_all (m ∷ ms) h = (omega arith, rises_behind m ms h)

pub first_rises : (k m : ℕ) (ms : List ℕ) → Rises k (m ∷ ms) → (k ≤ m) × Rises (m + 1) ms
unfolding Rises
first_rises k m ms h = h

abbrev pub IsNamed : Contents → ℕ → Type 0
IsNamed f m = IsSome (named f (pos m))

the_record : (f : Contents) (m : ℕ) → IsNamed f m → (r : Record) × (named f (pos m) ≡ Some r)
the_record f m h = by_option (named f (pos m)) refl h
  where
    by_option : (o : Option Record) → named f (pos m) ≡ o → IsSome o → (r : Record) × (named f (pos m) ≡ Some r)
    by_option None e k = absurd (let g : false ≡ true = k in cc)
    by_option (Some r) e k = (r, e)

module _ (f : Contents) where
  Stand : List Record → ℕ → Type 0
  Stand es j = (m : ℕ) (r : Record) → named f (pos m) ≡ Some r → j ≤ m / 2 → slice_get es (m / 2 - j) ≡ Some r

  stand_on : (e : Record) (es : List Record) (j : ℕ) → Stand (e ∷ es) j → Stand es (j + 1)
  unfolding Stand
  stand_on e es j h m r en le =
      let next : m / 2 - j ≡ suc (m / 2 - (j + 1)) = omega (arith, le) in
      sym (ap (slice_get (e ∷ es)) next) ∙ h m r en (omega (arith, le))

  -- each has a weight
  module _ (w : Record → ℕ) where
    rising_few : (es : List Record) (j : ℕ) (ms : List ℕ) → Stand es j → Rises (2 * j) ms → AllByRecursion (IsNamed f) ms
        → sum_by w (records_of f ms) ≤ sum_by w es
    unfolding Rises Stand
    rising_few es j [] h rises all = omega arith
    rising_few [] j (m ∷ ms) h rises all =
        let q = the_record f m all.0 in
        let d = div-add-mod m 2 in
        let le : j ≤ m / 2 = omega (arith, rises.0, d, mod-lt m {m = 2} (omega arith)) in
        absurd (let none : None ≡ Some q.0 = h m q.0 q.1 le in cc)
    rising_few (e ∷ es) j (m ∷ ms) h rises all =
        let q = the_record f m all.0 in
        let odd = (named_place f m q.0 q.1).0 in
        let d = div-add-mod m 2 in
        let le : j ≤ m / 2 = omega (arith, rises.0, d, odd) in
        by_order q odd d le (cases_lt j (m / 2)) (λ r. rising_few es (j + 1) ms (stand_on e es j h) r all.1)
        (λ r. rising_few es (j + 1) (m ∷ ms) (stand_on e es j h) r all)
      where
        by_order : (q : (r : Record) × (named f (pos m) ≡ Some r)) → m % 2 ≡ 1 → 2 * (m / 2) + m % 2 ≡ m → j ≤ m / 2 → (j < m / 2) ⊎ (m / 2 ≤ j)
            → (Rises (2 * (j + 1)) ms → sum_by w (records_of f ms) ≤ sum_by w es)
            → (Rises (2 * (j + 1)) (m ∷ ms) → sum_by w (records_of f (m ∷ ms)) ≤ sum_by w es) → sum_by w (records_of f (m ∷ ms)) ≤ sum_by w (e ∷ es)
        by_order q odd d le (inr low) on past =
            let at : m / 2 - j ≡ 0 = omega (arith, low) in
            let same : e ≡ q.0 = same_Some e q.0 (sym (ap (slice_get (e ∷ es)) at) ∙ h m q.0 q.1 le) in
            let number : m + 1 ≡ 2 * (j + 1) = omega (arith, odd, d, le, low) in
            let rest : sum_by w (records_of f ms) ≤ sum_by w es = on (subst (λ (k : ℕ). Rises k ms) number rises.1) in
            let whole : sum_by w (records_of f (m ∷ ms)) ≡ sum_by w (q.0 ∷ records_of f ms) =
            ap (λ (o : Option Record). sum_by w (cons_option o (records_of f ms))) q.1 in
            omega (arith, rest, whole, ap w same, sum_by-cons w q.0 (records_of f ms), sum_by-cons w e es)
        by_order q odd d le (inl further_on) on past =
            let rest : sum_by w (records_of f (m ∷ ms)) ≤ sum_by w es = past (omega (arith, d, odd, further_on), rises.1) in
            omega (arith, rest, sum_by-cons w e es)

  all_stand : Stand f.entries 0
  unfolding Stand
  all_stand m r en le = let same : m / 2 - 0 ≡ m / 2 = omega arith in ap (slice_get f.entries) same ∙ (named_place f m r en).1

  pub kept_weigh : (w : Record → ℕ) (ms : List ℕ) → IsStrictlyIncreasing ms → AllByRecursion (IsNamed f) ms → sum_by w (records_of f ms) ≤ sum_by w f.entries
  kept_weigh w ms rising all =
      rising_few w f.entries 0 ms all_stand (subst (λ (k : ℕ). Rises k ms) (let e : 0 ≡ 2 * 0 = omega arith in e) (rises_all ms rising)) all

  pub kept_few : (ms : List ℕ) → IsStrictlyIncreasing ms → AllByRecursion (IsNamed f) ms → value_count (records_of f ms) ≤ value_count f.entries
  kept_few ms rising all = kept_weigh (λ (r : Record). length r.1) ms rising all

-- ---- what is reached

solid_named : (f : Contents) (n : ℕ) → is_solid f n ≡ true → IsNamed f n
solid_named f n h = by_option (named f (pos n)) h
  where
    by_option : (o : Option Record) → is_solid_entry o ≡ true → IsSome o
    by_option None k = absurd (let g : false ≡ true = k in cc)
    by_option (Some r) k = refl

reaches_named : (f : Contents) (n : ℕ) {m : ℕ} → IsNamed f n → Reaches f n m → IsNamed f m
reaches_named f n h here = h
reaches_named f n {m} h (further r t) = contains_pass (names_entry f) t.1 (pos m) t.4 (refs_named f t.0 t.1 t.3)

all_by : {P : ℕ → Type 0} (ms : List ℕ) → ((m : ℕ) → In ms m → P m) → AllByRecursion P ms
all_by [] h = tt
all_by (m ∷ ms) h = (h m (inl refl), all_by ms (λ k i. h k (inr i)))

fault_of : (f : Contents) (m : ℕ) (r : Record) → named f (pos m) ≡ Some r → fault_at f m ≡ entry_fault f r
fault_of f m r e = ap (λ (o : Option Record). elim o as (λ _. Option ExtractReason) [ Some r ↦ entry_fault f r | None ↦ None ]) e

faulty_record : (f : Contents) (m : ℕ) (x : ExtractReason) → fault_at f m ≡ Some x → (r : Record) × (named f (pos m) ≡ Some r) × (entry_fault f r ≡ Some x)
faulty_record f m x e = by_option (named f (pos m)) refl e
  where
    by_option : (o : Option Record) → named f (pos m) ≡ o → elim o as (λ _. Option ExtractReason) [ Some r ↦ entry_fault f r | None ↦ None ] ≡ Some x
        → (r : Record) × (named f (pos m) ≡ Some r) × (entry_fault f r ≡ Some x)
    by_option None n k = absurd (let g : None ≡ Some x = k in cc)
    by_option (Some r) n k = (r, n, k)

pub refused_is : (f : Contents) (n : ℕ) (ns : List ℕ) (refusal : Option Refusal) (x : Refusal) → is_solid f n ≡ true → IsFlooded f n ns refusal
    → refusal ≡ Some x → IsRefused f n x.entity.0 x.reason
refused_is f n ns refusal x solid h e =
    let least : IsLeastFault f ns (Some x) = subst (IsLeastFault f ns) e h.least in
    let found = faulty_record f x.entity.0 x.reason least.1 in
    inr (solid, found.0, (h.reached x.entity.0).0 least.0, found.1, found.2, λ m q lt r en. sym (fault_of f m q en) ∙ least.2 m lt ((h.reached m).1 r))

module _ (f : Contents) (n : ℕ) (ns : List ℕ) (refusal : Option Refusal) (nos : List EntryNo) (solid : is_solid f n ≡ true) (h : IsFlooded f n ns refusal)
    (none : refusal ≡ None) (rising : AreRising nos ns) where
  least : IsLeastFault f ns None
  least = subst (IsLeastFault f ns) none h.least

  reached_by : (m : ℕ) → Contains (numbers_of nos) m ↔ Reaches f n m
  reached_by m = ((λ c. (h.reached m).0 ((rising.same m).0 c)), (λ r. (rising.same m).1 ((h.reached m).1 r)))

  pub all_faultless : AllByRecursion (IsFaultless f) (numbers_of nos)
  all_faultless = all_by (numbers_of nos) (λ m i. (
    reaches_named f n (solid_named f n solid) ((reached_by m).0 (contains_at (numbers_of nos) m i)),
    least m
        ((rising.same m).0 (contains_at (numbers_of nos) m i)),
  ))

  pub values_fit : IsMade f → value_count (records_of f (numbers_of nos)) ≤ 164000000
  values_fit made =
      let most : value_count f.entries ≤ 164000000 = made.limits.values in
      let few : value_count (records_of f (numbers_of nos)) ≤ value_count f.entries =
      kept_few f (numbers_of nos) rising.rising
      (all_by (numbers_of nos) (λ m i. reaches_named f n (solid_named f n solid) ((reached_by m).0 (contains_at (numbers_of nos) m i)))) in
      omega (arith, most, few)

  zipped : (ms : List ℕ) → AllByRecursion (IsFaultless f) ms → AllZip (λ m r. named f (pos m) ≡ Some r) ms (records_of f ms)
  zipped [] all = tt
  zipped (m ∷ ms) all =
      let q = the_record f m all.0.0 in
      subst (λ (o : Option Record). AllZip (λ m r. named f (pos m) ≡ Some r) (m ∷ ms) (cons_option o (records_of f ms))) (sym q.1) (q.1, zipped ms all.1)

  none_faulty : (ms : List ℕ) → AllByRecursion (IsFaultless f) ms → AllByRecursion (λ r. entry_fault f r ≡ None) (records_of f ms)
  none_faulty [] all = tt
  none_faulty (m ∷ ms) all =
      let q = the_record f m all.0.0 in
      subst (λ (o : Option Record). AllByRecursion (λ r. entry_fault f r ≡ None) (cons_option o (records_of f ms))) (sym q.1)
      (sym (fault_of f m q.0 q.1) ∙ all.0.1, none_faulty ms all.1)

  pub extracted_is : (new : Contents) → new.start ≡ f.start → new.global ≡ f.global
      → new.entries ≡ map (new_record f (numbers_of nos)) (records_of f (numbers_of nos)) → IsExtracted f n new
  extracted_is new es eg ee = record {
    solid = solid;
    kept = numbers_of nos;
    rising = rising.rising;
    reached = reached_by;
    records = records_of f (numbers_of nos);
    each_named = zipped (numbers_of nos) all_faultless;
    faultless = All-from_recursion (λ r. entry_fault f r ≡ None) (records_of f (numbers_of nos)) (none_faulty (numbers_of nos) all_faultless);
    start = es;
    global = eg;
    entries = ee;
  }

  pub extracted_as_is : (new : Contents) (number : ℕ) → new.start ≡ f.start → new.global ≡ f.global
      → new.entries ≡ map (new_record f (numbers_of nos)) (records_of f (numbers_of nos)) → number ≡ new_number (numbers_of nos) n
      → IsExtractedAs f n new number
  unfolding extracted_is
  extracted_as_is new number es eg ee en = record { extracted = extracted_is new es eg ee; is = en }

module _ (f : Contents) (n : ℕ) (kept : List ℕ) (k : IsKept f n kept) where
  pub kept_faultless : AllByRecursion (IsFaultless f) kept
  kept_faultless = subst (AllByRecursion (IsFaultless f)) (sym k.is) (all_faultless f n k.reached None k.numbers k.solid k.flooded refl k.rising)

  pub kept_rising : IsStrictlyIncreasing kept
  kept_rising = subst IsStrictlyIncreasing (sym k.is) k.rising.rising

  pub kept_as : (new : Contents) (number : ℕ) → new ≡ record f { entries = map (new_record f kept) (records_of f kept) } → number ≡ new_number kept n
      → IsExtractedAs f n new number
  kept_as new number e en =
      extracted_as_is f n k.reached None k.numbers k.solid k.flooded refl k.rising new number (ap (λ (x : Contents). x.start) e)
      (ap (λ (x : Contents). x.global) e)
      (ap (λ (x : Contents). x.entries) e ∙ ap (λ (ms : List ℕ). map (new_record f ms) (records_of f ms)) k.is)
      (en ∙ ap (λ (ms : List ℕ). new_number ms n) k.is)

-- ---- one answer

pub only_file : (f : Contents) (n : ℕ) (result : Result Contents ExtractFault) (new : Contents) → IfOk result (IsExtracted f n)
    → IfErr result (IsExtractFault f n) → IsExtracted f n new → GivesFile result new
only_file f n (Ok given) new found bad h = IsExtracted-unique f n given new found h
only_file f n (Err (fault.Refused entity reason)) new found bad h = IsExtracted-IsRefused f n new entity.0 reason h bad
only_file f n (Err fault.NoMemory) new found bad h = tt

pub only_refusal : (f : Contents) (n : ℕ) (result : Result Contents ExtractFault) (entity : ℕ) (reason : ExtractReason) → IfOk result (IsExtracted f n)
    → IfErr result (IsExtractFault f n) → IsRefused f n entity reason → GivesRefusal result entity reason
only_refusal f n (Ok given) entity reason found bad h = IsExtracted-IsRefused f n given entity reason found h
only_refusal f n (Err (fault.Refused e r)) entity reason found bad h = IsRefused-unique f n e.0 entity r reason bad h
only_refusal f n (Err fault.NoMemory) entity reason found bad h = tt

-- ---- the extracted file is one that can be made

records_are : (f : Contents) (ms : List ℕ) (rs : List Record) → AllZip (λ m r. named f (pos m) ≡ Some r) ms rs
    → (rs ≡ records_of f ms) × AllByRecursion (IsNamed f) ms
records_are f [] [] h = (refl, tt)
records_are f [] (r ∷ rs) h = absurd h
records_are f (m ∷ ms) [] h = absurd h
records_are f (m ∷ ms) (r ∷ rs) h =
    let on = records_are f ms rs h.1 in (
      ap (λ (xs : List Record). r ∷ xs) on.0 ∙ sym (ap (λ (o : Option Record). cons_option o (records_of f ms)) h.0),
      (ap (λ (o : Option Record). is_some o) h.0, on.1),
    )

ones : (rs : List Record) → sum_by (λ (r : Record). 1) rs ≡ length rs
ones [] = refl
ones (r ∷ rs) = let on : sum_by (λ (q : Record). 1) rs ≡ length rs = ones rs in omega (arith, on, sum_by-cons (λ (q : Record). 1) r rs)

made_entries : (f : Contents) (kept ms : List ℕ) (rs : List Record) → length kept ≤ 4999999 → AllByRecursion IsMadeEntry f.entries
    → AllZip (λ m r. named f (pos m) ≡ Some r) ms rs → AllByRecursion IsMadeEntry (map (new_record f kept) rs)
made_entries f kept [] [] few all h = tt
made_entries f kept [] (r ∷ rs) few all h = absurd h
made_entries f kept (m ∷ ms) [] few all h = absurd h
made_entries f kept (m ∷ ms) (r ∷ rs) few all h =
    let made : IsMadeEntry r = all_at IsMadeEntry f.entries (m / 2) r all (named_place f m r h.0).1 in (
      record {
        bounded = kept_bounded r.0 kept few made.bounded;
        unused = λ zero_kind. absurd (let g : true ≡ false = sym zero_kind ∙ has_kind f m r h.0 in cc);
      },
      made_entries f kept ms rs few all h.1,
    )

records_count : (f new : Contents) (n : ℕ) (x : IsExtracted f n new) → length x.records ≤ length f.entries
records_count f new n x =
    let are = records_are f x.kept x.records x.each_named in
    let count : sum_by (λ (r : Record). 1) (records_of f x.kept) ≤ sum_by (λ (r : Record). 1) f.entries =
    kept_weigh f (λ (r : Record). 1) x.kept x.rising are.1 in
    omega (arith, ap length are.0, count, ones (records_of f x.kept), ones f.entries)

pub kept_count : (f new : Contents) (n : ℕ) → IsMade f → (x : IsExtracted f n new) → length x.kept ≤ 4999999
kept_count f new n made x =
    let most : length f.entries ≤ 4999999 = made.limits.entries in
    omega (arith, zip_length (λ m r. named f (pos m) ≡ Some r) x.kept x.records x.each_named, records_count f new n x, most)

pub extracted_is_made : ExtractedIsMade
extracted_is_made f new n made x =
    let are = records_are f x.kept x.records x.each_named in
    let long : length x.records ≤ length f.entries = records_count f new n x in
    let most : length f.entries ≤ 4999999 = made.limits.entries in
    let few : length x.kept ≤ 4999999 = kept_count f new n made x in
    let values : value_count x.records ≤ value_count f.entries = subst (λ (rs : List Record). value_count rs ≤ value_count f.entries) (sym are.0)
    (kept_few f x.kept x.rising are.1) in
    let limit : value_count f.entries ≤ 164000000 = made.limits.values in
    record {
      some_start = subst (λ (s : List (List ℕ)). 0 < length s) (sym x.start) made.some_start;
      start = subst (λ (s : List (List ℕ)). IsTrue (list_all is_start_line s)) (sym x.start) made.start;
      kinds = subst (λ (g : Global26). IsTrue (have_kinds g.values)) (sym x.global) made.kinds;
      entries = subst (AllByRecursion IsMadeEntry) (sym x.entries) (made_entries f x.kept x.kept x.records few made.entries x.each_named);
      limits = record {
        entries = omega (arith, ap length x.entries, length-map x.records (new_record f x.kept), long, most);
        values = omega (arith, ap value_count x.entries, mapped_few f x.kept x.records, values, limit);
      };
    }
