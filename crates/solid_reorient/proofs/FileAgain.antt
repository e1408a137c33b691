-- With other flags, an extracted file is still what is extracted of it.
use Rattle.std.specs.Prelude.{◌≡◌, ℕ, zero, suc, ◌+◌, ◌*◌, ◌/◌, ◌<◌, ◌≤◌, Bool, true, false, ℤ, pos, List, [], ◌∷◌, length, map, Option, Some}
use Rattle.std.specs.Prelude.{None, Result, Ok, IsTrue, Contains, slice_get, option_map, if◌then◌else◌}
use Rattle.std.specs.List.{AllByRecursion, AllZip, enumerate_from}
use Rattle.std.specs.List.Sorted.{IsStrictlyIncreasing}
use Rattle.std.specs.Ordering.{int_eq}
use Rattle.std.proofs.Common.{refl, sym, ◌∙◌, ap, arith, inl, inr}
use Rattle.std.proofs.Math.Nat.{div-add-mod}
use Rattle.std.proofs.lemmas.Bool.Decides.{Decides-int_eq}
use Rattle.std.proofs.lemmas.List.{length-map}
use Rattle.std.proofs.lemmas.List.Elements.{All-from_recursion, recursion_from_All}
use Rattle.std.proofs.lemmas.Option.{none-some, same_Some}
use Rattle.iges_params.specs.Contents.{Contents}
use Rattle.iges_params.specs.Named.{named, record_values}
use Rattle.iges_params.specs.Solids.{is_solid_entry, is_solid}
use Rattle.brep_lists.specs.Record.{type_number, items_of}
use Rattle.brep_lists.specs.declared.entity_kind.EntityKind.TheVariants.{Shell as shell}
use Rattle.brep_walk.specs.Places.{shells, faces, numbers}
use Rattle.entry_references.specs.declared.fault.ExtractReason.{ExtractReason}
use Rattle.entry_references.specs.Refs.{Record, entry_fault, refs}
use Rattle.entry_references.proofs.NamedRecords.{named_within}
use Rattle.entry_references.proofs.RisingLists.{In, below, tail_rises, contains_at, in_from}
use Rattle.solid_extract.specs.Extracted.{new_number, new_entry, new_values, new_record, Reaches, here, further, IsExtracted}
use Rattle.solid_extract.specs.Renaming.{place_of}
use Rattle.solid_extract.proofs.Copies.{all_at, zip_at, zip_length}
use Rattle.solid_extract.proofs.Places.{place_found}
use Rattle.solid_reorient.specs.Reflagged.{flags_for, reflagged_values, reflagged_record, reflagged_entries, reflagged}
use Rattle.solid_reorient.specs.Once.{ReflaggedIsExtracted}
use Rattle.solid_reorient.proofs.Entries.{shells_of, as_reflagged, names_reflagged, named_as}
use Rattle.solid_reorient.proofs.RecordAgain.{like, IsLike, is_like}

-- ---- odd numbers that rise and fill a range

abbrev IsOddIn : ℕ → ℕ → ℕ → Type 0
IsOddIn a c k = (i : ℕ) × (k ≡ 2 * i + 1) × (a ≤ i) × (i < c)

rising_few : (ks : List ℕ) (a c : ℕ) → a ≤ c → IsStrictlyIncreasing ks → ((k : ℕ) → In ks k → IsOddIn a c k) → a + length ks ≤ c
rising_few [] a c le h each = omega (arith, le)
rising_few (k ∷ ks) a c le h each =
    let o = each k (inl refl) in
    let rest : (o.0 + 1) + length ks ≤ c =
    rising_few ks (o.0 + 1) c (omega (arith, o.3)) (tail_rises k ks h)
    (λ j i. let p = each j (inr i) in let lt : k < j = below k ks h j i in (p.0, p.1, omega (arith, lt, o.1, p.1), p.3)) in
    omega (arith, rest, o.2)

odd_list : (ks : List ℕ) (a : ℕ) → IsStrictlyIncreasing ks → ((k : ℕ) → In ks k → IsOddIn a (a + length ks) k) → (j k : ℕ) → slice_get ks j ≡ Some k
    → k ≡ 2 * (a + j) + 1
odd_list [] a h each j k at = absurd (none-some k at)
odd_list (x ∷ ks) a h each zero k at =
    let o = each x (inl refl) in
    let rest : (o.0 + 1) + length ks ≤ a + length (x ∷ ks) =
    rising_few ks (o.0 + 1) (a + length (x ∷ ks)) (omega (arith, o.3)) (tail_rises x ks h)
    (λ j i. let p = each j (inr i) in let lt : x < j = below x ks h j i in (p.0, p.1, omega (arith, lt, o.1, p.1), p.3)) in
    omega (arith, same_Some x k at, rest, o.1, o.2)
odd_list (x ∷ ks) a h each (suc j) k at =
    let o = each x (inl refl) in
    let on : k ≡ 2 * (a + 1 + j) + 1 =
    odd_list ks (a + 1) (tail_rises x ks h)
    (λ q i. let p = each q (inr i) in let lt : x < q = below x ks h q i in (p.0, p.1, omega (arith, lt, o.1, o.2, p.1), omega (arith, p.3))) j k at in
    omega (arith, on)

ok_same : (xs ys : List ℤ) → (let a : Result (List ℤ) ExtractReason = Ok xs in a) ≡ Ok ys → xs ≡ ys
ok_same xs ys e = cc

module _ (g : Contents) (m : ℕ) (flags : List (List Bool)) (x : IsExtracted g m g)
    (few : (k : ℕ) (r : Record) → named g (pos k) ≡ Some r → int_eq r.0.kind (type_number shell) ≡ true
    → length (flags_for flags (numbers (shells g (pos m))) k) ≤ length (items_of shell r.1)) where
  abbrev d : Contents
  d = reflagged g m flags

  like_at : (k : ℕ) (r : Record) → named g (pos k) ≡ Some r → entry_fault g r ≡ None → IsLike g m flags x.kept k r
  like_at k r at good = is_like g m flags x.kept k r good (few k r at)

  named_like : (k : ℕ) (r : Record) → named g (pos k) ≡ Some r → named d (pos k) ≡ Some (like g m flags k r)
  named_like k r at = named_as g m flags (pos k) r at

  -- ---- what is reached

  record Known (k : ℕ) : Type 0 where
    record_at : Record
    at : named g (pos k) ≡ Some record_at
    good : entry_fault g record_at ≡ None

  known : (k : ℕ) → Reaches g m k → Known k
  known k r =
      let c : Contains x.kept k = (x.reached k).1 r in
      let q = zip_at (λ (k : ℕ) (q : Record). named g (pos k) ≡ Some q) x.kept x.records (place_of x.kept k) k x.each_named
      (place_found x.kept k (in_from x.kept k c)) in
      let faultless = recursion_from_All (λ q. entry_fault g q ≡ None) x.records x.faultless in
      record { record_at = q.0; at = q.2; good = all_at (λ q. entry_fault g q ≡ None) x.records (place_of x.kept k) q.0 faultless q.1 }

  reaches_on : {k : ℕ} → Reaches g m k → Reaches d m k
  reaches_on here = here
  reaches_on (further {m = a} {k = b} r t) =
      let q = known a r in
      let same : q.record_at ≡ t.0 = same_Some q.record_at t.0 (sym q.at ∙ t.2) in
      let l : IsLike g m flags x.kept a q.record_at = like_at a q.record_at q.at q.good in
      further (reaches_on r) (like g m flags a q.record_at, t.1, named_like a q.record_at q.at, l.references ∙ (ap (refs g) same ∙ t.3), t.4)

  reaches_back : {k : ℕ} → Reaches d m k → Reaches g m k
  reaches_back here = here
  reaches_back (further {m = a} {k = b} r t) =
      let q = known a (reaches_back r) in
      let l : IsLike g m flags x.kept a q.record_at = like_at a q.record_at q.at q.good in
      let same : t.0 ≡ like g m flags a q.record_at = same_Some t.0 (like g m flags a q.record_at) (sym t.2 ∙ named_like a q.record_at q.at) in
      further (reaches_back r) (q.record_at, t.1, q.at, sym l.references ∙ (sym (ap (refs d) same) ∙ t.3), t.4)

  -- ---- the records

  abbrev likes : List ℕ → List Record → List Record
  likes [] rs = []
  likes (k ∷ ks) [] = []
  likes (k ∷ ks) (r ∷ rs) = like g m flags k r ∷ likes ks rs

  all_named : (ks : List ℕ) (rs : List Record) → AllZip (λ k r. named g (pos k) ≡ Some r) ks rs → AllZip (λ k r. named d (pos k) ≡ Some r) ks (likes ks rs)
  all_named [] [] z = tt
  all_named [] (r ∷ rs) z = absurd z
  all_named (k ∷ ks) [] z = absurd z
  all_named (k ∷ ks) (r ∷ rs) z = (named_like k r z.0, all_named ks rs z.1)

  all_good : (ks : List ℕ) (rs : List Record) → AllZip (λ k r. named g (pos k) ≡ Some r) ks rs → AllByRecursion (λ r. entry_fault g r ≡ None) rs
      → AllByRecursion (λ r. entry_fault d r ≡ None) (likes ks rs)
  all_good [] [] z a = tt
  all_good [] (r ∷ rs) z a = absurd z
  all_good (k ∷ ks) [] z a = absurd z
  all_good (k ∷ ks) (r ∷ rs) z a = let l = like_at k r z.0 a.0 in (l.fault ∙ a.0, all_good ks rs z.1 a.1)

  entries_from : (i : ℕ) (ks : List ℕ) (rs : List Record) → AllZip (λ k r. named g (pos k) ≡ Some r) ks rs → AllByRecursion (λ r. entry_fault g r ≡ None) rs
      → ((j k : ℕ) → slice_get ks j ≡ Some k → k ≡ 2 * (i + j) + 1)
      → map (reflagged_record flags (numbers (shells g (pos m)))) (enumerate_from i (map (new_record g x.kept) rs)) ≡ map (new_record d x.kept) (likes ks rs)
  entries_from i [] [] z a odd = refl
  entries_from i [] (r ∷ rs) z a odd = absurd z
  entries_from i (k ∷ ks) [] z a odd = absurd z
  entries_from i (k ∷ ks) (r ∷ rs) z a odd =
      let l : IsLike g m flags x.kept k r = like_at k r z.0 a.0 in
      let first : k ≡ 2 * i + 1 = odd 0 k refl ∙ (let e : 2 * (i + 0) + 1 ≡ 2 * i + 1 = omega arith in e) in
      let values : reflagged_values (flags_for flags (numbers (shells g (pos m))) (2 * i + 1)) (new_record g x.kept r) ≡ new_values d x.kept
      (like g m flags k r) =
      ap (λ n. reflagged_values (flags_for flags (numbers (shells g (pos m))) n) (new_record g x.kept r)) (sym first) ∙ sym l.becomes in
      ap (λ (vs : List _). let q : Record = (new_entry x.kept r.0, vs) in q ∷ map (reflagged_record flags (numbers (shells g (pos m))))
      (enumerate_from (i + 1) (map (new_record g x.kept) rs))) values
      ∙ ap (λ (qs : List Record). new_record d x.kept (like g m flags k r) ∷ qs) (entries_from (i + 1) ks rs z.1 a.1 (λ j q at. odd (suc j) q at
      ∙ (let e : 2 * (i + suc j) + 1 ≡ 2 * (i + 1 + j) + 1 = omega arith in e)))

  long : length x.kept ≡ length g.entries
  long = zip_length (λ (k : ℕ) (q : Record). named g (pos k) ≡ Some q) x.kept x.records x.each_named
      ∙ (sym (length-map x.records (new_record g x.kept)) ∙ sym (ap length x.entries))

  odd_kept : (k : ℕ) → In x.kept k → IsOddIn 0 (0 + length x.kept) k
  odd_kept k i =
      let q = known k ((x.reached k).0 (contains_at x.kept k i)) in
      let w = named_within g k q.record_at q.at in
      (k / 2, omega (arith, w.0, div-add-mod k 2), omega arith, omega (arith, w.1, long))

  -- the solid has the number that it had
  pub number_kept : new_number x.kept m ≡ m
  number_kept =
      let place : slice_get x.kept (place_of x.kept m) ≡ Some m = place_found x.kept m (in_from x.kept m ((x.reached m).1 here)) in
      sym (odd_list x.kept 0 x.rising odd_kept (place_of x.kept m) m place ∙ (let e : 2 * (0 + place_of x.kept m) + 1 ≡ new_number x.kept m = omega arith in e))

  faultless : AllByRecursion (λ r. entry_fault g r ≡ None) x.records
  faultless = recursion_from_All (λ q. entry_fault g q ≡ None) x.records x.faultless

  solid_still : IsTrue (is_solid d m)
  solid_still = ap is_solid_entry (names_reflagged g m flags (pos m)) ∙ (by_option (named g (pos m)) ∙ x.solid)
    where
      by_option : (o : Option Record) → is_solid_entry (option_map (as_reflagged flags (shells_of g m flags) m) o) ≡ is_solid_entry o
      by_option None = refl
      by_option (Some r) = refl

  entries_are : reflagged_entries flags (numbers (shells g (pos m))) g.entries ≡ map (new_record d x.kept) (likes x.kept x.records)
  entries_are =
      ap (reflagged_entries flags (numbers (shells g (pos m)))) x.entries
      ∙ entries_from 0 x.kept x.records x.each_named faultless (odd_list x.kept 0 x.rising odd_kept)

  pub still_extracted : IsExtracted (reflagged g m flags) m (reflagged g m flags)
  unfolding reflagged
  still_extracted = record {
    solid = solid_still;
    kept = x.kept;
    rising = x.rising;
    reached = λ k. (λ c. reaches_on ((x.reached k).0 c), λ r. (x.reached k).1 (reaches_back r));
    records = likes x.kept x.records;
    each_named = all_named x.kept x.records x.each_named;
    faultless = All-from_recursion (λ r. entry_fault (reflagged g m flags) r ≡ None) (likes x.kept x.records)
        (all_good x.kept x.records x.each_named faultless);
    start = refl;
    global = refl;
    entries = entries_are;
  }

-- there are no more flags for an entry than it has faces
few_for : (g : Contents) (fs : List (List Bool)) (items : List (ℤ × Bool))
    → AllZip (λ (y : List Bool) (i : ℤ × Bool). length y ≡ length (faces g i.0)) fs items → (k : ℕ) (r : Record) → named g (pos k) ≡ Some r
    → length (flags_for fs (numbers items) k) ≤ length (items_of shell r.1)
few_for g [] items z k r at = omega arith
few_for g (y ∷ fs) [] z k r at = absurd z
few_for g (y ∷ fs) (i ∷ items) z k r at = by_test (int_eq i.0 (pos k)) refl (few_for g fs items z.1 k r at)
  where
    by_test : (b : Bool) → int_eq i.0 (pos k) ≡ b → length (flags_for fs (numbers items) k) ≤ length (items_of shell r.1)
        → length (if b then y else flags_for fs (numbers items) k) ≤ length (items_of shell r.1)
    by_test true t on =
        let told : faces g i.0 ≡ items_of shell r.1 = ap (λ (o : Option Record). items_of shell (record_values o))
        (ap (named g) ((Decides-int_eq i.0 (pos k)).0 t) ∙ at) in
        omega (arith, z.0, ap length told)
    by_test false t on = on

pub extracted_still : ReflaggedIsExtracted
extracted_still g m flags x lists = still_extracted g m flags x (λ k r at t. few_for g flags (shells g (pos m)) lists k r at)

pub number_still : (g : Contents) (m : ℕ) (x : IsExtracted g m g) → new_number x.kept m ≡ m
number_still g m x = number_kept g m [] x (λ k r at t. omega arith)
