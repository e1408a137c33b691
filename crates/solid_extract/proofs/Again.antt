-- A solid that is extracted again is the same file.
use Rattle.std.specs.Prelude.{◌≡◌, ◌↔◌, ℕ, zero, suc, ◌+◌, ◌*◌, ◌<◌, true, ℤ, pos, List, [], ◌∷◌, ◌++◌, is_some, unsigned_abs, length, map, Some}
use Rattle.std.specs.Prelude.{None, Option, Ok, Result, IsTrue, slice_get, slice_index_or, Contains}
use Rattle.std.specs.List.{AllByRecursion, AllZip}
use Rattle.std.specs.List.Sorted.{IsStrictlyIncreasing}
use Rattle.std.proofs.Common.{refl, sym, ap, subst, ◌∙◌, arith, inl, inr}
use Rattle.std.proofs.lemmas.List.Elements.{All-from_recursion, recursion_from_All}
use Rattle.std.proofs.lemmas.Option.{none-some, same_Some, slice_get_within}
use Rattle.iges_base.proofs.Lists.{some_at}
use Rattle.iges_params.specs.Contents.{Contents}
use Rattle.iges_params.specs.Named.{named}
use Rattle.entry_references.specs.declared.fault.ExtractReason.{ExtractReason}
use Rattle.entry_references.specs.References.{RefersTo}
use Rattle.entry_references.specs.Refs.{Record, names_entry, names_of, pointers_of, entry_fault, refs}
use Rattle.entry_references.proofs.RisingLists.{In, below, tail_rises, contains_at, in_from, contains_pass}
use Rattle.solid_extract.specs.Again.{ExtractedAgain}
use Rattle.iges_params.specs.Solids.{is_solid, is_solid_entry}
use Rattle.solid_extract.specs.Extracted.{new_number, new_record, renamed, Reaches, here, further, IsExtracted, IsExtractedAs}
use Rattle.solid_extract.specs.Renaming.{place_of}
use Rattle.solid_extract.proofs.Copies.{all_at, zip_at}
use Rattle.solid_extract.proofs.NewNumbers.{new_named}
use Rattle.solid_extract.proofs.Places.{place_here, place_later, place_found, place_few}
use Rattle.solid_extract.proofs.AgainPlaces.{odds_from, odds_rising, in_odds, from_odds, new_odd}
use Rattle.solid_extract.proofs.AgainRecord.{IsKeptNumber, IsSteady, steady, refs_read, renamed_named}

-- ---- members

in_slice : (xs : List ℕ) (i m : ℕ) → slice_get xs i ≡ Some m → In xs m
in_slice [] i m e = absurd (none-some m e)
in_slice (x ∷ xs) zero m e = inl (same_Some x m e)
in_slice (x ∷ xs) (suc i) m e = inr (in_slice xs i m e)

-- in a rising list a number has one place
one_place : (xs : List ℕ) (i m : ℕ) → IsStrictlyIncreasing xs → slice_get xs i ≡ Some m → place_of xs m ≡ i
one_place [] i m h e = absurd (none-some m e)
one_place (x ∷ xs) zero m h e = place_here x m xs (same_Some x m e)
one_place (x ∷ xs) (suc i) m h e =
    let lt : x < m = below x xs h m (in_slice xs i m e) in
    place_later x m xs (λ s. omega (arith, lt, s)) ∙ ap suc (one_place xs i m (tail_rises x xs h) e)

map_contains : (g : ℤ → ℤ) (zs : List ℤ) (y : ℤ) (i : ℕ) → i < length zs → slice_index_or zs i y ≡ y → Contains (map g zs) (g y)
map_contains g [] y i lt e = absurd (omega (arith, lt))
map_contains g (z ∷ zs) y zero lt e = (0, omega arith, ap g e)
map_contains g (z ∷ zs) y (suc i) lt e = let c = map_contains g zs y i (omega (arith, lt)) e in (suc c.0, omega (arith, c.1), c.2)

map_from : (P : ℤ → Type 0) (g : ℤ → ℤ) (zs : List ℤ) (w : ℤ) (i : ℕ) → AllByRecursion P zs → i < length (map g zs) → slice_index_or (map g zs) i w ≡ w
    → (y : ℤ) × P y × (g y ≡ w) × Contains zs y
map_from P g [] w i h lt e = absurd (omega (arith, lt))
map_from P g (z ∷ zs) w zero h lt e = (z, h.0, e, (0, omega arith, refl))
map_from P g (z ∷ zs) w (suc i) h lt e =
    let r = map_from P g zs w i h.1 (omega (arith, lt)) e in
    (r.0, r.1, r.2, (suc r.3.0, omega (arith, r.3.1), r.3.2))

ok_same : (xs ys : List ℤ) → (let a : Result (List ℤ) ExtractReason = Ok xs in a) ≡ Ok ys → xs ≡ ys
ok_same xs ys e = cc

module _ (f new : Contents) (n : ℕ) (x : IsExtracted f n new) where
  abbrev next : ℕ → ℕ
  next m = new_number x.kept m

  record Known (m : ℕ) : Type 0 where
    record_at : Record
    at : named f (pos m) ≡ Some record_at
    stays : IsSteady f new x.kept record_at
    good : entry_fault f record_at ≡ None

  known : (m : ℕ) → Contains x.kept m → Known m
  known m c =
      let r = zip_at (λ (k : ℕ) (q : Record). named f (pos k) ≡ Some q) x.kept x.records (place_of x.kept m) m x.each_named
      (place_found x.kept m (in_from x.kept m c)) in
      let faultless = recursion_from_All (λ q. entry_fault f q ≡ None) x.records x.faultless in
      let good = all_at (λ q. entry_fault f q ≡ None) x.records (place_of x.kept m) r.0 faultless r.1 in
      record { record_at = r.0; at = r.2; stays = steady f new n x m r.0 c r.2 good; good = good }

  new_at : (m : ℕ) (c : Contains x.kept m) → named new (pos (next m)) ≡ Some (new_record f x.kept (known m c).record_at)
  new_at m c = new_named f new n x m (known m c).record_at c (known m c).at

  renamed_is : (m : ℕ) → Contains x.kept m → renamed x.kept (pos m) ≡ pos (next m)
  renamed_is m c = let k = known m c in renamed_named f x.kept m (there k.record_at k.at)
    where
      there : (r : Record) → named f (pos m) ≡ Some r → names_entry f (pos m) ≡ true
      there r e = ap (λ (o : Option Record). is_some o) e

  -- ---- what is reached

  refers_on : (m k : ℕ) → Contains x.kept m → RefersTo f m k → RefersTo new (next m) (next k)
  refers_on m k c t =
      let q = known m c in
      let same : t.0 ≡ q.record_at = same_Some t.0 q.record_at (sym t.2 ∙ q.at) in
      let read : t.1 ≡ pointers_of q.record_at ++ names_of f q.record_at = ok_same t.1 (pointers_of q.record_at ++ names_of f q.record_at)
      (sym t.3 ∙ (ap (refs f) same ∙ refs_read f q.record_at q.good)) in
      let member : Contains (pointers_of q.record_at ++ names_of f q.record_at) (pos k) = subst (λ (zs : List ℤ). Contains zs (pos k)) read t.4 in
      let moved : Contains (map (renamed x.kept) (pointers_of q.record_at ++ names_of f q.record_at)) (renamed x.kept (pos k)) =
      map_contains (renamed x.kept) (pointers_of q.record_at ++ names_of f q.record_at) (pos k) member.0 member.1 member.2 in
      let named_so : names_entry f (pos k) ≡ true = contains_pass (names_entry f) (pointers_of q.record_at ++ names_of f q.record_at) (pos k) member
      q.stays.named_all in (
        new_record f x.kept q.record_at,
        map (renamed x.kept) (pointers_of q.record_at ++ names_of f q.record_at),
        new_at m c,
        q.stays.references,
        subst (Contains (map (renamed x.kept) (pointers_of q.record_at ++ names_of f q.record_at))) (renamed_named f x.kept k named_so) moved,
      )

  reaches_on : {m : ℕ} → Reaches f n m → Reaches new (next n) (next m)
  reaches_on here = here
  reaches_on (further {m} {k} r t) = further (reaches_on r) (refers_on m k ((x.reached m).1 r) t)

  refers_back : (m j : ℕ) → Contains x.kept m → RefersTo new (next m) j → (k : ℕ) × Contains x.kept k × (j ≡ next k)
  refers_back m j c t =
      let q = known m c in
      let same : t.0 ≡ new_record f x.kept q.record_at = same_Some t.0 (new_record f x.kept q.record_at) (sym t.2 ∙ new_at m c) in
      let read : t.1 ≡ map (renamed x.kept) (pointers_of q.record_at ++ names_of f q.record_at) =
      ok_same t.1 (map (renamed x.kept) (pointers_of q.record_at ++ names_of f q.record_at)) (sym t.3 ∙ (ap (refs new) same ∙ q.stays.references)) in
      let member : Contains (map (renamed x.kept) (pointers_of q.record_at ++ names_of f q.record_at)) (pos j) =
      subst (λ (zs : List ℤ). Contains zs (pos j)) read t.4 in
      let from = map_from (IsKeptNumber x.kept) (renamed x.kept) (pointers_of q.record_at ++ names_of f q.record_at) (pos j) member.0 q.stays.numbers member.1
      member.2 in
      let k = from.1 in
      let number : pos j ≡ pos (next k.0) = sym from.2 ∙ (ap (renamed x.kept) k.1 ∙ renamed_is k.0 k.2) in
      (k.0, k.2, ap unsigned_abs number)

  reaches_back : {j : ℕ} → Reaches new (next n) j → (k : ℕ) × Contains x.kept k × (j ≡ next k)
  reaches_back here = (n, (x.reached n).1 here, refl)
  reaches_back (further {m} {k} r t) =
      let b = reaches_back r in
      refers_back b.0 k b.1 (subst (λ (i : ℕ). RefersTo new i k) b.2 t)

  -- ---- the new numbers

  number_at : (i m : ℕ) → slice_get x.kept i ≡ Some m → next m ≡ 2 * i + 1
  number_at i m e = ap (λ (k : ℕ). 2 * k + 1) (one_place x.kept i m x.rising e)

  reached_again : (j : ℕ) → Contains (odds_from 0 (length x.kept)) j ↔ Reaches new (next n) j
  reached_again j = (forth, back)
    where
      forth : Contains (odds_from 0 (length x.kept)) j → Reaches new (next n) j
      forth c =
          let p = from_odds 0 (length x.kept) j (in_from (odds_from 0 (length x.kept)) j c) in
          let m = some_at x.kept p.0 p.1 in
          let number : next m.0 ≡ j = number_at p.0 m.0 m.1 ∙ (let e : 2 * p.0 + 1 ≡ j = omega (arith, p.2) in e) in
          subst (Reaches new (next n)) number (reaches_on ((x.reached m.0).0 (contains_at x.kept m.0 (in_slice x.kept p.0 m.0 m.1))))

      back : Reaches new (next n) j → Contains (odds_from 0 (length x.kept)) j
      back r =
          let b = reaches_back r in
          let place : slice_get x.kept (place_of x.kept b.0) ≡ Some b.0 = place_found x.kept b.0 (in_from x.kept b.0 b.1) in
          let lt : place_of x.kept b.0 < length x.kept = slice_get_within x.kept (place_of x.kept b.0) b.0 place in
          let same : 2 * (0 + place_of x.kept b.0) + 1 ≡ j = omega (arith, b.2) in
          contains_at (odds_from 0 (length x.kept)) j (subst (In (odds_from 0 (length x.kept))) same (in_odds 0 (length x.kept) (place_of x.kept b.0) lt))

  -- ---- the records

  all_named : (i : ℕ) (ms : List ℕ) (rs : List Record) → AllZip (λ m r. named f (pos m) ≡ Some r) ms rs → ((m : ℕ) → In ms m → Contains x.kept m)
      → ((k m : ℕ) → slice_get ms k ≡ Some m → next m ≡ 2 * (i + k) + 1)
      → AllZip (λ m r. named new (pos m) ≡ Some r) (odds_from i (length ms)) (map (new_record f x.kept) rs)
  all_named i [] [] h into at = tt
  all_named i [] (r ∷ rs) h into at = absurd h
  all_named i (m ∷ ms) [] h into at = absurd h
  all_named i (m ∷ ms) (r ∷ rs) h into at =
      let first : next m ≡ 2 * i + 1 = at 0 m refl ∙ (let e : 2 * (i + 0) + 1 ≡ 2 * i + 1 = omega arith in e) in (
        subst (λ (k : ℕ). named new (pos k) ≡ Some (new_record f x.kept r)) first (new_named f new n x m r (into m (inl refl)) h.0),
        all_named (i + 1) ms rs h.1 (λ k j. into k (inr j)) (λ k j e. at (suc k) j e ∙ (let s : 2 * (i + suc k) + 1 ≡ 2 * (i + 1 + k) + 1 = omega arith in s)),
      )

  all_steady : (ms : List ℕ) (rs : List Record) → AllZip (λ m r. named f (pos m) ≡ Some r) ms rs → ((m : ℕ) → In ms m → Contains x.kept m)
      → AllByRecursion (λ r. entry_fault new r ≡ None) (map (new_record f x.kept) rs)
      × (map (new_record new (odds_from 0 (length x.kept))) (map (new_record f x.kept) rs) ≡ map (new_record f x.kept) rs)
  all_steady [] [] h into = (tt, refl)
  all_steady [] (r ∷ rs) h into = absurd h
  all_steady (m ∷ ms) [] h into = absurd h
  all_steady (m ∷ ms) (r ∷ rs) h into =
      let k = known m (into m (inl refl)) in
      let s : IsSteady f new x.kept r = subst (IsSteady f new x.kept) (same_Some k.record_at r (sym k.at ∙ h.0)) k.stays in
      let on = all_steady ms rs h.1 (λ j i. into j (inr i)) in (
        (s.faultless, on.0),
        ap (λ (q : Record). q ∷ map (new_record new (odds_from 0 (length x.kept))) (map (new_record f x.kept) rs)) s.again
            ∙ ap (λ (qs : List Record). new_record f x.kept r ∷ qs) on.1,
      )

  solid_again : IsTrue (is_solid new (next n))
  solid_again =
      let c : Contains x.kept n = (x.reached n).1 here in
      ap is_solid_entry (new_at n c)
      ∙ (sym (ap is_solid_entry (known n c).at) ∙ x.solid)

  again : IsExtracted new (next n) new
  again =
      let all = all_steady x.kept x.records x.each_named (λ m i. contains_at x.kept m i) in
      record {
        solid = solid_again;
        kept = odds_from 0 (length x.kept);
        rising = odds_rising (length x.kept);
        reached = reached_again;
        records = map (new_record f x.kept) x.records;
        each_named = all_named 0 x.kept x.records x.each_named (λ m i. contains_at x.kept m i)
            (λ k m e. number_at k m e ∙ (let s : 2 * k + 1 ≡ 2 * (0 + k) + 1 = omega arith in s));
        faultless = All-from_recursion (λ r. entry_fault new r ≡ None) (map (new_record f x.kept) x.records) all.0;
        start = refl;
        global = refl;
        entries = x.entries ∙ sym all.1;
      }

pub extracted_again : ExtractedAgain
extracted_again f new n x = again f new n x

-- The solid keeps its number.
pub number_again : (f new : Contents) (n : ℕ) (x : IsExtracted f n new) → IsExtractedAs new (new_number x.kept n) new (new_number x.kept n)
unfolding again
number_again f new n x = record { extracted = again f new n x; is = sym (new_odd (length x.kept) (place_of x.kept n) (place_few x.kept n)) }
