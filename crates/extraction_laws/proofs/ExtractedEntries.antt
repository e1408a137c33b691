-- Extraction keeps the entries that a chain of references reaches, and with each of them its pointers.
use Rattle.std.specs.Prelude.{◌≡◌, ◌⊎◌, ℕ, suc, ◌+◌, ◌-◌, ◌≤◌, ◌==◌, Bool, true, false, ℤ, pos, negsuc, neg_ℤ, int_lt, List, [], ◌∷◌, ◌++◌, filter_map}
use Rattle.std.specs.Prelude.{Contains, Option, Some, None, Result, Ok, Err, is_some, slice_get, slice_index_or, if◌then◌else◌}
use Rattle.std.specs.List.{AllByRecursion, cons_option, enumerate_from, list_all, position_or_len}
use Rattle.std.specs.Ordering.{int_eq}
use Rattle.std.proofs.Common.{refl, sym, ◌∙◌, ap, subst, arith, inl, inr}
use Rattle.std.proofs.lemmas.Bool.{cond-false}
use Rattle.std.proofs.lemmas.Bool.Decides.{Decides-int_eq}
use Rattle.std.proofs.lemmas.List.Elements.{recursion_from_All}
use Rattle.std.proofs.lemmas.Option.{same_Some}
use Rattle.iges_base.proofs.Tests.{passes}
use Rattle.iges_fields.specs.declared.value.Value.{Value}
use Rattle.iges_fields.specs.declared.value.Value.TheVariants as value
use Rattle.iges_params.specs.Contents.{Contents}
use Rattle.iges_params.specs.Named.{named}
use Rattle.brep_lists.specs.DueValues.{DueValue, pointer, number, flag, at_least_one, count, coordinate, MeetsAll}
use Rattle.brep_lists.specs.Record.{kind_of_type, due, items_of, IsRecordOf}
use Rattle.brep_lists.specs.declared.entity_kind.EntityKind.{EntityKind}
use Rattle.brep_lists.specs.OwnValues.{due_in, own_count, if_pointer, pointer_places}
use Rattle.solid_data.proofs.Members.{Has, Contains-from_Has, has_left, All-from}
use Rattle.brep_walk.specs.Places.{Names}
use Rattle.entry_references.specs.declared.fault.ExtractReason.{ExtractReason}
use Rattle.entry_references.specs.declared.fault.ExtractReason.TheVariants.{Unlisted, Layout, Dangling}
use Rattle.entry_references.specs.Layout.{Own, value_at}
use Rattle.entry_references.specs.References.{RefersTo}
use Rattle.entry_references.specs.Refs.{Record, own_of, is_listed, has_layout, names_entry, number_of, pointers_of, names_of, entry_fault, refs}
use Rattle.entry_references.proofs.KindPlaces.{own_is}
use Rattle.entry_references.proofs.RisingLists.{contains_pass, in_from}
use Rattle.solid_extract.specs.Extracted.{new_number, renamed, here, further, IsExtracted}
use Rattle.solid_extract.specs.Renaming.{place_of}
use Rattle.solid_extract.proofs.Copies.{all_at, zip_at}
use Rattle.solid_extract.proofs.KeptItems.{items_kept}
use Rattle.solid_extract.proofs.NewNumbers.{new_named}
use Rattle.solid_extract.proofs.Places.{place_found}
use Rattle.extraction_laws.proofs.Zips.{OptionZip}
use Rattle.extraction_laws.proofs.Renames.{AllPointers, IsEntity, IsPointer, IsSameKind, Renames}
use Rattle.list_compact.proofs.Pointers.{agrees_later, agrees_itself}

-- ---- the values of a record by their places

-- v gives these values from place k on
abbrev Agrees : (ℕ → Value) → ℕ → List Value → Type 0
Agrees v k [] = Unit {0}
Agrees v k (x ∷ xs) = (v k ≡ x) × Agrees v (k + 1) xs

module _ (P : ℤ → Type 0) (v : ℕ → Value) where
  -- the pointers other than 0 at the places of a record's pointers
  abbrev followed : ℕ → List DueValue → List ℤ
  followed k ds = filter_map (λ j. number_of (v j)) (filter_map if_pointer (enumerate_from k ds))

  one_met : (z : ℤ) (rest : List ℤ) (b : Bool) → int_eq z (pos 0) ≡ b → AllByRecursion P (cons_option (if b then None else Some z) rest)
      → ((z ≡ pos 0) ⊎ P z) × AllByRecursion P rest
  one_met z rest true e h = (inl ((Decides-int_eq z (pos 0)).0 e), h)
  one_met z rest false e h = (inr h.0, h.1)

  pointers_met : (k : ℕ) (ds : List DueValue) (vs : List Value) → MeetsAll ds vs → Agrees v k vs → AllByRecursion P (followed k ds)
      → AllPointers (λ z. (z ≡ pos 0) ⊎ P z) ds
  pointers_met k [] vs m a h = tt
  pointers_met k (pointer z ∷ ds) [] m a h = absurd m
  pointers_met k (pointer z ∷ ds) (x ∷ vs) m a h =
      let at : number_of (v k) ≡ (if int_eq z (pos 0) then None else Some z) = ap number_of (a.0 ∙ m.0) in
      let one = one_met z (followed (k + 1) ds) (int_eq z (pos 0)) refl (subst (λ o. AllByRecursion P (cons_option o (followed (k + 1) ds))) at h) in
      (one.0, pointers_met (k + 1) ds vs m.1 a.1 one.1)
  pointers_met k (number z ∷ ds) [] m a h = absurd m
  pointers_met k (number z ∷ ds) (x ∷ vs) m a h = pointers_met (k + 1) ds vs m.1 a.1 h
  pointers_met k (flag b ∷ ds) [] m a h = absurd m
  pointers_met k (flag b ∷ ds) (x ∷ vs) m a h = pointers_met (k + 1) ds vs m.1 a.1 h
  pointers_met k (at_least_one n ∷ ds) [] m a h = absurd m
  pointers_met k (at_least_one n ∷ ds) (x ∷ vs) m a h = pointers_met (k + 1) ds vs m.1 a.1 h
  pointers_met k (count n ∷ []) [] m a h = tt
  pointers_met k (count n ∷ d ∷ ds) [] m a h = absurd m
  pointers_met k (count n ∷ ds) (x ∷ vs) m a h = pointers_met (k + 1) ds vs m.1 a.1 h
  pointers_met k (coordinate w ∷ ds) [] m a h = absurd m
  pointers_met k (coordinate w ∷ ds) (x ∷ vs) m a h = pointers_met (k + 1) ds vs m.1 a.1 h

-- ---- what is kept

record Kept (f : Contents) (m : ℕ) : Type 0 where
  record_at : Record
  at : named f (pos m) ≡ Some record_at
  good : entry_fault f record_at ≡ None

module _ (f q : Contents) (n : ℕ) (x : IsExtracted f n q) where
  abbrev pub IsKept : ℕ → Type 0
  IsKept m = Contains x.kept m

  kept : (m : ℕ) → IsKept m → Kept f m
  kept m c =
      let r = zip_at (λ (k : ℕ) (r : Record). named f (pos k) ≡ Some r) x.kept x.records (place_of x.kept m) m x.each_named
      (place_found x.kept m (in_from x.kept m c)) in
      let faultless = recursion_from_All (λ q. entry_fault f q ≡ None) x.records x.faultless in
      record { record_at = r.0; at = r.2; good = all_at (λ q. entry_fault f q ≡ None) x.records (place_of x.kept m) r.0 faultless r.1 }

  there : (m : ℕ) → IsKept m → Names f (pos m)
  there m c = let k = kept m c in ap is_some k.at

  not_zero : (m : ℕ) → IsKept m → int_eq (pos m) (pos 0) ≡ false
  not_zero m c = by_test (int_eq (pos m) (pos 0)) refl
    where
      by_test : (b : Bool) → int_eq (pos m) (pos 0) ≡ b → int_eq (pos m) (pos 0) ≡ false
      by_test true e = let no : false ≡ true = subst (λ z. is_some (named f z) ≡ true) ((Decides-int_eq (pos m) (pos 0)).0 e) (there m c) in absurd cc
      by_test false e = e

  same_place : (m k : ℕ) → IsKept m → IsKept k → new_number x.kept m ≡ new_number x.kept k → m ≡ k
  same_place m k a b e =
      let places : position_or_len (λ j. j == m) x.kept ≡ position_or_len (λ j. j == k) x.kept = omega (arith, e) in
      let both : Some m ≡ Some k = sym (place_found x.kept m (in_from x.kept m a)) ∙ (ap (slice_get x.kept) places ∙ place_found x.kept k (in_from x.kept k b))
      in
      same_Some m k both

  entry_new : (m : ℕ) → IsKept m → OptionZip IsSameKind (named f (pos m)) (named q (pos (new_number x.kept m)))
  entry_new m c =
      let k = kept m c in
      subst (λ o. OptionZip IsSameKind o (named q (pos (new_number x.kept m)))) (sym k.at)
      (subst (λ o. OptionZip IsSameKind (Some k.record_at) o) (sym (new_named f q n x m k.record_at c k.at)) (refl, refl))

  -- what a kept entry refers to is kept
  pointer_kept : (m : ℕ) (r : Record) → IsKept m → named f (pos m) ≡ Some r → entry_fault f r ≡ None → (z : ℤ) → Has (pointers_of r) z → IsEntity IsKept z
  pointer_kept m r c at good z h =
      by_sign z h (contains_pass (names_entry f) (pointers_of r) z (Contains-from_Has (pointers_of r) z h)
      (passes ((is_listed r, Unlisted) ∷ (has_layout r, Layout) ∷ (list_all (names_entry f) (pointers_of r), Dangling) ∷ []) good).1.1.0)
    where
      read : refs f r ≡ Ok (pointers_of r ++ names_of f r)
      read = ap (λ (o : Option ExtractReason). elim o as (λ _. Result (List ℤ) ExtractReason)
          [ Some reason ↦ Err reason | None ↦ Ok (pointers_of r ++ names_of f r) ]) good

      by_sign : (w : ℤ) → Has (pointers_of r) w → names_entry f w ≡ true → IsEntity IsKept w
      by_sign (negsuc k) i e = absurd cc
      by_sign (pos k) i e =
          let refers : RefersTo f m k = (
            r,
            pointers_of r ++ names_of f r,
            at,
            read,
            Contains-from_Has (pointers_of r ++ names_of f r) (pos k)
                (has_left (pointers_of r) (names_of f r) (pos k) i),
          ) in
          (k, refl, (x.reached k).1 (further ((x.reached m).0 c) refers))

  pointers_kept : (m : ℕ) (r : Record) (kind : EntityKind) → IsKept m → named f (pos m) ≡ Some r → kind_of_type r.0.kind ≡ Some kind
      → AllPointers (IsPointer IsKept) (due kind (items_of kind r.1))
  pointers_kept m r kind c at e =
      let k = kept m c in
      let same : k.record_at ≡ r = same_Some k.record_at r (sym k.at ∙ at) in
      let good : entry_fault f r ≡ None = subst (λ y. entry_fault f y ≡ None) same k.good in
      let is : IsRecordOf kind r.1 = (items_kept f q n x m r kind c at e).0 in
      pointers_met (IsEntity IsKept) (value_at r.1) 1 (due_in kind r.1) r.1 is (agrees_itself r.1)
      (All-from (IsEntity IsKept) (followed (IsEntity IsKept) (value_at r.1) 1 (due_in kind r.1))
      (λ z h. pointer_kept m r c at good z (among z (own_is r kind e is) h)))
    where
      among : (z : ℤ) → own_of r ≡ Some (record { count = own_count kind r.1; pointers = pointer_places kind r.1; cut = [] })
          → Has (followed (IsEntity IsKept) (value_at r.1) 1 (due_in kind r.1)) z → Has (pointers_of r) z
      among z own h =
          let own_pointers : List ℤ = followed (IsEntity IsKept) (value_at r.1) 1 (due_in kind r.1) in
          let matrix : List ℤ = if int_eq r.0.matrix (pos 0) then [] else r.0.matrix ∷ [] in
          let colour : List ℤ = if int_lt r.0.colour (pos 0) then neg_ℤ r.0.colour ∷ [] else [] in
          subst (λ (o : Option Own). Has
          (elim o as (λ _. List ℤ) [ Some w ↦ filter_map (λ j. number_of (value_at r.1 j)) w.pointers | None ↦ [] ] ++ matrix ++ colour) z) (sym own)
          (has_left (own_pointers ++ matrix) colour z (has_left own_pointers matrix z h))

  pub extraction_renames : Renames f q IsKept (new_number x.kept) (renamed x.kept)
  extraction_renames = record {
    nothing = refl;
    something = λ m c. cond-false (int_eq (pos m) (pos 0)) (pos m) (pos (new_number x.kept m)) (not_zero m c);
    apart = same_place;
    entry = entry_new;
    there = there;
    records = λ m r kind c at e. items_kept f q n x m r kind c at e;
    pointers = pointers_kept;
  }

  pub solid_kept : IsKept n
  solid_kept = (x.reached n).1 here
