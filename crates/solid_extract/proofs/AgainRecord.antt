-- A record that was extracted is laid out as it was, refers to what it referred to, and stays when it is extracted again.
use Rattle.std.specs.Prelude.{◌≡◌, ◌⊎◌, ℕ, suc, ◌+◌, ◌≤◌, ◌==◌, Bool, true, false, ◌&&◌, ℤ, pos, negsuc, neg_ℤ, int_lt, List, [], ◌∷◌, ◌++◌, length, map, take}
use Rattle.std.specs.Prelude.{drop, filter, filter_map, Option, Some, None, Result, Ok, Err, if◌then◌else◌, option_map, is_some, Contains}
use Rattle.std.specs.List.{AllByRecursion, cons_option, enumerate_from, list_all}
use Rattle.std.specs.Ordering.{int_eq}
use Rattle.std.proofs.Common.{refl, sym, ap, subst, ◌∙◌, arith, inl, inr, length-append}
use Rattle.std.proofs.lemmas.Bool.{and_from, and_parts, cond-true, cond-false, ne_eqb}
use Rattle.std.proofs.lemmas.Bool.Decides.{Decides-int_eq}
use Rattle.std.proofs.lemmas.List.{length-map, map-append}
use Rattle.std.proofs.lemmas.Option.{none-some, same_Some}
use Rattle.iges_base.proofs.Tests.{passes, passed}
use Rattle.iges_base.proofs.Lists.{list_all-parts}
use Rattle.iges_fields.specs.declared.value.Value.{Value}
use Rattle.iges_fields.specs.declared.value.Value.TheVariants as value
use Rattle.iges_directory.specs.declared.entry.Entry.{Entry}
use Rattle.iges_params.specs.Contents.{Contents}
use Rattle.iges_params.specs.Named.{named, record_values, values_of}
use Rattle.brep_lists.specs.DueValues.{DueValue, pointer, number, flag, at_least_one, count, coordinate}
use Rattle.brep_lists.specs.Record.{kind_of_type, due, items_of, IsRecordOf}
use Rattle.brep_lists.specs.declared.entity_kind.EntityKind.{EntityKind}
use Rattle.brep_lists.specs.OwnValues.{due_in, own_count, pointer_places}
use Rattle.entry_references.specs.declared.fault.ExtractReason.{ExtractReason}
use Rattle.entry_references.specs.declared.fault.ExtractReason.TheVariants as reason
use Rattle.entry_references.specs.EntrySets.{is_among}
use Rattle.entry_references.specs.Layout.{Layout, Own, layout_of, own_in, value_at, is_pointer}
use Rattle.entry_references.specs.PlacesDue.{places_due}
use Rattle.entry_references.specs.Refs.{Record, own_of, own_of_kind, is_listed, has_layout, second_group, are_groups, is_name, names_of, names_entry, number_of}
use Rattle.entry_references.specs.Refs.{pointers_of, entry_fault, refs}
use Rattle.entry_references.proofs.KindPlaces.{own_is}
use Rattle.entry_references.proofs.Marks.{in_among}
use Rattle.entry_references.proofs.RefLists.{refs_named}
use Rattle.entry_references.proofs.RisingLists.{In}
use Rattle.solid_extract.specs.Extracted.{new_number, new_entry, new_value, new_values, new_record, renamed, further, IsExtracted}
use Rattle.solid_extract.specs.NewValues.{new_numbers, names_behind}
use Rattle.solid_extract.proofs.Keeping.{renamed_due, R, due_renamed}
use Rattle.solid_extract.proofs.KeptItems.{items_kept}
use Rattle.solid_extract.proofs.KeptValues.{names_few, second_few}
use Rattle.solid_extract.proofs.NewNumbers.{new_named}
use Rattle.solid_extract.proofs.AgainPlaces.{odds_from, renamed_zero, renamed_again}
use Rattle.solid_extract.proofs.AgainEntries.{entry_again, matrix_renamed, colour_renamed}
use Rattle.solid_extract.proofs.AgainValues.{olds, value_again, number_renamed, olds_again, olds_cut, groups_again}
use Rattle.solid_extract.proofs.AgainLayouts.{ArePlaces, layout_sound}
use Rattle.solid_extract.proofs.AgainOwn.{all_parts, layout_again, layout_places}

-- ---- what is due, with renamed pointers

due_long : (g : ℤ → ℤ) (ds : List DueValue) → length (R g ds) ≡ length ds
due_long g ds = length-map ds (renamed_due g)

places_kept : (g : ℤ → ℤ) (k : ℕ) (ds : List DueValue) → places_due k (R g ds) ≡ places_due k ds
places_kept g k [] = refl
places_kept g k (pointer z ∷ ds) = ap (λ (ks : List ℕ). k ∷ ks) (places_kept g (k + 1) ds)
places_kept g k (number z ∷ ds) = places_kept g (k + 1) ds
places_kept g k (flag b ∷ ds) = places_kept g (k + 1) ds
places_kept g k (at_least_one n ∷ ds) = places_kept g (k + 1) ds
places_kept g k (count n ∷ ds) = places_kept g (k + 1) ds
places_kept g k (coordinate w ∷ ds) = places_kept g (k + 1) ds

due_places : (k n : ℕ) (ds : List DueValue) → 1 ≤ k → k + length ds ≤ n + 1 → ArePlaces n (places_due k ds)
due_places k n [] low high = tt
due_places k n (pointer z ∷ ds) low high = ((low, omega (arith, high)), due_places (k + 1) n ds (omega arith) (omega (arith, high)))
due_places k n (number z ∷ ds) low high = due_places (k + 1) n ds (omega arith) (omega (arith, high))
due_places k n (flag b ∷ ds) low high = due_places (k + 1) n ds (omega arith) (omega (arith, high))
due_places k n (at_least_one m ∷ ds) low high = due_places (k + 1) n ds (omega arith) (omega (arith, high))
due_places k n (count m ∷ ds) low high = due_places (k + 1) n ds (omega arith) (omega (arith, high))
due_places k n (coordinate w ∷ ds) low high = due_places (k + 1) n ds (omega arith) (omega (arith, high))

-- ---- names

names_long : (names : List Value) → length names ≤ length (names_behind names)
names_long [] = omega arith
names_long (v ∷ names) =
    let is : names_behind (v ∷ names) ≡ value.Int (pos 0) ∷ value.Int (pos (length (v ∷ names))) ∷ v ∷ names =
    cond-false (length (v ∷ names) == 0) [] (value.Int (pos 0) ∷ value.Int (pos (length (v ∷ names))) ∷ v ∷ names)
    (ne_eqb (suc (length names)) 0 (λ e. omega (arith, e))) in
    omega (arith, ap length is)

pub numbers_point : (kept : List ℕ) (zs : List ℤ) → list_all is_pointer (new_numbers kept zs) ≡ true
numbers_point kept [] = refl
numbers_point kept (z ∷ zs) = numbers_point kept zs

numbers_again : (kept : List ℕ) (zs : List ℤ) → new_numbers (odds_from 0 (length kept)) (map (renamed kept) zs) ≡ new_numbers kept zs
numbers_again kept [] = refl
numbers_again kept (z ∷ zs) =
    ap (λ (w : ℤ). value.Int w ∷ new_numbers (odds_from 0 (length kept)) (map (renamed kept) zs)) (renamed_again kept z)
    ∙ ap (λ (ws : List Value). value.Int (renamed kept z) ∷ ws) (numbers_again kept zs)

-- ---- numbers of kept entries

abbrev pub IsKeptNumber : List ℕ → ℤ → Type 0
IsKeptNumber kept z = (k : ℕ) × (z ≡ pos k) × Contains kept k

pub kept_numbers : (f : Contents) (kept : List ℕ) (zs : List ℤ) → list_all (names_entry f) zs ≡ true → ((k : ℕ) → Contains zs (pos k) → Contains kept k)
    → AllByRecursion (IsKeptNumber kept) zs
kept_numbers f kept [] h into = tt
kept_numbers f kept (negsuc k ∷ zs) h into = absurd (let no : false ≡ true = (and_parts (names_entry f (negsuc k)) (list_all (names_entry f) zs) h).0 in cc)
kept_numbers f kept (pos k ∷ zs) h into = (
  (k, refl, into k (0, omega arith, refl)),
  kept_numbers f kept zs (and_parts (names_entry f (pos k)) (list_all (names_entry f) zs) h).1
      (λ j c. into j (suc c.0, omega (arith, c.1), c.2)),
)

-- what is named isn't 0
named_not_zero : (f : Contents) (z : ℤ) → names_entry f z ≡ true → int_eq z (pos 0) ≡ false
named_not_zero f z h = by_test (int_eq z (pos 0)) refl
  where
    by_test : (b : Bool) → int_eq z (pos 0) ≡ b → int_eq z (pos 0) ≡ false
    by_test true e = let no : false ≡ true = subst (λ (w : ℤ). is_some (named f w) ≡ true) ((Decides-int_eq z (pos 0)).0 e) h in absurd cc
    by_test false e = e

pub renamed_named : (f : Contents) (kept : List ℕ) (k : ℕ) → names_entry f (pos k) ≡ true → renamed kept (pos k) ≡ pos (new_number kept k)
renamed_named f kept k h = cond-false (int_eq (pos k) (pos 0)) (pos k) (pos (new_number kept k)) (named_not_zero f (pos k) h)

the_named : (f : Contents) (z : ℤ) → names_entry f z ≡ true → (q : Record) × (named f z ≡ Some q)
the_named f z h = by_option (named f z) refl h
  where
    by_option : (o : Option Record) → named f z ≡ o → is_some o ≡ true → (q : Record) × (named f z ≡ Some q)
    by_option None e k = absurd (let no : false ≡ true = k in cc)
    by_option (Some q) e k = (q, e)

all_pass : {X : Type 0} (p : X → Bool) (xs : List X) → list_all p (filter p xs) ≡ true
all_pass p [] = refl
all_pass p (x ∷ xs) = by_test (p x) refl (all_pass p xs)
  where
    by_test : (b : Bool) → p x ≡ b → list_all p (filter p xs) ≡ true → list_all p (filter p (x ∷ xs)) ≡ true
    by_test true t on = ap (list_all p) (cond-true (p x) (x ∷ filter p xs) (filter p xs) t) ∙ and_from (p x) (list_all p (filter p xs)) t on
    by_test false t on = ap (list_all p) (cond-false (p x) (x ∷ filter p xs) (filter p xs) t) ∙ on

module _ (f new : Contents) (n : ℕ) (x : IsExtracted f n new) where
  -- a kept number stays a name, where it is one
  new_name : (z : ℤ) → IsKeptNumber x.kept z → names_entry f z ≡ true → (names_entry new (renamed x.kept z) ≡ true)
      × (is_name new (renamed x.kept z) ≡ is_name f z)
  new_name z k h =
      let q = the_named f z h in
      let number : renamed x.kept z ≡ pos (new_number x.kept k.0) = ap (renamed x.kept) k.1 ∙ renamed_named f x.kept k.0 (ap (names_entry f) (sym k.1) ∙ h) in
      let old : named f (pos k.0) ≡ Some q.0 = ap (named f) (sym k.1) ∙ q.1 in
      let there : named new (renamed x.kept z) ≡ Some (new_record f x.kept q.0) = ap (named new) number ∙ new_named f new n x k.0 q.0 k.2 old in (
        ap (λ (o : Option Record). is_some o) there,
        ap (λ (o : Option Record). elim o as (λ _. Bool) [ Some r ↦ int_eq r.0.kind (pos 406) && int_eq r.0.form (pos 15) | None ↦ false ]) there
            ∙ sym (ap (λ (o : Option Record). elim o as (λ _. Bool) [ Some r ↦ int_eq r.0.kind (pos 406) && int_eq r.0.form (pos 15) | None ↦ false ]) q.1),
      )

  new_names_entries : (zs : List ℤ) → AllByRecursion (IsKeptNumber x.kept) zs → list_all (names_entry f) zs ≡ true
      → list_all (names_entry new) (map (renamed x.kept) zs) ≡ true
  new_names_entries [] k h = refl
  new_names_entries (z ∷ zs) k h =
      let p = and_parts (names_entry f z) (list_all (names_entry f) zs) h in
      and_from (names_entry new (renamed x.kept z)) (list_all (names_entry new) (map (renamed x.kept) zs)) (new_name z k.0 p.0).0 (new_names_entries zs k.1 p.1)

  names_filtered : (zs : List ℤ) → AllByRecursion (IsKeptNumber x.kept) zs → list_all (names_entry f) zs ≡ true → list_all (is_name f) zs ≡ true
      → filter (is_name new) (filter_map number_of (new_numbers x.kept zs)) ≡ map (renamed x.kept) zs
  names_filtered [] k h s = refl
  names_filtered (z ∷ zs) k h s =
      let p = and_parts (names_entry f z) (list_all (names_entry f) zs) h in
      let q = and_parts (is_name f z) (list_all (is_name f) zs) s in
      let zero_not : int_eq (renamed x.kept z) (pos 0) ≡ false = renamed_zero x.kept z ∙ named_not_zero f z p.0 in
      let one : number_of (value.Int (renamed x.kept z)) ≡ Some (renamed x.kept z) =
      cond-false (int_eq (renamed x.kept z) (pos 0)) None (Some (renamed x.kept z)) zero_not in
      ap (λ (o : Option ℤ). filter (is_name new) (cons_option o (filter_map number_of (new_numbers x.kept zs)))) one
      ∙ (cond-true (is_name new (renamed x.kept z)) (renamed x.kept z ∷ filter (is_name new) (filter_map number_of (new_numbers x.kept zs)))
      (filter (is_name new) (filter_map number_of (new_numbers x.kept zs))) ((new_name z k.0 p.0).1 ∙ q.0)
      ∙ ap (λ (ws : List ℤ). renamed x.kept z ∷ ws) (names_filtered zs k.1 p.1 q.1))

-- ---- the own values and the groups

own_there : (r : Record) → has_layout r ≡ true → (own : Own) × (own_of r ≡ Some own) × (are_groups own r.1 ≡ true)
own_there r h = by_option (own_of r) refl h
  where
    by_option : (o : Option Own) → own_of r ≡ o → elim o as (λ _. Bool) [ Some own ↦ are_groups own r.1 | None ↦ false ] ≡ true
        → (own : Own) × (own_of r ≡ Some own) × (are_groups own r.1 ≡ true)
    by_option None e k = absurd (let no : false ≡ true = k in cc)
    by_option (Some own) e k = (own, e, k)

module _ (f new : Contents) (n : ℕ) (x : IsExtracted f n new) (m : ℕ) (r : Record) (c : Contains x.kept m) (at : named f (pos m) ≡ Some r) (own : Own)
    (own_is_so : own_of r ≡ Some own) where
  abbrev tail : List Value
  tail = names_behind (new_numbers x.kept (names_of f r))

  abbrev all_values : List Value
  all_values = olds x.kept own 1 (take own.count r.1) ++ tail

  values_are : new_values f x.kept r ≡ all_values
  values_are = ap (λ (o : Option Own). elim o as (λ _. List Value) [
    | Some w ↦ map (λ (v : ℕ × Value). new_value x.kept w v.0 v.1) (enumerate_from 1 (take w.count r.1))
    | None ↦ []
  ] ++ tail) own_is_so

  names_are : names_of f r ≡ filter (is_name f) (filter_map number_of (second_group own r.1).pointers)
  names_are = ap (λ (o : Option Own). elim o as (λ _. List ℤ) [ Some w ↦ filter (is_name f) (filter_map number_of (second_group w r.1).pointers) | None ↦ [] ])
      own_is_so

  full : (own.count ≤ length r.1) ⊎ (tail ≡ [])
  full = by_names (names_of f r) names_are
    where
      by_names : (zs : List ℤ) → zs ≡ filter (is_name f) (filter_map number_of (second_group own r.1).pointers)
          → (own.count ≤ length r.1) ⊎ (names_behind (new_numbers x.kept zs) ≡ [])
      by_names [] e = inr refl
      by_names (z ∷ zs) e =
          let few = names_few f (second_group own r.1).pointers in
          let long : suc (length zs) ≡ length (filter (is_name f) (filter_map number_of (second_group own r.1).pointers)) = ap length e in
          inl (omega (arith, second_few own r.1 (omega (arith, few, long))))

  -- the same values are own values, and the pointers stand among them
  own_again : (own_of (new_record f x.kept r) ≡ Some own) × ArePlaces own.count own.pointers
  own_again = by_kind (kind_of_type r.0.kind) refl
    where
      by_layout : (o : Option Layout) → layout_of r.0 ≡ o → elim o as (λ _. Option Own) [ Some l ↦ own_in l r.1 | None ↦ None ] ≡ Some own
          → (elim o as (λ _. Option Own) [ Some l ↦ own_in l (new_values f x.kept r) | None ↦ None ] ≡ Some own) × ArePlaces own.count own.pointers
      by_layout None e k = absurd (none-some own k)
      by_layout (Some l) e k =
          let sound = layout_sound r.0 l e in
          (ap (own_in l) values_are ∙ layout_again x.kept own r.1 tail full l sound k, layout_places own r.1 l sound k)

      by_kind : (o : Option EntityKind) → kind_of_type r.0.kind ≡ o → (own_of (new_record f x.kept r) ≡ Some own) × ArePlaces own.count own.pointers
      by_kind None e =
          let old : elim (layout_of r.0) as (λ _. Option Own) [ Some l ↦ own_in l r.1 | None ↦ None ] ≡ Some own =
          sym (ap (λ (o : Option EntityKind). elim o as (λ _. Option Own)
          [ Some k ↦ own_of_kind k r.1 | None ↦ elim (layout_of r.0) as (λ _. Option Own) [ Some l ↦ own_in l r.1 | None ↦ None ] ]) e) ∙ own_is_so in
          let both = by_layout (layout_of r.0) refl old in (
            ap (λ (o : Option EntityKind). elim o as (λ _. Option Own) [
              | Some k ↦ own_of_kind k (new_values f x.kept r)
              | None ↦ elim (layout_of r.0) as (λ _. Option Own) [ Some l ↦ own_in l (new_values f x.kept r) | None ↦ None ]
            ]) e ∙ both.0,
            both.1,
          )
      by_kind (Some kind) e =
          let items = items_kept f new n x m r kind c at e in
          let values : values_of new (pos (new_number x.kept m)) ≡ new_values f x.kept r = ap record_values (new_named f new n x m r c at) in
          let here : own_of r ≡ Some (record { count = own_count kind r.1; pointers = pointer_places kind r.1; cut = [] }) = own_is r kind e items.0 in
          let same : record { count = own_count kind r.1; pointers = pointer_places kind r.1; cut = [] } ≡ own = same_Some _ own (sym here ∙ own_is_so) in
          let there : own_of (new_record f x.kept r)
          ≡ Some (record { count = own_count kind (new_values f x.kept r); pointers = pointer_places kind (new_values f x.kept r); cut = [] }) =
          own_is (new_record f x.kept r) kind e (subst (IsRecordOf kind) values items.1) in
          let dues : due_in kind (new_values f x.kept r) ≡ R (renamed x.kept) (due_in kind r.1) =
          ap (due kind) (sym (ap (items_of kind) values) ∙ items.2) ∙ due_renamed (renamed x.kept) kind (items_of kind r.1) in
          let counts : own_count kind (new_values f x.kept r) ≡ own_count kind r.1 = ap length dues ∙ due_long (renamed x.kept) (due_in kind r.1) in
          let places : pointer_places kind (new_values f x.kept r) ≡ pointer_places kind r.1 = ap (places_due 1) dues
          ∙ places_kept (renamed x.kept) 1 (due_in kind r.1) in (
            there
                ∙ (ap (λ (k : ℕ). let o : Own = record { count = k; pointers = pointer_places kind (new_values f x.kept r); cut = [] } in Some o) counts
                ∙ (ap (λ (ps : List ℕ). let o : Own = record { count = own_count kind r.1; pointers = ps; cut = [] } in Some o) places
                ∙ ap (λ (o : Own). Some o) same)),
            subst (λ (o : Own). ArePlaces o.count o.pointers) same (due_places 1 (own_count kind r.1) (due_in kind r.1) (omega arith) (omega arith)),
          )

  cut_again : (take own.count (new_values f x.kept r) ≡ olds x.kept own 1 (take own.count r.1)) × (drop own.count (new_values f x.kept r) ≡ tail)
  cut_again = let h = olds_cut x.kept own 1 own.count r.1 tail full in (ap (take own.count) values_are ∙ h.0, ap (drop own.count) values_are ∙ h.1)

  groups_there : (are_groups own (new_values f x.kept r) ≡ true) × ((second_group own (new_values f x.kept r)).pointers ≡ new_numbers x.kept (names_of f r))
  groups_there =
      groups_again own (new_values f x.kept r) (new_numbers x.kept (names_of f r)) cut_again.1
      (omega (arith, names_long (new_numbers x.kept (names_of f r)), ap length values_are, length-append (olds x.kept own 1 (take own.count r.1)) tail))
      (numbers_point x.kept (names_of f r))

  -- ---- the pointers

  pointers_again : (ks : List ℕ) → ArePlaces own.count ks → AllByRecursion (λ k. is_among own.pointers k ≡ true) ks
      → filter_map (λ k. number_of (value_at (new_values f x.kept r) k)) ks ≡ map (renamed x.kept) (filter_map (λ k. number_of (value_at r.1 k)) ks)
  pointers_again [] places among = refl
  pointers_again (k ∷ ks) places among =
      let here : number_of (value_at (new_values f x.kept r) k) ≡ option_map (renamed x.kept) (number_of (value_at r.1 k)) =
      ap (λ (vs : List Value). number_of (value_at vs k)) values_are
      ∙ (ap number_of (value_again x.kept own r.1 tail own.count k places.0.0 places.0.1 full) ∙ number_renamed x.kept own k (value_at r.1 k) among.0) in
      ap (λ (o : Option ℤ). cons_option o (filter_map (λ j. number_of (value_at (new_values f x.kept r) j)) ks)) here
      ∙ (ap (cons_option (option_map (renamed x.kept) (number_of (value_at r.1 k)))) (pointers_again ks places.1 among.1)
      ∙ by_option (number_of (value_at r.1 k)))
    where
      by_option : (o : Option ℤ) → cons_option (option_map (renamed x.kept) o) (map (renamed x.kept) (filter_map (λ j. number_of (value_at r.1 j)) ks))
          ≡ map (renamed x.kept) (cons_option o (filter_map (λ j. number_of (value_at r.1 j)) ks))
      by_option None = refl
      by_option (Some z) = refl

  all_among : (ps ks : List ℕ) → ((k : ℕ) → In ks k → In ps k) → AllByRecursion (λ k. is_among ps k ≡ true) ks
  all_among ps [] h = tt
  all_among ps (k ∷ ks) h = (in_among ps k (h k (inl refl)), all_among ps ks (λ j i. h j (inr i)))

  pub pointers_there : pointers_of (new_record f x.kept r) ≡ map (renamed x.kept) (pointers_of r)
  pointers_there =
      let whole : pointers_of r ≡ filter_map (λ k. number_of (value_at r.1 k)) own.pointers ++ (if int_eq r.0.matrix (pos 0) then [] else r.0.matrix ∷ [])
      ++ (if int_lt r.0.colour (pos 0) then neg_ℤ r.0.colour ∷ [] else []) =
      ap (λ (o : Option Own). elim o as (λ _. List ℤ) [ Some w ↦ filter_map (λ k. number_of (value_at r.1 k)) w.pointers | None ↦ [] ]
      ++ (if int_eq r.0.matrix (pos 0) then [] else r.0.matrix ∷ []) ++ (if int_lt r.0.colour (pos 0) then neg_ℤ r.0.colour ∷ [] else [])) own_is_so in
      ap (λ (o : Option Own). elim o as (λ _. List ℤ) [ Some w ↦ filter_map (λ k. number_of (value_at (new_values f x.kept r) k)) w.pointers | None ↦ [] ]
      ++ (if int_eq (renamed x.kept r.0.matrix) (pos 0) then [] else renamed x.kept r.0.matrix ∷ [])
      ++ (if int_lt (new_entry x.kept r.0).colour (pos 0) then neg_ℤ (new_entry x.kept r.0).colour ∷ [] else [])) own_again.0
      ∙ (ap (λ (zs : List ℤ). zs ++ (if int_eq (renamed x.kept r.0.matrix) (pos 0) then [] else renamed x.kept r.0.matrix ∷ [])
      ++ (if int_lt (new_entry x.kept r.0).colour (pos 0) then neg_ℤ (new_entry x.kept r.0).colour ∷ [] else []))
      (pointers_again own.pointers own_again.1 (all_among own.pointers own.pointers (λ k i. i)))
      ∙ (ap (λ (zs : List ℤ). map (renamed x.kept) (filter_map (λ k. number_of (value_at r.1 k)) own.pointers) ++ zs
      ++ (if int_lt (new_entry x.kept r.0).colour (pos 0) then neg_ℤ (new_entry x.kept r.0).colour ∷ [] else [])) (matrix_renamed x.kept r.0.matrix)
      ∙ (ap (λ (zs : List ℤ). map (renamed x.kept) (filter_map (λ k. number_of (value_at r.1 k)) own.pointers)
      ++ map (renamed x.kept) (if int_eq r.0.matrix (pos 0) then [] else r.0.matrix ∷ []) ++ zs) (colour_renamed x.kept r.0.colour)
      ∙ sym (ap (map (renamed x.kept)) whole ∙ three (renamed x.kept) (filter_map (λ k. number_of (value_at r.1 k)) own.pointers)
      (if int_eq r.0.matrix (pos 0) then [] else r.0.matrix ∷ []) (if int_lt r.0.colour (pos 0) then neg_ℤ r.0.colour ∷ [] else [])))))
    where
      three : (g : ℤ → ℤ) (xs bs cs : List ℤ) → map g (xs ++ bs ++ cs) ≡ map g xs ++ map g bs ++ map g cs
      three g xs bs cs = map-append g (xs ++ bs) cs ∙ ap (λ (zs : List ℤ). zs ++ map g cs) (map-append g xs bs)

  -- ---- the record as a whole

  module _ (good : entry_fault f r ≡ None) (kept_all : AllByRecursion (IsKeptNumber x.kept) (pointers_of r ++ names_of f r))
      (named_all : list_all (names_entry f) (pointers_of r ++ names_of f r) ≡ true) where
    abbrev parts : AllByRecursion (IsKeptNumber x.kept) (pointers_of r) × AllByRecursion (IsKeptNumber x.kept) (names_of f r)
    parts = all_parts (IsKeptNumber x.kept) (pointers_of r) (names_of f r) kept_all

    abbrev named_parts : (list_all (names_entry f) (pointers_of r) ≡ true) × (list_all (names_entry f) (names_of f r) ≡ true)
    named_parts = list_all-parts (names_entry f) (pointers_of r) (names_of f r) named_all

    names_there : names_of new (new_record f x.kept r) ≡ map (renamed x.kept) (names_of f r)
    names_there =
        ap (λ (o : Option Own). elim o as (λ _. List ℤ)
        [ Some w ↦ filter (is_name new) (filter_map number_of (second_group w (new_values f x.kept r)).pointers) | None ↦ [] ]) own_again.0
        ∙ (ap (λ (vs : List Value). filter (is_name new) (filter_map number_of vs)) groups_there.1
        ∙ names_filtered f new n x (names_of f r) parts.1 named_parts.1
        (ap (list_all (is_name f)) names_are ∙ all_pass (is_name f) (filter_map number_of (second_group own r.1).pointers)))

    faultless_again : entry_fault new (new_record f x.kept r) ≡ None
    faultless_again =
        let tests = passes ((is_listed r, reason.Unlisted) ∷ (has_layout r, reason.Layout) ∷ (list_all (names_entry f) (pointers_of r), reason.Dangling) ∷ [])
        good in
        passed ((is_listed (new_record f x.kept r), reason.Unlisted) ∷ (has_layout (new_record f x.kept r), reason.Layout)
        ∷ (list_all (names_entry new) (pointers_of (new_record f x.kept r)), reason.Dangling) ∷ []) (
          tests.0,
          (
            ap (λ (o : Option Own). elim o as (λ _. Bool) [ Some w ↦ are_groups w (new_values f x.kept r) | None ↦ false ]) own_again.0 ∙ groups_there.0,
            (ap (list_all (names_entry new)) pointers_there ∙ new_names_entries f new n x (pointers_of r) parts.0 named_parts.0, tt),
          ),
        )

    refs_again : refs new (new_record f x.kept r) ≡ Ok (map (renamed x.kept) (pointers_of r ++ names_of f r))
    refs_again =
        ap (λ (o : Option ExtractReason). elim o as (λ _. Result (List ℤ) ExtractReason)
        [ Some why ↦ Err why | None ↦ Ok (pointers_of (new_record f x.kept r) ++ names_of new (new_record f x.kept r)) ]) faultless_again
        ∙ (ap (λ (zs : List ℤ). let y : Result (List ℤ) ExtractReason = Ok (zs ++ names_of new (new_record f x.kept r)) in y) pointers_there
        ∙ (ap (λ (zs : List ℤ). let y : Result (List ℤ) ExtractReason = Ok (map (renamed x.kept) (pointers_of r) ++ zs) in y) names_there
        ∙ ap (λ (zs : List ℤ). let y : Result (List ℤ) ExtractReason = Ok zs in y) (sym (map-append (renamed x.kept) (pointers_of r) (names_of f r)))))

    values_stay : new_values new (odds_from 0 (length x.kept)) (new_record f x.kept r) ≡ new_values f x.kept r
    values_stay =
        ap (λ (o : Option Own). elim o as (λ _. List Value) [
          | Some w ↦ map (λ (v : ℕ × Value). new_value (odds_from 0 (length x.kept)) w v.0 v.1) (enumerate_from 1 (take w.count (new_values f x.kept r)))
          | None ↦ []
        ] ++ names_behind (new_numbers (odds_from 0 (length x.kept)) (names_of new (new_record f x.kept r)))) own_again.0
        ∙ (ap (λ (vs : List Value). map (λ (v : ℕ × Value). new_value (odds_from 0 (length x.kept)) own v.0 v.1) (enumerate_from 1 vs)
        ++ names_behind (new_numbers (odds_from 0 (length x.kept)) (names_of new (new_record f x.kept r)))) cut_again.0
        ∙ (ap (λ (vs : List Value). vs ++ names_behind (new_numbers (odds_from 0 (length x.kept)) (names_of new (new_record f x.kept r))))
        (olds_again x.kept own 1 (take own.count r.1))
        ∙ (ap (λ (zs : List ℤ). olds x.kept own 1 (take own.count r.1) ++ names_behind (new_numbers (odds_from 0 (length x.kept)) zs)) names_there
        ∙ (ap (λ (vs : List Value). olds x.kept own 1 (take own.count r.1) ++ names_behind vs) (numbers_again x.kept (names_of f r))
        ∙ sym values_are))))

    record_stays : new_record new (odds_from 0 (length x.kept)) (new_record f x.kept r) ≡ new_record f x.kept r
    record_stays =
        ap (λ (e : Entry). let q : Record = (e, new_values new (odds_from 0 (length x.kept)) (new_record f x.kept r)) in q) (entry_again x.kept r.0)
        ∙ ap (λ (vs : List Value). let q : Record = (new_entry x.kept r.0, vs) in q) values_stay

-- what a kept record becomes is faultless, refers to what it referred to, and stays
pub record IsSteady (f new : Contents) (kept : List ℕ) (r : Record) : Type 0 where
  pub numbers : AllByRecursion (IsKeptNumber kept) (pointers_of r ++ names_of f r)
  pub named_all : list_all (names_entry f) (pointers_of r ++ names_of f r) ≡ true
  pub references : refs new (new_record f kept r) ≡ Ok (map (renamed kept) (pointers_of r ++ names_of f r))
  pub faultless : entry_fault new (new_record f kept r) ≡ None
  pub again : new_record new (odds_from 0 (length kept)) (new_record f kept r) ≡ new_record f kept r

pub refs_read : (f : Contents) (r : Record) → entry_fault f r ≡ None → refs f r ≡ Ok (pointers_of r ++ names_of f r)
refs_read f r good = ap
    (λ (o : Option ExtractReason). elim o as (λ _. Result (List ℤ) ExtractReason) [ Some why ↦ Err why | None ↦ Ok (pointers_of r ++ names_of f r) ]) good

pub steady : (f new : Contents) (n : ℕ) (x : IsExtracted f n new) (m : ℕ) (r : Record) → Contains x.kept m → named f (pos m) ≡ Some r → entry_fault f r ≡ None
    → IsSteady f new x.kept r
steady f new n x m r c at good =
    let tests = passes ((is_listed r, reason.Unlisted) ∷ (has_layout r, reason.Layout) ∷ (list_all (names_entry f) (pointers_of r), reason.Dangling) ∷ []) good
    in
    let own = own_there r tests.1.0 in
    let read = refs_read f r good in
    let named_all = refs_named f r (pointers_of r ++ names_of f r) read in
    let into : (k : ℕ) → Contains (pointers_of r ++ names_of f r) (pos k)
    → Contains x.kept k = λ k h. (x.reached k).1 (further ((x.reached m).0 c) (r, pointers_of r ++ names_of f r, at, read, h)) in
    let numbers = kept_numbers f x.kept (pointers_of r ++ names_of f r) named_all into in
    record {
      numbers = numbers;
      named_all = named_all;
      references = refs_again f new n x m r c at own.0 own.1 good numbers named_all;
      faultless = faultless_again f new n x m r c at own.0 own.1 good numbers named_all;
      again = record_stays f new n x m r c at own.0 own.1 good numbers named_all;
    }
