-- No entry of an extracted file has a fault in it.
use Rattle.std.specs.Prelude.{◌≡◌, ℕ, suc, ◌+◌, ◌*◌, ◌/◌, ◌≤◌, Bool, true, false, ℤ, pos, negsuc, neg_ℤ, int_lt, unsigned_abs, List, [], ◌∷◌, ◌++◌, length, map}
use Rattle.std.specs.Prelude.{drop, filter_map, Option, Some, None, Result, Ok, Err, if◌then◌else◌, is_some, Contains}
use Rattle.std.specs.List.{AllByRecursion, AllZip, list_all}
use Rattle.std.specs.Ordering.{int_eq}
use Rattle.std.proofs.Common.{refl, sym, ◌∙◌, ap, subst, arith, inl, inr}
use Rattle.std.proofs.lemmas.Bool.{and_parts, cond-false}
use Rattle.std.proofs.lemmas.Bool.Decides.{Decides-int_eq}
use Rattle.std.proofs.lemmas.List.{length-drop}
use Rattle.std.proofs.lemmas.List.Elements.{recursion_from_All}
use Rattle.iges_base.proofs.Tests.{passes, passed}
use Rattle.iges_fields.specs.declared.value.Value.{Value}
use Rattle.iges_fields.specs.declared.value.Value.TheVariants as value
use Rattle.iges_params.specs.Contents.{Contents}
use Rattle.iges_params.specs.Named.{named}
use Rattle.solid_data.proofs.Members.{Has, Contains-from_Has, All-at, has_left, has_right, has_get, all_append, OptionAll, all_filter_map}
use Rattle.entry_references.specs.declared.fault.ExtractReason.{ExtractReason}
use Rattle.entry_references.specs.declared.fault.ExtractReason.TheVariants.{Unlisted, Layout, Dangling}
use Rattle.entry_references.specs.EntrySets.{is_among}
use Rattle.entry_references.specs.Layout.{Own, value_at}
use Rattle.entry_references.specs.References.{RefersTo}
use Rattle.entry_references.specs.Refs.{Record, own_of, is_listed, are_groups, has_layout, names_entry, number_of, pointers_of, names_of, entry_fault, refs}
use Rattle.entry_references.proofs.Marks.{in_among}
use Rattle.entry_references.proofs.NamedRecords.{named_place}
use Rattle.entry_references.proofs.RisingLists.{in_from}
use Rattle.solid_extract.specs.Extracted.{new_number, renamed, new_value, new_record, new_values, further, IsExtracted}
use Rattle.solid_extract.specs.NewValues.{new_numbers, names_behind}
use Rattle.solid_extract.specs.Renaming.{place_of}
use Rattle.solid_extract.proofs.Copies.{zip_at}
use Rattle.solid_extract.proofs.NewNumbers.{new_named}
use Rattle.solid_extract.proofs.Places.{place_found}
use Rattle.list_compact.specs.Laws.{ExtractedIsFaultless}
use Rattle.list_compact.proofs.Groups.{groups_pass, names_pass}
use Rattle.list_compact.proofs.Members.{list_test, has_filter_map}
use Rattle.list_compact.proofs.OwnKept.{tail_of, value_kept, behind, KeepsOwn, own_kept}

-- ---- a faultless entry

pub record IsFaultlessAs (f : Contents) (r : Record) (own : Own) : Type 0 where
  pub listed : is_listed r ≡ true
  pub own_values : own_of r ≡ Some own
  pub groups : are_groups own r.1 ≡ true
  pub pointers : list_all (names_entry f) (pointers_of r) ≡ true

pub faultless_as : (f : Contents) (r : Record) → entry_fault f r ≡ None → (own : Own) × IsFaultlessAs f r own
faultless_as f r good =
    let all = passes ((is_listed r, Unlisted) ∷ (has_layout r, Layout) ∷ (list_all (names_entry f) (pointers_of r), Dangling) ∷ []) good in
    by_own (own_of r) refl all.0 all.1.0 all.1.1.0
  where
    by_own : (o : Option Own) → own_of r ≡ o → is_listed r ≡ true → elim o as (λ _. Bool) [ Some own ↦ are_groups own r.1 | None ↦ false ] ≡ true
        → list_all (names_entry f) (pointers_of r) ≡ true → (own : Own) × IsFaultlessAs f r own
    by_own None e l g p = let no : false ≡ true = g in absurd cc
    by_own (Some own) e l g p = (own, record { listed = l; own_values = e; groups = g; pointers = p })

pub without_fault : (f : Contents) (r : Record) (own : Own) → IsFaultlessAs f r own → entry_fault f r ≡ None
without_fault f r own h =
    passed ((is_listed r, Unlisted) ∷ (has_layout r, Layout) ∷ (list_all (names_entry f) (pointers_of r), Dangling) ∷ [])
    (h.listed, (ap (λ (o : Option Own). elim o as (λ _. Bool) [ Some w ↦ are_groups w r.1 | None ↦ false ]) h.own_values ∙ h.groups, (h.pointers, tt)))

-- the pointers among own values, the matrix and a negative colour
abbrev pub own_numbers : Own → List Value → List ℤ
own_numbers own vs = filter_map (λ k. number_of (value_at vs k)) own.pointers

abbrev pub matrix_number : ℤ → List ℤ
matrix_number z = if int_eq z (pos 0) then [] else z ∷ []

abbrev pub colour_number : ℤ → List ℤ
colour_number z = if int_lt z (pos 0) then neg_ℤ z ∷ [] else []

pub pointers_by : (r : Record) (own : Own) → own_of r ≡ Some own → pointers_of r ≡ own_numbers own r.1 ++ matrix_number r.0.matrix ++ colour_number r.0.colour
pointers_by r own at = ap
    (λ (o : Option Own). elim o as (λ _. List ℤ) [ Some w ↦ own_numbers w r.1 | None ↦ [] ] ++ matrix_number r.0.matrix ++ colour_number r.0.colour) at

abbrev pub IsNamedIn : Contents → ℤ → Type 0
IsNamedIn g z = names_entry g z ≡ true

-- ---- what is kept

module _ (f g : Contents) (n : ℕ) (x : IsExtracted f n g) (m : ℕ) (r : Record) (c : Contains x.kept m) (at : named f (pos m) ≡ Some r)
    (good : entry_fault f r ≡ None) where
  kept_named : (k : ℕ) → Contains x.kept k → IsNamedIn g (pos (new_number x.kept k))
  kept_named k there =
      let q = zip_at (λ (j : ℕ) (q : Record). named f (pos j) ≡ Some q) x.kept x.records (place_of x.kept k) k x.each_named
      (place_found x.kept k (in_from x.kept k there)) in
      ap is_some (new_named f g n x k q.0 there q.2)

  -- a pointer that is followed names an entry under its new number
  pointed : (z : ℤ) → Has (pointers_of r) z → (k : ℕ) × (z ≡ pos k) × IsNamedIn g (pos (new_number x.kept k))
  pointed z h = by_sign z h (named_all z h)
    where
      named_all : (w : ℤ) → Has (pointers_of r) w → names_entry f w ≡ true
      named_all w i = let a = (faultless_as f r good).1 in named_in (pointers_of r) a.pointers w i
        where
          named_in : (zs : List ℤ) → list_all (names_entry f) zs ≡ true → (w : ℤ) → Has zs w → names_entry f w ≡ true
          named_in [] t w i = absurd i
          named_in (y ∷ zs) t w (inl e) = ap (names_entry f) (sym e) ∙ (and_parts (names_entry f y) (list_all (names_entry f) zs) t).0
          named_in (y ∷ zs) t w (inr i) = named_in zs (and_parts (names_entry f y) (list_all (names_entry f) zs) t).1 w i

      read : refs f r ≡ Ok (pointers_of r ++ names_of f r)
      read = ap (λ (o : Option ExtractReason). elim o as (λ _. Result (List ℤ) ExtractReason)
          [ Some reason ↦ Err reason | None ↦ Ok (pointers_of r ++ names_of f r) ]) good

      by_sign : (w : ℤ) → Has (pointers_of r) w → names_entry f w ≡ true → (k : ℕ) × (w ≡ pos k) × IsNamedIn g (pos (new_number x.kept k))
      by_sign (negsuc k) i e = let no : false ≡ true = e in absurd cc
      by_sign (pos k) i e =
          let refers : RefersTo f m k = (
            r,
            pointers_of r ++ names_of f r,
            at,
            read,
            Contains-from_Has (pointers_of r ++ names_of f r) (pos k)
                (has_left (pointers_of r) (names_of f r) (pos k) i),
          ) in
          (k, refl, kept_named k ((x.reached k).1 (further ((x.reached m).0 c) refers)))

  -- so is a number, be it 0
  renamed_all : (z : ℤ) → (int_eq z (pos 0) ≡ false → Has (pointers_of r) z)
      → OptionAll (IsNamedIn g) (if int_eq (renamed x.kept z) (pos 0) then None else Some (renamed x.kept z))
  renamed_all z h = by_test (int_eq z (pos 0)) refl
    where
      by_zero : (b : Bool) (w : ℤ) → IsNamedIn g w → OptionAll (IsNamedIn g) (if b then None else Some w)
      by_zero true w i = tt
      by_zero false w i = i

      by_test : (b : Bool) → int_eq z (pos 0) ≡ b
          → OptionAll (IsNamedIn g)
          (if int_eq (if b then z else pos (new_number x.kept (unsigned_abs z))) (pos 0) then None else Some
          (if b then z else pos (new_number x.kept (unsigned_abs z))))
      by_test true e = subst (λ c. OptionAll (IsNamedIn g) (if c then None else Some z)) (sym e) tt
      by_test false e =
          let p = pointed z (h e) in
          by_zero (int_eq (pos (new_number x.kept (unsigned_abs z))) (pos 0)) (pos (new_number x.kept (unsigned_abs z)))
          (subst (λ w. IsNamedIn g (pos (new_number x.kept (unsigned_abs w)))) (sym p.1) p.2)

  module _ (own : Own) (o : own_of r ≡ Some own) (keeps : KeepsOwn f x.kept r own) where
    matrix : List ℤ
    matrix = matrix_number r.0.matrix

    colour : List ℤ
    colour = colour_number r.0.colour

    among_own : (z : ℤ) → Has (own_numbers own r.1) z → Has (pointers_of r) z
    unfolding matrix colour
    among_own z h = subst (λ zs. Has zs z) (sym (pointers_by r own o))
        (has_left (own_numbers own r.1 ++ matrix) colour z (has_left (own_numbers own r.1) matrix z h))

    among_matrix : (z : ℤ) → Has (matrix_number r.0.matrix) z → Has (pointers_of r) z
    unfolding matrix colour
    among_matrix z h = subst (λ zs. Has zs z) (sym (pointers_by r own o))
        (has_left (own_numbers own r.1 ++ matrix) colour z (has_right (own_numbers own r.1) matrix z h))

    among_colour : (z : ℤ) → Has (colour_number r.0.colour) z → Has (pointers_of r) z
    unfolding matrix colour
    among_colour z h = subst (λ zs. Has zs z) (sym (pointers_by r own o)) (has_right (own_numbers own r.1 ++ matrix) colour z h)

    -- the pointers among the own values
    own_named : AllByRecursion (IsNamedIn g) (own_numbers own (new_values f x.kept r))
    own_named = all_filter_map (IsNamedIn g) (λ k. number_of (value_at (new_values f x.kept r) k)) own.pointers one
      where
        by_value : (k : ℕ) → is_among own.pointers k ≡ true → (v : Value) → ((z : ℤ) → number_of v ≡ Some z → Has (pointers_of r) z)
            → OptionAll (IsNamedIn g) (number_of (new_value x.kept own k v))
        by_value k p value.Default h = tt
        by_value k p (value.Int z) h =
            subst (λ b. OptionAll (IsNamedIn g) (number_of (value.Int (if b then renamed x.kept z else (if is_among own.cut k then pos 0 else z))))) (sym p)
            (renamed_all z (λ some. h z (cond-false (int_eq z (pos 0)) None (Some z) some)))
        by_value k p (value.Real w) h = tt
        by_value k p (value.Text w) h = tt

        one : (k : ℕ) → Has own.pointers k → OptionAll (IsNamedIn g) (number_of (value_at (new_values f x.kept r) k))
        one k i =
            let w = keeps.pointers k i in
            subst (λ v. OptionAll (IsNamedIn g) (number_of v)) (sym (value_kept f x.kept r own o k w.0 w.1))
            (by_value k (in_among own.pointers k i) (value_at r.1 k)
            (λ z e. among_own z (has_filter_map (λ j. number_of (value_at r.1 j)) own.pointers k z i e)))

    -- the matrix
    matrix_named : AllByRecursion (IsNamedIn g) (matrix_number (renamed x.kept r.0.matrix))
    matrix_named = listed_one (int_eq (renamed x.kept r.0.matrix) (pos 0)) (renamed x.kept r.0.matrix)
        (renamed_all r.0.matrix (λ some. among_matrix r.0.matrix (subst (λ b. Has (if b then [] else r.0.matrix ∷ []) r.0.matrix) (sym some) (inl refl))))
      where
        listed_one : (b : Bool) (z : ℤ) → OptionAll (IsNamedIn g) (if b then None else Some z) → AllByRecursion (IsNamedIn g) (if b then [] else z ∷ [])
        listed_one true z h = tt
        listed_one false z h = (h, tt)

    -- a negative colour
    colour_named : AllByRecursion (IsNamedIn g) (colour_number (if int_lt r.0.colour (pos 0) then neg_ℤ (renamed x.kept (neg_ℤ r.0.colour)) else r.0.colour))
    colour_named = by_test (int_lt r.0.colour (pos 0)) refl
      where
        -- the negation of a new number is negative, and is it negated
        negated : (k : ℕ) → IsNamedIn g (pos (suc k)) → AllByRecursion (IsNamedIn g) (colour_number (neg_ℤ (pos (suc k))))
        negated k h = (h, tt)

        is_new : (z : ℤ) (k : ℕ) → z ≡ pos k → IsNamedIn g (pos (new_number x.kept k)) → AllByRecursion (IsNamedIn g) (colour_number (neg_ℤ (renamed x.kept z)))
        is_new z k e h = by_zero (int_eq z (pos 0)) refl
          where
            by_zero : (b : Bool) → int_eq z (pos 0) ≡ b
                → AllByRecursion (IsNamedIn g) (colour_number (neg_ℤ (if b then z else pos (new_number x.kept (unsigned_abs z)))))
            by_zero true t = subst (λ w. AllByRecursion (IsNamedIn g) (colour_number (neg_ℤ w))) (sym ((Decides-int_eq z (pos 0)).0 t)) tt
            by_zero false t =
                let number : new_number x.kept (unsigned_abs z) ≡ suc (2 * place_of x.kept k) = ap (λ w. new_number x.kept (unsigned_abs w)) e
                ∙ next (2 * place_of x.kept k) in
                subst (λ j. AllByRecursion (IsNamedIn g) (colour_number (neg_ℤ (pos j)))) (sym number)
                (negated (2 * place_of x.kept k) (subst (λ j. IsNamedIn g (pos j)) (next (2 * place_of x.kept k)) h))
              where
                next : (j : ℕ) → j + 1 ≡ suc j
                next j = omega arith

        by_test : (b : Bool) → int_lt r.0.colour (pos 0) ≡ b
            → AllByRecursion (IsNamedIn g) (colour_number (if b then neg_ℤ (renamed x.kept (neg_ℤ r.0.colour)) else r.0.colour))
        by_test true t =
            let p = pointed (neg_ℤ r.0.colour)
            (among_colour (neg_ℤ r.0.colour) (subst (λ b. Has (if b then neg_ℤ r.0.colour ∷ [] else []) (neg_ℤ r.0.colour)) (sym t) (inl refl))) in
            is_new (neg_ℤ r.0.colour) p.0 p.1 p.2
        by_test false t = subst (λ b. AllByRecursion (IsNamedIn g) (if b then neg_ℤ r.0.colour ∷ [] else [])) (sym t) tt

    all_named : list_all (names_entry g) (pointers_of (new_record f x.kept r)) ≡ true
    all_named =
        let numbers : AllByRecursion (IsNamedIn g)
        (own_numbers own (new_values f x.kept r) ++ matrix_number (renamed x.kept r.0.matrix)
        ++ colour_number (if int_lt r.0.colour (pos 0) then neg_ℤ (renamed x.kept (neg_ℤ r.0.colour)) else r.0.colour)) =
        all_append (IsNamedIn g) (own_numbers own (new_values f x.kept r) ++ matrix_number (renamed x.kept r.0.matrix))
        (colour_number (if int_lt r.0.colour (pos 0) then neg_ℤ (renamed x.kept (neg_ℤ r.0.colour)) else r.0.colour))
        (all_append (IsNamedIn g) (own_numbers own (new_values f x.kept r)) (matrix_number (renamed x.kept r.0.matrix)) own_named matrix_named) colour_named in
        ap (list_all (names_entry g)) (pointers_by (new_record f x.kept r) own keeps.same)
        ∙ list_test (names_entry g)
        (own_numbers own (new_values f x.kept r) ++ matrix_number (renamed x.kept r.0.matrix)
        ++ colour_number (if int_lt r.0.colour (pos 0) then neg_ℤ (renamed x.kept (neg_ℤ r.0.colour)) else r.0.colour))
        (λ z i. All-at (IsNamedIn g)
        (own_numbers own (new_values f x.kept r) ++ matrix_number (renamed x.kept r.0.matrix)
        ++ colour_number (if int_lt r.0.colour (pos 0) then neg_ℤ (renamed x.kept (neg_ℤ r.0.colour)) else r.0.colour)) numbers z i)

  -- What it becomes is faultless too, with names alone behind its own values.
  pub kept_faultless : (own : Own) × IsFaultlessAs g (new_record f x.kept r) own × (drop own.count (new_values f x.kept r) ≡ tail_of f x.kept r)
  kept_faultless =
      let a = faultless_as f r good in
      let keeps : KeepsOwn f x.kept r a.0 = own_kept f x.kept r a.0 good a.1.own_values in
      let tail : drop a.0.count (new_values f x.kept r) ≡ tail_of f x.kept r = behind f x.kept r a.0 a.1.own_values in
      let few : length (tail_of f x.kept r) ≤ length (new_values f x.kept r) = omega (arith, ap length tail, length-drop a.0.count (new_values f x.kept r)) in (
        a.0,
        record {
          listed = a.1.listed;
          own_values = keeps.same;
          groups = ap (groups_pass (new_values f x.kept r)) tail ∙ names_pass (new_values f x.kept r) x.kept (names_of f r) few;
          pointers = all_named a.0 a.1.own_values keeps;
        },
        tail,
      )

-- ---- all entries

-- An entry of an extracted file is faultless, and behind its own values stand names alone.
pub record IsNeat (g : Contents) (s : Record) : Type 0 where
  pub own : Own
  pub faultless : IsFaultlessAs g s own
  pub kept : List ℕ
  pub names : List ℤ
  pub tail : drop own.count s.1 ≡ names_behind (new_numbers kept names)

pub entries_neat : (f g : Contents) (n : ℕ) → IsExtracted f n g → AllByRecursion (IsNeat g) g.entries
entries_neat f g n x = subst (AllByRecursion (IsNeat g)) (sym x.entries)
    (each x.kept x.records (λ k c. c) x.each_named (recursion_from_All (λ q. entry_fault f q ≡ None) x.records x.faultless))
  where
    one : (m : ℕ) (r : Record) → Contains x.kept m → named f (pos m) ≡ Some r → entry_fault f r ≡ None → IsNeat g (new_record f x.kept r)
    one m r c at good =
        let k = kept_faultless f g n x m r c at good in
        record { own = k.0; faultless = k.1; kept = x.kept; names = names_of f r; tail = k.2 }

    each : (ms : List ℕ) (rs : List Record) → ((k : ℕ) → Has ms k → Has x.kept k) → AllZip (λ m r. named f (pos m) ≡ Some r) ms rs
        → AllByRecursion (λ q. entry_fault f q ≡ None) rs → AllByRecursion (IsNeat g) (map (new_record f x.kept) rs)
    each [] [] within z all = tt
    each [] (r ∷ rs) within z all = absurd z
    each (m ∷ ms) [] within z all = absurd z
    each (m ∷ ms) (r ∷ rs) within z all = (one m r (Contains-from_Has x.kept m (within m (inl refl))) z.0 all.0, each ms rs (λ k i. within k (inr i)) z.1 all.1)

pub extracted_faultless : ExtractedIsFaultless
extracted_faultless f g n x m r e =
    let there = named_place g m r e in
    let neat : IsNeat g r = All-at (IsNeat g) g.entries (entries_neat f g n x) r (has_get g.entries (m / 2) r there.1) in
    without_fault g r neat.own neat.faultless
