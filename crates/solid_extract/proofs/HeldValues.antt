-- The values of a kept record can be written where those of the record can.
use Rattle.std.specs.Prelude.{◌≡◌, ℕ, ◌+◌, ◌≤◌, ◌==◌, Bool, true, false, ℤ, pos, negsuc, int_le, List, [], ◌∷◌, length, map, take, drop, Option, Some, None}
use Rattle.std.specs.Prelude.{if◌then◌else◌, unwrap_or, filter, filter_map}
use Rattle.std.specs.List.{list_all, enumerate_from}
use Rattle.std.proofs.Common.{refl, ap, ◌∙◌, arith, length-take, length-drop}
use Rattle.std.proofs.lemmas.Bool.{and_parts, and_from, le-leb}
use Rattle.std.proofs.lemmas.List.{length-map}
use Rattle.iges_fields.specs.declared.value.Value.{Value}
use Rattle.iges_fields.specs.declared.value.Value.TheVariants as value
use Rattle.iges_fields.specs.FreeText.{fits_64_bits}
use Rattle.iges_fields.specs.InLine.{is_value}
use Rattle.iges_base.proofs.Lists.{list_all-take, list_all-both}
use Rattle.iges_params.specs.Contents.{Contents}
use Rattle.entry_references.specs.EntrySets.{is_among}
use Rattle.entry_references.specs.Layout.{Own, count_of}
use Rattle.entry_references.specs.Refs.{Record, first_group, second_group, own_of, is_name, number_of}
use Rattle.solid_extract.specs.Extracted.{new_value, new_values, renamed}
use Rattle.solid_extract.specs.NewValues.{new_numbers, names_behind}
use Rattle.solid_extract.proofs.Entries.{renamed_few}
use Rattle.solid_extract.proofs.KeptValues.{names_few, values_of_own}

small_fits : (n : ℕ) → n ≤ 164000000 → fits_64_bits (pos n) ≡ true
small_fits n most = and_from (int_le (negsuc 9223372036854775807) (pos n)) (int_le (pos n) (pos 9223372036854775807)) refl
    (le-leb n 9223372036854775807 (omega (arith, most)))

pointers_short : (vs : List Value) (own n k : ℕ) → length (take k (drop 1 (drop n (drop 1 (drop own vs))))) ≤ length vs
pointers_short vs own n k =
    omega (
      arith,
      length-take k (drop 1 (drop n (drop 1 (drop own vs)))),
      length-drop 1 (drop n (drop 1 (drop own vs))),
      length-drop n (drop 1 (drop own vs)),
      length-drop 1 (drop own vs),
      length-drop own vs,
    )

second_short : (own : Own) (vs : List Value) → length (second_group own vs).pointers ≤ length vs
second_short own vs = pointers_short vs own.count (unwrap_or (count_of (first_group own vs).count) 0) (unwrap_or (count_of (second_group own vs).count) 0)

module _ (kept : List ℕ) (few : length kept ≤ 4999999) where
  renamed_fits : (z : ℤ) → fits_64_bits (renamed kept z) ≡ true
  renamed_fits z = let r = renamed_few kept z few in ap fits_64_bits r.1 ∙ small_fits r.0 (omega (arith, r.2))

  value_fits : (own : Own) (k : ℕ) (v : Value) → is_value v ≡ true → is_value (new_value kept own k v) ≡ true
  value_fits own k value.Default h = refl
  value_fits own k (value.Int n) h = by_test (is_among own.pointers k) (is_among own.cut k)
    where
      by_test : (p c : Bool) → fits_64_bits (if p then renamed kept n else (if c then pos 0 else n)) ≡ true
      by_test true c = renamed_fits n
      by_test false true = refl
      by_test false false = h
  value_fits own k (value.Real w) h = h
  value_fits own k (value.Text t) h = h

  own_fit : (own : Own) (k : ℕ) (vs : List Value) → list_all is_value vs ≡ true
      → list_all is_value (map (λ (v : ℕ × Value). new_value kept own v.0 v.1) (enumerate_from k vs)) ≡ true
  own_fit own k [] h = refl
  own_fit own k (v ∷ vs) h =
      let p = and_parts (is_value v) (list_all is_value vs) h in
      and_from (is_value (new_value kept own k v)) (list_all is_value (map (λ (w : ℕ × Value). new_value kept own w.0 w.1) (enumerate_from (k + 1) vs)))
      (value_fits own k v p.0) (own_fit own (k + 1) vs p.1)

  numbers_fit : (zs : List ℤ) → list_all is_value (new_numbers kept zs) ≡ true
  numbers_fit [] = refl
  numbers_fit (z ∷ zs) = and_from (is_value (value.Int (renamed kept z))) (list_all is_value (new_numbers kept zs)) (renamed_fits z) (numbers_fit zs)

  names_fit : (names : List Value) → length names ≤ 164000000 → list_all is_value names ≡ true → list_all is_value (names_behind names) ≡ true
  names_fit names most h = by_test (length names == 0)
    where
      by_test : (b : Bool) → list_all is_value (if b then [] else value.Int (pos 0) ∷ value.Int (pos (length names)) ∷ names) ≡ true
      by_test true = refl
      by_test false =
          and_from (is_value (value.Int (pos 0))) (list_all is_value (value.Int (pos (length names)) ∷ names)) refl
          (and_from (is_value (value.Int (pos (length names)))) (list_all is_value names) (small_fits (length names) most) h)

  module _ (f : Contents) (r : Record) (most : length r.1 ≤ 164000000) (held : list_all is_value r.1 ≡ true) where
    fit_of_own : (o : Option Own) → list_all is_value (values_of_own f kept r o) ≡ true
    fit_of_own None = refl
    fit_of_own (Some own) =
        list_all-both is_value (map (λ (v : ℕ × Value). new_value kept own v.0 v.1) (enumerate_from 1 (take own.count r.1)))
        (names_behind (new_numbers kept (filter (is_name f) (filter_map number_of (second_group own r.1).pointers))))
        (own_fit own 1 (take own.count r.1) (list_all-take is_value own.count r.1 held))
        (names_fit (new_numbers kept (filter (is_name f) (filter_map number_of (second_group own r.1).pointers))) (short own)
        (numbers_fit (filter (is_name f) (filter_map number_of (second_group own r.1).pointers))))
      where
        short : (own : Own) → length (new_numbers kept (filter (is_name f) (filter_map number_of (second_group own r.1).pointers))) ≤ 164000000
        short own =
            omega (
              arith,
              length-map (filter (is_name f) (filter_map number_of (second_group own r.1).pointers)) (λ (z : ℤ). value.Int (renamed kept z)),
              names_few f (second_group own r.1).pointers,
              second_short own r.1,
              most,
            )

    pub values_held : list_all is_value (new_values f kept r) ≡ true
    values_held = fit_of_own (own_of r)
