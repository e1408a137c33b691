-- A file from which values are taken: its entries stay, and so does what a greater number names.
use Rattle.std.specs.Prelude.{◌≡◌, ℕ, zero, suc, ◌+◌, ◌/◌, ◌%◌, ◌<◌, ◌≤◌, ◌==◌, Bool, true, false, ◌&&◌, ℤ, pos, negsuc, List, [], ◌∷◌, ◌++◌, length, map, take}
use Rattle.std.specs.Prelude.{drop, set, Option, Some, None, Result, Ok, Err, OnOk, option_map, IsSome, if◌then◌else◌, slice_get, filter, filter_map}
use Rattle.std.specs.List.{cons_option, enumerate_from}
use Rattle.std.specs.List.Sorted.{IsStrictlyIncreasing}
use Rattle.std.specs.Ordering.{int_eq}
use Rattle.std.proofs.Common.{refl, sym, ap, subst, ◌∙◌, arith}
use Rattle.std.proofs.Math.Nat.{div-add-mod, mod-lt}
use Rattle.std.proofs.Math.Seq.{map-set_same}
use Rattle.std.proofs.lemmas.List.{take_all}
use Rattle.std.proofs.lemmas.Option.{get_or_from_slice_get, slice_get-map}
use Rattle.iges_base.proofs.Lists.{open_at}
use Rattle.iges_fields.specs.declared.value.Value.{Value}
use Rattle.iges_directory.specs.declared.entry.Entry.{Entry}
use Rattle.iges_directory.specs.Named.{unless_unused}
use Rattle.iges_params.specs.Contents.{Contents, value_count}
use Rattle.iges_params.specs.Named.{kind_of, named}
use Rattle.entry_references.specs.Layout.{Own}
use Rattle.entry_references.specs.Shapes.{HasShape}
use Rattle.entry_references.specs.declared.group.Group.{Group as Between}
use Rattle.entry_references.specs.Refs.{Record, is_name, names_of, number_of, own_of, second_group}
use Rattle.entry_references.proofs.NamedRecords.{named_place}
use Rattle.solid_extract.specs.Extracted.{new_entry, new_record, new_value, new_values}
use Rattle.solid_extract.specs.Making.{records_of}
use Rattle.solid_extract.specs.NewValues.{names_behind, new_numbers}
use Rattle.solid_extract.specs.Taking.{IsWithout}
use Rattle.solid_extract.proofs.KeptValues.{values_are}
use Rattle.solid_extract.proofs.KeptFile.{Rises, first_rises, next_entries, next_room, rises_all}

abbrev pub head : Record → Entry
head r = r.0

-- ---- files with the same entries

module _ (f g : Contents) (same : map head g.entries ≡ map head f.entries) where
  unless_head : (o : Option Record) → option_map head (unless_unused kind_of o) ≡ unless_unused (λ (e : Entry). e.kind) (option_map head o)
  unless_head None = refl
  unless_head (Some r) = by_test (int_eq r.0.kind (pos 0))
    where
      by_test : (b : Bool) → option_map head (if b then None else Some r) ≡ (if b then None else Some r.0)
      by_test true = refl
      by_test false = refl

  named_heads : (z : ℤ) → option_map head (named g z) ≡ option_map head (named f z)
  named_heads (negsuc n) = refl
  named_heads (pos n) = by_test (n % 2 == 1)
    where
      by_test : (b : Bool) → option_map head (if b then unless_unused kind_of (slice_get g.entries (n / 2)) else None)
          ≡ option_map head (if b then unless_unused kind_of (slice_get f.entries (n / 2)) else None)
      by_test false = refl
      by_test true =
          let there : option_map head (slice_get g.entries (n / 2)) ≡ option_map head (slice_get f.entries (n / 2)) =
          sym (slice_get-map head g.entries (n / 2)) ∙ (ap (λ (es : List Entry). slice_get es (n / 2)) same ∙ slice_get-map head f.entries (n / 2)) in
          unless_head (slice_get g.entries (n / 2)) ∙ (ap (unless_unused (λ (e : Entry). e.kind)) there ∙ sym (unless_head (slice_get f.entries (n / 2))))

  name_test : Option Entry → Bool
  name_test None = false
  name_test (Some e) = int_eq e.kind (pos 406) && int_eq e.form (pos 15)

  by_head : (o : Option Record) → elim o as (λ _. Bool) [ Some r ↦ int_eq r.0.kind (pos 406) && int_eq r.0.form (pos 15) | None ↦ false ]
      ≡ name_test (option_map head o)
  unfolding name_test
  by_head None = refl
  by_head (Some r) = refl

  name_alike : (z : ℤ) → is_name g z ≡ is_name f z
  name_alike z = by_head (named g z) ∙ (ap name_test (named_heads z) ∙ sym (by_head (named f z)))

  pub names_alike : is_name g ≡ is_name f
  names_alike = λ i z. name_alike z i

  pub record_alike : (kept : List ℕ) (r : Record) → new_record g kept r ≡ new_record f kept r
  record_alike kept r =
      let names : names_of g r ≡ names_of f r =
      ap (λ (p : ℤ → Bool). elim (own_of r) as (λ _. List ℤ) [ Some own ↦ filter p (filter_map number_of (second_group own r.1).pointers) | None ↦ [] ])
      names_alike in
      ap (λ (zs : List ℤ).
      let q : Record = (
        new_entry kept r.0,
        elim (own_of r) as (λ _. List Value)
            [ Some own ↦ map (λ (v : ℕ × Value). new_value kept own v.0 v.1) (enumerate_from 1 (take own.count r.1)) | None ↦ [] ]
            ++ names_behind (new_numbers kept zs),
      ) in q) names

  pub records_alike : (kept : List ℕ) (rs : List Record) → map (new_record g kept) rs ≡ map (new_record f kept) rs
  records_alike kept rs = ap (λ (h : Record → Record). map h rs) (λ i r. record_alike kept r i)

-- the values by the numbers that are names
abbrev pub values_by : (ℤ → Bool) → List ℕ → Own → Between → List Value → List Value
values_by p kept own g vs =
    map (λ (v : ℕ × Value). new_value kept own v.0 v.1) (enumerate_from 1 (take own.count vs))
    ++ names_behind (new_numbers kept (filter p (filter_map number_of (take g.count (drop g.before vs)))))

-- ---- a file, and the same without the values of an entry

pub get_later : (es : List Record) (i j : ℕ) (x : Record) → i < j → slice_get (set es i x) j ≡ slice_get es j
get_later [] i j x lt = refl
get_later (e ∷ es) i zero x lt = absurd (omega (arith, lt))
get_later (e ∷ es) zero (suc j) x lt = refl
get_later (e ∷ es) (suc i) (suc j) x lt = get_later es i j x (omega (arith, lt))

module _ (f g : Contents) (m : ℕ) (r : Record) (at : named f (pos m) ≡ Some r) (w : IsWithout f m g) where
  entries_are : g.entries ≡ set f.entries (m / 2) (r.0, [])
  entries_are = ap (λ (x : Contents). x.entries) (w r at)

  pub same_heads : map head g.entries ≡ map head f.entries
  same_heads =
      let got = get_or_from_slice_get f.entries (m / 2) r r (named_place f m r at).1 in
      ap (map head) entries_are ∙ map-set_same head f.entries (m / 2) (r.0, []) r (ap head (sym got))

  named_later : (n : ℕ) → m + 1 ≤ n → named g (pos n) ≡ named f (pos n)
  named_later n le =
      let further : m / 2 < n / 2 = omega (arith, le, div-add-mod m 2, div-add-mod n 2, (named_place f m r at).0, mod-lt n {m = 2} (omega arith)) in
      ap (λ (o : Option Record). if n % 2 == 1 then unless_unused kind_of o else None)
      (ap (λ (es : List Record). slice_get es (n / 2)) entries_are ∙ get_later f.entries (m / 2) (n / 2) (r.0, []) further)

  -- what the values become of which the entry is rid
  pub taken_values : (kept : List ℕ) (own : Own) (names : Between) (taken values : List Value) → r.1 ≡ taken → HasShape r own names
      → values ≡ values_by (is_name g) kept own names taken → values ≡ new_values f kept r
  taken_values kept own names taken values et shape ev =
      ev ∙ (ap (λ (p : ℤ → Bool). values_by p kept own names taken) (names_alike f g same_heads)
      ∙ (ap (values_by (is_name f) kept own names) (sym et) ∙ values_are f kept r own names shape))

-- the one record of an entry that is put
pub put_is : (f : Contents) (kept : List ℕ) (m : ℕ) (r : Record) (entry : Entry) (values : List Value) → named f (pos m) ≡ Some r → entry ≡ new_entry kept r.0
    → values ≡ new_values f kept r → map (new_record f kept) (records_of f (m ∷ [])) ≡ (entry, values) ∷ []
put_is f kept m r entry values at ee ev =
    ap (λ (o : Option Record). map (new_record f kept) (cons_option o [])) at ∙ (λ j. let q : Record = (sym ee j, sym ev j) in q ∷ [])

pub on_ok : {T E : Type 0} {P : Type 0} (result : Result T E) → P → OnOk result P
on_ok (Ok x) h = h
on_ok (Err e) h = tt

-- ---- a file from which the values of all kept entries are taken in turn

-- what is left of it, once only these are still to come
pub record IsLeft (f g : Contents) (ms : List ℕ) : Type 0 where
  pub start : g.start ≡ f.start
  pub global : g.global ≡ f.global
  pub heads : map head g.entries ≡ map head f.entries
  pub from : ℕ
  pub rises : Rises from ms
  pub same : (m : ℕ) → from ≤ m → named g (pos m) ≡ named f (pos m)

pub all_left : (f : Contents) (ms : List ℕ) → IsStrictlyIncreasing ms → IsLeft f f ms
all_left f ms rising = record { start = refl; global = refl; heads = refl; from = 0; rises = rises_all ms rising; same = λ m le. refl }

module _ (f g : Contents) (ms : List ℕ) (i m : ℕ) (at : slice_get ms i ≡ Some m) (h : IsLeft f g (drop i ms)) where
  opened : (h.from ≤ m) × Rises (m + 1) (drop (i + 1) ms)
  opened = first_rises h.from m (drop (i + 1) ms) (subst (Rises h.from) (open_at ms i m at) h.rises)

  pub left_named : named g (pos m) ≡ named f (pos m)
  left_named = h.same m opened.0

  left_records : records_of g (m ∷ []) ≡ records_of f (m ∷ [])
  left_records = ap (λ (o : Option Record). cons_option o []) left_named

  pub left_room : (kept : List ℕ) (es : List Record) → es ≡ map (new_record f kept) (records_of f (take i ms)) → value_count (records_of f ms) ≤ 164000000
      → value_count es + value_count (records_of g (m ∷ [])) ≤ 164000000
  left_room kept es e few =
      let room : value_count es + value_count (records_of f (m ∷ [])) ≤ 164000000 = next_room f kept ms i m es at e few in
      omega (arith, room, ap value_count left_records)

  pub left_entries : (kept : List ℕ) (es new : List Record) → es ≡ map (new_record f kept) (records_of f (take i ms))
      → new ≡ es ++ map (new_record g kept) (records_of g (m ∷ []))
      → new ≡ map (new_record f kept) (records_of f (take (i + 1) ms))
  left_entries kept es new e en =
      let put : map (new_record g kept) (records_of g (m ∷ [])) ≡ map (new_record f kept) (records_of f (m ∷ [])) =
      ap (map (new_record g kept)) left_records ∙ records_alike f g h.heads kept (records_of f (m ∷ [])) in
      next_entries f kept ms i m es new at e (en ∙ ap (λ (xs : List Record). es ++ xs) put)

  pub less_left : (next : Contents) → IsSome (named f (pos m)) → IsWithout g m next → IsLeft f next (drop (i + 1) ms)
  less_left next some w = by_record (named f (pos m)) refl some
    where
      by_record : (o : Option Record) → named f (pos m) ≡ o → IsSome o → IsLeft f next (drop (i + 1) ms)
      by_record None e k = absurd (let no_one : false ≡ true = k in cc)
      by_record (Some r) e k =
          let there : named g (pos m) ≡ Some r = left_named ∙ e in
          let is = w r there in
          record {
            start = ap (λ (x : Contents). x.start) is ∙ h.start;
            global = ap (λ (x : Contents). x.global) is ∙ h.global;
            heads = same_heads g next m r there w ∙ h.heads;
            from = m + 1;
            rises = opened.1;
            same = λ n le. named_later g next m r there w n le ∙ h.same n (omega (arith, le, opened.0));
          }

-- the front of what is left, and all kept entries
pub whole : (f g old new : Contents) (kept ms : List ℕ) (i : ℕ) → new ≡ record old { start = g.start; global = g.global } → IsLeft f g (drop i ms)
    → old.entries ≡ map (new_record f kept) (records_of f (take i ms)) → length ms ≤ i
    → new ≡ record f { entries = map (new_record f kept) (records_of f ms) }
whole f g old new kept ms i e h inv past =
    let entries : old.entries ≡ map (new_record f kept) (records_of f ms) = inv ∙ ap (λ (xs : List ℕ). map (new_record f kept) (records_of f xs))
    (take_all i ms past) in
    e ∙ (λ j. record { start = h.start j; global = h.global j; entries = entries j })
