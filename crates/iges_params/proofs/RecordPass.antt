-- The pass over one record, joined from its steps.
use Rattle.std.proofs.Common.{◌≡◌, ℕ, ◌+◌, ◌-◌, ◌<◌, ◌≤◌, Bool, true, false, not, List, [], ◌++◌, length, take, drop, min, ℤ, pos, negsuc, Option, Some, None, Result, Ok, Err, refl}
use Rattle.std.proofs.Common.{sym, ap, subst, ◌∙◌, arith, length-drop}
use Rattle.std.specs.Prelude.{if◌then◌else◌, ◌+ℤ◌, ◌&&◌, ◌||◌, int_le, slice_range, unsigned_abs, flat_map}
use Rattle.std.specs.List.{position_from}
use Rattle.std.specs.Ordering.{int_eq}
use Rattle.std.proofs.lemmas.Bool.{and_parts, and_from, cond-true, cond-false, leb-true, le-leb}
use Rattle.std.proofs.lemmas.List.{drop-append-le, take-append-le}
use Rattle.iges_fields.specs.declared.value.Value.{Value}
use Rattle.iges_fields.specs.declared.fault.FieldFault.{FieldFault}
use Rattle.iges_fields.specs.Delims.{Delims}
use Rattle.iges_fields.specs.Reading.{◌>>=◌, read_values}
use Rattle.iges_lines.specs.declared.fault.PassFault.{PassFault}
use Rattle.iges_lines.specs.declared.fault.PassFault.TheVariants as faults
use Rattle.iges_lines.specs.declared.reason.Reason.TheVariants.{BackPointer, RecordValue}
use Rattle.iges_lines.specs.Gives.{Fails, Gives}
use Rattle.iges_lines.specs.Lines.{columns}
use Rattle.iges_directory.specs.declared.entry.Placed.{Placed}
use Rattle.iges_directory.specs.Entries.{has_record}
use Rattle.iges_params.specs.Records.{record_lines, record_text, points_back}
use Rattle.iges_lines.specs.declared.fault.LineFault.{LineFault}
use Rattle.iges_params.specs.FromLast.{IsFront}
use Rattle.iges_params.specs.Reading.{fault_at, at_line, read_passage, without_type, values_unless, used_values, read_record}
use Rattle.iges_params.proofs.Passes.{fault_passes, goes_on}

-- the values of the text, and then the type number
with_type : (first : ℕ) (text : List ℕ) (d : Delims) (kind : ℤ)
    → (read_passage first 64 text RecordValue d text >>= without_type first kind) ≡
    (at_line first 64 text 0 RecordValue (read_values d text) >>= λ x. without_type first kind x.0)
unfolding read_passage
with_type first text d kind =
    ap (λ (k : ℕ). at_line first 64 text k RecordValue (read_values d text) >>= (λ x. Ok x.0) >>= without_type first kind)
    (let none : length text - length text ≡ 0 = omega arith in none) ∙ by_read (read_values d text)
  where
    by_read : (r : Result (List Value × ℕ) FieldFault) → (at_line first 64 text 0 RecordValue r >>= (λ x. Ok x.0) >>= without_type first kind) ≡
        (at_line first 64 text 0 RecordValue r >>= λ x. without_type first kind x.0)
    by_read (Ok x) = refl
    by_read (Err f) = refl

module _ (above : ℕ) (params : List (List ℕ)) (d : Delims) (number : ℕ) (p : Placed) (place count first : ℕ) (place_is : place ≡ unsigned_abs p.first)
    (count_is : count ≡ unsigned_abs p.count) (first_is : first ≡ above + place) where
  abbrev range : List (List ℕ)
  range = slice_range params (place - 1) (place - 1 + count)

  range_is : range ≡ record_lines params p
  range_is = ap (λ (k : ℕ). slice_range params (k - 1) (k - 1 + count)) place_is ∙ ap
      (λ (k : ℕ). slice_range params (unsigned_abs p.first - 1) (unsigned_abs p.first - 1 + k)) count_is

  abbrev foreign : List (List ℕ) → Option ℕ
  foreign lines = position_from (λ l. not (points_back number l)) 0 lines

  used_at : (o : Option ℕ) → o ≡ foreign range → used_values above params d number p ≡ values_unless params d first p o
  unfolding used_values
  used_at o is =
      ap (values_unless params d (above + unsigned_abs p.first) p) (sym (is ∙ ap foreign range_is))
      ∙ ap (λ (n : ℕ). values_unless params d n p o) (sym (first_is ∙ ap (λ (k : ℕ). above + k) place_is))

  pub foreign_fails : (i : ℕ) → Some i ≡ foreign range → Fails (faults.Bad (record { line = first + i; reason = BackPointer }))
      (used_values above params d number p)
  foreign_fails i is = used_at (Some i) is

  module _ (none : None ≡ foreign range) (text : List ℕ) (text_is : text ≡ flat_map (columns 1 64) range) where
    used_is : used_values above params d number p ≡ (read_passage first 64 text RecordValue d text >>= without_type first p.entry.kind)
    used_is =
        used_at None none ∙ sym (with_type first (record_text params p) d p.entry.kind)
        ∙ ap (λ (t : List ℕ). read_passage first 64 t RecordValue d t >>= without_type first p.entry.kind)
        (sym (text_is ∙ ap (flat_map (columns 1 64)) range_is))

    pub text_fails : (e : PassFault) → Fails e (read_passage first 64 text RecordValue d text) → Fails e (used_values above params d number p)
    text_fails e f = subst (Fails e) (sym used_is) (fault_passes e (read_passage first 64 text RecordValue d text) (without_type first p.entry.kind) f)

    pub text_goes_on : (values : List Value) (r : Result (List Value) PassFault) → read_passage first 64 text RecordValue d text ≡ Ok values →
        Gives r (without_type first p.entry.kind values) → Gives r (used_values above params d number p)
    text_goes_on values r read g = subst (Gives r) (sym used_is)
        (goes_on values (read_passage first 64 text RecordValue d text) (without_type first p.entry.kind) r read g)

-- ---- an entry

pub unused_is : (above : ℕ) (params : List (List ℕ)) (d : Delims) (number : ℕ) (p : Placed) → int_eq p.entry.kind (pos 0) ≡ true →
    read_record above params d number p ≡ Ok []
unfolding read_record
unused_is above params d number p e = cond-true (int_eq p.entry.kind (pos 0)) _ _ e

pub used_record : (above : ℕ) (params : List (List ℕ)) (d : Delims) (number : ℕ) (p : Placed) (r : Result (List Value) PassFault) →
    int_eq p.entry.kind (pos 0) ≡ false → Gives r (used_values above params d number p) → Gives r (read_record above params d number p)
unfolding read_record used_values
used_record above params d number p r used g = subst (Gives r) (sym (cond-false (int_eq p.entry.kind (pos 0)) _ _ used)) g

-- a record lies among the P lines
pub record_within : (n : ℕ) (kind first count : ℤ) → int_eq kind (pos 0) ≡ false → has_record n kind first count ≡ true →
    (0 < unsigned_abs first) × (unsigned_abs first - 1 + unsigned_abs count ≤ n)
record_within n kind first count used h = by_test (int_eq kind (pos 0)) used h
  where
    lies_at : (f c : ℤ) → int_le (pos 1) f ≡ true → int_le (pos 1) c ≡ true → int_le (f +ℤ c) (pos (n + 1)) ≡ true →
        (0 < unsigned_abs f) × (unsigned_abs f - 1 + unsigned_abs c ≤ n)
    lies_at (pos f) (pos c) x y z = let a = leb-true 1 f x in let b = leb-true (f + c) (n + 1) z in (omega (arith, a), omega (arith, a, b))
    lies_at (pos f) (negsuc c) x y z = absurd (let no : false ≡ true = y in cc)
    lies_at (negsuc f) c x y z = absurd (let no : false ≡ true = x in cc)

    lies : (f c : ℤ) → (int_le (pos 1) f && int_le (pos 1) c && int_le (f +ℤ c) (pos (n + 1))) ≡ true →
        (0 < unsigned_abs f) × (unsigned_abs f - 1 + unsigned_abs c ≤ n)
    lies f c k =
        let a = and_parts (int_le (pos 1) f && int_le (pos 1) c) (int_le (f +ℤ c) (pos (n + 1))) k in
        let b = and_parts (int_le (pos 1) f) (int_le (pos 1) c) a.0 in
        lies_at f c b.0 b.1 a.1

    by_test : (b : Bool) → b ≡ false → (b || (int_le (pos 1) first && int_le (pos 1) count && int_le (first +ℤ count) (pos (n + 1)))) ≡ true →
        (0 < unsigned_abs first) × (unsigned_abs first - 1 + unsigned_abs count ≤ n)
    by_test true e k = absurd (let no : true ≡ false = e in cc)
    by_test false e k = lies first count k

abbrev lies : ℕ → ℤ → ℤ → Bool
lies n f c = int_le (pos 1) f && int_le (pos 1) c && int_le (f +ℤ c) (pos (n + 1))

-- a record lies among any lines that reach to its end
pub record_fits : (n m : ℕ) (kind first count : ℤ) → has_record n kind first count ≡ true →
    (int_eq kind (pos 0) ≡ false → unsigned_abs first - 1 + unsigned_abs count ≤ m) → has_record m kind first count ≡ true
record_fits n m kind first count h end = by_test (int_eq kind (pos 0)) h end
  where
    lies_at : (f c : ℤ) → int_le (pos 1) f ≡ true → int_le (pos 1) c ≡ true → unsigned_abs f - 1 + unsigned_abs c ≤ m → lies m f c ≡ true
    lies_at (pos f) (pos c) x y k =
        let a = leb-true 1 f x in
        and_from (int_le (pos 1) (pos f) && int_le (pos 1) (pos c)) (int_le (pos (f + c)) (pos (m + 1))) (and_from (int_le (pos 1) (pos f)) (int_le (pos 1) (pos c)) x y)
        (le-leb (f + c) (m + 1) (omega (arith, a, k)))
    lies_at (pos f) (negsuc c) x y k = absurd (let no : false ≡ true = y in cc)
    lies_at (negsuc f) c x y k = absurd (let no : false ≡ true = x in cc)

    by_test : (b : Bool) → (b || lies n first count) ≡ true → (b ≡ false → unsigned_abs first - 1 + unsigned_abs count ≤ m) → (b || lies m first count) ≡ true
    by_test true k e = refl
    by_test false k e =
        let a = and_parts (int_le (pos 1) first && int_le (pos 1) count) (int_le (first +ℤ count) (pos (n + 1))) k in
        let b = and_parts (int_le (pos 1) first) (int_le (pos 1) count) a.0 in
        lies_at first count b.0 b.1 (e refl)

pub record_more : (n m : ℕ) (kind first count : ℤ) → n ≤ m → has_record n kind first count ≡ true → has_record m kind first count ≡ true
record_more n m kind first count le h = record_fits n m kind first count h (λ used. omega (arith, le, (record_within n kind first count used h).1))

pub record_both : (n m : ℕ) (kind first count : ℤ) → has_record n kind first count ≡ true → has_record m kind first count ≡ true →
    has_record (min n m) kind first count ≡ true
record_both n m kind first count a b = record_fits n (min n m) kind first count a
    (λ used. omega (arith, (record_within n kind first count used a).1, (record_within m kind first count used b).1))

-- ---- lines that are left of all

range_front : {X : Type 0} (front rest : List X) (a n : ℕ) → a + n ≤ length front → slice_range (front ++ rest) a (a + n) ≡ slice_range front a (a + n)
range_front {X} front rest a n h =
    let m : a + n - a ≡ n = omega arith in
    ap (λ (l : List X). take (a + n - a) l) (drop-append-le a front rest (omega (arith, h)))
    ∙ take-append-le (a + n - a) (drop a front) rest (omega (arith, m, h, length-drop a front))

module _ (above : ℕ) (front all : List (List ℕ)) (is : IsFront front all) (d : Delims) (number : ℕ) (p : Placed) where
  abbrev from_lines : List (List ℕ) → Option ℕ → Result (List Value) LineFault
  from_lines lines (Some line) = fault_at (above + unsigned_abs p.first + line) BackPointer
  from_lines lines None =
      at_line (above + unsigned_abs p.first) 64 (flat_map (columns 1 64) lines) 0 RecordValue (read_values d (flat_map (columns 1 64) lines))
      >>= λ x. without_type (above + unsigned_abs p.first) p.entry.kind x.0

  by_lines : (params : List (List ℕ)) (o : Option ℕ) → values_unless params d (above + unsigned_abs p.first) p o ≡ from_lines (record_lines params p) o
  by_lines params (Some line) = refl
  by_lines params None = refl

  abbrev whole : List (List ℕ) → Result (List Value) LineFault
  whole lines = if int_eq p.entry.kind (pos 0) then Ok [] else from_lines lines (position_from (λ l. not (points_back number l)) 0 lines)

  read_whole : (params : List (List ℕ)) → read_record above params d number p ≡ whole (record_lines params p)
  unfolding read_record
  read_whole params =
      ap (λ (r : Result (List Value) LineFault). if int_eq p.entry.kind (pos 0) then Ok [] else r)
      (by_lines params (position_from (λ l. not (points_back number l)) 0 (record_lines params p)))

  -- a record is read from them as from all
  pub front_record : has_record (length front) p.entry.kind p.first p.count ≡ true → read_record above front d number p ≡ read_record above all d number p
  front_record h = by_kind (int_eq p.entry.kind (pos 0)) refl
    where
      by_kind : (b : Bool) → int_eq p.entry.kind (pos 0) ≡ b → read_record above front d number p ≡ read_record above all d number p
      by_kind true e = unused_is above front d number p e ∙ sym (unused_is above all d number p e)
      by_kind false e =
          let a = unsigned_abs p.first - 1 in
          let n = unsigned_abs p.count in
          let within : a + n ≤ length front = (record_within (length front) p.entry.kind p.first p.count e h).1 in
          let same : record_lines all p ≡ record_lines front p = ap (λ (l : List (List ℕ)). slice_range l a (a + n)) is.1 ∙ range_front front is.0 a n within in
          read_whole front ∙ sym (ap whole same) ∙ sym (read_whole all)
