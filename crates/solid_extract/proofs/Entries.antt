-- The entries that are kept.
use Rattle.std.specs.Ordering.{int_eq}
use Rattle.std.specs.Prelude.{zero, suc, unsigned_abs, length, ◌≡◌, ℕ, ◌≤◌, Bool, true, false, ℤ, pos, negsuc, neg_ℤ, int_lt, int_le, List, IsTrue}
use Rattle.std.specs.Prelude.{if◌then◌else◌}
use Rattle.std.proofs.Common.{refl, sym, subst, arith}
use Rattle.std.proofs.lemmas.Bool.{and_from, le-leb}
use Rattle.std.proofs.lemmas.Bool.Decides.{Decides-int_eq}
use Rattle.iges_directory.specs.declared.entry.Entry.{Entry}
use Rattle.iges_directory.specs.Bounds.{IsBounded, fits_columns}
use Rattle.solid_extract.specs.Extracted.{if_number, new_entry, new_number, renamed}
use Rattle.solid_extract.proofs.Places.{place_few}

abbrev pub new_colour : List ℕ → ℤ → ℤ
new_colour kept z = if int_lt z (pos 0) then neg_ℤ (renamed kept (neg_ℤ z)) else z

pub fits_pos : (n : ℕ) → n ≤ 9999999 → IsTrue (fits_columns (pos n))
fits_pos n few = and_from (int_le (negsuc 9999998) (pos n)) (int_le (pos n) (pos 99999999)) refl (le-leb n 99999999 (omega (arith, few)))

pub fits_number : (z : ℤ) → IsTrue (fits_columns z) → IsTrue (fits_columns (if_number z))
fits_number z h = by_test (int_lt z (pos 0))
  where
    by_test : (b : Bool) → IsTrue (fits_columns (if b then pos 0 else z))
    by_test true = refl
    by_test false = h

module _ (e : Entry) (kept : List ℕ) (kind font level matrix weight colour form subscript : ℤ) (k : kind ≡ e.kind) (f : font ≡ if_number e.font)
    (l : level ≡ if_number e.level) (m : matrix ≡ renamed kept e.matrix)
    (w : weight ≡ e.weight) (c : colour ≡ new_colour kept e.colour) (o : form ≡ e.form) (s : subscript ≡ e.subscript) where
  pub entry_is : (let x : Entry = record {
    kind = kind;
    structure = pos 0;
    font = font;
    level = level;
    view = pos 0;
    matrix = matrix;
    display = pos 0;
    weight = weight;
    colour = colour;
    form = form;
    subscript = subscript;
    status = e.status;
    label = e.label;
  } in x) ≡ new_entry kept e
  entry_is = λ j. record {
    kind = k j;
    structure = pos 0;
    font = f j;
    level = l j;
    view = pos 0;
    matrix = m j;
    display = pos 0;
    weight = w j;
    colour = c j;
    form = o j;
    subscript = s j;
    status = e.status;
    label = e.label;
  }

  pub entry_bounded : IsBounded e → (x : ℕ) × (matrix ≡ pos x) × (x ≤ 9999999) → IsTrue (fits_columns colour) → IsBounded (record {
    kind = kind;
    structure = pos 0;
    font = font;
    level = level;
    view = pos 0;
    matrix = matrix;
    display = pos 0;
    weight = weight;
    colour = colour;
    form = form;
    subscript = subscript;
    status = e.status;
    label = e.label;
  })
  entry_bounded h n q = record {
    kind = subst (λ (z : ℤ). IsTrue (fits_columns z)) (sym k) h.kind;
    structure = refl;
    font = subst (λ (z : ℤ). IsTrue (fits_columns z)) (sym f) (fits_number e.font h.font);
    level = subst (λ (z : ℤ). IsTrue (fits_columns z)) (sym l) (fits_number e.level h.level);
    view = refl;
    matrix = subst (λ (z : ℤ). IsTrue (fits_columns z)) (sym n.1) (fits_pos n.0 n.2);
    display = refl;
    weight = subst (λ (z : ℤ). IsTrue (fits_columns z)) (sym w) h.weight;
    colour = q;
    form = subst (λ (z : ℤ). IsTrue (fits_columns z)) (sym o) h.form;
    subscript = subst (λ (z : ℤ). IsTrue (fits_columns z)) (sym s) h.subscript;
    status = h.status;
    label = h.label;
  }

-- ---- within the bounds

pub renamed_few : (kept : List ℕ) (z : ℤ) → length kept ≤ 4999999 → (x : ℕ) × (renamed kept z ≡ pos x) × (x ≤ 9999999)
renamed_few kept z few = by_test (int_eq z (pos 0)) refl
  where
    by_test : (b : Bool) → int_eq z (pos 0) ≡ b → (x : ℕ) × ((if b then z else pos (new_number kept (unsigned_abs z))) ≡ pos x) × (x ≤ 9999999)
    by_test true t = (0, (Decides-int_eq z (pos 0)).0 t, omega arith)
    by_test false t = (new_number kept (unsigned_abs z), refl, omega (arith, place_few kept (unsigned_abs z), few))

fits_negated : (x : ℕ) → x ≤ 9999999 → IsTrue (fits_columns (neg_ℤ (pos x)))
fits_negated zero few = refl
fits_negated (suc n) few = and_from (int_le (negsuc 9999998) (negsuc n)) (int_le (negsuc n) (pos 99999999)) (le-leb n 9999998 (omega (arith, few))) refl

colour_fits : (kept : List ℕ) (z : ℤ) → length kept ≤ 4999999 → IsTrue (fits_columns z) → IsTrue (fits_columns (new_colour kept z))
colour_fits kept z few h = by_test (int_lt z (pos 0))
  where
    negated : IsTrue (fits_columns (neg_ℤ (renamed kept (neg_ℤ z))))
    negated = let r = renamed_few kept (neg_ℤ z) few in subst (λ (y : ℤ). IsTrue (fits_columns (neg_ℤ y))) (sym r.1) (fits_negated r.0 r.2)

    by_test : (b : Bool) → IsTrue (fits_columns (if b then neg_ℤ (renamed kept (neg_ℤ z)) else z))
    by_test true = negated
    by_test false = h

pub kept_bounded : (e : Entry) (kept : List ℕ) → length kept ≤ 4999999 → IsBounded e → IsBounded (new_entry kept e)
kept_bounded e kept few h =
    entry_bounded e kept e.kind (if_number e.font) (if_number e.level) (renamed kept e.matrix) e.weight (new_colour kept e.colour) e.form e.subscript refl refl
    refl refl refl refl refl refl h (renamed_few kept e.matrix few)
    (colour_fits kept e.colour few h.colour)
