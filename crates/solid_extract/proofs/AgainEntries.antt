-- The fields of an extracted entry stay when it is extracted again.
use Rattle.std.specs.Prelude.{◌≡◌, ℕ, suc, ◌+◌, ◌*◌, ◌<◌, Bool, true, false, ℤ, pos, negsuc, neg_ℤ, int_lt, List, [], ◌∷◌, length, map, unsigned_abs}
use Rattle.std.specs.Prelude.{if◌then◌else◌}
use Rattle.std.specs.Ordering.{int_eq}
use Rattle.std.proofs.Common.{refl, sym, ap, subst, ◌∙◌, arith}
use Rattle.std.proofs.lemmas.Bool.{cond-false, ltb-true}
use Rattle.std.proofs.lemmas.Bool.Decides.{Decides-int_eq}
use Rattle.iges_directory.specs.declared.entry.Entry.{Entry}
use Rattle.solid_extract.specs.Extracted.{if_number, new_entry, renamed}
use Rattle.solid_extract.proofs.Entries.{entry_is, new_colour}
use Rattle.solid_extract.proofs.AgainPlaces.{odds_from, renamed_zero, IsRenamed, nothing, something, is_renamed, renamed_again}

number_again : (z : ℤ) → if_number (if_number z) ≡ if_number z
number_again z = by_test (int_lt z (pos 0)) refl
  where
    by_test : (b : Bool) → int_lt z (pos 0) ≡ b → if_number (if b then pos 0 else z) ≡ (if b then pos 0 else z)
    by_test true e = refl
    by_test false e = cond-false (int_lt z (pos 0)) (pos 0) z e

not_negative : (n : ℕ) → int_lt (pos n) (pos 0) ≡ false
not_negative n = by_test (int_lt (pos n) (pos 0)) refl
  where
    by_test : (b : Bool) → int_lt (pos n) (pos 0) ≡ b → int_lt (pos n) (pos 0) ≡ false
    by_test true e = let lt : n < 0 = ltb-true n 0 e in absurd (omega (arith, lt))
    by_test false e = e

negated_again : (kept : List ℕ) (z : ℤ) → IsRenamed kept z → renamed (odds_from 0 (length kept)) z ≡ z → new_colour (odds_from 0 (length kept)) (neg_ℤ z)
    ≡ neg_ℤ z
negated_again kept z nothing e = refl
negated_again kept z (something k le) e =
    let one : 2 * k + 1 ≡ suc (2 * k) = omega arith in
    subst (λ (m : ℕ). new_colour (odds_from 0 (length kept)) (neg_ℤ (pos m)) ≡ neg_ℤ (pos m)) (sym one)
    (ap neg_ℤ (subst (λ (m : ℕ). renamed (odds_from 0 (length kept)) (pos m) ≡ pos m) one e))

colour_again : (kept : List ℕ) (z : ℤ) → new_colour (odds_from 0 (length kept)) (new_colour kept z) ≡ new_colour kept z
colour_again kept z = by_test (int_lt z (pos 0)) refl
  where
    by_test : (b : Bool) → int_lt z (pos 0) ≡ b → new_colour (odds_from 0 (length kept)) (if b then neg_ℤ (renamed kept (neg_ℤ z)) else z)
        ≡ (if b then neg_ℤ (renamed kept (neg_ℤ z)) else z)
    by_test true e = negated_again kept (renamed kept (neg_ℤ z)) (is_renamed kept (neg_ℤ z)) (renamed_again kept (neg_ℤ z))
    by_test false e = cond-false (int_lt z (pos 0)) (neg_ℤ (renamed (odds_from 0 (length kept)) (neg_ℤ z))) z e

pub entry_again : (kept : List ℕ) (e : Entry) → new_entry (odds_from 0 (length kept)) (new_entry kept e) ≡ new_entry kept e
entry_again kept e =
    sym (entry_is (new_entry kept e) (odds_from 0 (length kept)) e.kind (if_number e.font) (if_number e.level) (renamed kept e.matrix) e.weight
    (new_colour kept e.colour) e.form e.subscript
    refl (sym (number_again e.font)) (sym (number_again e.level)) (sym (renamed_again kept e.matrix)) refl (sym (colour_again kept e.colour)) refl refl)

-- the matrix and the colour as pointers
pub matrix_renamed : (kept : List ℕ) (z : ℤ) → (if int_eq (renamed kept z) (pos 0) then [] else renamed kept z ∷ [])
    ≡ map (renamed kept) (if int_eq z (pos 0) then [] else z ∷ [])
matrix_renamed kept z = ap (λ (b : Bool). if b then [] else renamed kept z ∷ []) (renamed_zero kept z) ∙ by_test (int_eq z (pos 0))
  where
    by_test : (b : Bool) → (if b then [] else renamed kept z ∷ []) ≡ map (renamed kept) (if b then [] else z ∷ [])
    by_test true = refl
    by_test false = refl

negated_pointer : (kept : List ℕ) (y : ℤ) → IsRenamed kept y → int_eq y (pos 0) ≡ false → (if int_lt (neg_ℤ y) (pos 0) then neg_ℤ (neg_ℤ y) ∷ [] else []) ≡ y
    ∷ []
negated_pointer kept y nothing e = absurd (let no : true ≡ false = e in cc)
negated_pointer kept y (something k le) e =
    let one : 2 * k + 1 ≡ suc (2 * k) = omega arith in
    subst (λ (m : ℕ). (if int_lt (neg_ℤ (pos m)) (pos 0) then neg_ℤ (neg_ℤ (pos m)) ∷ [] else []) ≡ pos m ∷ []) (sym one) refl

positive_not_zero : (n : ℕ) → int_eq (pos (suc n)) (pos 0) ≡ false
positive_not_zero n = by_test (int_eq (pos (suc n)) (pos 0)) refl
  where
    by_test : (b : Bool) → int_eq (pos (suc n)) (pos 0) ≡ b → int_eq (pos (suc n)) (pos 0) ≡ false
    by_test true e = let none : suc n ≡ 0 = ap unsigned_abs ((Decides-int_eq (pos (suc n)) (pos 0)).0 e) in absurd (omega (arith, none))
    by_test false e = e

pub colour_renamed : (kept : List ℕ) (z : ℤ) → (if int_lt (new_colour kept z) (pos 0) then neg_ℤ (new_colour kept z) ∷ [] else [])
    ≡ map (renamed kept) (if int_lt z (pos 0) then neg_ℤ z ∷ [] else [])
colour_renamed kept (pos n) =
    let same : new_colour kept (pos n) ≡ pos n = cond-false (int_lt (pos n) (pos 0)) (neg_ℤ (renamed kept (neg_ℤ (pos n)))) (pos n) (not_negative n) in
    cond-false (int_lt (new_colour kept (pos n)) (pos 0)) (neg_ℤ (new_colour kept (pos n)) ∷ []) [] (ap (λ (z : ℤ). int_lt z (pos 0)) same ∙ not_negative n)
    ∙ sym (ap (map (renamed kept)) (cond-false (int_lt (pos n) (pos 0)) (neg_ℤ (pos n) ∷ []) [] (not_negative n)))
colour_renamed kept (negsuc n) = negated_pointer kept (renamed kept (pos (suc n))) (is_renamed kept (pos (suc n)))
    (renamed_zero kept (pos (suc n)) ∙ positive_not_zero n)
