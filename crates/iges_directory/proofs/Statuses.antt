-- The status of an entry, byte by byte.
use Rattle.std.proofs.Common.{◌≡◌, ℕ, ◌+◌, ◌<◌, ◌≤◌, true, List, [], ◌∷◌, ◌++◌, length, take, get_or, set, refl, sym, ap, ap₂, ◌∙◌}
use Rattle.std.specs.Char.{is_ascii_digit}
use Rattle.std.specs.List.{list_all}
use Rattle.std.proofs.lemmas.Bool.{and_parts, cond-false, not-true}
use Rattle.iges_base.proofs.DigitFronts.{digit_is_not}
use Rattle.std.specs.Prelude.{◌==◌, if◌then◌else◌}
use Rattle.std.proofs.lemmas.List.{take_more, take_more_set, take_all, map-append}
use Rattle.iges_directory.specs.Entries.{status_of}

pub status_step : (digits bytes : List ℕ) (i y : ℕ) → i < length digits → i < length bytes → take i digits ≡ status_of (take i bytes) →
    y ≡ (if get_or bytes i 0 == 32 then 48 else get_or bytes i 0)
    → take (i + 1) (set digits i y) ≡ status_of (take (i + 1) bytes)
status_step digits bytes i y h g below e =
    take_more_set digits i y h ∙ ap (λ (xs : List ℕ). xs ++ y ∷ []) below ∙ ap (λ (z : ℕ). status_of (take i bytes) ++ z ∷ []) e
    ∙ sym (ap status_of (take_more bytes i 0 g) ∙ map-append (λ b. if b == 32 then 48 else b) (take i bytes) (get_or bytes i 0 ∷ []))

pub status_whole : (digits bytes : List ℕ) (i : ℕ) → length digits ≤ i → length bytes ≤ i → take i digits ≡ status_of (take i bytes) → digits ≡ status_of bytes
status_whole digits bytes i h g e = sym (take_all i digits h) ∙ e ∙ ap status_of (take_all i bytes g)

-- digits are their own status
pub digits_stay : (bytes : List ℕ) → list_all is_ascii_digit bytes ≡ true → status_of bytes ≡ bytes
digits_stay [] all = refl
digits_stay (b ∷ bytes) all =
    let parts = and_parts (is_ascii_digit b) (list_all is_ascii_digit bytes) all in
    ap₂ (λ (x : ℕ) (xs : List ℕ). x ∷ xs) (cond-false (b == 32) 48 b (not-true _ (digit_is_not 32 b refl parts.0))) (digits_stay bytes parts.1)
