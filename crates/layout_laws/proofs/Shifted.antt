-- A line is taken only where its letter stands in column 73.
use Rattle.std.proofs.Common.{◌≡◌, inl, inr, ℕ, zero, suc, ◌-◌, ◌<◌, ◌≤◌, Bool, true, false, List, [], ◌∷◌, ◌++◌, length, get_or, take, drop, Option, None}
use Rattle.std.proofs.Common.{refl, sym, ap, subst, ◌∙◌, arith, length-append}
use Rattle.std.specs.Prelude.{◌==◌, ◌||◌, is_some}
use Rattle.std.specs.Char.{is_ascii_digit}
use Rattle.std.specs.List.{list_all}
use Rattle.std.proofs.lemmas.Bool.{and_parts, cases_order, both_ways, ne_eqb, leb-true, or_right}
use Rattle.std.proofs.lemmas.List.{get_or-append_right, take-append-drop, drop-drop, drop-append-le}
use Rattle.iges_base.proofs.Lists.{list_all-both, list_all-parts}
use Rattle.iges_base.proofs.Tests.{passes}
use Rattle.iges_base.proofs.Lists.{list_all-implies}
use Rattle.line_layout.specs.Judging.{letter, line_tests, line_fault}
use Rattle.line_layout.specs.declared.letters.Section.{Section}
use Rattle.line_layout.specs.Letters.{section_of}
use Rattle.line_layout.specs.Marks.{is_blank_byte, is_tail_byte}

-- a byte that passes a test isn't one that doesn't
pub differs : (p : ℕ → Bool) (b x : ℕ) → p b ≡ true → p x ≡ false → (b == x) ≡ false
differs p b x h f = ne_eqb b x (λ is. both_ways (p x) f (subst (λ (y : ℕ). p y ≡ true) is h))

-- no byte of a tail is a letter
pub tail_no_letter : (b : ℕ) → is_tail_byte b ≡ true → section_of b ≡ None
unfolding section_of
tail_no_letter b h =
    rw (
      differs is_tail_byte b 83 h refl,
      differs is_tail_byte b 115 h refl,
      differs is_tail_byte b 71 h refl,
      differs is_tail_byte b 103 h refl,
      differs is_tail_byte b 68 h refl,
      differs is_tail_byte b 100 h refl,
      differs is_tail_byte b 80 h refl,
      differs is_tail_byte b 112 h refl,
      differs is_tail_byte b 84 h refl,
      differs is_tail_byte b 116 h refl,
    )

pub all_at : (p : ℕ → Bool) (xs : List ℕ) (i : ℕ) → i < length xs → list_all p xs ≡ true → p (get_or xs i 0) ≡ true
all_at p [] i lt h = absurd (omega arith)
all_at p (x ∷ xs) zero lt h = (and_parts (p x) (list_all p xs) h).0
all_at p (x ∷ xs) (suc i) lt h = all_at p xs i (omega arith) (and_parts (p x) (list_all p xs) h).1

blank_in_tail : (b : ℕ) → is_blank_byte b ≡ true → is_tail_byte b ≡ true
blank_in_tail b h = or_right (is_ascii_digit b || b == 43 || b == 45) (is_blank_byte b) h

-- what a line without a fault is
pub record IsPlain (line : List ℕ) : Type 0 where
  pub long : 73 ≤ length line
  pub has_letter : is_some (section_of (letter line)) ≡ true
  pub tail : list_all is_tail_byte (drop 73 line) ≡ true

pub plain_line : (line : List ℕ) → line_fault line ≡ None → IsPlain line
unfolding line_fault
plain_line line e =
    let p = passes (line_tests line) e in
    let behind : drop 7 (drop 73 line) ≡ drop 80 line = drop-drop 7 73 line in
    let blank : list_all is_tail_byte (drop 7 (drop 73 line)) ≡ true =
    ap (list_all is_tail_byte) behind ∙ list_all-implies is_blank_byte is_tail_byte blank_in_tail (drop 80 line) p.1.1.1.0 in
    record {
      long = leb-true 73 (length line) p.0;
      has_letter = p.1.0;
      tail = ap (list_all is_tail_byte) (sym (take-append-drop 7 (drop 73 line)))
          ∙ list_all-both is_tail_byte (take 7 (drop 73 line)) (drop 7 (drop 73 line)) p.1.1.0 blank;
    }

pub shifted : (content tail : List ℕ) (b : ℕ) → list_all is_tail_byte tail ≡ true → is_tail_byte b ≡ false → line_fault (content ++ b ∷ tail) ≡ None
    → length content ≡ 72
shifted content tail b all other e =
    let line = content ++ b ∷ tail in
    let p = plain_line line e in
    let long = p.long in
    elim (cases_order (length content) 72) [
      | inl eq ↦ eq
      | inr (inl lt) ↦
          let next : 72 - length content ≡ suc (71 - length content) = omega arith in
          let at : letter line ≡ get_or tail (71 - length content) 0 =
          get_or-append_right content (b ∷ tail) (length content) 72 0 refl (omega arith) ∙ ap (λ (i : ℕ). get_or (b ∷ tail) i 0) next in
          let byte : is_tail_byte (letter line) ≡ true = ap is_tail_byte at
          ∙ all_at is_tail_byte tail (71 - length content) (omega (arith, long, length-append content (b ∷ tail))) all in
          absurd (both_ways (is_some (section_of (letter line))) (ap (λ (o : Option Section). is_some o) (tail_no_letter (letter line) byte)) p.has_letter)
      | inr (inr gt) ↦
          let cut : drop 73 line ≡ drop 73 content ++ b ∷ tail = drop-append-le 73 content (b ∷ tail) (omega arith) in
          let behind : list_all is_tail_byte (b ∷ tail) ≡ true =
          (list_all-parts is_tail_byte (drop 73 content) (b ∷ tail) (ap (list_all is_tail_byte) (sym cut) ∙ p.tail)).1 in
          absurd (both_ways (is_tail_byte b) other (and_parts (is_tail_byte b) (list_all is_tail_byte tail) behind).0)
    ]
