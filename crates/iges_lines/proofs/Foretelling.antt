-- Where a line passes, each that ends with the next number passes behind it.
use Rattle.std.proofs.Common.{◌≡◌, ℕ, zero, suc, ◌+◌, ◌<◌, ◌≤◌, true, false, List, [], ◌∷◌, ◌++◌, length, take, drop, get_or, set, pos, Some, None, refl, sym}
use Rattle.std.proofs.Common.{ap, subst, ◌∙◌, arith, length-append}
use Rattle.std.specs.Prelude.{nat_lt, nat_le}
use Rattle.std.specs.Char.{is_ascii_digit}
use Rattle.std.specs.List.{list_all}
use Rattle.std.specs.Int.{from_le_bytes, to_le_bytes, w64}
use Rattle.std.proofs.lemmas.Bool.{and_parts, and_from, and_left, and_right, le-leb}
use Rattle.std.proofs.lemmas.List.{nil_from_length, length-set}
use Rattle.std.proofs.lemmas.Nat.{le_bytes_8}
use Rattle.std.proofs.lemmas.Str.{digit_value_digit}
use Rattle.iges_base.specs.First.{first_failing}
use Rattle.iges_base.specs.Word.{column_number, is_empty}
use Rattle.iges_lines.specs.declared.kind.Kind.{Kind}
use Rattle.iges_lines.specs.declared.kind.Kind.TheVariants as kind
use Rattle.iges_lines.specs.Foretold.{Foretells, AreNextDigits, IsNextEnding}
use Rattle.iges_lines.specs.Kinds.{IsKind, added, is_last}
use Rattle.iges_lines.specs.Lines.{SectionLines, sections, columns, letter}
use Rattle.iges_lines.specs.LineFaults.{section_place, tests_at, line_tests}
use Rattle.iges_lines.specs.Sectioned.{IsNumbered}
use Rattle.iges_base.proofs.Tests.{passes}
use Rattle.iges_lines.proofs.Numerals.{next_number}
use Rattle.iges_lines.proofs.SixTests.{place_is}
use Rattle.iges_lines.proofs.Walk.{says_S, says_G, says_D, says_P, pass_S, pass_G, pass_D, pass_P}

-- ---- endings

pub same_bytes : (left right : List ℕ) → length left ≡ 8 → length right ≡ 8 → ((i : ℕ) → get_or left i 0 < 256) → ((i : ℕ) → get_or right i 0 < 256) →
    from_le_bytes w64 left ≡ from_le_bytes w64 right
    → left ≡ right
same_bytes left right l r few less e = sym (le_bytes_8 left _ l few refl) ∙ le_bytes_8 right _ r less e

added_byte : (bytes : List ℕ) → length bytes ≡ 8 → from_le_bytes w64 bytes + 72057594037927936 ≡ from_le_bytes w64 (set bytes 7 (get_or bytes 7 0 + 1))
added_byte [] l = absurd (omega arith)
added_byte (a ∷ []) l = absurd (omega arith)
added_byte (a ∷ b ∷ []) l = absurd (omega arith)
added_byte (a ∷ b ∷ c ∷ []) l = absurd (omega arith)
added_byte (a ∷ b ∷ c ∷ d ∷ []) l = absurd (omega arith)
added_byte (a ∷ b ∷ c ∷ d ∷ e ∷ []) l = absurd (omega arith)
added_byte (a ∷ b ∷ c ∷ d ∷ e ∷ f ∷ []) l = absurd (omega arith)
added_byte (a ∷ b ∷ c ∷ d ∷ e ∷ f ∷ g ∷ []) l = absurd (omega arith)
added_byte (a ∷ b ∷ c ∷ d ∷ e ∷ f ∷ g ∷ h ∷ []) l = omega arith
added_byte (a ∷ b ∷ c ∷ d ∷ e ∷ f ∷ g ∷ h ∷ x ∷ bytes) l = absurd (omega arith)

set_less : (bytes : List ℕ) (n y : ℕ) → y < 256 → ((i : ℕ) → get_or bytes i 0 < 256) → (i : ℕ) → get_or (set bytes n y) i 0 < 256
set_less [] n y h less i = less i
set_less (b ∷ bytes) zero y h less zero = h
set_less (b ∷ bytes) zero y h less (suc i) = less (suc i)
set_less (b ∷ bytes) (suc n) y h less zero = less 0
set_less (b ∷ bytes) (suc n) y h less (suc i) = set_less bytes n y h (λ j. less (suc j)) i

pub last_more : (bytes : List ℕ) → length bytes ≡ 8 → ((i : ℕ) → get_or bytes i 0 < 256) → get_or bytes 7 0 < 255 →
    to_le_bytes w64 (from_le_bytes w64 bytes + 72057594037927936) ≡ set bytes 7 (get_or bytes 7 0 + 1)
last_more bytes long less few =
    let more = set bytes 7 (get_or bytes 7 0 + 1) in
    le_bytes_8 more _ (length-set bytes 7 (get_or bytes 7 0 + 1) ∙ long) (set_less bytes 7 (get_or bytes 7 0 + 1) (omega (arith, few)) less)
    (added_byte bytes long)

split_last : (n : ℕ) (e : List ℕ) (y : ℕ) → length e ≡ n + 1 → (e ≡ take n e ++ get_or e n 0 ∷ []) × (set e n y ≡ take n e ++ y ∷ [])
split_last n [] y h = absurd (omega (arith, h))
split_last zero (x ∷ e) y h = let none = nil_from_length e (omega (arith, h)) in (ap (λ (t : List ℕ). x ∷ t) none, ap (λ (t : List ℕ). y ∷ t) none)
split_last (suc n) (x ∷ e) y h =
    let more = split_last n e y (omega (arith, h)) in
    (ap (λ (t : List ℕ). x ∷ t) more.0, ap (λ (t : List ℕ). x ∷ t) more.1)

is_digit : (b : ℕ) → 48 ≤ b → b ≤ 57 → is_ascii_digit b ≡ true
is_digit b low high = and_from (nat_le 48 b) (nat_le b 57) (le-leb 48 b low) (le-leb b 57 high)

one_digit : (b : ℕ) → 48 ≤ b → b ≤ 56 → AreNextDigits (b ∷ []) ((b + 1) ∷ [])
one_digit b low high = record {
  some = omega arith;
  next_some = omega arith;
  all = and_from _ _ (is_digit b low (omega arith)) refl;
  next_all = and_from _ _ (is_digit (b + 1) (omega arith) (omega arith)) refl;
  value = λ n. omega (
    arith,
    digit_value_digit b (low, (let h : b ≤ 57 = omega arith in h)),
    digit_value_digit (b + 1) ((let l : 48 ≤ b + 1 = omega arith in l), (let h : b + 1 ≤ 57 = omega arith in h)),
  );
}

pub next_of_last : (e : List ℕ) → length e ≡ 8 → 48 ≤ get_or e 7 0 → get_or e 7 0 ≤ 56 → IsNextEnding e (set e 7 (get_or e 7 0 + 1))
next_of_last e long low high =
    let k = split_last 7 e (get_or e 7 0 + 1) long in
    record {
      front = take 7 e;
      digits = get_or e 7 0 ∷ [];
      next_digits = (get_or e 7 0 + 1) ∷ [];
      is = k.0;
      next_is = k.1;
      some = omega (arith, long, ap length k.0, length-append (take 7 e) (get_or e 7 0 ∷ []));
      are_next = one_digit (get_or e 7 0) low high;
    }

split_two : (n : ℕ) (e : List ℕ) (y z : ℕ) → length e ≡ n + 2 →
    (e ≡ take n e ++ get_or e n 0 ∷ get_or e (suc n) 0 ∷ []) × (set (set e n y) (suc n) z ≡ take n e ++ y ∷ z ∷ [])
split_two n [] y z h = absurd (omega (arith, h))
split_two zero (x ∷ e) y z h = let k = split_last 0 e z (omega (arith, h)) in (ap (λ (t : List ℕ). x ∷ t) k.0, ap (λ (t : List ℕ). y ∷ t) k.1)
split_two (suc n) (x ∷ e) y z h =
    let more = split_two n e y z (omega (arith, h)) in
    (ap (λ (t : List ℕ). x ∷ t) more.0, ap (λ (t : List ℕ). x ∷ t) more.1)

two_digits : (b : ℕ) → 48 ≤ b → b ≤ 56 → AreNextDigits (b ∷ 57 ∷ []) ((b + 1) ∷ 48 ∷ [])
two_digits b low high = record {
  some = omega arith;
  next_some = omega arith;
  all = and_from _ _ (is_digit b low (omega arith)) refl;
  next_all = and_from _ _ (is_digit (b + 1) (omega arith) (omega arith)) refl;
  value = λ n. omega (
    arith,
    digit_value_digit b (low, (let h : b ≤ 57 = omega arith in h)),
    digit_value_digit (b + 1) ((let l : 48 ≤ b + 1 = omega arith in l), (let h : b + 1 ≤ 57 = omega arith in h)),
  );
}

pub next_of_ten : (e : List ℕ) → length e ≡ 8 → get_or e 7 0 ≡ 57 → 48 ≤ get_or e 6 0 → get_or e 6 0 ≤ 56 →
    IsNextEnding e (set (set e 6 (get_or e 6 0 + 1)) 7 48)
next_of_ten e long nine low high =
    let k = split_two 6 e (get_or e 6 0 + 1) 48 long in
    let is : e ≡ take 6 e ++ get_or e 6 0 ∷ 57 ∷ [] = k.0 ∙ ap (λ (b : ℕ). take 6 e ++ get_or e 6 0 ∷ b ∷ []) nine in
    record {
      front = take 6 e;
      digits = get_or e 6 0 ∷ 57 ∷ [];
      next_digits = (get_or e 6 0 + 1) ∷ 48 ∷ [];
      is = is;
      next_is = k.1;
      some = omega (arith, long, ap length is, length-append (take 6 e) (get_or e 6 0 ∷ 57 ∷ []));
      are_next = two_digits (get_or e 6 0) low high;
    }

-- ---- the letter and the number of an ending

letter_at : (n m : ℕ) (line : List ℕ) → get_or (take (suc m) (drop n line)) 0 0 ≡ get_or line n 0
letter_at zero m [] = refl
letter_at zero m (x ∷ line) = refl
letter_at (suc n) m [] = refl
letter_at (suc n) m (x ∷ line) = letter_at n m line

none_of_none : (m : ℕ) → [] ≡ take {A = ℕ} m []
none_of_none zero = refl
none_of_none (suc m) = refl

number_at : (n m : ℕ) (line : List ℕ) → drop 1 (take (suc m) (drop n line)) ≡ take m (drop (suc n) line)
number_at zero m [] = none_of_none m
number_at zero m (x ∷ line) = refl
number_at (suc n) m [] = none_of_none m
number_at (suc n) m (x ∷ line) = number_at n m line

letter_in : (line : List ℕ) → get_or (columns 73 80 line) 0 0 ≡ letter line
letter_in line = letter_at 72 7 line

number_in : (line : List ℕ) → drop 1 (columns 73 80 line) ≡ columns 74 80 line
number_in line = number_at 72 7 line

front_letter : (front x y : List ℕ) → 0 < length front → get_or (front ++ x) 0 0 ≡ get_or (front ++ y) 0 0
front_letter [] x y h = absurd (omega arith)
front_letter (b ∷ front) x y h = refl

front_rest : (front x : List ℕ) → 0 < length front → drop 1 (front ++ x) ≡ drop 1 front ++ x
front_rest [] x h = absurd (omega arith)
front_rest (b ∷ front) x h = refl

module _ (line next : List ℕ) (e : IsNextEnding (columns 73 80 line) (columns 73 80 next)) where
  next_letter : letter next ≡ letter line
  next_letter =
      sym (letter_in next) ∙ ap (λ (t : List ℕ). get_or t 0 0) e.next_is ∙ front_letter e.front e.next_digits e.digits e.some
      ∙ ap (λ (t : List ℕ). get_or t 0 0) (sym e.is) ∙ letter_in line

  number_of_next : (n : ℕ) → 0 < n → column_number (columns 74 80 line) ≡ Some (pos n) → column_number (columns 74 80 next) ≡ Some (pos (n + 1))
  number_of_next n some is =
      let was : columns 74 80 line ≡ drop 1 e.front ++ e.digits = sym (number_in line) ∙ ap (drop 1) e.is ∙ front_rest e.front e.digits e.some in
      let now : columns 74 80 next ≡ drop 1 e.front ++ e.next_digits = sym (number_in next) ∙ ap (drop 1) e.next_is ∙ front_rest e.front e.next_digits e.some in
      ap column_number now ∙ next_number (drop 1 e.front) e.digits e.next_digits n e.are_next some (ap column_number (sym was) ∙ is)

  numbered : (section : ℕ) (ls : List (List ℕ)) → IsNumbered section (length ls + 1) line → length next ≡ 80 →
      IsNumbered section (length (ls ++ line ∷ []) + 1) next
  numbered section ls h long = record {
    long = long;
    letter_is = next_letter ∙ h.letter_is;
    number_is = number_of_next (length ls + 1) (omega arith) h.number_is ∙ ap (λ (n : ℕ). Some (pos (n + 1))) (sym (length-append ls (line ∷ [])));
  }

-- ---- the sections with a line more

pushed : (ls : List (List ℕ)) (line : List ℕ) → is_empty (ls ++ line ∷ []) ≡ false
pushed [] line = refl
pushed (l ∷ ls) line = refl

some_pushed : (ls : List (List ℕ)) (line : List ℕ) → 0 < length (ls ++ line ∷ [])
some_pushed ls line = omega (arith, length-append ls (line ∷ []))

module _ (s : SectionLines) (line : List ℕ) where
  not_first_G : list_all is_empty (sections (added s kind.Global line)) ≡ false
  not_first_G = and_right (is_empty s.start) _ (and_left (is_empty (s.global ++ line ∷ [])) _ (pushed s.global line))

  not_first_D : list_all is_empty (sections (added s kind.Directory line)) ≡ false
  not_first_D = and_right (is_empty s.start) _ (and_right (is_empty s.global) _ (and_left (is_empty (s.directory ++ line ∷ [])) _ (pushed s.directory line)))

  not_first_P : list_all is_empty (sections (added s kind.Param line)) ≡ false
  not_first_P = and_right (is_empty s.start) _ (and_right (is_empty s.global) _
      (and_right (is_empty s.directory) _ (and_left (is_empty (s.param ++ line ∷ [])) _ (pushed s.param line))))

  passes_at : (x : ℕ) → letter line ≡ x → None ≡ first_failing (line_tests s line) → first_failing (tests_at s (section_place x) line) ≡ None
  passes_at x is none = ap (λ (p : ℕ). first_failing (tests_at s p line)) (sym (ap section_place is)) ∙ sym none

  other_fails : IsKind kind.Other (letter line) → None ≡ first_failing (line_tests s line) → ⊥
  other_fails is none =
      let t = passes (line_tests s line) (sym none) in
      let lt : nat_lt (section_place (letter line)) 5 ≡ true = (and_parts (nat_lt (section_place (letter line)) 5) _ t.1.1.0).0 in
      let no : nat_lt 5 5 ≡ true = ap (λ (p : ℕ). nat_lt p 5) (place_is kind.Other (letter line) is) ∙ lt in
      absurd cc

  pub foretold : (k : Kind) (ending : List ℕ) → IsKind k (letter line) → is_last k ≡ false → None ≡ first_failing (line_tests s line) →
      IsNextEnding (columns 73 80 line) ending → Foretells (added s k line) ending
  foretold kind.Start ending is open_still none e = λ next long ends.
      let w = says_S s line is (passes_at 83 is none) in
      sym (pass_S (added s kind.Start line) next (numbered line next (subst (IsNextEnding (columns 73 80 line)) (sym ends) e) 83 s.start w.0 long) w.1 w.2 w.3)
  foretold kind.Global ending is open_still none e = λ next long ends.
      let w = says_G s line is (passes_at 71 is none) in
      sym (pass_G (added s kind.Global line) next (numbered line next (subst (IsNextEnding (columns 73 80 line)) (sym ends) e) 71 s.global w.0 long) w.1 w.2
      not_first_G)
  foretold kind.Directory ending is open_still none e = λ next long ends.
      let w = says_D s line is (passes_at 68 is none) in
      sym (pass_D (added s kind.Directory line) next (numbered line next (subst (IsNextEnding (columns 73 80 line)) (sym ends) e) 68 s.directory w.0 long) w.1
      not_first_D w.3)
  foretold kind.Param ending is open_still none e = λ next long ends.
      let w = says_P s line is (passes_at 80 is none) in
      sym (pass_P (added s kind.Param line) next (numbered line next (subst (IsNextEnding (columns 73 80 line)) (sym ends) e) 80 s.param w.0 long) not_first_P
      w.2)
  foretold kind.Terminate ending is open_still none e = absurd cc
  foretold kind.Other ending is open_still none e = absurd (other_fails is none)
