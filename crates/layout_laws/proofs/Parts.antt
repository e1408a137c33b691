-- The parts of a line: 72 columns, a letter, seven columns, and what is after them.
use Rattle.std.proofs.Common.{◌≡◌, ℕ, ◌+◌, ◌≤◌, List, [], ◌∷◌, ◌++◌, length, get_or, take, drop, sym, ap, ◌∙◌, append_assoc, arith, length-append, length-drop}
use Rattle.std.proofs.lemmas.List.{take_at, drop_at, take_all, length-take-le, take-take, drop-take, take-append-drop, drop_more, get_or-drop}
use Rattle.line_layout.specs.Columns.{columns}
use Rattle.line_layout.specs.Judging.{letter}

abbrev pub line_of : List ℕ → ℕ → List ℕ → List ℕ → List ℕ
line_of front b field tail = front ++ b ∷ (field ++ tail)

module _ (front field tail : List ℕ) (b : ℕ) (long : length front ≡ 72) (seven : length field ≡ 7) where
  pub content_is : columns 1 72 (line_of front b field tail) ≡ front
  content_is = take_at front (b ∷ (field ++ tail)) 72 long

  behind_letter : drop 73 (line_of front b field tail) ≡ field ++ tail
  behind_letter = ap (drop 73) (sym (append_assoc front (b ∷ []) (field ++ tail)))
      ∙ drop_at (front ++ b ∷ []) (field ++ tail) 73 (omega (arith, length-append front (b ∷ []), long))

  pub field_is : columns 74 80 (line_of front b field tail) ≡ field
  field_is = ap (take 7) behind_letter ∙ take_at field tail 7 seven

  pub beyond_is : drop 80 (line_of front b field tail) ≡ tail
  beyond_is = ap (drop 80) (sym (append_assoc front (b ∷ field) tail))
      ∙ drop_at (front ++ b ∷ field) tail 80 (omega (arith, length-append front (b ∷ field), long, seven))

  pub length_is : length (line_of front b field tail) ≡ 80 + length tail
  length_is = omega (arith, length-append front (b ∷ (field ++ tail)), length-append field tail, long, seven)

  at_letter : drop 72 (line_of front b field tail) ≡ b ∷ (field ++ tail)
  at_letter = drop_at front (b ∷ (field ++ tail)) 72 long

  pub letter_is : letter (line_of front b field tail) ≡ b
  letter_is = sym (get_or-drop 72 (line_of front b field tail) 0 0) ∙ ap (λ (l : List ℕ). get_or l 0 0) at_letter

  pub at_field : (i : ℕ) → get_or (line_of front b field tail) (73 + i) 0 ≡ get_or (field ++ tail) i 0
  at_field i = sym (get_or-drop 73 (line_of front b field tail) i 0) ∙ ap (λ (l : List ℕ). get_or l i 0) behind_letter

-- a line of 80 bytes is its parts
pub whole_line : (line : List ℕ) → length line ≡ 80 → line ≡ columns 1 72 line ++ letter line ∷ columns 74 80 line
whole_line line long =
    let seven : take 7 (drop 73 line) ≡ drop 73 line = take_all 7 (drop 73 line) (omega (arith, length-drop 73 line, long)) in
    sym (take-append-drop 72 line) ∙ ap (λ (l : List ℕ). take 72 line ++ l) (drop_more line 72 0 (omega (arith, long))
    ∙ ap (λ (l : List ℕ). letter line ∷ l) (sym seven))

pub length_field : (line : List ℕ) → 80 ≤ length line → length (columns 74 80 line) ≡ 7
length_field line long = length-take-le 7 (drop 73 line) (omega (arith, length-drop 73 line))

pub length_content : (line : List ℕ) → 72 ≤ length line → length (columns 1 72 line) ≡ 72
length_content line long = length-take-le 72 line long

-- columns within the first 72
pub same_columns : (a n : ℕ) (xs ys : List ℕ) → a + n ≤ 72 → take 72 xs ≡ take 72 ys → take n (drop a xs) ≡ take n (drop a ys)
same_columns a n xs ys h e =
    sym (drop-take a n xs) ∙ ap (drop a) (sym (take-take (a + n) 72 xs h) ∙ ap (take (a + n)) e ∙ take-take (a + n) 72 ys h) ∙ drop-take a n ys
