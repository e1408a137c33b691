-- The tiny file: its lines and its sections.
use Rattle.std.proofs.Common.{◌≡◌, ℕ, ◌∷◌, [], List, ◌++◌, length, Ok, Err, refl, arith}
use Rattle.std.specs.Prelude.{codes, flat_map, take}
use Rattle.iges_lines.specs.declared.reason.Reason.TheVariants.{Length, Missing, Number, Counts, After, NotFixed, Letter}
use Rattle.iges_lines.specs.Lines.{SectionLines, lines}
use Rattle.iges_lines.specs.Sectioned.{IsSectioned}
use Rattle.iges_lines.specs.Reading.{first_from, read_sections}

abbrev pub s1 : List ℕ
s1 = codes "tiny                                                                    S      1"

abbrev pub g1 : List ℕ
g1 = codes "1H,,1H;;                                                                G      1"

abbrev pub d1 : List ℕ
d1 = codes "     186       1       0       0       0       0       0       000000000D      1"

abbrev pub d2 : List ℕ
d2 = codes "     186       0       0       1       0                               0D      2"

abbrev pub p1 : List ℕ
p1 = codes "186,0,1,0;                                                             1P      1"

abbrev pub t1 : List ℕ
t1 = codes "S      1G      1D      2P      1                                        T      1"

abbrev pub text_of : List (List ℕ) → List ℕ
text_of ls = flat_map (λ l. l ++ 10 ∷ []) ls

abbrev pub tiny : List ℕ
tiny = text_of (s1 ∷ g1 ∷ d1 ∷ d2 ∷ p1 ∷ t1 ∷ [])

abbrev pub tiny_sections : SectionLines
tiny_sections = record { start = s1 ∷ []; global = g1 ∷ []; directory = d1 ∷ d2 ∷ []; param = p1 ∷ [] }

size : length tiny ≡ 486
size = refl

cut_tiny : lines tiny ≡ s1 ∷ g1 ∷ d1 ∷ d2 ∷ p1 ∷ t1 ∷ []
cut_tiny = refl

reads : read_sections tiny ≡ Ok tiny_sections
unfolding read_sections first_from
reads = refl

pub by_grammar : IsSectioned tiny tiny_sections
by_grammar = record {
  last = t1;
  after = [];
  whole = refl;
  some_start = search arith;
  some_global = search arith;
  start = (record { long = refl; letter_is = refl; number_is = refl }, tt);
  global = (record { long = refl; letter_is = refl; number_is = refl }, tt);
  directory = (record { long = refl; letter_is = refl; number_is = refl }, (record { long = refl; letter_is = refl; number_is = refl }, tt));
  param = (record { long = refl; letter_is = refl; number_is = refl }, tt);
  terminate = record {
    numbered = record { long = refl; letter_is = refl; number_is = refl };
    start = (refl, refl);
    global = (refl, refl);
    directory =
        (refl, refl);
    param = (refl, refl);
  };
  blank = refl;
}

cut_short : read_sections (take 364 tiny) ≡ Err (record { line = 5; reason = Length })
unfolding read_sections first_from
cut_short = refl

no_end : read_sections (take 405 tiny) ≡ Err (record { line = 6; reason = Missing })
unfolding read_sections first_from
no_end = refl

numbered_three : read_sections (text_of (s1 ∷ g1 ∷ d1 ∷ (take 72 d2 ++ codes "D      3") ∷ p1 ∷ t1 ∷ [])) ≡ Err (record { line = 4; reason = Number })
unfolding read_sections first_from
numbered_three = refl

counts_two : read_sections (text_of (s1 ∷ g1 ∷ d1 ∷ d2 ∷ p1 ∷ codes "S      1G      1D      2P      2                                        T      1" ∷ [])) ≡
    Err (record { line = 6; reason = Counts })
unfolding read_sections first_from
counts_two = refl

seventh : read_sections (tiny ++ codes "x") ≡ Err (record { line = 7; reason = After })
unfolding read_sections first_from
seventh = refl

empty : read_sections [] ≡ Err (record { line = 1; reason = Missing })
unfolding read_sections first_from
empty = refl

flagged : read_sections (text_of ((take 72 s1 ++ codes "C      1") ∷ g1 ∷ [])) ≡ Err (record { line = 1; reason = NotFixed })
unfolding read_sections first_from
flagged = refl

out_of_order : read_sections (text_of (s1 ∷ g1 ∷ d1 ∷ g1 ∷ t1 ∷ [])) ≡ Err (record { line = 4; reason = Letter })
unfolding read_sections first_from
out_of_order = refl

no_global : read_sections (text_of (s1 ∷ d1 ∷ d2 ∷ t1 ∷ [])) ≡ Err (record { line = 2; reason = Missing })
unfolding read_sections first_from
no_global = refl

-- CR before LF, and no LF at the end
with_CR : read_sections (flat_map (λ l. l ++ 13 ∷ 10 ∷ []) (s1 ∷ g1 ∷ d1 ∷ d2 ∷ p1 ∷ []) ++ t1) ≡ Ok tiny_sections
unfolding read_sections first_from
with_CR = refl
