-- A text that ends with LF, and what stands behind it, are cut one by one.
use Rattle.std.proofs.Common.{◌≡◌, ◌∙◌, ℕ, suc, ◌+◌, ◌≤◌, ◌<◌, ◌==◌, Bool, true, false, cond, List, [], ◌∷◌, ◌++◌, flat_map, length, refl, sym, ap, arith}
use Rattle.std.proofs.Common.{append_assoc}
use Rattle.std.proofs.lemmas.List.{append-nil, length-append}
use Rattle.std.proofs.lemmas.Grind.{flat_map-append}
use Rattle.cert_lines.specs.Line.{cut_lines, put_before}

abbrev pub joined : List (List ℕ) → List ℕ
joined lines = flat_map (λ (line : List ℕ). line) lines

joined_before : (b : ℕ) (ls : List (List ℕ)) → joined (put_before b ls) ≡ b ∷ joined ls
joined_before b [] = refl
joined_before b (l ∷ ls) = refl

-- the lines of a text, one after the other, are the text
pub joined_cut : (text : List ℕ) → joined (cut_lines text) ≡ text
joined_cut [] = refl
joined_cut (b ∷ bs) = by_test (b == 10) (joined_cut bs)
  where
    by_test : (t : Bool) → joined (cut_lines bs) ≡ bs → joined (cond t ((b ∷ []) ∷ cut_lines bs) (put_before b (cut_lines bs))) ≡ b ∷ bs
    by_test true rest = ap (λ (xs : List ℕ). b ∷ xs) rest
    by_test false rest = joined_before b (cut_lines bs) ∙ ap (λ (xs : List ℕ). b ∷ xs) rest

put_append : (b : ℕ) (xs ys : List (List ℕ)) → 0 < length xs → put_before b (xs ++ ys) ≡ put_before b xs ++ ys
put_append b [] ys some = absurd (omega (arith, some))
put_append b (x ∷ xs) ys some = refl

some_before : (b : ℕ) (ls : List (List ℕ)) → 0 < length (put_before b ls)
some_before b [] = omega arith
some_before b (l ∷ ls) = omega arith

some_cut : (front : List ℕ) → 0 < length (cut_lines (front ++ 10 ∷ []))
some_cut [] = omega arith
some_cut (b ∷ front) = by_test (b == 10)
  where
    by_test : (t : Bool) → 0 < length (cond t ((b ∷ []) ∷ cut_lines (front ++ 10 ∷ [])) (put_before b (cut_lines (front ++ 10 ∷ []))))
    by_test true = omega arith
    by_test false = some_before b (cut_lines (front ++ 10 ∷ []))

cut_ended : (front more : List ℕ) → cut_lines ((front ++ 10 ∷ []) ++ more) ≡ cut_lines (front ++ 10 ∷ []) ++ cut_lines more
cut_ended [] more = refl
cut_ended (b ∷ front) more = by_test b front more (b == 10) (cut_ended front more)
  where
    by_test : (b : ℕ) (front more : List ℕ) (t : Bool) → cut_lines ((front ++ 10 ∷ []) ++ more) ≡ cut_lines (front ++ 10 ∷ []) ++ cut_lines more
        → cond t ((b ∷ []) ∷ cut_lines ((front ++ 10 ∷ []) ++ more)) (put_before b (cut_lines ((front ++ 10 ∷ []) ++ more)))
        ≡ cond t ((b ∷ []) ∷ cut_lines (front ++ 10 ∷ [])) (put_before b (cut_lines (front ++ 10 ∷ []))) ++ cut_lines more
    by_test b front more true rest = ap (λ (ls : List (List ℕ)). (b ∷ []) ∷ ls) rest
    by_test b front more false rest = ap (put_before b) rest ∙ put_append b (cut_lines (front ++ 10 ∷ [])) (cut_lines more) (some_cut front)

-- where the last line has its LF, what follows is cut for itself
pub cut_behind : (text more : List ℕ) (good : List (List ℕ)) (words : List ℕ) → cut_lines text ≡ good ++ (words ++ 10 ∷ []) ∷ []
    → cut_lines (text ++ more) ≡ (good ++ (words ++ 10 ∷ []) ∷ []) ++ cut_lines more
cut_behind text more good words cut =
    let last : joined (good ++ (words ++ 10 ∷ []) ∷ []) ≡ (joined good ++ words) ++ 10 ∷ [] =
    flat_map-append (λ (line : List ℕ). line) good ((words ++ 10 ∷ []) ∷ []) ∙ ap (λ (xs : List ℕ). joined good ++ xs) (append-nil (words ++ 10 ∷ []))
    ∙ sym (append_assoc (joined good) words (10 ∷ [])) in
    let whole : text ≡ (joined good ++ words) ++ 10 ∷ [] = sym (joined_cut text) ∙ ap joined cut ∙ last in
    ap (λ (t : List ℕ). cut_lines (t ++ more)) whole ∙ cut_ended (joined good ++ words) more ∙ ap (λ (t : List ℕ). cut_lines t ++ cut_lines more) (sym whole)
    ∙ ap (λ (ls : List (List ℕ)). ls ++ cut_lines more) cut

length_before : (b : ℕ) (ls : List (List ℕ)) → length (put_before b ls) ≤ suc (length ls)
length_before b [] = omega arith
length_before b (l ∷ ls) = omega arith

-- a text has no more lines than bytes
pub few_lines : (text : List ℕ) → length (cut_lines text) ≤ length text
few_lines [] = omega arith
few_lines (b ∷ bs) = by_test (b == 10) (few_lines bs)
  where
    by_test : (t : Bool) → length (cut_lines bs) ≤ length bs → length (cond t ((b ∷ []) ∷ cut_lines bs) (put_before b (cut_lines bs))) ≤ length (b ∷ bs)
    by_test true few = omega (arith, few)
    by_test false few = omega (arith, few, length_before b (cut_lines bs))

-- a text with a last line behind good ones has a byte for each
pub some_bytes : (text : List ℕ) (good : List (List ℕ)) (bytes : List ℕ) → cut_lines text ≡ good ++ bytes ∷ [] → length good + 1 ≤ length text
some_bytes text good bytes cut =
    let count : length (cut_lines text) ≡ length good + 1 = ap (λ (ls : List (List ℕ)). length ls) cut ∙ length-append good (bytes ∷ []) in
    omega (arith, count, few_lines text)
