-- Sheets and what is put on them.
use Rattle.std.proofs.Common.{◌≡◌, ℕ, ◌+◌, ◌-◌, ◌<◌, ◌≤◌, Bool, true, false, List, [], ◌∷◌, ◌++◌, length, take, drop, map, replicate, refl, sym, ap, subst, ◌∙◌}
use Rattle.std.proofs.Common.{append_assoc, arith, length-append, inl, inr, Result}
use Rattle.std.specs.Prelude.{nat_le, if◌then◌else◌, flat_map}
use Rattle.std.specs.List.{enumerate_from}
use Rattle.std.specs.Fmt.{decimal}
use Rattle.std.proofs.lemmas.List.{append-nil, map-append, length-map, length-replicate, nil_from_length, take-append-drop, take-append-le, take-replicate}
use Rattle.std.proofs.lemmas.List.{take_all, drop_all, drop-append-le}
use Rattle.std.proofs.lemmas.Bool.{le-leb, lt-leb}
use Rattle.std.proofs.lemmas.Bool.Decides.{leb_tells}
use Rattle.std.specs.Result.{IsErrAnd}
use Rattle.std.proofs.lemmas.Result.{err_from_is_err_and}
use Rattle.iges_fields.specs.declared.value.Value.{Value}
use Rattle.iges_fields.specs.declared.value.Value.TheVariants as value
use Rattle.iges_fields.specs.Delims.{Delims}
use Rattle.iges_base.specs.Word.{spaces}
use Rattle.iges_write.specs.declared.fault.WriteFileFault.{WriteFileFault}
use Rattle.iges_write.specs.declared.fault.WriteFileFault.TheVariants as fault
use Rattle.iges_write.specs.Filled.{padded}
use Rattle.iges_write.specs.Filling.{fill}
use Rattle.iges_write.specs.Parts.{single_parts, word_parts, value_parts, parts}
use Rattle.iges_write.specs.Text.{right}
use Rattle.iges_write.specs.Sheet.{Sheet, whole_line, ended, end_line, add, make_room, put_part, put_parts, page_lines, put_lines, with_tail, IsSheet, Fails}
use Rattle.iges_write.specs.Sheet.{Steps, next_delimiter}
use Rattle.iges_write.proofs.Columns.{right-is}
use Rattle.iges_write.proofs.Filling.{fill-fits, fill-new}

pub right_grown : (new mid old : List ℕ) (n : ℕ) (text : List ℕ) → length text ≤ n → mid ≡ old ++ spaces (n - length text) → new ≡ mid ++ text
    → new ≡ old ++ right n text
right_grown new mid old n text le m e = e ∙ ap (λ (l : List ℕ). l ++ text) m ∙ append_assoc old (spaces (n - length text)) text
    ∙ ap (λ (l : List ℕ). old ++ l) (sym (right-is n text le))

-- a text that was written over the last of so many spaces
pub right_written : (new old text : List ℕ) (start n : ℕ) → old ≡ spaces n → start + length text ≡ n → drop start new ≡ text ++ drop n old
    → take start new ≡ take start old → new ≡ right n text
right_written new old text start n blank long behind before =
    let none : drop n old ≡ [] = ap (drop n) blank ∙ drop_all n (spaces n) (omega (arith, length-replicate {A = ℕ} n 32)) in
    let front : take start old ≡ spaces start = ap (take start) blank ∙ take-replicate start n 32 (omega (arith, long)) in
    let left : start ≡ n - length text = omega (arith, long) in
    sym (take-append-drop start new)
    ∙ ap (λ (x : List ℕ). x ++ drop start new) (before ∙ front)
    ∙ ap (λ (x : List ℕ). spaces start ++ x) (behind ∙ ap (λ (x : List ℕ). text ++ x) none ∙ append-nil text)
    ∙ ap (λ (k : ℕ). spaces k ++ text) left
    ∙ sym (right-is n text (omega (arith, long)))

-- a text that was written before the last of 21 bytes, with that byte
pub word_written : (new old digits : List ℕ) (start e : ℕ) → old ≡ replicate 21 e → start + length digits ≡ 20 → drop start new ≡ digits ++ drop 20 old
    → take (21 - start) (drop start new) ≡ digits ++ e ∷ []
word_written new old digits start e blank long behind =
    let whole : drop start new ≡ digits ++ e ∷ [] = behind ∙ ap (λ (x : List ℕ). digits ++ drop 20 x) blank in
    ap (take (21 - start)) whole ∙ take_all (21 - start) (digits ++ e ∷ []) (omega (arith, long, length-append digits (e ∷ [])))

some_long : (a b : List ℕ) (x : ℕ) → 0 < length (a ++ x ∷ b)
some_long a b x = omega (arith, length-append a (x ∷ b))

pub some_line : (tail : List ℕ) (letter number : ℕ) (columns : List ℕ) → 0 < length (whole_line tail letter number columns)
unfolding whole_line
some_line tail letter number columns = some_long (columns ++ tail ++ letter ∷ right 7 (decimal number)) [] 10

pub grown_sheet : (text line new tail columns : List ℕ) (letter number limit : ℕ) → IsSheet text number limit → line ≡ whole_line tail letter number columns
    → length line ≤ limit - length text → new ≡ text ++ line → IsSheet new (number + 1) limit
grown_sheet text line new tail columns letter number limit s l le e =
    let some = some_line tail letter number columns in
    let long : length new ≡ length text + length line = ap length e ∙ length-append text line in
    let more : 0 < length line = subst (λ (x : List ℕ). 0 < length x) (sym l) some in
    record { within = omega (arith, s.within); small = s.small; numbered = omega (arith, s.numbered) }

-- ---- room

pub room_fits : (s : Sheet) (k : ℕ) → length s.line + k ≤ s.width → make_room s k ≡ s
room_fits s k h = ap (λ (b : Bool). elim b as (λ _. Sheet) [ true ↦ s | false ↦ end_line s ]) (le-leb (length s.line + k) s.width h)

pub room_new : (s : Sheet) (k : ℕ) → s.width < length s.line + k → make_room s k ≡ end_line s
room_new s k h = ap (λ (b : Bool). elim b as (λ _. Sheet) [ true ↦ s | false ↦ end_line s ]) (lt-leb (length s.line + k) s.width h)

-- a part keeps the form, and what stands
pub record Grows (s t : Sheet) : Type 0 where
  pub tail : t.tail ≡ s.tail
  pub letter : t.letter ≡ s.letter
  pub width : t.width ≡ s.width
  pub limit : t.limit ≡ s.limit
  pub text : length s.text ≤ length t.text

room_grows : (s : Sheet) (k : ℕ) → Grows s (make_room s k)
room_grows s k = by_test (nat_le (length s.line + k) s.width)
  where
    by_test : (b : Bool) → Grows s (elim b as (λ _. Sheet) [ true ↦ s | false ↦ end_line s ])
    by_test true = record { tail = refl; letter = refl; width = refl; limit = refl; text = omega arith }
    by_test false = record { tail = refl; letter = refl; width = refl; limit = refl; text = omega (arith, length-append s.text (ended s)) }

pub part_grows : (s : Sheet) (p : List ℕ) → Grows s (put_part s p)
part_grows s p = let h = room_grows s (length p) in record { tail = h.tail; letter = h.letter; width = h.width; limit = h.limit; text = h.text }

pub grows_on : (s t u : Sheet) → Grows s t → Grows t u → Grows s u
grows_on s t u a b = record {
  tail = b.tail ∙ a.tail;
  letter = b.letter ∙ a.letter;
  width = b.width ∙ a.width;
  limit = b.limit ∙ a.limit;
  text =
      omega (arith, a.text, b.text);
}

pub parts_grow : (s : Sheet) (ps : List (List ℕ)) → Grows s (put_parts s ps)
unfolding put_parts
parts_grow s [] = record { tail = refl; letter = refl; width = refl; limit = refl; text = omega arith }
parts_grow s (p ∷ ps) = grows_on s (put_part s p) (put_parts (put_part s p) ps) (part_grows s p) (parts_grow (put_part s p) ps)

-- what was too large stays it
pub still_large : (s t : Sheet) → Grows s t → s.limit < length s.text → t.limit < length t.text
still_large s t g h = omega (arith, g.limit, g.text, h)

pub parts_behind : (s : Sheet) (ps qs : List (List ℕ)) → put_parts s (ps ++ qs) ≡ put_parts (put_parts s ps) qs
unfolding put_parts
parts_behind s [] qs = refl
parts_behind s (p ∷ ps) qs = parts_behind (put_part s p) ps qs

pub one_part : (s : Sheet) (p : List ℕ) → put_parts s (p ∷ []) ≡ put_part s p
unfolding put_parts
one_part s p = refl

pub first_part : (s : Sheet) (p : List ℕ) (ps : List (List ℕ)) → put_parts s (p ∷ ps) ≡ put_parts (put_part s p) ps
unfolding put_parts
first_part s p ps = refl

pub no_parts : (s : Sheet) → put_parts s [] ≡ s
unfolding put_parts
no_parts s = refl

-- ---- steps one after the other

-- what failed on the way fails
pub fails_on : (f : WriteFileFault) (s t : Sheet) → Grows s t → Fails f s → Fails f t
fails_on fault.TooLarge s t g h = still_large s t g h
fails_on fault.NoMemory s t g h = tt

pub failed : {B : Type 0} (o : Result B WriteFileFault) (new mid next : Sheet) (f : WriteFileFault) → Grows mid next → Fails f mid → IsErrAnd o (λ y. y ≡ f)
    → Steps o new next
failed {B} o new mid next f g h e =
    let p = err_from_is_err_and o e in
    subst (λ (x : Result B WriteFileFault). Steps x new next) (sym p.1) (fails_on p.0 mid next g (subst (λ (x : WriteFileFault). Fails x mid) (sym p.2) h))

-- ---- lines

pub filled : (s : Sheet) (ps : List (List ℕ)) → end_line (put_parts s ps) ≡ record {
  text = s.text ++ page_lines s.tail s.letter s.number (fill s.width s.line ps);
  line = [];
  tail = s.tail;
  letter = s.letter;
  number = s.number + length (fill s.width s.line ps);
  width = s.width;
  limit = s.limit;
}
unfolding put_parts page_lines
filled s [] = ap (λ (x : List ℕ).
    record { text = s.text ++ x; line = []; tail = s.tail; letter = s.letter; number = s.number + 1; width = s.width; limit = s.limit })
    (sym (append-nil (ended s)))
filled s (p ∷ ps) =
    elim (leb_tells (length s.line + length p) s.width) [
      | inl t ↦ ap (λ (x : Sheet). end_line (put_parts (add x p) ps)) (room_fits s (length p) t.1)
          ∙ filled (add s p) ps
          ∙ ap (λ (ls : List (List ℕ)). record {
            text = s.text ++ page_lines s.tail s.letter s.number ls;
            line = [];
            tail = s.tail;
            letter = s.letter;
            number = s.number + length ls;
            width = s.width;
            limit = s.limit;
          }) (sym (fill-fits s.width s.line p ps t.1))
      | inr t ↦ ap (λ (x : Sheet). end_line (put_parts (add x p) ps)) (room_new s (length p) t.1)
          ∙ filled (add (end_line s) p) ps
          ∙ sheet_is s (fill s.width p ps)
          ∙ ap (λ (ls : List (List ℕ)). record {
            text = s.text ++ page_lines s.tail s.letter s.number ls;
            line = [];
            tail = s.tail;
            letter = s.letter;
            number = s.number + length ls;
            width = s.width;
            limit = s.limit;
          }) (sym (fill-new s.width s.line p ps t.1))
    ]
  where
    with_both : (s : Sheet) → List ℕ → ℕ → Sheet
    with_both s text number = record { text = text; line = []; tail = s.tail; letter = s.letter; number = number; width = s.width; limit = s.limit }

    sheet_is : (s : Sheet) (ls : List (List ℕ)) → with_both s ((s.text ++ ended s) ++ page_lines s.tail s.letter (s.number + 1) ls) (s.number + 1 + length ls)
        ≡ with_both s (s.text ++ page_lines s.tail s.letter s.number (padded s.width s.line ∷ ls)) (s.number + length (padded s.width s.line ∷ ls))
    sheet_is s ls =
        let number_is : s.number + 1 + length ls ≡ s.number + length (padded s.width s.line ∷ ls) = omega arith in
        ap (λ (x : List ℕ). with_both s x (s.number + 1 + length ls)) (append_assoc s.text (ended s) (page_lines s.tail s.letter (s.number + 1) ls))
        ∙ ap (with_both s (s.text ++ page_lines s.tail s.letter s.number (padded s.width s.line ∷ ls))) number_is

-- ---- words and values

pub next_parts : (n : ℕ) (d : Delims) (v : Value) (vs : List Value) → parts n d (v ∷ vs) ≡ value_parts n v (next_delimiter d vs) ++ parts n d vs
next_parts n d v [] = sym (append-nil (value_parts n v d.end))
next_parts n d v (w ∷ vs) = refl

pub next_single : (b : ℕ) (bs : List ℕ) → single_parts (b ∷ bs) ≡ (b ∷ []) ∷ single_parts bs
next_single b bs = refl

pub singles_behind : (a b : List ℕ) → single_parts (a ++ b) ≡ single_parts a ++ single_parts b
singles_behind a b = map-append (λ (x : ℕ). x ∷ []) a b

pub short_word : (n : ℕ) (word : List ℕ) (e : ℕ) → length word < n → word_parts n (word ++ e ∷ []) ≡ (word ++ e ∷ []) ∷ []
short_word n word e h = ap (λ (b : Bool). if b then (word ++ e ∷ []) ∷ [] else take n (word ++ e ∷ []) ∷ single_parts (drop n (word ++ e ∷ [])))
    (le-leb (length (word ++ e ∷ [])) n (omega (arith, length-append word (e ∷ []))))

-- a word that a line holds is a part
pub word_is_part : (s : Sheet) (word : List ℕ) → length word ≤ s.width → put_part s word ≡ put_parts s (word_parts s.width word)
word_is_part s word h =
    sym (ap (put_parts s) (ap (λ (b : Bool). if b then word ∷ [] else take s.width word ∷ single_parts (drop s.width word)) (le-leb (length word) s.width h))
    ∙ one_part s word)

pub long_word : (n : ℕ) (word : List ℕ) (e : ℕ) → n ≤ length word → word_parts n (word ++ e ∷ []) ≡ (take n word ∷ single_parts (drop n word)) ++ (e ∷ []) ∷ []
long_word n word e h =
    ap (λ (b : Bool). if b then (word ++ e ∷ []) ∷ [] else take n (word ++ e ∷ []) ∷ single_parts (drop n (word ++ e ∷ [])))
    (lt-leb (length (word ++ e ∷ [])) n (omega (arith, length-append word (e ∷ []))))
    ∙ ap (λ (x : List ℕ). x ∷ single_parts (drop n (word ++ e ∷ []))) (take-append-le n word (e ∷ []) h)
    ∙ ap (λ (x : List ℕ). take n word ∷ single_parts x) (drop-append-le n word (e ∷ []) h)
    ∙ ap (λ (x : List (List ℕ)). take n word ∷ x) (singles_behind (drop n word) (e ∷ []))

pub short_is : (s : Sheet) (word : List ℕ) (e : ℕ) → length word < s.width → put_parts s (word_parts s.width (word ++ e ∷ []))
    ≡ add (add (make_room s (length word + 1)) word) (e ∷ [])
short_is s word e h =
    let size : length (word ++ e ∷ []) ≡ length word + 1 = length-append word (e ∷ []) in
    ap (put_parts s) (short_word s.width word e h) ∙ one_part s (word ++ e ∷ [])
    ∙ ap (λ (k : ℕ). add (make_room s k) (word ++ e ∷ [])) size
    ∙ added (make_room s (length word + 1)) word (e ∷ [])
  where
    added : (t : Sheet) (a b : List ℕ) → add t (a ++ b) ≡ add (add t a) b
    added t a b = ap (λ (l : List ℕ).
        record { text = t.text; line = l; tail = t.tail; letter = t.letter; number = t.number; width = t.width; limit = t.limit })
        (sym (append_assoc t.line a b))

pub long_is : (s : Sheet) (word : List ℕ) (e : ℕ) → s.width ≤ length word
    → put_parts s (word_parts s.width (word ++ e ∷ [])) ≡ put_part (put_parts (put_part s (take s.width word)) (single_parts (drop s.width word))) (e ∷ [])
long_is s word e h =
    ap (put_parts s) (long_word s.width word e h)
    ∙ parts_behind s (take s.width word ∷ single_parts (drop s.width word)) ((e ∷ []) ∷ [])
    ∙ ap (λ (t : Sheet). put_parts t ((e ∷ []) ∷ [])) (first_part s (take s.width word) (single_parts (drop s.width word)))
    ∙ one_part (put_parts (put_part s (take s.width word)) (single_parts (drop s.width word))) (e ∷ [])

pub text_is : (s : Sheet) (ps : List (List ℕ)) (text : List ℕ) (e : ℕ) → put_parts s (ps ++ single_parts (text ++ e ∷ []))
    ≡ put_part (put_parts (put_parts s ps) (single_parts text)) (e ∷ [])
text_is s ps text e =
    parts_behind s ps (single_parts (text ++ e ∷ []))
    ∙ ap (put_parts (put_parts s ps)) (singles_behind text (e ∷ []))
    ∙ parts_behind (put_parts s ps) (single_parts text) ((e ∷ []) ∷ [])
    ∙ one_part (put_parts (put_parts s ps) (single_parts text)) (e ∷ [])

-- ---- loops over parts: what is put and what is left are all

pub left_next : (s new t : Sheet) (ps qs all : List (List ℕ)) → all ≡ ps ++ qs → new ≡ put_parts s ps → put_parts s all ≡ t → put_parts new qs ≡ t
left_next s new t ps qs all e n h = ap (λ (x : Sheet). put_parts x qs) n ∙ sym (parts_behind s ps qs) ∙ ap (put_parts s) (sym e) ∙ h

pub left_fails : (s t : Sheet) (ps qs all : List (List ℕ)) → all ≡ ps ++ qs → put_parts s all ≡ t → Grows (put_parts s ps) t
left_fails s t ps qs all e h = subst (Grows (put_parts s ps)) (sym (parts_behind s ps qs) ∙ ap (put_parts s) (sym e) ∙ h) (parts_grow (put_parts s ps) qs)

pub left_none : (s t : Sheet) (all : List (List ℕ)) → all ≡ [] → put_parts s all ≡ t → s ≡ t
left_none s t all e h = sym (no_parts s) ∙ ap (put_parts s) (sym e) ∙ h

-- a sheet grows into one that is another with the same text and more columns
pub grows_at : (t : Sheet) (u : Sheet) (e : t ≡ u) (s : Sheet) → Grows s u → Grows s t
grows_at t u e s g = subst (Grows s) (sym e) g

pub add_grows : (s : Sheet) (b : List ℕ) → Grows s (add s b)
add_grows s b = record { tail = refl; letter = refl; width = refl; limit = refl; text = omega arith }

-- ---- what the steps of a word, a text and a loop come to

module _ (s : Sheet) (word : List ℕ) (e : ℕ) (h : length word < s.width) where
  pub short_room : Grows (make_room s (length word + 1)) (put_parts s (word_parts s.width (word ++ e ∷ [])))
  short_room =
      let room = make_room s (length word + 1) in
      grows_at _ (add (add room word) (e ∷ [])) (short_is s word e h) room
      (grows_on room (add room word) (add (add room word) (e ∷ [])) (add_grows room word) (add_grows (add room word) (e ∷ [])))

  pub short_added : (t : Sheet) → t ≡ make_room s (length word + 1) → Grows (add t word) (put_parts s (word_parts s.width (word ++ e ∷ [])))
  short_added t is = grows_at _ (add (add t word) (e ∷ [])) (short_is s word e h ∙ ap (λ (x : Sheet). add (add x word) (e ∷ [])) (sym is)) (add t word)
      (add_grows (add t word) (e ∷ []))

  pub short_done : (t u : Sheet) → t ≡ make_room s (length word + 1) → u ≡ add t word → add u (e ∷ []) ≡ put_parts s (word_parts s.width (word ++ e ∷ []))
  short_done t u is next = ap (λ (x : Sheet). add x (e ∷ [])) (next ∙ ap (λ (x : Sheet). add x word) is) ∙ sym (short_is s word e h)

module _ (s : Sheet) (word front behind : List ℕ) (e : ℕ) (h : s.width ≤ length word) (f : front ≡ take s.width word) (b : behind ≡ drop s.width word) where
  long_parts : put_parts s (word_parts s.width (word ++ e ∷ [])) ≡ put_part (put_parts (put_part s front) (single_parts behind)) (e ∷ [])
  long_parts = long_is s word e h ∙ ap (λ (x : List ℕ). put_part (put_parts (put_part s x) (single_parts (drop s.width word))) (e ∷ [])) (sym f)
      ∙ ap (λ (x : List ℕ). put_part (put_parts (put_part s front) (single_parts x)) (e ∷ [])) (sym b)

  pub long_front : Grows (put_part s front) (put_parts s (word_parts s.width (word ++ e ∷ [])))
  long_front =
      let t = put_part s front in
      let u = put_parts t (single_parts behind) in
      grows_at _ (put_part u (e ∷ [])) long_parts t (grows_on t u (put_part u (e ∷ [])) (parts_grow t (single_parts behind)) (part_grows u (e ∷ [])))

  pub long_behind : (t : Sheet) → t ≡ put_part s front → Grows (put_parts t (single_parts behind)) (put_parts s (word_parts s.width (word ++ e ∷ [])))
  long_behind t is =
      let u = put_parts t (single_parts behind) in
      grows_at _ (put_part u (e ∷ [])) (long_parts ∙ ap (λ (x : Sheet). put_part (put_parts x (single_parts behind)) (e ∷ [])) (sym is)) u
      (part_grows u (e ∷ []))

  pub long_done : (t u : Sheet) → t ≡ put_part s front → u ≡ put_parts t (single_parts behind)
      → put_part u (e ∷ []) ≡ put_parts s (word_parts s.width (word ++ e ∷ []))
  long_done t u is next = ap (λ (x : Sheet). put_part x (e ∷ [])) (next ∙ ap (λ (x : Sheet). put_parts x (single_parts behind)) is) ∙ sym long_parts

-- some parts, and then the bytes of a text and what stands behind it
module _ (s : Sheet) (ps qs : List (List ℕ)) (text : List ℕ) (e : ℕ) (same : qs ≡ ps) where
  pub text_front : Grows (put_parts s qs) (put_parts s (ps ++ single_parts (text ++ e ∷ [])))
  text_front = subst (λ (x : List (List ℕ)). Grows (put_parts s x) (put_parts s (ps ++ single_parts (text ++ e ∷ [])))) (sym same)
      (grows_at _ (put_parts (put_parts s ps) (single_parts (text ++ e ∷ []))) (parts_behind s ps (single_parts (text ++ e ∷ []))) (put_parts s ps)
      (parts_grow (put_parts s ps) (single_parts (text ++ e ∷ []))))

  pub text_behind : (t : Sheet) → t ≡ put_parts s qs → Grows (put_parts t (single_parts text)) (put_parts s (ps ++ single_parts (text ++ e ∷ [])))
  text_behind t is =
      let u = put_parts t (single_parts text) in
      grows_at _ (put_part u (e ∷ []))
      (text_is s ps text e ∙ ap (λ (x : Sheet). put_part (put_parts x (single_parts text)) (e ∷ [])) (ap (put_parts s) (sym same) ∙ sym is)) u
      (part_grows u (e ∷ []))

  pub text_done : (t u : Sheet) → t ≡ put_parts s qs → u ≡ put_parts t (single_parts text)
      → put_part u (e ∷ []) ≡ put_parts s (ps ++ single_parts (text ++ e ∷ []))
  text_done t u is next = ap (λ (x : Sheet). put_part x (e ∷ [])) (next ∙ ap (λ (x : Sheet). put_parts x (single_parts text)) (is ∙ ap (put_parts s) same))
      ∙ sym (text_is s ps text e)

-- a loop over bytes
module _ (s t : Sheet) (rest others : List ℕ) (b : ℕ) (e : rest ≡ b ∷ others) (h : put_parts s (single_parts rest) ≡ t) where
  pub single_fails : Grows (put_part s (b ∷ [])) t
  single_fails = subst (λ (x : Sheet). Grows x t) (one_part s (b ∷ []))
      (left_fails s t ((b ∷ []) ∷ []) (single_parts others) (single_parts rest) (ap single_parts e) h)

  pub single_next : (new : Sheet) → new ≡ put_part s (b ∷ []) → put_parts new (single_parts others) ≡ t
  single_next new is = left_next s new t ((b ∷ []) ∷ []) (single_parts others) (single_parts rest) (ap single_parts e) (is ∙ sym (one_part s (b ∷ []))) h

pub single_last : (s t : Sheet) (rest : List ℕ) → length rest ≡ 0 → put_parts s (single_parts rest) ≡ t → s ≡ t
single_last s t rest e h = left_none s t (single_parts rest) (ap single_parts (nil_from_length rest e)) h

-- a loop over values
module _ (s t : Sheet) (n : ℕ) (d : Delims) (rest others : List Value) (v : Value) (e : rest ≡ v ∷ others) (h : put_parts s (parts n d rest) ≡ t)
    (width : s.width ≡ n) (end : ℕ) (is_end : end ≡ next_delimiter d others) where
  value_first : parts n d rest ≡ value_parts s.width v end ++ parts n d others
  value_first = ap (parts n d) e ∙ next_parts n d v others ∙ ap (λ (x : ℕ). value_parts n v x ++ parts n d others) (sym is_end)
      ∙ ap (λ (x : ℕ). value_parts x v end ++ parts n d others) (sym width)

  pub value_fails : Grows (put_parts s (value_parts s.width v end)) t
  value_fails = left_fails s t (value_parts s.width v end) (parts n d others) (parts n d rest) value_first h

  pub value_next : (new : Sheet) → new ≡ put_parts s (value_parts s.width v end) → put_parts new (parts n d others) ≡ t
  value_next new is = left_next s new t (value_parts s.width v end) (parts n d others) (parts n d rest) value_first is h

  pub value_width : (new : Sheet) → new ≡ put_parts s (value_parts s.width v end) → new.width ≡ n
  value_width new is = ap (λ (x : Sheet). x.width) is ∙ (parts_grow s (value_parts s.width v end)).width ∙ width

pub value_last : (s t : Sheet) (n : ℕ) (d : Delims) (rest : List Value) → length rest ≡ 0 → put_parts s (parts n d rest) ≡ t → s ≡ t
value_last s t n d rest e h = left_none s t (parts n d rest) (ap (parts n d) (nil_from_length rest e)) h

-- ---- ends

pub end_grows : (s : Sheet) → Grows s (end_line s)
end_grows s = record { tail = refl; letter = refl; width = refl; limit = refl; text = omega (arith, length-append s.text (ended s)) }

padded_full : (n : ℕ) (l : List ℕ) → length l ≡ n → padded n l ≡ l
padded_full n l e = ap (λ (k : ℕ). l ++ spaces k) (let h : n - length l ≡ 0 = omega (arith, e) in h) ∙ append-nil l

pub full_line : (s : Sheet) (l : List ℕ) → s.line ≡ [] → length l ≡ s.width → end_line (add s l) ≡ put_lines s (l ∷ [])
unfolding page_lines
full_line s l empty long =
    ap (λ (x : List ℕ). record {
      text = s.text ++ whole_line s.tail s.letter s.number x;
      line = [];
      tail = s.tail;
      letter = s.letter;
      number =
          s.number + 1;
      width = s.width;
      limit = s.limit;
    })
    (ap (λ (x : List ℕ). padded s.width (x ++ l)) empty ∙ padded_full s.width l long)
    ∙ ap (λ (x : List ℕ). record { text = s.text ++ x; line = []; tail = s.tail; letter = s.letter; number = s.number + 1; width = s.width; limit = s.limit })
    (sym (append-nil (whole_line s.tail s.letter s.number l)))

pub full_fails : (s : Sheet) (l : List ℕ) → s.line ≡ [] → length l ≡ s.width → Grows (add s l) (put_lines s (l ∷ []))
full_fails s l empty long = subst (Grows (add s l)) (full_line s l empty long) (end_grows (add s l))

pub full_done : (s t : Sheet) (l : List ℕ) → s.line ≡ [] → length l ≡ s.width → t ≡ add s l → end_line t ≡ put_lines s (l ∷ [])
full_done s t l empty long is = ap end_line is ∙ full_line s l empty long

-- two runs of parts, and the end of the line
module _ (s : Sheet) (ps qs all : List (List ℕ)) (e : all ≡ ps ++ qs) (empty : s.line ≡ []) where
  ended_parts : end_line (put_parts (put_parts s ps) qs) ≡ put_lines s (fill s.width [] all)
  ended_parts = ap end_line (sym (parts_behind s ps qs) ∙ ap (put_parts s) (sym e)) ∙ filled s all ∙ ap (λ (x : List ℕ). put_lines s (fill s.width x all)) empty

  pub ended_front : Grows (put_parts s ps) (put_lines s (fill s.width [] all))
  ended_front =
      let t = put_parts s ps in
      let u = put_parts t qs in
      subst (Grows t) ended_parts (grows_on t u (end_line u) (parts_grow t qs) (end_grows u))

  pub ended_behind : (t : Sheet) (rs : List (List ℕ)) → t ≡ put_parts s ps → rs ≡ qs → Grows (put_parts t rs) (put_lines s (fill s.width [] all))
  ended_behind t rs is same =
      let u = put_parts t rs in
      subst (Grows u) (ap end_line (ap (λ (x : Sheet). put_parts x rs) is ∙ ap (put_parts (put_parts s ps)) same) ∙ ended_parts) (end_grows u)

  pub ended_done : (t u : Sheet) (rs : List (List ℕ)) → t ≡ put_parts s ps → rs ≡ qs → u ≡ put_parts t rs → end_line u ≡ put_lines s (fill s.width [] all)
  ended_done t u rs is same next = ap end_line (next ∙ ap (λ (x : Sheet). put_parts x rs) is ∙ ap (put_parts (put_parts s ps)) same) ∙ ended_parts

pub parts_width : (s t : Sheet) (ps : List (List ℕ)) → t ≡ put_parts s ps → t.width ≡ s.width
parts_width s t ps is = ap (λ (x : Sheet). x.width) is ∙ (parts_grow s ps).width

pub two_front : (s : Sheet) (ps qs : List (List ℕ)) → Grows (put_parts s ps) (put_parts s (ps ++ qs))
two_front s ps qs = left_fails s _ ps qs (ps ++ qs) refl refl

pub two_done : (s t : Sheet) (ps qs rs : List (List ℕ)) → t ≡ put_parts s ps → rs ≡ qs → put_parts t rs ≡ put_parts s (ps ++ qs)
two_done s t ps qs rs is same = ap (put_parts t) same ∙ left_next s t _ ps qs (ps ++ qs) refl is refl

pub global_parts : (n : ℕ) (d : Delims) (vs : List Value) → parts n d (value.Text (d.param ∷ []) ∷ value.Text (d.end ∷ []) ∷ vs)
    ≡ (value_parts n (value.Text (d.param ∷ [])) d.param ++ value_parts n (value.Text (d.end ∷ [])) (next_delimiter d vs)) ++ parts n d vs
global_parts n d vs =
    ap (λ (x : List (List ℕ)). value_parts n (value.Text (d.param ∷ [])) d.param ++ x) (next_parts n d (value.Text (d.end ∷ [])) vs)
    ∙ sym (append_assoc (value_parts n (value.Text (d.param ∷ [])) d.param) (value_parts n (value.Text (d.end ∷ [])) (next_delimiter d vs)) (parts n d vs))

-- ---- lines behind a tail

tailed : (tail : List ℕ) (letter k : ℕ) (ls : List (List ℕ)) → page_lines tail letter k ls ≡ page_lines [] letter k (map (λ l. l ++ tail) ls)
unfolding page_lines whole_line
tailed tail letter k [] = refl
tailed tail letter k (l ∷ ls) =
    ap (λ (x : List ℕ). x ++ page_lines tail letter (k + 1) ls)
    (ap (λ (y : List ℕ). (y ++ letter ∷ right 7 (decimal k)) ++ 10 ∷ []) (sym (append-nil (l ++ tail))))
    ∙ ap (λ (x : List ℕ). ((((l ++ tail) ++ []) ++ letter ∷ right 7 (decimal k)) ++ 10 ∷ []) ++ x) (tailed tail letter (k + 1) ls)

record_is : (s : Sheet) (tail : List ℕ) (ls : List (List ℕ)) → s.tail ≡ [] → with_tail (put_lines (with_tail s tail) ls) []
    ≡ put_lines s (map (λ l. l ++ tail) ls)
record_is s tail ls none =
    let text : page_lines tail s.letter s.number ls ≡ page_lines s.tail s.letter s.number (map (λ l. l ++ tail) ls) =
    tailed tail s.letter s.number ls ∙ ap (λ (x : List ℕ). page_lines x s.letter s.number (map (λ l. l ++ tail) ls)) (sym none) in
    let size : length ls ≡ length (map (λ l. l ++ tail) ls) = sym (length-map ls (λ (l : List ℕ). l ++ tail)) in
    ap (λ (x : List ℕ). record {
      text = s.text ++ x;
      line = [];
      tail = [];
      letter = s.letter;
      number = s.number + length ls;
      width = s.width;
      limit =
          s.limit;
    }) text
    ∙ ap (λ (k : ℕ). record {
      text = s.text ++ page_lines s.tail s.letter s.number (map (λ l. l ++ tail) ls);
      line = [];
      tail = [];
      letter = s.letter;
      number =
          s.number + k;
      width = s.width;
      limit = s.limit;
    }) size
    ∙ ap (λ (x : List ℕ). record {
      text = s.text ++ page_lines s.tail s.letter s.number (map (λ l. l ++ tail) ls);
      line = [];
      tail = x;
      letter =
          s.letter;
      number = s.number + length (map (λ l. l ++ tail) ls);
      width = s.width;
      limit = s.limit;
    }) (sym none)

pub record_done : (s t u : Sheet) (tail : List ℕ) (ls : List (List ℕ)) → s.line ≡ [] → s.tail ≡ [] → t ≡ with_tail s tail → u ≡ put_lines t ls
    → with_tail u [] ≡ put_lines s (map (λ l. l ++ tail) ls)
record_done s t u tail ls empty none is next =
    ap (λ (x : Sheet). with_tail x []) (next ∙ ap (λ (x : Sheet). put_lines x ls) is)
    ∙ record_is s tail ls none

-- what is too large with a tail is so with the tail in the lines
pub record_fails : (s t : Sheet) (tail : List ℕ) (ls : List (List ℕ)) → s.line ≡ [] → s.tail ≡ [] → t ≡ with_tail s tail
    → (f : WriteFileFault) → Fails f (put_lines t ls) → Fails f (put_lines s (map (λ l. l ++ tail) ls))
record_fails s t tail ls empty none is fault.TooLarge h =
    let e : length (put_lines t ls).text ≡ length (put_lines s (map (λ l. l ++ tail) ls)).text =
    ap (λ (x : Sheet). length (put_lines x ls).text) is ∙ ap (λ (x : Sheet). length x.text) (record_is s tail ls none) in
    let l : t.limit ≡ s.limit = ap (λ (x : Sheet). x.limit) is in
    omega (arith, h)
record_fails s t tail ls empty none is fault.NoMemory h = tt

pub same_fails : {B : Type 0} (o : Result B WriteFileFault) (new next : Sheet) (f : WriteFileFault) → Fails f next → IsErrAnd o (λ y. y ≡ f) → Steps o new next
same_fails o new next f h e = failed o new next next f (record { tail = refl; letter = refl; width = refl; limit = refl; text = omega arith }) h e

pub two_fails : (s : Sheet) (ps qs rs : List (List ℕ)) → rs ≡ ps → Grows (put_parts s rs) (put_parts s (ps ++ qs))
two_fails s ps qs rs same = subst (λ (x : List (List ℕ)). Grows (put_parts s x) (put_parts s (ps ++ qs))) (sym same) (two_front s ps qs)

pub two_both : (s t : Sheet) (ps qs rs us : List (List ℕ)) → rs ≡ ps → t ≡ put_parts s rs → us ≡ qs → put_parts t us ≡ put_parts s (ps ++ qs)
two_both s t ps qs rs us first is same = two_done s t ps qs us (is ∙ ap (put_parts s) first) same

-- ---- lines one after the other

pub page_behind : (tail : List ℕ) (letter k : ℕ) (ls ms : List (List ℕ)) → page_lines tail letter k (ls ++ ms) ≡ page_lines tail letter k ls
    ++ page_lines tail letter (k + length ls) ms
unfolding page_lines
page_behind tail letter k [] ms = ap (λ (n : ℕ). page_lines tail letter n ms) (omega arith)
page_behind tail letter k (l ∷ ls) ms =
    ap (λ (x : List ℕ). whole_line tail letter k l ++ x) (page_behind tail letter (k + 1) ls ms
    ∙ ap (λ (n : ℕ). page_lines tail letter (k + 1) ls ++ page_lines tail letter n ms) (let h : k + 1 + length ls ≡ k + length (l ∷ ls) = omega arith in h))
    ∙ sym (append_assoc (whole_line tail letter k l) (page_lines tail letter (k + 1) ls) (page_lines tail letter (k + length (l ∷ ls)) ms))

pub lines_behind : (s : Sheet) (ls ms : List (List ℕ)) → put_lines (put_lines s ls) ms ≡ put_lines s (ls ++ ms)
lines_behind s ls ms =
    let text : (s.text ++ page_lines s.tail s.letter s.number ls) ++ page_lines s.tail s.letter (s.number + length ls) ms ≡ s.text
    ++ page_lines s.tail s.letter s.number (ls ++ ms) =
    append_assoc s.text (page_lines s.tail s.letter s.number ls) (page_lines s.tail s.letter (s.number + length ls) ms)
    ∙ ap (λ (x : List ℕ). s.text ++ x) (sym (page_behind s.tail s.letter s.number ls ms)) in
    let size : s.number + length ls + length ms ≡ s.number + length (ls ++ ms) = omega (arith, length-append ls ms) in
    ap (λ (x : List ℕ). record {
      text = x;
      line = [];
      tail = s.tail;
      letter = s.letter;
      number = s.number + length ls + length ms;
      width = s.width;
      limit =
          s.limit;
    }) text
    ∙ ap (λ (k : ℕ). record {
      text = s.text ++ page_lines s.tail s.letter s.number (ls ++ ms);
      line = [];
      tail = s.tail;
      letter = s.letter;
      number = k;
      width =
          s.width;
      limit = s.limit;
    }) size

pub lines_grow : (s : Sheet) (ls : List (List ℕ)) → Grows s (put_lines s ls)
lines_grow s ls = record {
  tail = refl;
  letter = refl;
  width = refl;
  limit = refl;
  text =
      omega (arith, length-append s.text (page_lines s.tail s.letter s.number ls));
}

-- a loop over lines
module _ (s t : Sheet) (ls ms all : List (List ℕ)) (e : all ≡ ls ++ ms) (h : put_lines s all ≡ t) where
  pub lines_next : (new : Sheet) → new ≡ put_lines s ls → put_lines new ms ≡ t
  lines_next new is = ap (λ (x : Sheet). put_lines x ms) is ∙ lines_behind s ls ms ∙ ap (put_lines s) (sym e) ∙ h

  pub lines_fail : Grows (put_lines s ls) t
  lines_fail = subst (Grows (put_lines s ls)) (lines_behind s ls ms ∙ ap (put_lines s) (sym e) ∙ h) (lines_grow (put_lines s ls) ms)

-- where no line is left and none is begun
pub lines_last : (s t : Sheet) → s.line ≡ [] → put_lines s [] ≡ t → s ≡ t
unfolding page_lines
lines_last s t empty h =
    ap (λ (x : List ℕ). record { text = x; line = s.line; tail = s.tail; letter = s.letter; number = s.number; width = s.width; limit = s.limit })
    (sym (append-nil s.text))
    ∙ ap (λ (x : List ℕ). record { text = s.text ++ []; line = x; tail = s.tail; letter = s.letter; number = s.number; width = s.width; limit = s.limit }) empty
    ∙ ap (λ (k : ℕ). record { text = s.text ++ []; line = []; tail = s.tail; letter = s.letter; number = k; width = s.width; limit = s.limit })
    (let z : s.number ≡ s.number + 0 = omega arith in z)
    ∙ h

-- the lines of a page are those of a file's text
pub page_is : (letter k : ℕ) (ls : List (List ℕ))
    → page_lines [] letter k ls ≡ flat_map (λ l. l ++ 10 ∷ []) (map (λ (l : ℕ × List ℕ). l.1 ++ letter ∷ right 7 (decimal l.0)) (enumerate_from k ls))
unfolding page_lines whole_line
page_is letter k [] = refl
page_is letter k (l ∷ ls) =
    ap (λ (x : List ℕ). ((x ++ letter ∷ right 7 (decimal k)) ++ 10 ∷ []) ++ page_lines [] letter (k + 1) ls) (append-nil l)
    ∙ ap (λ (x : List ℕ). ((l ++ letter ∷ right 7 (decimal k)) ++ 10 ∷ []) ++ x) (page_is letter (k + 1) ls)

-- an entry of type 0 leaves the sheet as it is
pub no_lines : (s : Sheet) → s.line ≡ [] → s ≡ put_lines s []
no_lines s empty = lines_last s (put_lines s []) empty refl
