-- A line in an array, with spaces behind it.
use Rattle.std.proofs.Common.{◌≡◌, ℕ, ◌+◌, ◌-◌, ◌<◌, ◌≤◌, List, ◌++◌, length, take, drop, sym, ap, ◌∙◌, append_assoc, arith, length-append}
use Rattle.std.proofs.Math.Seq.{take-add, take-append-add}
use Rattle.std.proofs.lemmas.List.{drop-drop, drop-replicate, take-replicate, take-take, take-append-le, take-append-drop, length-drop, length-take-le, append-nil}
use Rattle.std.proofs.lemmas.Slice.{take-put_mid, drop-put_mid}
use borrow.Rule.Slice.PartMut.{put_mid}
use Rattle.iges_base.specs.Word.{spaces}
use Rattle.iges_write.specs.Filled.{padded}
use Rattle.iges_write.specs.LineRoom.{IsLineText}
use Rattle.iges_write.specs.Text.{right}
use Rattle.iges_write.proofs.Columns.{right-is}

rest_more : (bytes : List ℕ) (len n : ℕ) → drop len bytes ≡ spaces (96 - len) → drop (len + n) bytes ≡ spaces (96 - (len + n))
rest_more bytes len n e =
    let left : 96 - len - n ≡ 96 - (len + n) = omega arith in
    sym (drop-drop n len bytes) ∙ ap (drop n) e ∙ drop-replicate n (96 - len) 32 ∙ ap spaces left

-- bytes written behind the line
module _ (bytes piece : List ℕ) (len k : ℕ) (h : IsLineText bytes len) (long : length bytes ≡ 96) (size : length piece ≡ k) (room : len + k ≤ 96) where
  pub pushed_is : (end : ℕ) → end ≡ len + k → take end (put_mid len k bytes piece) ≡ take len bytes ++ piece
  pushed_is end e = take-put_mid len k bytes piece end (omega (arith, e, size)) (omega (arith, long, room))

  pub pushed_fits : (end : ℕ) → end ≡ len + k → IsLineText (put_mid len k bytes piece) end
  pushed_fits end e = record {
    few = omega (arith, e, room);
    rest =
        ap (λ (n : ℕ). drop n (put_mid len k bytes piece)) e
        ∙ drop-put_mid len k bytes piece (len + k) (omega arith) (omega (arith, long, room)) size
        ∙ rest_more bytes len k h.rest
        ∙ ap (λ (n : ℕ). spaces (96 - n)) (sym e);
  }

-- a part that is written over
put_long : (bytes piece : List ℕ) (a k : ℕ) → length bytes ≡ 96 → length piece ≡ k → a + k ≤ 96 → length (put_mid a k bytes piece) ≡ 96
put_long bytes piece a k long size room =
    omega (
      arith,
      long,
      size,
      room,
      length-append (take a bytes) (piece ++ drop k (drop a bytes)),
      length-append piece (drop k (drop a bytes)),
      length-take-le a bytes (omega (arith, long, room)),
      length-drop k (drop a bytes),
      length-drop a bytes,
    )

-- bytes written behind the line by halves
module _ (bytes piece front back : List ℕ) (len half k j a : ℕ) (h : IsLineText bytes len) (long : length bytes ≡ 96) (room : len + length piece ≤ 96)
    (few : half ≤ length piece) (many : length piece ≤ half + half) (front_is : front ≡ take half piece) (back_is : back ≡ drop (length piece - half) piece)
    (k_is : k ≡ half) (j_is : j ≡ half) (a_is : a ≡ len + (length piece - half)) where
  abbrev first : List ℕ
  first = put_mid len k bytes front

  abbrev both : List ℕ
  both = put_mid a j first back

  front_long : length front ≡ k
  front_long = omega (arith, ap length front_is, length-take-le half piece few, k_is)

  back_long : length back ≡ j
  back_long = omega (arith, ap length back_is, length-drop (length piece - half) piece, few, j_is)

  first_long : length first ≡ 96
  first_long = put_long bytes front len k long front_long (omega (arith, room, few, k_is))

  before : take a first ≡ take len bytes ++ take (length piece - half) piece
  before =
      let n : ℕ = length piece - half in
      let stands : length (take len bytes) ≡ len = length-take-le len bytes (omega (arith, room, long)) in
      let at : a ≡ length (take len bytes) + (length piece - half) = omega (arith, stands, a_is) in
      ap (λ (m : ℕ). take m first) at
      ∙ take-append-add (take len bytes) (front ++ drop k (drop len bytes)) (length piece - half)
      ∙ ap (λ (x : List ℕ). take len bytes ++ x)
      (take-append-le (length piece - half) front (drop k (drop len bytes)) (omega (arith, front_long, few, many, k_is))
      ∙ ap (take (length piece - half)) front_is ∙ take-take (length piece - half) half piece (omega (arith, few, many)))

  pub halves_are : (end : ℕ) → end ≡ len + length piece → take end both ≡ take len bytes ++ piece
  halves_are end e =
      take-put_mid a j first back end (omega (arith, e, back_long, a_is, j_is, few)) (omega (arith, first_long, room, a_is))
      ∙ ap (λ (x : List ℕ). x ++ back) before
      ∙ append_assoc (take len bytes) (take (length piece - half) piece) back
      ∙ ap (λ (x : List ℕ). take len bytes ++ x)
      (ap (λ (x : List ℕ). take (length piece - half) piece ++ x) back_is ∙ take-append-drop (length piece - half) piece)

  pub halves_fit : (end : ℕ) → end ≡ len + length piece → IsLineText both end
  halves_fit end e = record {
    few = omega (arith, e, room);
    rest =
        ap (λ (n : ℕ). drop n both) e
        ∙ drop-put_mid a j first back (len + length piece) (omega (arith, a_is, j_is, few)) (omega (arith, first_long, room, a_is)) back_long
        ∙ drop-put_mid len k bytes front (len + length piece) (omega (arith, k_is, few)) (omega (arith, long, room)) front_long
        ∙ rest_more bytes len (length piece) h.rest
        ∙ ap (λ (n : ℕ). spaces (96 - n)) (sym e);
  }

-- a line that is filled up
module _ (bytes : List ℕ) (len width : ℕ) (h : IsLineText bytes len) (long : length bytes ≡ 96) where
  pub wider_fits : len ≤ width → width ≤ 96 → IsLineText bytes width
  wider_fits le few =
      let n : len + (width - len) ≡ width = omega (arith, le) in
      record { few = few; rest = ap (λ (m : ℕ). drop m bytes) (sym n) ∙ rest_more bytes len (width - len) h.rest ∙ ap (λ (m : ℕ). spaces (96 - m)) n }

  pub line_long : length (take len bytes) ≡ len
  line_long = length-take-le len bytes (omega (arith, h.few, long))

  pub wider_is : len ≤ width → width ≤ 96 → take width bytes ≡ padded width (take len bytes)
  wider_is le few =
      let n : width ≡ len + (width - len) = omega (arith, le) in
      ap (λ (m : ℕ). take m bytes) n ∙ take-add len (width - len) bytes
      ∙ ap (λ (x : List ℕ). take len bytes ++ x) (ap (take (width - len)) h.rest ∙ take-replicate (width - len) (96 - len) 32 (omega (arith, few)))
      ∙ ap (λ (m : ℕ). take len bytes ++ spaces (width - m)) (sym line_long)

  pub full_is : width ≤ len → take len bytes ≡ padded width (take len bytes)
  full_is le =
      let none : 0 ≡ width - length (take len bytes) = omega (arith, le, line_long) in
      sym (append-nil (take len bytes)) ∙ ap (λ (m : ℕ). take len bytes ++ spaces m) none

-- a text written over the last of eight spaces
pub right_put : (text new : List ℕ) → length text < 8 → new ≡ text → put_mid (8 - length text) (8 - (8 - length text)) (spaces 8) new ≡ right 8 text
right_put text new few e =
    let a = 8 - length text in
    let k = 8 - (8 - length text) in
    let none : 8 - (8 - length text) - (8 - (8 - length text)) ≡ 0 = omega arith in
    ap (λ (x : List ℕ). x ++ (new ++ drop k (drop a (spaces 8)))) (take-replicate a 8 32 (omega arith))
    ∙ ap (λ (x : List ℕ). spaces a ++ (new ++ drop k x)) (drop-replicate a 8 32)
    ∙ ap (λ (x : List ℕ). spaces a ++ (new ++ x)) (drop-replicate k (8 - a) 32 ∙ ap spaces none)
    ∙ ap (λ (x : List ℕ). spaces a ++ x) (append-nil new ∙ e)
    ∙ sym (right-is 8 text (omega (arith, few)))
