-- Eight bytes that are looked at one by one.
use Rattle.std.proofs.Common.{◌≡◌, ℕ, ◌+◌, ◌<◌, Bool, true, ◌&&◌, List, length, take, get_or, refl, sym, ap, ◌∙◌, arith}
use Rattle.std.specs.Char.{is_ascii_digit}
use Rattle.std.specs.List.{list_all}
use Rattle.std.proofs.lemmas.List.{take_all}
use Rattle.std.proofs.lemmas.List.Folds.{list_all_more}

abbrev so_far : List ℕ → ℕ → Bool
so_far text n = list_all is_ascii_digit (take n text)

one_more : (text : List ℕ) (n : ℕ) (q r : Bool) → n < length text → q ≡ so_far text n → r ≡ is_ascii_digit (get_or text n 0) → (q && r) ≡ so_far text (n + 1)
one_more text n q r h q-is r-is = ap (λ (t : Bool). t && r) q-is ∙ ap (λ (t : Bool). so_far text n && t) r-is ∙ sym (list_all_more is_ascii_digit text n 0 h)

module _ (text : List ℕ) (long : length text ≡ 8) (a b c d e f g h : Bool) where
  pub all_eight : a ≡ is_ascii_digit (get_or text 0 0) → b ≡ is_ascii_digit (get_or text 1 0) → c ≡ is_ascii_digit (get_or text 2 0) →
      d ≡ is_ascii_digit (get_or text 3 0)
      → e ≡ is_ascii_digit (get_or text 4 0) → f ≡ is_ascii_digit (get_or text 5 0) → g ≡ is_ascii_digit (get_or text 6 0) →
      h ≡ is_ascii_digit (get_or text 7 0)
      → (((((((a && b) && c) && d) && e) && f) && g) && h) ≡ list_all is_ascii_digit text
  all_eight a-is b-is c-is d-is e-is f-is g-is h-is =
      let s1 = one_more text 0 true a (omega (arith, long)) refl a-is in
      let s2 = one_more text 1 _ b (omega (arith, long)) s1 b-is in
      let s3 = one_more text 2 _ c (omega (arith, long)) s2 c-is in
      let s4 = one_more text 3 _ d (omega (arith, long)) s3 d-is in
      let s5 = one_more text 4 _ e (omega (arith, long)) s4 e-is in
      let s6 = one_more text 5 _ f (omega (arith, long)) s5 f-is in
      let s7 = one_more text 6 _ g (omega (arith, long)) s6 g-is in
      let s8 = one_more text 7 _ h (omega (arith, long)) s7 h-is in
      s8 ∙ ap (list_all is_ascii_digit) (take_all 8 text (omega (arith, long)))
