-- Numbers are equal exactly where records are.
use Rattle.std.specs.Prelude.{◌≡◌, ◌↔◌, ◌⊎◌, ℕ, zero, suc, ◌+◌, ◌<◌, ◌≤◌, ◌^◌, ℤ, pos, negsuc, List, [], ◌∷◌, ◌++◌, length, take, Option, Some, None, slice_get, get_or, IsSomeAnd}
use Rattle.std.specs.Int.Signed.{mag}
use Rattle.std.specs.List.{AllZip}
use Rattle.std.proofs.Common.{refl, sym, ap, ◌∙◌, subst, arith, inl, inr}
use Rattle.std.proofs.lemmas.List.{take_more, take_all}
use Rattle.std.proofs.lemmas.Option.{same_Some, none-some}
use Rattle.iges_params.specs.Contents.{Contents}
use Rattle.iges_params.specs.Named.{named}
use Rattle.record_numbers.specs.EqualRecords.{Part, pointer, plain, Told, told, told_by, faultless_own, SaySame, AreTold, EqualUpTo, AreEqualRecords, AreFair}
use Rattle.record_numbers.specs.Keys.{KeyMap, number_by, KeepsNumbers, AreNumbers}
use Rattle.record_numbers.specs.Marked.{mark_of, number_in, alone_key, IsToldKey, IsKey, IsNumbering, IsEndlessPart, NamesEndless, LeadsOn, AreEndless, IsAlone, IsNumberOf}
use Rattle.record_numbers.specs.declared.marks.Mark.{Mark}
use Rattle.record_numbers.specs.declared.marks.Mark.TheVariants.{Unknown, Endless, Numbered}
use Rattle.record_numbers.proofs.Depths.{turned}
use Rattle.record_numbers.proofs.PartKeys.{says_key, key_apart, alone_is}

endless_apart : (x : ℕ) → Endless ≡ Numbered x → ⊥
endless_apart x e = cc

told_none : (f : Contents) (z : ℤ) → named f z ≡ None → told f z ≡ None
told_none f z h = ap (λ o. elim o as (λ _. Option Told) [ None ↦ None | Some r ↦ told_by r (faultless_own f r) ]) h

module _ {Z : Type 0} (f : Contents) (marks : List Mark) (keys : KeyMap Z) (num : IsNumbering f marks keys) (ends : AreEndless f marks) where
  -- ---- equal records have one number

  one_key : (n : ℕ) (numbers : (a b : ℤ) (x y : ℕ) → EqualUpTo f n a b → mark_of marks a ≡ Numbered x → mark_of marks b ≡ Numbered y → x ≡ y)
      (a b : ℤ) (s t : Option Told) (k l : List ℕ) → AreTold (EqualUpTo f n) s t → IsToldKey marks a s k → IsToldKey marks b t l → k ≡ l
  one_key n numbers a b None t k l e h g = absurd e
  one_key n numbers a b (Some s) None k l e h g = absurd e
  one_key n numbers a b (Some s) (Some t) k l e h g = h.3 ∙ (says_key marks (EqualUpTo f n) numbers s t h.0 g.0 e ∙ sym g.3)

  numbers_agree : (n : ℕ) (a b : ℤ) (x y : ℕ) → EqualUpTo f n a b → mark_of marks a ≡ Numbered x → mark_of marks b ≡ Numbered y → x ≡ y
  numbers_agree zero a b x y e ha hb = absurd e
  numbers_agree (suc n) a b x y (inl e) ha hb = ap number_in (sym ha ∙ (ap (mark_of marks) e.1 ∙ hb))
  numbers_agree (suc n) a b x y (inr e) ha hb =
      let k = num.each a x ha in
      let l = num.each b y hb in
      let one = one_key n (λ c d u v g hc hd. numbers_agree n c d u v g hc hd) a b (told f a) (told f b) k.0 l.0 e k.1 l.1 in
      same_Some x y (sym k.2 ∙ (ap (number_by keys) one ∙ l.2))

  -- ---- what leads round is equal to itself alone

  part_ends : (n : ℕ) → ((a b : ℤ) → EqualUpTo f n a b → mark_of marks a ≡ Endless → ⊥) → (p q : Part) → SaySame (EqualUpTo f n) p q → IsEndlessPart marks p → ⊥
  part_ends n never (plain v) q e l = l
  part_ends n never (pointer None) q e l = l
  part_ends n never (pointer (Some a)) (plain w) e l = e
  part_ends n never (pointer (Some a)) (pointer None) e l = e
  part_ends n never (pointer (Some a)) (pointer (Some b)) e l = never a b e l

  parts_end : (n : ℕ) → ((a b : ℤ) → EqualUpTo f n a b → mark_of marks a ≡ Endless → ⊥)
      → (ps qs : List Part) → AllZip (SaySame (EqualUpTo f n)) ps qs → NamesEndless marks ps → ⊥
  parts_end n never [] qs e l = l
  parts_end n never (p ∷ ps) [] e l = e
  parts_end n never (p ∷ ps) (q ∷ qs) e (inl l) = part_ends n never p q e.0 l
  parts_end n never (p ∷ ps) (q ∷ qs) e (inr l) = parts_end n never ps qs e.1 l

  told_ends : (n : ℕ) → ((a b : ℤ) → EqualUpTo f n a b → mark_of marks a ≡ Endless → ⊥)
      → (s t : Option Told) → AreTold (EqualUpTo f n) s t → IsSomeAnd s (λ t. NamesEndless marks t.parts) → ⊥
  told_ends n never None t e l = e
  told_ends n never (Some s) None e l = e
  told_ends n never (Some s) (Some t) e l = parts_end n never s.parts t.parts e.2 l

  not_endless : (n : ℕ) (a b : ℤ) → EqualUpTo f n a b → mark_of marks a ≡ Endless → ⊥
  not_endless zero a b e h = e
  not_endless (suc n) a b (inl e) h = subst (λ o. IsSomeAnd o (λ t. NamesEndless marks t.parts)) e.0 (ends a h)
  not_endless (suc n) a b (inr e) h = told_ends n (λ c d g u. not_endless n c d g u) (told f a) (told f b) e (ends a h)

  alone_same : (n : ℕ) (a b : ℤ) → IsAlone f marks a → EqualUpTo f n a b → a ≡ b
  alone_same n a b (inl h) e = absurd (not_endless n a b e h)
  alone_same zero a b (inr h) e = absurd e
  alone_same (suc n) a b (inr h) (inl e) = e.1
  alone_same (suc n) a b (inr h) (inr e) = absurd (never (told f b) (subst (λ o. AreTold (EqualUpTo f n) o (told f b)) (told_none f a h) e))
    where
      never : (t : Option Told) → AreTold (EqualUpTo f n) None t → ⊥
      never t g = g

  -- ---- two entries

  -- the number of an entry that is alone, by its key
  alone_number : (a b : ℤ) (x : ℕ) → mark_of marks a ≡ Numbered x → mag b < 2 ^ 63 → number_by keys (alone_key b) ≡ Some x → a ≡ b
  alone_number a b x h small g = by_told (told f a) k.1
    where
      k : (key : List ℕ) × IsKey f marks a key × (number_by keys key ≡ Some x)
      k = num.each a x h

      one : k.0 ≡ alone_key b
      one = num.numbers.one k.0 (alone_key b) x k.2 g

      by_told : (o : Option Told) → IsToldKey marks a o k.0 → a ≡ b
      by_told None l = alone_is a b l.0 small (sym l.1 ∙ one)
      by_told (Some t) l = absurd (key_apart marks t b (sym l.3 ∙ one))

  equal_from_same : (a b : ℤ) (x : ℕ) → IsNumberOf f marks keys a x → IsNumberOf f marks keys b x → AreEqualRecords f a b
  equal_from_same a b x (inl h) (inl g) = inr (num.equal a b x h g)
  equal_from_same a b x (inl h) (inr g) = inl (alone_number a b x h g.1 g.2)
  equal_from_same a b x (inr h) (inl g) = inl (sym (alone_number b a x g h.1 h.2))
  equal_from_same a b x (inr h) (inr g) = inl (alone_is a b h.1 g.1 (num.numbers.one (alone_key a) (alone_key b) x h.2 g.2))

  -- an entry that is alone has the number of its own key
  own_key : (a : ℤ) (x : ℕ) → IsAlone f marks a → mark_of marks a ≡ Numbered x → number_by keys (alone_key a) ≡ Some x
  own_key a x (inl e) h = absurd (endless_apart x (sym e ∙ h))
  own_key a x (inr e) h = by_told (told f a) (told_none f a e) k.1
    where
      k : (key : List ℕ) × IsKey f marks a key × (number_by keys key ≡ Some x)
      k = num.each a x h

      by_told : (o : Option Told) → o ≡ None → IsToldKey marks a o k.0 → number_by keys (alone_key a) ≡ Some x
      by_told None n l = ap (number_by keys) (sym l.1) ∙ k.2
      by_told (Some t) n l = absurd (none-some t (sym n))

  one_number : (a : ℤ) (x y : ℕ) → IsNumberOf f marks keys a x → IsNumberOf f marks keys a y → x ≡ y
  one_number a x y (inl h) (inl g) = ap number_in (sym h ∙ g)
  one_number a x y (inl h) (inr g) = same_Some x y (sym (own_key a x g.0 h) ∙ g.2)
  one_number a x y (inr h) (inl g) = same_Some x y (sym h.2 ∙ own_key a y h.0 g)
  one_number a x y (inr h) (inr g) = same_Some x y (sym h.2 ∙ g.2)

  same_from_equal : (a b : ℤ) (x y : ℕ) → IsNumberOf f marks keys a x → IsNumberOf f marks keys b y → AreEqualRecords f a b → x ≡ y
  same_from_equal a b x y h g (inl e) = one_number b x y (subst (λ z. IsNumberOf f marks keys z x) e h) g
  same_from_equal a b x y (inl h) (inl g) (inr e) = numbers_agree e.0 a b x y e.1 h g
  same_from_equal a b x y (inr h) g (inr e) =
      one_number b x y (subst (λ z. IsNumberOf f marks keys z x) (alone_same e.0 a b h.0 e.1) (inr h)) g
  same_from_equal a b x y (inl h) (inr g) (inr e) =
      one_number b x y (subst (λ z. IsNumberOf f marks keys z x) (sym (alone_same e.0 b a g.0 (turned f e.0 a b e.1))) (inl h)) (inr g)

  -- ---- all

  zip_length : (zs : List ℤ) (xs : List ℕ) → AllZip (IsNumberOf f marks keys) zs xs → length xs ≡ length zs
  zip_length [] [] h = refl
  zip_length [] (x ∷ xs) h = absurd h
  zip_length (a ∷ zs) [] h = absurd h
  zip_length (a ∷ zs) (x ∷ xs) h = ap suc (zip_length zs xs h.1)

  zip_at : (zs : List ℤ) (xs : List ℕ) (i : ℕ) (a : ℤ) → AllZip (IsNumberOf f marks keys) zs xs → slice_get zs i ≡ Some a
      → (x : ℕ) × (slice_get xs i ≡ Some x) × IsNumberOf f marks keys a x
  zip_at [] xs i a h at = absurd (none-some a at)
  zip_at (b ∷ zs) [] i a h at = absurd h
  zip_at (b ∷ zs) (x ∷ xs) zero a h at = (x, refl, subst (λ z. IsNumberOf f marks keys z x) (same_Some b a at) h.0)
  zip_at (b ∷ zs) (x ∷ xs) (suc i) a h at = zip_at zs xs i a h.1 at

  pub are_fair : (zs : List ℤ) (xs : List ℕ) → AllZip (IsNumberOf f marks keys) zs xs → AreFair f zs xs
  are_fair zs xs h = record {
    each = zip_length zs xs h;
    same = λ i j a b ea eb.
        let p = zip_at zs xs i a h ea in
        let q = zip_at zs xs j b h eb in (
          λ e. equal_from_same a b p.0 p.2 (subst (λ y. IsNumberOf f marks keys b y) (same_Some q.0 p.0 (sym q.1 ∙ (sym e ∙ p.1))) q.2),
          λ e. p.1 ∙ (ap (λ (y : ℕ). Some y) (same_from_equal a b p.0 q.0 p.2 q.2 e) ∙ sym q.1),
        );
  }

-- ---- the loop

module _ {Z : Type 0} (f : Contents) (marks : List Mark) (old new : KeyMap Z) (keeps : KeepsNumbers old new) where
  number_kept : (z : ℤ) (x : ℕ) → IsNumberOf f marks old z x → IsNumberOf f marks new z x
  number_kept z x (inl h) = inl h
  number_kept z x (inr h) = inr (h.0, h.1, keeps (alone_key z) x h.2)

  pub zip_next : (zs : List ℤ) (xs : List ℕ) (z : ℤ) (x : ℕ) → AllZip (IsNumberOf f marks old) zs xs → IsNumberOf f marks new z x
      → AllZip (IsNumberOf f marks new) (zs ++ z ∷ []) (xs ++ x ∷ [])
  zip_next [] [] z x h g = (g, tt)
  zip_next [] (y ∷ xs) z x h g = absurd h
  zip_next (a ∷ zs) [] z x h g = absurd h
  zip_next (a ∷ zs) (y ∷ xs) z x h g = (number_kept a y h.0, zip_next zs xs z x h.1 g)

  pub numbering_kept : AreNumbers new → IsNumbering f marks old → IsNumbering f marks new
  numbering_kept numbers h = record {
    each = λ z x e. let k = h.each z x e in (k.0, k.1, keeps k.0 x k.2);
    equal = h.equal;
    numbers = numbers;
  }

  pub each_next : (zs : List ℤ) (xs new' : List ℕ) (i x : ℕ) (z : ℤ) → i < length zs → z ≡ get_or zs i (pos 0) → AllZip (IsNumberOf f marks old) (take i zs) xs
      → IsNumberOf f marks new z x → new' ≡ xs ++ x ∷ [] → AllZip (IsNumberOf f marks new) (take (i + 1) zs) new'
  each_next zs xs new' i x z lt is h g en =
      subst (λ ys. AllZip (IsNumberOf f marks new) ys new') (ap (λ y. take i zs ++ y ∷ []) is ∙ sym (take_more zs i (pos 0) lt))
      (subst (λ ys. AllZip (IsNumberOf f marks new) (take i zs ++ z ∷ []) ys) (sym en) (zip_next (take i zs) xs z x h g))
