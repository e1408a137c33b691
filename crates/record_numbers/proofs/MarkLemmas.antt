-- Marks of entries, and one more that has a number.
use Rattle.std.specs.Prelude.{◌≡◌, ◌⊎◌, ℕ, zero, suc, ◌+◌, ◌<◌, ◌≤◌, ◌==◌, ◌^◌, Bool, true, false, ℤ, pos, negsuc, List, [], ◌∷◌, ◌++◌, length, set, get_or, flat_map, replicate, Option, Some, None, IfSome, IsSomeAnd}
use Rattle.std.specs.Fmt.{decimal, signed_decimal}
use Rattle.std.specs.Int.Signed.{mag}
use Rattle.std.specs.declared.vec.Vec.{Vec}
use Rattle.std.proofs.Common.{refl, sym, ap, ◌∙◌, subst, arith, inl, inr}
use Rattle.std.proofs.lemmas.Bool.{cases_lt, eqb-true, eq-eqb}
use Rattle.std.proofs.lemmas.List.{get_or-set_same, get_or-set_other, set_past}
use Rattle.iges_params.specs.Contents.{Contents}
use Rattle.equal_values.specs.Keys.{marked}
use Rattle.record_numbers.specs.EqualRecords.{Part, pointer, plain, Told, told, AreTold, EqualUpTo}
use Rattle.record_numbers.specs.Keys.{KeyMap, number_by, KeepsNumbers, AreNumbers}
use Rattle.record_numbers.specs.Marked.{mark_of, with_mark, number_in, part_key, told_key, HasNumber, HaveNumbers, IsToldKey, IsKey, IsNumbering, LeadsOn, AreEndless}
use Rattle.record_numbers.specs.declared.marks.Mark.{Mark}
use Rattle.record_numbers.specs.declared.marks.Mark.TheVariants.{Unknown, Endless, Numbered}
use Rattle.record_numbers.proofs.Depths.{all_up}
use Rattle.record_numbers.proofs.PartKeys.{keys_say, key_apart, alone_is}

unknown_apart : (x : ℕ) → Unknown ≡ Numbered x → ⊥
unknown_apart x e = cc

-- ---- one mark is set

mark_with : (marks : List Mark) (z : ℤ) (m : Mark) (w : ℤ) (x : ℕ) → mark_of (with_mark marks z m) w ≡ Numbered x
    → (mark_of marks w ≡ Numbered x) ⊎ ((w ≡ z) × (m ≡ Numbered x))
mark_with marks (negsuc n) m w x h = inl h
mark_with marks (pos n) m (negsuc k) x h = inl h
mark_with marks (pos n) m (pos k) x h = by_test (n == k) refl
  where
    by_order : n ≡ k → (k < length marks) ⊎ (length marks ≤ k) → (get_or marks k Unknown ≡ Numbered x) ⊎ ((pos k ≡ pos n) × (m ≡ Numbered x))
    by_order e (inl lt) = inr (ap pos (sym e), sym (ap (λ j. get_or (set marks j m) k Unknown) e ∙ get_or-set_same marks k m Unknown lt) ∙ h)
    by_order e (inr past) =
        inl (sym (ap (λ (ms : List Mark). get_or ms k Unknown) (ap (λ j. set marks j m) e ∙ set_past marks k m past)) ∙ h)

    by_test : (b : Bool) → (n == k) ≡ b → (get_or marks k Unknown ≡ Numbered x) ⊎ ((pos k ≡ pos n) × (m ≡ Numbered x))
    by_test true t = by_order (eqb-true n k t) (cases_lt k (length marks))
    by_test false t = inl (sym (get_or-set_other marks n k m Unknown (λ e. apart (sym e) t)) ∙ h)
      where
        apart : n ≡ k → (n == k) ≡ false → ⊥
        apart e u = let g : true ≡ false = sym (eq-eqb n k e) ∙ u in absurd cc

abbrev pub Extends : List Mark → List Mark → Type 0
Extends old new = (w : ℤ) (x : ℕ) → mark_of old w ≡ Numbered x → mark_of new w ≡ Numbered x

mark_kept : (marks : List Mark) (z : ℤ) (m : Mark) → mark_of marks z ≡ Unknown → Extends marks (with_mark marks z m)
mark_kept marks (negsuc n) m un w x h = h
mark_kept marks (pos n) m un (negsuc k) x h = h
mark_kept marks (pos n) m un (pos k) x h = get_or-set_other marks n k m Unknown (λ e. unknown_apart x (sym un ∙ (ap (λ j. get_or marks j Unknown) (sym e) ∙ h))) ∙ h

-- ---- keys stay

module _ (old new : List Mark) (extends : Extends old new) where
  has_kept : (p : Part) → HasNumber old p → HasNumber new p
  has_kept (plain v) h = h
  has_kept (pointer None) h = h
  has_kept (pointer (Some z)) h = (h.0, extends z h.0 h.1, h.2)

  have_kept : (ps : List Part) → HaveNumbers old ps → HaveNumbers new ps
  have_kept [] h = h
  have_kept (p ∷ ps) h = (has_kept p h.0, have_kept ps h.1)

  key_kept : (p : Part) → HasNumber old p → part_key old p ≡ part_key new p
  key_kept (plain v) h = refl
  key_kept (pointer None) h = refl
  key_kept (pointer (Some z)) h = ap (λ (k : Mark). 3 ∷ marked (decimal (number_in k))) (h.1 ∙ sym (extends z h.0 h.1))

  keys_kept : (ps : List Part) → HaveNumbers old ps → flat_map (part_key old) ps ≡ flat_map (part_key new) ps
  keys_kept [] h = refl
  keys_kept (p ∷ ps) h =
      ap (λ (t : List ℕ). t ++ flat_map (part_key old) ps) (key_kept p h.0) ∙ ap (λ (t : List ℕ). part_key new p ++ t) (keys_kept ps h.1)

  told_kept : (z : ℤ) (o : Option Told) (key : List ℕ) → IsToldKey old z o key → IsToldKey new z o key
  told_kept z None key h = h
  told_kept z (Some t) key h =
      (have_kept t.parts h.0, h.1, h.2, h.3 ∙ ap (λ (u : List ℕ). marked (signed_decimal t.kind) ++ (marked (signed_decimal t.form) ++ u)) (keys_kept t.parts h.0))

-- ---- entries of one key are equal

same_key : (f : Contents) (marks : List Mark)
    → ((a b : ℤ) (x : ℕ) → mark_of marks a ≡ Numbered x → mark_of marks b ≡ Numbered x → (n : ℕ) × EqualUpTo f n a b)
    → (a b : ℤ) (s t : Option Told) (key : List ℕ) → told f a ≡ s → told f b ≡ t → IsToldKey marks a s key → IsToldKey marks b t key
    → (n : ℕ) × EqualUpTo f n a b
same_key f marks equal a b None None key es et h k = (1, inl (es, alone_is a b h.0 k.0 (sym h.1 ∙ k.1)))
same_key f marks equal a b None (Some t) key es et h k = absurd (key_apart marks t a (sym k.3 ∙ h.1))
same_key f marks equal a b (Some s) None key es et h k = absurd (key_apart marks s b (sym h.3 ∙ k.1))
same_key f marks equal a b (Some s) (Some t) key es et h k =
    let say = keys_say marks (λ c d. (n : ℕ) × EqualUpTo f n c d) equal s t h.1 h.2 k.1 k.2 h.0 k.0 (sym h.3 ∙ k.3) in
    let up = all_up f s.parts t.parts say.2 in (
      up.0 + 1,
      deep up.0 (subst (λ o. AreTold (EqualUpTo f up.0) o (told f b)) (sym es)
          (subst (λ o. AreTold (EqualUpTo f up.0) (Some s) o) (sym et) (say.0, say.1, up.1))),
    )
  where
    deep : (n : ℕ) → AreTold (EqualUpTo f n) (told f a) (told f b) → EqualUpTo f (n + 1) a b
    deep n g = let one : suc n ≡ n + 1 = omega arith in subst (λ k. EqualUpTo f k a b) one (inr g)

-- ---- an entry is given a mark

module _ {Z : Type 0} (f : Contents) (old : List Mark) (keys new : KeyMap Z) (z : ℤ) (m : Mark) (un : mark_of old z ≡ Unknown)
    (by_key : (x : ℕ) → m ≡ Numbered x → (key : List ℕ) × IsKey f old z key × (number_by new key ≡ Some x))
    (keeps : AreNumbers keys → KeepsNumbers keys new) (numbers : AreNumbers keys → AreNumbers new) (h : IsNumbering f old keys) where
  each_old : (w : ℤ) (x : ℕ) → mark_of (with_mark old z m) w ≡ Numbered x → (key : List ℕ) × IsKey f old w key × (number_by new key ≡ Some x)
  each_old w x e = by_side (mark_with old z m w x e)
    where
      by_side : (mark_of old w ≡ Numbered x) ⊎ ((w ≡ z) × (m ≡ Numbered x)) → (key : List ℕ) × IsKey f old w key × (number_by new key ≡ Some x)
      by_side (inl g) = let k = h.each w x g in (k.0, k.1, keeps h.numbers k.0 x k.2)
      by_side (inr g) = subst (λ y. (key : List ℕ) × IsKey f old y key × (number_by new key ≡ Some x)) (sym g.0) (by_key x g.1)

  pub one_marked : IsNumbering f (with_mark old z m) new
  one_marked = record {
    each = λ w x e.
        let k = each_old w x e in
        (k.0, told_kept old (with_mark old z m) (mark_kept old z m un) w (told f w) k.0 k.1, k.2);
    equal = λ a b x ea eb.
        let k = each_old a x ea in
        let l = each_old b x eb in
        let one : l.0 ≡ k.0 = (numbers h.numbers).one l.0 k.0 x l.2 k.2 in
        same_key f old h.equal a b (told f a) (told f b) k.0 refl refl k.1 (subst (IsKey f old b) one l.1);
    numbers = numbers h.numbers;
  }

-- an entry's key, if it has one, with its number
pub key_both : {Z : Type 0} (o : Option (Vec ℕ Z)) (P Q : List ℕ → Type 0) → IfSome o (λ k. P k.items) → IsSomeAnd o (λ k. Q k.items) → (key : List ℕ) × P key × Q key
key_both None P Q h g = absurd g
key_both (Some k) P Q h g = (k.items, h, g)

-- no entry has a number yet
pub numbering_none : {Z : Type 0} (f : Contents) (marks : List Mark) (keys : KeyMap Z) → ((i : ℕ) → get_or marks i Unknown ≡ Unknown) → AreNumbers keys → IsNumbering f marks keys
numbering_none f marks keys un h = record {
  each = λ z x e. absurd (none z x e);
  equal = λ a b x ea eb. absurd (none a x ea);
  numbers = h;
}
  where
    none : (z : ℤ) (x : ℕ) → mark_of marks z ≡ Numbered x → ⊥
    none (pos n) x e = unknown_apart x (sym (un n) ∙ e)
    none (negsuc n) x e = unknown_apart x e

pub all_unknown : (n i : ℕ) → get_or (replicate n Unknown) i Unknown ≡ Unknown
all_unknown zero i = refl
all_unknown (suc n) zero = refl
all_unknown (suc n) (suc i) = all_unknown n i

-- ---- each entry in turn

pub one_further : (P : ℕ → Type 0) (i : ℕ) → ((n : ℕ) → n < i → P n) → P i → (n : ℕ) → n < i + 1 → P n
one_further P i h here n lt = by_order (cases_lt n i)
  where
    by_order : (n < i) ⊎ (i ≤ n) → P n
    by_order (inl less) = h n less
    by_order (inr le) = let same : i ≡ n = omega (arith, lt, le) in subst P same here

past_end : (marks : List Mark) (n : ℕ) → length marks ≤ n → get_or marks n Unknown ≡ Unknown
past_end [] n le = refl
past_end (m ∷ marks) zero le = absurd (omega (arith, le))
past_end (m ∷ marks) (suc n) le = past_end marks n (omega (arith, le))

pub each_endless : (f : Contents) (marks : List Mark) (count i : ℕ) → count ≡ length marks → count ≤ i
    → ((n : ℕ) → n < i → mark_of marks (pos n) ≡ Endless → LeadsOn f marks (pos n)) → AreEndless f marks
each_endless f marks count i is past h (negsuc n) e = absurd (let g : Unknown ≡ Endless = e in cc)
each_endless f marks count i is past h (pos n) e = by_order (cases_lt n (length marks))
  where
    by_order : (n < length marks) ⊎ (length marks ≤ n) → LeadsOn f marks (pos n)
    by_order (inl less) = h n (omega (arith, less, is, past)) e
    by_order (inr le) = absurd (let g : Unknown ≡ Endless = sym (past_end marks n le) ∙ e in cc)
