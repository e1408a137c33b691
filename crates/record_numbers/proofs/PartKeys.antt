-- Keys of parts: what has the same key says the same.
use Rattle.std.specs.Prelude.{◌≡◌, ◌⊎◌, ℕ, zero, suc, ◌+◌, ◌<◌, ◌^◌, ℤ, List, [], ◌∷◌, ◌++◌, length, drop, flat_map, get_or, Option, Some, None}
use Rattle.std.specs.Fmt.{decimal, signed_decimal}
use Rattle.std.specs.Int.Signed.{mag}
use Rattle.std.specs.List.{AllZip}
use Rattle.std.proofs.Common.{refl, sym, ap, ◌∙◌, subst, arith, append_assoc}
use Rattle.std.proofs.lemmas.Fmt.{decimal_injective, signed_decimal_injective}
use Rattle.equal_values.specs.Canonical.{canonical}
use Rattle.equal_values.specs.Equal.{AreEqualValues}
use Rattle.equal_values.specs.Keys.{key_of, marked}
use Rattle.equal_values.proofs.Texts.{texts_decide}
use Rattle.record_numbers.specs.EqualRecords.{Part, pointer, plain, Told, SaySame, AreTold}
use Rattle.record_numbers.specs.Marked.{mark_of, number_in, part_key, told_key, alone_key, HasNumber, HaveNumbers}
use Rattle.record_numbers.specs.declared.marks.Mark.{Mark}
use Rattle.record_numbers.specs.declared.marks.Mark.TheVariants.{Unknown, Endless, Numbered}
use Rattle.equal_values.proofs.Marks.{marks_part}

marked_low : (t x : List ℕ) → get_or (marked t ++ x) 0 0 < 2
marked_low [] x = omega arith
marked_low (b ∷ t) x = omega arith

marked_some : (t x : List ℕ) → 0 < length (marked t ++ x)
marked_some [] x = omega arith
marked_some (b ∷ t) x = omega arith

key_some : (marks : List Mark) (p : Part) (x : List ℕ) → 0 < length (part_key marks p ++ x)
key_some marks (plain v) x = marked_some (canonical v) x
key_some marks (pointer None) x = omega arith
key_some marks (pointer (Some z)) x = omega arith

module _ (marks : List Mark) (R : ℤ → ℤ → Type 0)
    (equal : (a b : ℤ) (x : ℕ) → mark_of marks a ≡ Numbered x → mark_of marks b ≡ Numbered x → R a b) where
  one_number : (a b : ℤ) → ((n : ℕ) × (mark_of marks a ≡ Numbered n) × (n < 2 ^ 32)) → ((n : ℕ) × (mark_of marks b ≡ Numbered n) × (n < 2 ^ 32))
      → decimal (number_in (mark_of marks a)) ≡ decimal (number_in (mark_of marks b)) → R a b
  one_number a b h k e =
      let these : number_in (mark_of marks a) ≡ h.0 = ap number_in h.1 in
      let those : number_in (mark_of marks b) ≡ k.0 = ap number_in k.1 in
      let same : number_in (mark_of marks a) ≡ number_in (mark_of marks b) =
      decimal_injective (number_in (mark_of marks a)) (number_in (mark_of marks b)) (omega (arith, these, h.2)) (omega (arith, those, k.2)) e in
      equal a b h.0 h.1 (k.1 ∙ ap Numbered (sym those ∙ (sym same ∙ these)))

  say_one : (p q : Part) (x y : List ℕ) → HasNumber marks p → HasNumber marks q → part_key marks p ++ x ≡ part_key marks q ++ y → SaySame R p q × (x ≡ y)
  say_one (pointer None) (pointer None) x y h k e = (tt, ap (drop 1) e)
  say_one (pointer None) (pointer (Some b)) x y h k e = absurd (let no = ap (λ (t : List ℕ). get_or t 0 0) e in omega (arith, no))
  say_one (pointer None) (plain w) x y h k e =
      absurd (let no = ap (λ (t : List ℕ). get_or t 0 0) e in let low = marked_low (canonical w) y in omega (arith, no, low))
  say_one (pointer (Some a)) (pointer None) x y h k e = absurd (let no = ap (λ (t : List ℕ). get_or t 0 0) e in omega (arith, no))
  say_one (pointer (Some a)) (pointer (Some b)) x y h k e =
      let parts = marks_part (decimal (number_in (mark_of marks a))) (decimal (number_in (mark_of marks b))) x y (ap (drop 1) e) in
      (one_number a b h k parts.0, parts.1)
  say_one (pointer (Some a)) (plain w) x y h k e =
      absurd (let no = ap (λ (t : List ℕ). get_or t 0 0) e in let low = marked_low (canonical w) y in omega (arith, no, low))
  say_one (plain v) (pointer None) x y h k e =
      absurd (let no = ap (λ (t : List ℕ). get_or t 0 0) e in let low = marked_low (canonical v) x in omega (arith, no, low))
  say_one (plain v) (pointer (Some b)) x y h k e =
      absurd (let no = ap (λ (t : List ℕ). get_or t 0 0) e in let low = marked_low (canonical v) x in omega (arith, no, low))
  say_one (plain v) (plain w) x y h k e =
      let parts = marks_part (canonical v) (canonical w) x y e in
      ((texts_decide v w).0 parts.0, parts.1)

  say_all : (ps qs : List Part) → HaveNumbers marks ps → HaveNumbers marks qs → flat_map (part_key marks) ps ≡ flat_map (part_key marks) qs
      → AllZip (SaySame R) ps qs
  say_all [] [] h k e = tt
  say_all [] (q ∷ qs) h k e =
      absurd (let some = key_some marks q (flat_map (part_key marks) qs) in let none = ap length e in omega (arith, some, none))
  say_all (p ∷ ps) [] h k e =
      absurd (let some = key_some marks p (flat_map (part_key marks) ps) in let none = ap length e in omega (arith, some, none))
  say_all (p ∷ ps) (q ∷ qs) h k e =
      let one = say_one p q (flat_map (part_key marks) ps) (flat_map (part_key marks) qs) h.0 k.0 e in
      (one.0, say_all ps qs h.1 k.1 one.1)

  -- records of one key say the same
  pub keys_say : (s t : Told) → mag s.kind < 2 ^ 63 → mag s.form < 2 ^ 63 → mag t.kind < 2 ^ 63 → mag t.form < 2 ^ 63
      → HaveNumbers marks s.parts → HaveNumbers marks t.parts → told_key marks s ≡ told_key marks t → AreTold R (Some s) (Some t)
  keys_say s t sk sf tk tf h k e =
      let kinds = marks_part (signed_decimal s.kind) (signed_decimal t.kind) (marked (signed_decimal s.form) ++ flat_map (part_key marks) s.parts)
      (marked (signed_decimal t.form) ++ flat_map (part_key marks) t.parts) e in
      let forms = marks_part (signed_decimal s.form) (signed_decimal t.form) (flat_map (part_key marks) s.parts) (flat_map (part_key marks) t.parts) kinds.1 in (
        signed_decimal_injective s.kind t.kind sk tk kinds.0,
        signed_decimal_injective s.form t.form sf tf forms.0,
        say_all s.parts t.parts h k forms.1,
      )

-- a key of what says nothing is none of what says something
pub key_apart : (marks : List Mark) (t : Told) (z : ℤ) → told_key marks t ≡ alone_key z → ⊥
key_apart marks t z e =
    let whole : marked (signed_decimal t.kind) ++ (marked (signed_decimal t.form) ++ flat_map (part_key marks) t.parts) ≡ 2 ∷ signed_decimal z = e in
    let no = ap (λ (t : List ℕ). get_or t 0 0) whole in
    let low = marked_low (signed_decimal t.kind) (marked (signed_decimal t.form) ++ flat_map (part_key marks) t.parts) in
    omega (arith, no, low)

pub alone_is : (y z : ℤ) → mag y < 2 ^ 63 → mag z < 2 ^ 63 → alone_key y ≡ alone_key z → y ≡ z
alone_is y z sy sz e = signed_decimal_injective y z sy sz (ap (drop 1) e)

-- ---- and what says the same has the same key

module _ (marks : List Mark) (R : ℤ → ℤ → Type 0)
    (numbers : (a b : ℤ) (x y : ℕ) → R a b → mark_of marks a ≡ Numbered x → mark_of marks b ≡ Numbered y → x ≡ y) where
  key_one : (p q : Part) → HasNumber marks p → HasNumber marks q → SaySame R p q → part_key marks p ≡ part_key marks q
  key_one (pointer None) (pointer None) h k e = refl
  key_one (pointer None) (pointer (Some b)) h k e = absurd e
  key_one (pointer None) (plain w) h k e = absurd e
  key_one (pointer (Some a)) (pointer None) h k e = absurd e
  key_one (pointer (Some a)) (pointer (Some b)) h k e =
      let same : h.0 ≡ k.0 = numbers a b h.0 k.0 e h.1 k.1 in
      ap (λ (n : ℕ). 3 ∷ marked (decimal n)) (ap number_in h.1 ∙ (same ∙ sym (ap number_in k.1)))
  key_one (pointer (Some a)) (plain w) h k e = absurd e
  key_one (plain v) (pointer z) h k e = absurd e
  key_one (plain v) (plain w) h k e = ap marked ((texts_decide v w).1 e)

  key_all : (ps qs : List Part) → HaveNumbers marks ps → HaveNumbers marks qs → AllZip (SaySame R) ps qs
      → flat_map (part_key marks) ps ≡ flat_map (part_key marks) qs
  key_all [] [] h k e = refl
  key_all [] (q ∷ qs) h k e = absurd e
  key_all (p ∷ ps) [] h k e = absurd e
  key_all (p ∷ ps) (q ∷ qs) h k e =
      ap (λ (t : List ℕ). t ++ flat_map (part_key marks) ps) (key_one p q h.0 k.0 e.0)
      ∙ ap (λ (t : List ℕ). part_key marks q ++ t) (key_all ps qs h.1 k.1 e.1)

  pub says_key : (s t : Told) → HaveNumbers marks s.parts → HaveNumbers marks t.parts → AreTold R (Some s) (Some t) → told_key marks s ≡ told_key marks t
  says_key s t h k e =
      ap (λ (z : ℤ). marked (signed_decimal z) ++ (marked (signed_decimal s.form) ++ flat_map (part_key marks) s.parts)) e.0
      ∙ (ap (λ (z : ℤ). marked (signed_decimal t.kind) ++ (marked (signed_decimal z) ++ flat_map (part_key marks) s.parts)) e.1
      ∙ ap (λ (u : List ℕ). marked (signed_decimal t.kind) ++ (marked (signed_decimal t.form) ++ u)) (key_all s.parts t.parts h k e.2))
