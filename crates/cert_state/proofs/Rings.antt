-- One number more of a corner line.
use Rattle.std.specs.Prelude.{◌≡◌, ℕ, ◌+◌, ◌<◌, List, [], ◌∷◌, ◌++◌, length, decimal}
use Rattle.std.proofs.Common.{refl, sym, ◌∙◌, ap, subst, arith, length-append, append_assoc}
use Rattle.std.proofs.lemmas.List.{append-nil}
use Rattle.std.proofs.lemmas.Fmt.{decimal_injective}
use Rattle.edge_uses.specs.ShellRows.{ShellRows}
use Rattle.cert_state.specs.Progress.{TurnsTo}
use Rattle.cert_text.specs.Text.{Begins, AreNumbers, Stops, spaced}
use Rattle.cert_state.specs.Ring.{IsRing, EndsNumbers, BeginsWithNumbers, BeginsWithCorner}
use Rattle.cert_text.proofs.Spacing.{first_or, rest_of, split_digits, decimal_digits}
use Rattle.cert_text.proofs.Digits.{begins_tail, numbers_begin}

-- the next number is left first
pub next_left : (rest after : List ℕ) (n : ℕ) (left : List ℕ) → Begins rest n after → AreNumbers rest left
    → (ms : List ℕ) × (left ≡ n ∷ ms) × AreNumbers after ms
next_left rest after n [] b h = absurd (let e : 32 ∷ decimal n ++ after ≡ [] = sym b.text_is ∙ h.text_is in cc)
next_left rest after n (m ∷ ms) b h = let t = begins_tail rest after ms n m b h in (ms, ap (λ x. x ∷ ms) t.0, t.1)

-- no number is left
pub none_left : (rest left : List ℕ) → ((n : ℕ) (after : List ℕ) → ¬ Begins rest n after) → AreNumbers rest left → left ≡ []
none_left rest [] never h = refl
none_left rest (m ∷ ms) never h = absurd (never m (spaced ms) (numbers_begin rest ms m h))

-- ---- numbers that something follows

rest_stops : (rest : List ℕ) → Stops rest → first_or 0 rest < 48
rest_stops [] h = omega arith
rest_stops (b ∷ bs) h = h

end_stops : (ns stop : List ℕ) → EndsNumbers stop → Stops (spaced ns ++ stop)
end_stops [] [] h = tt
end_stops [] (b ∷ bs) h = omega (arith, h)
end_stops (n ∷ ns) stop h = omega arith

-- a text that begins with a number
text_of : (n : ℕ) (ns stop : List ℕ) → spaced (n ∷ ns) ++ stop ≡ 32 ∷ decimal n ++ (spaced ns ++ stop)
text_of n ns stop = ap (λ (x : List ℕ). 32 ∷ x) (append_assoc (decimal n) (spaced ns) stop)

pub before_begin : (text ns stop : List ℕ) (n : ℕ) → BeginsWithNumbers text (n ∷ ns) stop → Begins text n (spaced ns ++ stop)
before_begin text ns stop n a = record { short = a.short.0; stops = end_stops ns stop a.ends; text_is = a.text_is ∙ text_of n ns stop }

pub before_cons : (text rest ns stop : List ℕ) (n : ℕ) → Begins text n rest → BeginsWithNumbers rest ns stop → BeginsWithNumbers text (n ∷ ns) stop
before_cons text rest ns stop n b a =
    record { short = (b.short, a.short); ends = a.ends; text_is = b.text_is ∙ (ap (λ (x : List ℕ). 32 ∷ decimal n ++ x) a.text_is ∙ sym (text_of n ns stop)) }

before_tail : (text rest ms stop : List ℕ) (n m : ℕ) → Begins text n rest → BeginsWithNumbers text (m ∷ ms) stop → (m ≡ n) × BeginsWithNumbers rest ms stop
before_tail text rest ms stop n m b a =
    let same : decimal n ++ rest ≡ decimal m ++ (spaced ms ++ stop) = ap rest_of (sym b.text_is ∙ (a.text_is ∙ text_of m ms stop)) in
    let parts = split_digits (decimal n) (decimal m) rest (spaced ms ++ stop) (decimal_digits n b.short) (decimal_digits m a.short.0) (rest_stops rest b.stops)
    (rest_stops (spaced ms ++ stop) (end_stops ms stop a.ends)) same in
    (sym (decimal_injective n m (omega (arith, b.short)) (omega (arith, a.short.0)) parts.0), record { short = a.short.1; ends = a.ends; text_is = parts.1 })

no_number : (rest after stop : List ℕ) (n : ℕ) → Begins rest n after → rest ≡ stop → EndsNumbers stop → ⊥
no_number rest after [] n b e h = let f : 32 ∷ decimal n ++ after ≡ [] = sym b.text_is ∙ e in cc
no_number rest after (s ∷ stop) n b e h = let f : 32 ≡ s = ap (first_or 0) (sym b.text_is ∙ e) in omega (arith, f, h)

-- the next number is left first
pub next_before : (rest after stop : List ℕ) (n : ℕ) (left : List ℕ) → Begins rest n after → BeginsWithNumbers rest left stop
    → (ms : List ℕ) × (left ≡ n ∷ ms) × BeginsWithNumbers after ms stop
next_before rest after stop n [] b h = absurd (no_number rest after stop n b h.text_is h.ends)
next_before rest after stop n (m ∷ ms) b h = let t = before_tail rest after ms stop n m b h in (ms, ap (λ x. x ∷ ms) t.0, t.1)

-- no number is left
pub none_before : (rest left stop : List ℕ) → ((n : ℕ) (after : List ℕ) → ¬ Begins rest n after) → BeginsWithNumbers rest left stop
    → (left ≡ []) × (rest ≡ stop)
none_before rest [] stop never h = (refl, h.text_is)
none_before rest (m ∷ ms) stop never h = absurd (never m (spaced ms ++ stop) (before_begin rest ms stop m h))

-- numbers that nothing follows
pub whole_before : (text ns : List ℕ) → AreNumbers text ns → BeginsWithNumbers text ns []
whole_before text ns a = record { short = a.short; ends = tt; text_is = a.text_is ∙ sym (append-nil (spaced ns)) }

pub at_end : (rest : List ℕ) → EndsNumbers rest → BeginsWithNumbers rest [] rest
at_end rest h = record { short = tt; ends = h; text_is = refl }

-- The numbers that are left make the ring whole exactly where all make it.
pub record Walked (d : ShellRows) (pairs : List (ℕ × ℕ)) (first last : ℕ) (rest all stop : List ℕ) (count : ℕ) : Type 0 where
  pub left : List ℕ
  pub numbers : BeginsWithNumbers rest left stop
  pub on : IsRing d pairs first last left → IsRing d pairs first first all
  pub back : IsRing d pairs first first all → IsRing d pairs first last left
  pub whole : count + length left ≡ length all + 1

pub walked_none : (d : ShellRows) (pairs : List (ℕ × ℕ)) (first : ℕ) (rest all stop : List ℕ) → BeginsWithNumbers rest all stop
    → Walked d pairs first first rest all stop 1
walked_none d pairs first rest all stop h = record { left = all; numbers = h; on = λ r. r; back = λ r. r; whole = omega arith }

pub walked_step : (d : ShellRows) (pairs : List (ℕ × ℕ)) (first last next : ℕ) (rest after all stop : List ℕ) (count : ℕ) → Begins rest next after → first < next
    → TurnsTo d pairs last next
    → Walked d pairs first last rest all stop count → Walked d pairs first next after all stop (count + 1)
walked_step d pairs first last next rest after all stop count b above turns w =
    let n = next_before rest after stop next w.left b w.numbers in
    record {
      left = n.0;
      numbers = n.2;
      on = λ r. w.on (subst (IsRing d pairs first last) (sym n.1) ((turns, r.0), (above, r.1)));
      back = λ r. (let k = subst (IsRing d pairs first last) n.1 (w.back r) in (k.0.1, k.1.1));
      whole = omega (arith, w.whole, ap (λ xs. length xs) n.1);
    }

-- where the next number doesn't go on, nothing makes the ring whole
pub walked_stop : (d : ShellRows) (pairs : List (ℕ × ℕ)) (first last next : ℕ) (rest after all stop : List ℕ) (count : ℕ) → Begins rest next after
    → (first < next → TurnsTo d pairs last next → ⊥)
    → Walked d pairs first last rest all stop count → IsRing d pairs first first all → ⊥
walked_stop d pairs first last next rest after all stop count b never w r =
    let n = next_before rest after stop next w.left b w.numbers in
    let k = subst (IsRing d pairs first last) n.1 (w.back r) in
    never k.1.0 k.0.0

pub walked_whole : (d : ShellRows) (pairs : List (ℕ × ℕ)) (first last : ℕ) (rest all stop : List ℕ) (count : ℕ)
    → ((n : ℕ) (after : List ℕ) → ¬ Begins rest n after) → TurnsTo d pairs last first
    → Walked d pairs first last rest all stop count → IsRing d pairs first first all × (count ≡ length (first ∷ all)) × (rest ≡ stop)
walked_whole d pairs first last rest all stop count never turns w =
    let e = none_before rest w.left stop never w.numbers in
    (w.on (subst (IsRing d pairs first last) (sym e.0) ((turns, tt), tt)), omega (arith, w.whole, ap (λ xs. length xs) e.0), e.1)

pub walked_broken : (d : ShellRows) (pairs : List (ℕ × ℕ)) (first last : ℕ) (rest all stop : List ℕ) (count : ℕ)
    → ((n : ℕ) (after : List ℕ) → ¬ Begins rest n after) → (TurnsTo d pairs last first → ⊥)
    → Walked d pairs first last rest all stop count → IsRing d pairs first first all → ⊥
walked_broken d pairs first last rest all stop count never broken w r =
    let e = none_before rest w.left stop never w.numbers in
    let k = subst (IsRing d pairs first last) e.0 (w.back r) in
    broken k.0.0

-- where something else than the end follows, the text doesn't begin with numbers alone
pub walked_more : (d : ShellRows) (pairs : List (ℕ × ℕ)) (first last : ℕ) (rest all stop : List ℕ) (count : ℕ) → (EndsNumbers rest → ⊥)
    → ((n : ℕ) (after : List ℕ) → ¬ Begins rest n after) → Walked d pairs first last rest all stop count → ⊥
walked_more d pairs first last rest all stop count more never w =
    let e = none_before rest w.left stop never w.numbers in more (subst EndsNumbers (sym e.1) w.numbers.ends)

pub begins_shorter : (rest after : List ℕ) (n : ℕ) → Begins rest n after → length after < length rest
begins_shorter rest after n b = omega (arith, ap (λ xs. length xs) b.text_is, length-append (32 ∷ decimal n) after)

-- a corner line's numbers are its first one and the others
pub corner_begins : (text others stop : List ℕ) (n : ℕ) → Begins text n others → (rs : List ℕ) × BeginsWithNumbers others rs stop → BeginsWithCorner text stop
corner_begins text others stop n b (ms, a) = (n ∷ ms, before_cons text others ms stop n b a, omega arith)
