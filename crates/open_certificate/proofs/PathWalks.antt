-- One number more of a path line.
use Rattle.std.specs.Prelude.{◌≡◌, ℕ, ◌+◌, List, ◌∷◌, length}
use Rattle.std.proofs.Common.{refl, sym, ◌∙◌, ap, subst, arith}
use Rattle.edge_uses.specs.ShellRows.{ShellRows}
use Rattle.cert_state.specs.Progress.{TurnsTo}
use Rattle.cert_text.specs.Text.{Begins, AreNumbers}
use Rattle.cert_state.proofs.Rings.{next_left, none_left}
use Rattle.open_certificate.specs.Progress.{IsChain, last_of}

-- The numbers that are left make the chain whole exactly where all make it.
pub record Walked (d : ShellRows) (pairs : List (ℕ × ℕ)) (first last : ℕ) (rest : List ℕ) (all : List ℕ) (count : ℕ) : Type 0 where
  pub left : List ℕ
  pub numbers : AreNumbers rest left
  pub on : IsChain (TurnsTo d pairs) last left → IsChain (TurnsTo d pairs) first all
  pub back : IsChain (TurnsTo d pairs) first all → IsChain (TurnsTo d pairs) last left
  pub ends : last_of last left ≡ last_of first all
  pub whole : count + length left ≡ length all + 1

pub walked_none : (d : ShellRows) (pairs : List (ℕ × ℕ)) (first : ℕ) (rest all : List ℕ) → AreNumbers rest all → Walked d pairs first first rest all 1
walked_none d pairs first rest all h = record { left = all; numbers = h; on = λ r. r; back = λ r. r; ends = refl; whole = omega arith }

pub walked_step : (d : ShellRows) (pairs : List (ℕ × ℕ)) (first last next : ℕ) (rest after all : List ℕ) (count : ℕ) → Begins rest next after
    → TurnsTo d pairs last next
    → Walked d pairs first last rest all count → Walked d pairs first next after all (count + 1)
walked_step d pairs first last next rest after all count b turns w =
    let n = next_left rest after next w.left b w.numbers in
    record {
      left = n.0;
      numbers = n.2;
      on = λ r. w.on (subst (IsChain (TurnsTo d pairs) last) (sym n.1) (turns, r));
      back = λ r. (let k = subst (IsChain (TurnsTo d pairs) last) n.1 (w.back r) in k.1);
      ends = ap (last_of last) (sym n.1) ∙ w.ends;
      whole = omega (arith, w.whole, ap (λ xs. length xs) n.1);
    }

-- where the next number is no turn, nothing makes the chain whole
pub walked_stop : (d : ShellRows) (pairs : List (ℕ × ℕ)) (first last next : ℕ) (rest after all : List ℕ) (count : ℕ) → Begins rest next after
    → (TurnsTo d pairs last next → ⊥)
    → Walked d pairs first last rest all count → IsChain (TurnsTo d pairs) first all → ⊥
walked_stop d pairs first last next rest after all count b never w r =
    let n = next_left rest after next w.left b w.numbers in
    let k = subst (IsChain (TurnsTo d pairs) last) n.1 (w.back r) in
    never k.0

pub walked_whole : (d : ShellRows) (pairs : List (ℕ × ℕ)) (first last : ℕ) (rest all : List ℕ) (count : ℕ) → ((n : ℕ) (after : List ℕ) → ¬ Begins rest n after)
    → Walked d pairs first last rest all count → IsChain (TurnsTo d pairs) first all × (last ≡ last_of first all) × (count ≡ length (first ∷ all))
walked_whole d pairs first last rest all count never w =
    let e = none_left rest w.left never w.numbers in
    (w.on (subst (IsChain (TurnsTo d pairs) last) (sym e) tt), sym (ap (last_of last) e) ∙ w.ends, omega (arith, w.whole, ap (λ xs. length xs) e))
