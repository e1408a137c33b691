-- A text at the right of some columns.
use Rattle.std.proofs.Common.{◌≡◌, ℕ, zero, suc, ◌+◌, ◌-◌, ◌≤◌, List, [], ◌++◌, length, take, drop, sym, ap, ◌∙◌, arith}
use Rattle.std.proofs.lemmas.List.{append-nil, length-replicate, take-append-drop, take-replicate, drop_all}
use Rattle.iges_base.specs.Word.{spaces}
use Rattle.line_layout.specs.Rows.{right}

-- what is dropped from the spaces
drop-spaces : (k n : ℕ) (text : List ℕ) → k ≤ n → drop k (spaces n ++ text) ≡ spaces (n - k) ++ text
drop-spaces zero n text le = ap (λ (m : ℕ). spaces m ++ text) (omega arith)
drop-spaces (suc k) zero text le = absurd (omega arith)
drop-spaces (suc k) (suc n) text le = drop-spaces k n text (omega arith) ∙ ap (λ (m : ℕ). spaces m ++ text) (omega arith)

pub right-is : (n : ℕ) (text : List ℕ) → length text ≤ n → right n text ≡ spaces (n - length text) ++ text
right-is n text le = drop-spaces (length text) n text le

-- a text that was written over the last of so many spaces
pub right_written : (new old text : List ℕ) (start n : ℕ) → old ≡ spaces n → start + length text ≡ n → drop start new ≡ text ++ drop n old
    → take start new ≡ take start old → new ≡ right n text
right_written new old text start n blank long behind before =
    let none : drop n old ≡ [] = ap (drop n) blank ∙ drop_all n (spaces n) (omega (arith, length-replicate {A = ℕ} n 32)) in
    let front : take start old ≡ spaces start = ap (take start) blank ∙ take-replicate start n 32 (omega (arith, long)) in
    let left : start ≡ n - length text = omega (arith, long) in
    sym (take-append-drop start new)
    ∙ ap (λ (x : List ℕ). x ++ drop start new) (before ∙ front)
    ∙ ap (λ (x : List ℕ). spaces start ++ x) (behind ∙ ap (λ (x : List ℕ). text ++ x) none ∙ append-nil text)
    ∙ ap (λ (k : ℕ). spaces k ++ text) left
    ∙ sym (right-is n text (omega (arith, long)))
