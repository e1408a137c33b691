-- What was put when memory ran out: some of the first.
use Rattle.std.specs.Prelude.{◌≡◌, ℕ, ◌+◌, ◌<◌, ℤ, pos, unsigned_abs, List, [], ◌∷◌, ◌++◌, length, take, Result, Ok, Err, OnErr}
use Rattle.std.proofs.Common.{refl, sym, ap, ◌∙◌, get_or, append_assoc}
use Rattle.std.proofs.Math.Seq.{take-append_seam}
use Rattle.std.proofs.lemmas.List.{append_cancel_left, take_more}
use Rattle.entry_references.specs.EntrySets.{Entries, with_number, with_numbers}
use Rattle.entry_references.specs.Numbers.{AddsFirstOf}

on_err : {X E : Type 0} (r : Result X E) (P : Type 0) → P → OnErr r P
on_err (Ok x) P p = tt
on_err (Err e) P p = p

-- one more is put behind
pub put_more : {X : Type 0} (old now new one : List X) → ((put : List X) × (now ≡ old ++ put)) → new ≡ now ++ one → (put : List X) × (new ≡ old ++ put)
put_more old now new one h e = (h.0 ++ one, e ∙ (ap (λ xs. xs ++ one) h.1 ∙ append_assoc old h.0 one))

pub names_put : {X E : Type 0} (r : Result X E) (old now rest all new : List ℤ) → ((put : List ℤ) × (now ≡ old ++ put)) → now ++ rest ≡ old ++ all → new ≡ now
    → OnErr r (AddsFirstOf old all new)
names_put r old now rest all new h whole e =
    let parts : h.0 ++ rest ≡ all = append_cancel_left old (h.0 ++ rest) all (sym (append_assoc old h.0 rest) ∙ (ap (λ xs. xs ++ rest) (sym h.1) ∙ whole)) in
    on_err r (AddsFirstOf old all new) (length h.0, e ∙ (h.1 ∙ ap (λ xs. old ++ xs) (sym (take-append_seam h.0 rest) ∙ ap (take (length h.0)) parts)))

-- ---- entries

with_both : (xs ys : List ℤ) (ns : List ℕ) → with_numbers ns (xs ++ ys) ≡ with_numbers (with_numbers ns xs) ys
with_both [] ys ns = refl
with_both (x ∷ xs) ys ns = with_both xs ys (with_number ns (unsigned_abs x))

-- the next number is put
pub entry_more : (old now new : Entries) (xs zs : List ℤ) (i : ℕ) (z : ℤ) → xs ≡ zs → i < length xs → z ≡ get_or xs i (pos 0)
    → new ≡ record now { numbers = with_number now.numbers (unsigned_abs z) } → now.numbers ≡ with_numbers old.numbers (take i zs)
    → new.numbers ≡ with_numbers old.numbers (take (i + 1) zs)
entry_more old now new xs zs i z same lt is e inv =
    let parts : take i zs ++ z ∷ [] ≡ take (i + 1) zs =
    ap (λ ys. take i ys ++ z ∷ []) (sym same) ∙ (ap (λ y. take i xs ++ y ∷ []) is ∙ (sym (take_more xs i (pos 0) lt) ∙ ap (take (i + 1)) same)) in
    ap (λ (s : Entries). s.numbers) e
    ∙ (ap (λ ns. with_number ns (unsigned_abs z)) inv
    ∙ (sym (with_both (take i zs) (z ∷ []) old.numbers) ∙ ap (with_numbers old.numbers) parts))
