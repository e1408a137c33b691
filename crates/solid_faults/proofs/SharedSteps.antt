-- The shared vertices that are found so far, and those of the vertices that are left.
use Rattle.std.specs.Prelude.{◌≡◌, ◌==◌, ◌+◌, ◌↔◌, ℕ, Bool, true, false, IsTrue, Contains, List, [], ◌∷◌, ◌++◌, Some, slice_get, if◌then◌else◌, length}
use Rattle.std.specs.List.{list_any}
use Rattle.std.proofs.Common.{arith, refl, sym, ◌∙◌, ap, drop, append_assoc}
use Rattle.solid_data.specs.SolidData.{SolidData, occurring}
use Rattle.solid_data.proofs.Members.{split_at, Has-from_Contains, Contains-from_Has}
use Rattle.solid_data.proofs.Occurring.{found}
use Rattle.edge_uses.specs.Before.{AreBelow, above_of}
use Rattle.solid_faults.proofs.Named.{any_has}

-- the two tests agree
tests_agree : (v : ℕ) (before : List ℕ) (wanted b : Bool) → IsTrue wanted ↔ Contains before v → list_any (λ m. m == v) before ≡ b → b ≡ wanted
tests_agree v before true true h e = refl
tests_agree v before false false h e = refl
tests_agree v before true false h e = absurd (let clash : false ≡ true = sym e ∙ found v before (Has-from_Contains before v (h.0 refl)) in cc)
tests_agree v before false true h e = absurd (let clash : false ≡ true = h.1 (Contains-from_Has before v (any_has v before e)) in cc)

one_more : (v : ℕ) (wanted : Bool) (old rest : List ℕ) → old ++ (if wanted then v ∷ rest else rest) ≡ (old ++ (if wanted then v ∷ [] else [])) ++ rest
one_more v true old rest = sym (append_assoc old (v ∷ []) rest)
one_more v false old rest = sym (append_assoc old [] rest)

pub occurring_step : (vs : List ℕ) (i v : ℕ) (before : List ℕ) (wanted : Bool) (old new all : List ℕ) → slice_get vs i ≡ Some v
    → IsTrue wanted ↔ Contains before v
    → old ++ occurring (drop i vs) before ≡ all → new ≡ old ++ (if wanted then v ∷ [] else []) → new ++ occurring (drop (i + 1) vs) before ≡ all
occurring_step vs i v before wanted old new all at test h e =
    let rest : List ℕ = occurring (drop (i + 1) vs) before in
    let split : occurring (drop i vs) before ≡ (if list_any (λ m. m == v) before then v ∷ rest else rest) = ap (λ xs. occurring xs before) (split_at vs i v at)
    in
    let same : list_any (λ m. m == v) before ≡ wanted = tests_agree v before wanted (list_any (λ m. m == v) before) test refl in
    ap (λ xs. xs ++ rest) e
    ∙ (sym (one_more v wanted old rest)
    ∙ (ap (λ b. old ++ (if b then v ∷ rest else rest)) (sym same)
    ∙ (ap (λ xs. old ++ xs) (sym split) ∙ h)))

-- before the first shell there is no vertex
pub none_below : (s : SolidData) → AreBelow s 0 0
none_below s v = ((λ c. absurd (Has-from_Contains [] v c)), (λ lt. absurd (omega (arith, lt))))

pub empty_above : (vs : List ℕ) → length vs ≡ 0 → above_of vs ≡ 0
empty_above [] e = refl
empty_above (x ∷ xs) e = absurd (omega (arith, e))
