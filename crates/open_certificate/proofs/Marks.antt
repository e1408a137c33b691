-- Arrays of marked rows, and counts that stop.
use Rattle.std.specs.Prelude.{◌≡◌, ◌≢◌, ℕ, zero, suc, ◌-◌, ◌<◌, ◌≤◌, ◌==◌, ◌⊎◌, Bool, true, false, List, [], ◌∷◌, length, Contains, Some, slice_get, slice_set}
use Rattle.std.specs.Prelude.{replicate}
use Rattle.std.proofs.Common.{sym, ◌∙◌, ap, subst, arith, inl, inr}
use Rattle.std.proofs.lemmas.Bool.Decides.{eqb_tells}
use Rattle.std.proofs.lemmas.Option.{same_Some}
use Rattle.std.proofs.lemmas.List.{length-replicate}
use Rattle.solid_data.proofs.Members.{Has, Has-from_Contains, Contains-from_Has}
use Rattle.cert_state.proofs.Arrays.{get_set_same, get_set_other}
use Rattle.open_certificate.specs.CheckState.{IsMarked, HoldsRows}

-- one row more is marked
pub rows_more : (marks : List Bool) (rows : List ℕ) (a : ℕ) → 0 < a → a ≤ length marks → HoldsRows marks rows
    → HoldsRows (slice_set marks (a - 1) true) (a ∷ rows)
rows_more marks rows zero pos within holds r = absurd (omega (arith, pos))
rows_more marks rows (suc k) pos within holds r =
    let place : suc k - 1 ≡ k = omega arith in
    subst (λ n. (Contains (suc k ∷ rows) r → IsMarked (slice_set marks n true) r) × (IsMarked (slice_set marks n true) r → Contains (suc k ∷ rows) r))
    (sym place) (to r, from r)
  where
    was : (x : ℕ) → Has rows x → IsMarked (slice_set marks k true) x
    was x m = by_row x ((holds x).0 (Contains-from_Has rows x m))
      where
        by_row : (y : ℕ) → IsMarked marks y → IsMarked (slice_set marks k true) y
        by_row zero h = h
        by_row (suc j) h = by_place (eqb_tells k j)
          where
            by_place : (((k == j) ≡ true) × (k ≡ j)) ⊎ (((k == j) ≡ false) × (k ≢ j)) → slice_get (slice_set marks k true) j ≡ Some true
            by_place (inl y) = ap (slice_get (slice_set marks k true)) (sym y.1) ∙ get_set_same marks k true (omega (arith, within))
            by_place (inr n) = get_set_other marks k j true n.1 ∙ h

    to : (x : ℕ) → Contains (suc k ∷ rows) x → IsMarked (slice_set marks k true) x
    to x c = by_has (Has-from_Contains (suc k ∷ rows) x c)
      where
        by_has : Has (suc k ∷ rows) x → IsMarked (slice_set marks k true) x
        by_has (inl e) = subst (IsMarked (slice_set marks k true)) e (get_set_same marks k true (omega (arith, within)))
        by_has (inr m) = was x m

    from : (x : ℕ) → IsMarked (slice_set marks k true) x → Contains (suc k ∷ rows) x
    from zero h = absurd h
    from (suc j) h = by_place (eqb_tells k j)
      where
        by_place : (((k == j) ≡ true) × (k ≡ j)) ⊎ (((k == j) ≡ false) × (k ≢ j)) → Contains (suc k ∷ rows) (suc j)
        by_place (inl y) = Contains-from_Has (suc k ∷ rows) (suc j) (inl (ap suc y.1))
        by_place (inr n) = Contains-from_Has (suc k ∷ rows) (suc j)
            (inr (Has-from_Contains rows (suc j) ((holds (suc j)).1 (sym (get_set_other marks k j true n.1) ∙ h))))

unmarked : (n j : ℕ) → slice_get (replicate n false) j ≡ Some true → ⊥
unmarked zero j h = absurd cc
unmarked (suc n) zero h = let e : false ≡ true = same_Some false true h in cc
unmarked (suc n) (suc j) h = unmarked n j h

pub no_rows_marked : (marks : List Bool) (n : ℕ) → marks ≡ replicate n false → HoldsRows marks []
no_rows_marked marks n e zero = (λ c. absurd (Has-from_Contains [] zero c), λ h. absurd h)
no_rows_marked marks n e (suc j) = (λ c. absurd (Has-from_Contains [] (suc j) c), λ h. absurd (unmarked n j (ap (λ xs. slice_get xs j) (sym e) ∙ h)))

pub marks_long : (marks : List Bool) (n : ℕ) → marks ≡ replicate n false → length marks ≡ n
marks_long marks n e = ap (λ (xs : List Bool). length xs) e ∙ length-replicate n false
