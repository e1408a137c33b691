-- Lists of obligations that fail alike, under names that are related.
use Rattle.std.specs.Prelude.{◌≡◌, ◌↔◌, List, [], ◌∷◌, ⊤}
use Rattle.solid_data.specs.Obligations.{Obligation, AllHold, FirstFalse}
use Rattle.solid_data.specs.declared.verdict.Failing.{Failing}

-- Q relates what they name, and the one holds where the other does.
abbrev pub OneAlike : (Failing → Failing → Type 0) → Obligation → Obligation → Type 0
OneAlike Q p q = Q p.failing q.failing × (p.holds ↔ q.holds)

-- The lists are as long as one another, and this is so item by item: each is false where the one at its place is.
abbrev pub AllAlike : (Failing → Failing → Type 0) → List Obligation → List Obligation → Type 0
AllAlike Q [] [] = ⊤
AllAlike Q [] (q ∷ qs) = ⊥
AllAlike Q (p ∷ ps) [] = ⊥
AllAlike Q (p ∷ ps) (q ∷ qs) = OneAlike Q p q × AllAlike Q ps qs

-- This is so as far as the first false one. What comes after a false one speaks of nothing, and isn't compared.
abbrev pub FailAlike : (Failing → Failing → Type 0) → List Obligation → List Obligation → Type 0
FailAlike Q [] [] = ⊤
FailAlike Q [] (q ∷ qs) = ⊥
FailAlike Q (p ∷ ps) [] = ⊥
FailAlike Q (p ∷ ps) (q ∷ qs) = Q p.failing q.failing × (p.holds ↔ q.holds) × (p.holds → FailAlike Q ps qs)

-- All of the one list hold exactly where all of the other do, and else the first false one of the other is what `change` makes of the first false one.
pub record KeepsVerdictAs (change : Failing → Failing) (ps qs : List Obligation) : Type 0 where
  pub all : AllHold ps ↔ AllHold qs
  pub fails : (x : Failing) → FirstFalse ps x → FirstFalse qs (change x)
  pub only : (y : Failing) → FirstFalse qs y → (x : Failing) × (y ≡ change x) × FirstFalse ps x
