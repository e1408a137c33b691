-- The shells of a solid that fail.
use Rattle.std.specs.Prelude.{◌≡◌, ◌⊎◌, ℕ, List, [], ◌∷◌, take}
use Rattle.std.specs.List.{enumerate_from}
use Rattle.solid_data.specs.Obligations.{AllHold}
use Rattle.solid_data.specs.SolidData.{SolidData}
use Rattle.solid_data.specs.declared.solid.Shell.{Shell}
use Rattle.shell_rules.specs.ShellObligations.{shell_obligations}

-- a shell, which is given with its place, keeps all rules
abbrev pub Keeps : SolidData → ℕ × Shell → Type 0
Keeps s h = AllHold (shell_obligations s h)

-- Of these shells those that fail have one each of these items, in order, where `at` is the shell that an item is for.
abbrev pub AreOfFailing : {X : Type 0} → (X → ℕ) → SolidData → List (ℕ × Shell) → List X → Type 0
AreOfFailing at s [] xs = xs ≡ []
AreOfFailing at s (h ∷ hs) [] = Keeps s h × AreOfFailing at s hs []
AreOfFailing at s (h ∷ hs) (x ∷ xs) = (Keeps s h × AreOfFailing at s hs (x ∷ xs)) ⊎ (¬ Keeps s h × (at x ≡ h.0) × AreOfFailing at s hs xs)

-- one each for all shells of a solid that fail
abbrev pub OneEach : {X : Type 0} → (X → ℕ) → SolidData → List X → Type 0
OneEach at s xs = AreOfFailing at s (enumerate_from 0 s.shells) xs

-- Private: the same of the first k shells.
abbrev pub SoFar : {X : Type 0} → (X → ℕ) → SolidData → ℕ → List X → Type 0
SoFar at s k xs = AreOfFailing at s (take k (enumerate_from 0 s.shells)) xs
