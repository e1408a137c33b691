-- The numbers of a line.
use Rattle.std.specs.Prelude.{◌≡◌, ℕ, ◌<◌, ◌≤◌, ◌^◌, List, [], ◌∷◌, ◌++◌, decimal, flat_map, length, ⊤}
use Rattle.std.specs.List.{AllByRecursion}

-- each number after a space, in plain decimal
abbrev pub spaced : List ℕ → List ℕ
spaced ns = flat_map (λ n. 32 ∷ decimal n) ns

-- at most nine digits
abbrev pub IsShort : ℕ → Type 0
IsShort n = n < 10 ^ 9

-- no byte below the digits
abbrev pub IsWord : List ℕ → Type 0
IsWord bytes = AllByRecursion (λ b. 48 ≤ b) bytes

-- no digit goes on here
abbrev pub Stops : List ℕ → Type 0
Stops [] = ⊤
Stops (b ∷ bs) = b < 48

-- the bytes are there, and begin with no 0 that others follow
abbrev pub IsPlain : List ℕ → Type 0
IsPlain [] = ⊥
IsPlain (b ∷ bs) = b ≡ 48 → length bs ≡ 0

-- The text begins with a space and this number, and after these stands the rest.
pub record Begins (text : List ℕ) (n : ℕ) (rest : List ℕ) : Type 0 where
  pub short : IsShort n
  pub stops : Stops rest
  pub text_is : text ≡ 32 ∷ decimal n ++ rest

-- the text is these numbers
pub record AreNumbers (text : List ℕ) (ns : List ℕ) : Type 0 where
  pub short : AllByRecursion IsShort ns
  pub text_is : text ≡ spaced ns

-- the text is numbers
abbrev pub IsSpaced : List ℕ → Type 0
IsSpaced text = (ns : List ℕ) × AreNumbers text ns
