-- The lines that are left to pass over, one by one.
use Rattle.std.specs.Prelude.{◌≡◌, ◌<◌, ◌≤◌, ◌-◌, ℕ, zero, suc, List}
use Rattle.std.proofs.Common.{arith, ap, ◌∙◌, subst}
use Rattle.std.specs.Io.BufRead.{drop_through}
use Rattle.where_places.specs.FileLine.{from_line}

pub line_more : (n : ℕ) (rest after all : List ℕ) → 0 < n → after ≡ drop_through 10 rest → from_line n rest ≡ all → from_line (n - 1) after ≡ all
unfolding from_line
line_more zero rest after all some is so = let no : ⊥ = omega (arith, some) in absurd no
line_more (suc n) rest after all some is so =
    let less : n ≡ suc n - 1 = omega arith in subst (λ m. from_line m after ≡ all) less (ap (from_line n) is ∙ so)

pub line_last : (n : ℕ) (rest all : List ℕ) → n ≤ 0 → from_line n rest ≡ all → rest ≡ all
unfolding from_line
line_last zero rest all few so = so
line_last (suc n) rest all few so = let no : ⊥ = omega (arith, few) in absurd no
