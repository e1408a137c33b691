-- Texts that are compared.
use Rattle.std.specs.Prelude.{◌≢◌, bytes_eq}
use Rattle.std.proofs.Common.{◌≡◌, ℕ, true, false, List, sym, ◌∙◌}
use Rattle.std.proofs.lemmas.Bool.{true≢false}
use Rattle.std.proofs.lemmas.Slice.Eq.{bytes_eq-Decides}

pub same_bytes : (a b : List ℕ) → bytes_eq a b ≡ true → a ≡ b
same_bytes a b is = (bytes_eq-Decides a b).0 is

pub other_bytes : (a b : List ℕ) → bytes_eq a b ≡ false → a ≢ b
other_bytes a b is same = true≢false (sym ((bytes_eq-Decides a b).1 same) ∙ is)
