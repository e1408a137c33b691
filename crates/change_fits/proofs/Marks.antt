-- Marks of the numbers of a list.
use Rattle.std.specs.Prelude.{◌≡◌, ◌<◌, ◌↔◌, ◌==◌, ◌||◌, ℕ, Bool, true, false, IsTrue, List, [], ◌∷◌, length, Contains, get_or}
use Rattle.std.specs.List.{list_any}
use Rattle.std.proofs.Common.{refl, sym, ◌∙◌, arith, inl, inr}
use Rattle.std.proofs.lemmas.Bool.{false≢true, eqb-true}
use Rattle.solid_data.proofs.Members.{Has, Has-from_Contains, Contains-from_Has}
use Rattle.solid_data.proofs.Occurring.{found}
use Rattle.change_fits.specs.NewNames.{Covers}

any_has : (k : ℕ) (ns : List ℕ) → list_any (λ m. m == k) ns ≡ true → Has ns k
any_has k [] e = absurd (false≢true e)
any_has k (m ∷ ns) e = by_test (m == k) refl (any_has k ns) e
  where
    by_test : (b : Bool) → (m == k) ≡ b → (list_any (λ j. j == k) ns ≡ true → Has ns k) → (b || list_any (λ j. j == k) ns) ≡ true → Has (m ∷ ns) k
    by_test true is later h = inl (eqb-true m k is)
    by_test false is later h = inr (later h)

pub covers_tells : (numbers : List ℕ) (count : ℕ) (marks : List Bool) (b : Bool) → length marks ≡ count
    → ((k : ℕ) → k < count → get_or marks k false ≡ list_any (λ m. m == k) numbers)
    → (IsTrue b → (k : ℕ) → k < length marks → IsTrue (get_or marks k false))
    → (((k : ℕ) → k < length marks → IsTrue (get_or marks k false)) → IsTrue b) → IsTrue b ↔ Covers numbers count
covers_tells numbers count marks b len are holds only = (
  (λ t. record { each = λ k lt. Contains-from_Has numbers k (any_has k numbers (sym (are k lt) ∙ holds t k (omega (arith, lt, len)))) }),
  (λ c. only (λ k lt. let inside : k < count = omega (arith, lt, len) in are k inside ∙ found k numbers (Has-from_Contains numbers k (c.each k inside)))),
)
