-- What holds of a whole text without LF holds of its parts.
use Rattle.std.proofs.Common.{◌≡◌, ℕ, Bool, not, true, List, ◌++◌, Some, subst}
use Rattle.std.specs.Prelude.{slice_get, ◌==◌}
use Rattle.std.specs.List.{list_all}
use Rattle.std.proofs.lemmas.List.Elements.{All-get_or}
use Rattle.std.proofs.lemmas.List.Sums.{AllPass-from_list_all}
use Rattle.std.proofs.lemmas.Option.{get_or_from_slice_get, slice_get_within}
use Rattle.iges_base.specs.InLine.{is_in_line}
use Rattle.iges_base.proofs.Lists.{list_all-parts, list_all-both}

pub slice_get-all : {X : Type 0} (p : X → Bool) (xs : List X) (i : ℕ) (x : X) → slice_get xs i ≡ Some x → list_all p xs ≡ true → p x ≡ true
slice_get-all {X} p xs i x is all =
    subst (λ (y : X). p y ≡ true) (get_or_from_slice_get xs i x x is)
    (All-get_or (λ (y : X). p y ≡ true) xs i x (slice_get_within xs i x is) (AllPass-from_list_all p xs all))

pub front_in_line : (front rest : List ℕ) → is_in_line (front ++ rest) ≡ true → (is_in_line front ≡ true) × (is_in_line rest ≡ true)
front_in_line front rest h = list_all-parts (λ b. not (b == 10)) front rest h

pub both_in_line : (front rest : List ℕ) → is_in_line front ≡ true → is_in_line rest ≡ true → is_in_line (front ++ rest) ≡ true
both_in_line front rest h k = list_all-both (λ b. not (b == 10)) front rest h k
