-- Lists gone through item by item.
use Rattle.std.specs.Prelude.{List, [], ◌∷◌}

abbrev pub fold_items : {S A : Type 0} → (S → A → S) → S → List A → S
fold_items step s [] = s
fold_items step s (x ∷ xs) = fold_items step (step s x) xs

-- two lists side by side, as far as both go
abbrev pub fold_pairs : {S A B : Type 0} → (S → A → B → S) → S → List A → List B → S
fold_pairs step s [] ys = s
fold_pairs step s (x ∷ xs) [] = s
fold_pairs step s (x ∷ xs) (y ∷ ys) = fold_pairs step (step s x y) xs ys
