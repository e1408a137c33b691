-- A text, and a list of names, that are put together member by member.
use Rattle.std.specs.Prelude.{◌≡◌, ◌<◌, ◌+◌, ℕ, suc, List, [], ◌∷◌, ◌++◌, length, map, flat_map}
use Rattle.std.proofs.Common.{sym, ◌∙◌, ap, arith, get_or, drop}
use Rattle.std.proofs.Math.Seq.{drop-cons}
use Rattle.where_text.proofs.Steps.{piece_more}

drop_here : {A : Type 0} (xs : List A) (i : ℕ) (d : A) → i < length xs → drop i xs ≡ get_or xs i d ∷ drop (i + 1) xs
drop_here xs i d lt = let more : suc i ≡ i + 1 = omega arith in drop-cons xs i d lt ∙ ap (λ n. get_or xs i d ∷ drop n xs) more

-- the text of one member more
pub written_more : {A B : Type 0} (f : A → List B) (xs : List A) (i : ℕ) (d : A) (old new all : List B) → i < length xs → old ++ flat_map f (drop i xs) ≡ all
    → new ≡ old ++ f (get_or xs i d) → new ++ flat_map f (drop (i + 1) xs) ≡ all
written_more f xs i d old new all lt h e = piece_more old new (f (get_or xs i d)) (flat_map f (drop (i + 1) xs)) all
    (ap (λ ys. old ++ flat_map f ys) (sym (drop_here xs i d lt)) ∙ h) e

-- the name of one member more
pub named_more : {A B : Type 0} (f : A → B) (xs : List A) (i : ℕ) (d : A) (old new all : List B) → i < length xs → old ++ map f (drop i xs) ≡ all
    → new ≡ old ++ f (get_or xs i d) ∷ [] → new ++ map f (drop (i + 1) xs) ≡ all
named_more f xs i d old new all lt h e = piece_more old new (f (get_or xs i d) ∷ []) (map f (drop (i + 1) xs)) all
    (ap (λ ys. old ++ map f ys) (sym (drop_here xs i d lt)) ∙ h) e
