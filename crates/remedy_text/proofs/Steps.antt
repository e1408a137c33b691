-- What is told of items that are numbered, from one of them on; and four pieces of a line.
use Rattle.std.specs.Prelude.{◌≡◌, ◌<◌, ◌≤◌, ◌+◌, ℕ, List, ◌++◌, length, flat_map, OnOk, Result}
use Rattle.std.specs.List.{enumerate_from}
use Rattle.std.proofs.Common.{sym, ◌∙◌, ap, get_or, drop, append_assoc}
use Rattle.std.proofs.lemmas.List.{drop_all, append-nil}
use Rattle.edge_uses.proofs.Joins.{split_drop}
use Rattle.where_text.proofs.Steps.{two_pieces}

-- what is told of the items from place i on
abbrev pub found_left : {A B : Type 0} → (ℕ × A → List B) → List A → ℕ → List B
found_left told xs i = flat_map told (enumerate_from i (drop i xs))

pub item_step : {A B : Type 0} (told : ℕ × A → List B) (xs : List A) (x : A) (i : ℕ) (old new all : List B) → i < length xs → get_or xs i x ≡ x
    → old ++ found_left told xs i ≡ all → new ≡ old ++ told (i, x) → new ++ found_left told xs (i + 1) ≡ all
item_step told xs x i old new all lt at h e =
    ap (λ ys. ys ++ found_left told xs (i + 1)) e
    ∙ (append_assoc old (told (i, x)) (found_left told xs (i + 1))
    ∙ (ap (λ ys. old ++ flat_map told (enumerate_from i ys)) (sym (split_drop xs x i lt at)) ∙ h))

pub items_done : {A B : Type 0} (told : ℕ × A → List B) (xs : List A) (i : ℕ) (now all : List B) → length xs ≤ i → now ++ found_left told xs i ≡ all
    → now ≡ all
items_done told xs i now all past h =
    sym (append-nil now) ∙ (ap (λ ys. now ++ flat_map told (enumerate_from i ys)) (sym (drop_all i xs past)) ∙ h)

joined : (old one two a b : List ℕ) → one ≡ old ++ a → two ≡ one ++ b → two ≡ old ++ (a ++ b)
joined old one two a b e f = f ∙ (ap (λ xs. xs ++ b) e ∙ append_assoc old a b)

pub four_pieces : {T E : Type 0} (r : Result T E) (old one two three new a b c d : List ℕ) → one ≡ old ++ a → two ≡ one ++ b → three ≡ two ++ c
    → OnOk r (new ≡ three ++ d) → OnOk r (new ≡ old ++ (a ++ b ++ c ++ d))
four_pieces r old one two three new a b c d e f g last =
    two_pieces r old three new (a ++ b ++ c) d (joined old two three (a ++ b) c (joined old one two a b e f) g) last
