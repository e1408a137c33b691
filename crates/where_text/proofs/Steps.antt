-- A text that is put together piece by piece.
use Rattle.std.specs.Prelude.{◌≡◌, ◌<◌, ◌≤◌, ◌+◌, ℕ, suc, List, [], ◌∷◌, ◌++◌, Bool, length, map, filter, flat_map, Result, Ok, Err, OnOk}
use Rattle.std.proofs.Common.{sym, ◌∙◌, ap, arith, get_or, drop, append_assoc}
use Rattle.std.proofs.lemmas.List.{drop_all, append-nil, length-take}
use Rattle.std.proofs.lemmas.List.Elements.{filter-append}
use Rattle.std.proofs.Math.Seq.{drop-cons}
use Rattle.where_text.specs.declared.listing.Listing.{Listing}
use Rattle.where_text.specs.declared.listing.Listing.TheVariants.{All, Few}
use Rattle.where_text.specs.Listing.{shown, shown_count}

-- one piece more of a text
pub piece_more : {A : Type 0} (old new piece rest all : List A) → old ++ (piece ++ rest) ≡ all → new ≡ old ++ piece → new ++ rest ≡ all
piece_more old new piece rest all h e = ap (λ xs. xs ++ rest) e ∙ (append_assoc old piece rest ∙ h)

-- one item more of a mapped list
pub mapped_more : {B : Type 0} (f : ℕ → B) (xs : List ℕ) (i x : ℕ) (old new all : List B) → i < length xs → x ≡ get_or xs i 0
    → old ++ map f (drop i xs) ≡ all → new ≡ old ++ f x ∷ [] → new ++ map f (drop (i + 1) xs) ≡ all
mapped_more f xs i x old new all lt is h e =
    let more : suc i ≡ i + 1 = omega arith in
    let split : drop i xs ≡ x ∷ drop (i + 1) xs = drop-cons xs i 0 lt ∙ (ap (λ n. get_or xs i 0 ∷ drop n xs) more ∙ ap (λ y. y ∷ drop (i + 1) xs) (sym is)) in
    piece_more old new (f x ∷ []) (map f (drop (i + 1) xs)) all (ap (λ ys. old ++ map f ys) (sym split) ∙ h) e

pub mapped_all : {B : Type 0} (f : ℕ → B) (xs : List ℕ) (i : ℕ) (now all : List B) → length xs ≤ i → now ++ map f (drop i xs) ≡ all → now ≡ all
mapped_all f xs i now all past h = sym (append-nil now) ∙ (ap (λ ys. now ++ map f ys) (sym (drop_all i xs past)) ∙ h)

-- the texts of the items that are left, once one more is written; the items are those of a list that a slice shows
pub flat_more : {A : Type 0} (f : A → List ℕ) (items xs : List A) (i : ℕ) (d x : A) (old new all : List ℕ) → items ≡ xs → i < length items
    → x ≡ get_or items i d
    → old ++ flat_map f (drop i xs) ≡ all → new ≡ old ++ f x → new ++ flat_map f (drop (i + 1) xs) ≡ all
flat_more f items xs i d x old new all same lt is h e =
    let more : suc i ≡ i + 1 = omega arith in
    let split : drop i items ≡ x ∷ drop (i + 1) items = drop-cons items i d lt
    ∙ (ap (λ n. get_or items i d ∷ drop n items) more ∙ ap (λ y. y ∷ drop (i + 1) items) (sym is)) in
    let here : drop i xs ≡ x ∷ drop (i + 1) xs = ap (drop i) (sym same) ∙ (split ∙ ap (λ ys. x ∷ drop (i + 1) ys) same) in
    piece_more old new (f x) (flat_map f (drop (i + 1) xs)) all (ap (λ ys. old ++ flat_map f ys) (sym here) ∙ h) e

pub flat_all : {A : Type 0} (f : A → List ℕ) (items xs : List A) (i : ℕ) (now all : List ℕ) → items ≡ xs → length items ≤ i
    → now ++ flat_map f (drop i xs) ≡ all → now ≡ all
flat_all f items xs i now all same past h =
    let none : drop i xs ≡ [] = ap (drop i) (sym same) ∙ drop_all i items past in
    sym (append-nil now) ∙ (ap (λ ys. now ++ flat_map f ys) (sym none) ∙ h)

-- the members that pass a test, once one more of those that are left is looked at
pub filter_step : {A : Type 0} (p : A → Bool) (items xs : List A) (i : ℕ) (d x : A) (old new all : List A) → items ≡ xs → i < length items
    → x ≡ get_or items i d → old ++ filter p (drop i xs) ≡ all → new ≡ old ++ filter p (x ∷ []) → new ++ filter p (drop (i + 1) xs) ≡ all
filter_step p items xs i d x old new all same lt is h e =
    let more : suc i ≡ i + 1 = omega arith in
    let split : drop i items ≡ x ∷ drop (i + 1) items = drop-cons items i d lt
    ∙ (ap (λ n. get_or items i d ∷ drop n items) more ∙ ap (λ y. y ∷ drop (i + 1) items) (sym is)) in
    let here : drop i xs ≡ x ∷ drop (i + 1) xs = ap (drop i) (sym same) ∙ (split ∙ ap (λ ys. x ∷ drop (i + 1) ys) same) in
    piece_more old new (filter p (x ∷ [])) (filter p (drop (i + 1) xs)) all
    (ap (λ ys. old ++ ys) (sym (filter-append p (x ∷ []) (drop (i + 1) xs))) ∙ (ap (λ ys. old ++ filter p ys) (sym here) ∙ h)) e

pub filter_end : {A : Type 0} (p : A → Bool) (items xs : List A) (i : ℕ) (now all : List A) → items ≡ xs → length items ≤ i
    → now ++ filter p (drop i xs) ≡ all → now ≡ all
filter_end p items xs i now all same past h =
    let none : drop i xs ≡ [] = ap (drop i) (sym same) ∙ drop_all i items past in
    sym (append-nil now) ∙ (ap (λ ys. now ++ filter p ys) (sym none) ∙ h)

-- ---- a writer's last step

on_ok : {T E : Type 0} {P Q : Type 0} (r : Result T E) → (P → Q) → OnOk r P → OnOk r Q
on_ok (Ok x) f p = f p
on_ok (Err e) f p = tt

pub two_pieces : {T E : Type 0} (r : Result T E) (old mid new a b : List ℕ) → mid ≡ old ++ a → OnOk r (new ≡ mid ++ b) → OnOk r (new ≡ old ++ (a ++ b))
two_pieces r old mid new a b e last = on_ok r (λ h. h ∙ (ap (λ xs. xs ++ b) e ∙ append_assoc old a b)) last

pub three_pieces : {T E : Type 0} (r : Result T E) (old one two new a b c : List ℕ) → one ≡ old ++ a → two ≡ one ++ b → OnOk r (new ≡ two ++ c)
    → OnOk r (new ≡ old ++ (a ++ b ++ c))
three_pieces r old one two new a b c e f last = two_pieces r old two new (a ++ b) c (f ∙ (ap (λ xs. xs ++ b) e ∙ append_assoc old a b)) last

-- ---- the members of a list that are written

pub shown_length : {A : Type 0} (listing : Listing) (xs : List A) → length (shown listing xs) ≡ shown_count listing (length xs)
shown_length Few xs = let n = length-take (shown_count Few (length xs)) xs in omega (arith, n)
shown_length All xs = let n = length-take (length xs) xs in omega (arith, n)
