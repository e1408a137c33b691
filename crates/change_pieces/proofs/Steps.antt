-- Lists that are gone over item by item, as far as a loop has come.
use Rattle.std.specs.Prelude.{◌≡◌, ◌≤◌, ◌+◌, ℕ, List, length, map, max, drop, Option, Some, slice_get, IsTrue, false}
use Rattle.std.specs.List.{AllByRecursion}
use Rattle.std.proofs.Common.{sym, ◌∙◌, ap, subst, arith}
use Rattle.std.proofs.lemmas.Bool.{false≢true}
use Rattle.std.proofs.lemmas.List.{drop_all, map-append}
use Rattle.std.proofs.lemmas.Option.{same_Some}
use Rattle.solid_data.proofs.Members.{split_at}
use Rattle.edge_uses.specs.Before.{above_of}
use Rattle.edge_uses.proofs.Above.{above-append}
use Rattle.shell_change.specs.declared.change.FaceNow.{FaceNow}
use Rattle.shell_change.specs.declared.change.Fate.{Fate}
use Rattle.shell_change.specs.Matching.{EachAt}
use Rattle.change_pieces.specs.Names.{StandOnce}
use Rattle.change_pieces.specs.Pieces.{kept_face, kept_faces, piece_of}
use Rattle.change_pieces.specs.Reading.{Climbs}

-- what holds of each

pub all_next : {A : Type 0} (P : A → Type 0) (xs : List A) (i : ℕ) (x : A) → slice_get xs i ≡ Some x → P x
    → (AllByRecursion P (drop i xs) → AllByRecursion P xs) → AllByRecursion P (drop (i + 1) xs) → AllByRecursion P xs
all_next P xs i x at holds left rest = left (subst (AllByRecursion P) (sym (split_at xs i x at)) (holds, rest))

pub all_done : {A : Type 0} (P : A → Type 0) (xs : List A) (i : ℕ) → length xs ≤ i → (AllByRecursion P (drop i xs) → AllByRecursion P xs) → AllByRecursion P xs
all_done P xs i past left = left (subst (AllByRecursion P) (sym (drop_all i xs past)) tt)

-- numbers that climb by one

pub climb_next : {A : Type 0} (f : A → ℕ) (xs all : List A) (i : ℕ) (x : A) → slice_get xs i ≡ Some x → f x ≡ i + 1
    → (Climbs f (i + 1) (drop i xs) → Climbs f 1 all) → Climbs f (i + 1 + 1) (drop (i + 1) xs) → Climbs f 1 all
climb_next f xs all i x at holds left rest = left (subst (Climbs f (i + 1)) (sym (split_at xs i x at)) (holds, rest))

pub climb_done : {A : Type 0} (f : A → ℕ) (xs all : List A) (i : ℕ) → length xs ≤ i → (Climbs f (i + 1) (drop i xs) → Climbs f 1 all) → Climbs f 1 all
climb_done f xs all i past left = left (subst (Climbs f (i + 1)) (sym (drop_all i xs past)) tt)

-- the greatest piece

pub above_next : (xs : List Fate) (i : ℕ) (x : Fate) (old new all : ℕ) → slice_get xs i ≡ Some x
    → max old (above_of (map piece_of (kept_faces (drop i xs)))) ≡ all → new ≡ max old (above_of (map piece_of (kept_face x)))
    → max new (above_of (map piece_of (kept_faces (drop (i + 1) xs)))) ≡ all
above_next xs i x old new all at h n =
    let rest : List FaceNow = kept_faces (drop (i + 1) xs) in
    let split : above_of (map piece_of (kept_faces (drop i xs))) ≡ max (above_of (map piece_of (kept_face x))) (above_of (map piece_of rest)) =
    ap (λ ys. above_of (map piece_of (kept_faces ys))) (split_at xs i x at)
    ∙ (ap above_of (map-append piece_of (kept_face x) rest) ∙ above-append (map piece_of (kept_face x)) (map piece_of rest)) in
    omega (arith, split, h, n)

pub above_done : (xs : List Fate) (i now all : ℕ) → length xs ≤ i → max now (above_of (map piece_of (kept_faces (drop i xs)))) ≡ all → now ≡ all
above_done xs i now all past h =
    let none : above_of (map piece_of (kept_faces (drop i xs))) ≡ 0 = ap (λ ys. above_of (map piece_of (kept_faces ys))) (drop_all i xs past) in
    omega (arith, none, h)

-- nothing is claimed
pub no_claim : {P : Type 0} → IsTrue false → P
no_claim t = absurd (false≢true t)

-- items of which each tells its place stand once each
pub once : {A : Type 0} (place : A → Option ℕ) (xs : List A) → EachAt (λ i x. place x ≡ Some i) xs → StandOnce xs
once place xs h = record { once = λ i j x at_i at_j. same_Some i j (sym (h.at i x at_i) ∙ h.at j x at_j) }
