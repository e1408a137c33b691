-- The gaps that are found so far, and those of the uses, loops and faces that are left.
use Rattle.std.specs.Prelude.{◌≡◌, ◌<◌, ◌≤◌, ◌+◌, ℕ, suc, Bool, List, [], ◌∷◌, ◌++◌, length, map, flat_map, slice_get, Some}
use Rattle.std.specs.List.{enumerate_from}
use Rattle.std.proofs.Common.{refl, sym, ◌∙◌, ap, arith, get_or, drop, append_assoc}
use Rattle.std.proofs.lemmas.List.{length-map, drop_all, append-nil}
use Rattle.std.proofs.lemmas.Grind.{flat_map-append}
use Rattle.std.proofs.Math.Seq.{drop-cons}
use Rattle.solid_data.specs.Ring.{next_of_each}
use Rattle.solid_data.specs.SolidData.{SolidData, PlacedLoop, placed_in_face}
use Rattle.edge_uses.specs.Joins.{start_of, end_of, ends_and_starts}
use Rattle.edge_uses.proofs.JoinLemmas.{length-next}
use Rattle.solid_data.specs.declared.solid.FaceUse.{FaceUse}
use Rattle.solid_data.specs.declared.solid.Loop.{Loop}
use Rattle.solid_data.proofs.Members.{split_at}
use Rattle.edge_uses.specs.Joining.{placed_at}
use Rattle.edge_uses.proofs.Joins.{split_drop, loops_left, faces_left, split_loops, split_faces}
use Rattle.solid_faults.specs.declared.gap.Gap.{Gap}
use Rattle.solid_faults.specs.Gaps.{gap_at, loop_gaps}

-- the gaps of a loop from use i on
abbrev pub gaps_left : SolidData → PlacedLoop → ℕ → List Gap
gaps_left s p i = flat_map (gap_at p) (ends_and_starts (i + 1) (drop i (map (end_of s) p.loop.uses)) (drop i (next_of_each (map (start_of s) p.loop.uses))))

-- one piece more of a list of pieces
pub piece_more : {A : Type 0} (old new piece rest all : List A) → old ++ (piece ++ rest) ≡ all → new ≡ old ++ piece → new ++ rest ≡ all
piece_more old new piece rest all h e = ap (λ xs. xs ++ rest) e ∙ (append_assoc old piece rest ∙ h)

pub gap_step : (s : SolidData) (p : PlacedLoop) (i : ℕ) (old new all : List Gap) → i < length p.loop.uses → old ++ gaps_left s p i ≡ all
    → new ≡ old ++ gap_at p (i + 1, get_or (map (end_of s) p.loop.uses) i 0, get_or (next_of_each (map (start_of s) p.loop.uses)) i 0)
    → new ++ gaps_left s p (i + 1) ≡ all
gap_step s p i old new all lt h e =
    let xs : List ℕ = map (end_of s) p.loop.uses in
    let ys : List ℕ = next_of_each (map (start_of s) p.loop.uses) in
    let in_xs : i < length xs = omega (arith, lt, length-map p.loop.uses (end_of s)) in
    let in_ys : i < length ys = omega (arith, lt, length-map p.loop.uses (start_of s), length-next (map (start_of s) p.loop.uses)) in
    let more : suc i ≡ i + 1 = omega arith in
    let here : List Gap = gap_at p (i + 1, get_or xs i 0, get_or ys i 0) in
    let split : gaps_left s p i ≡ here ++ gaps_left s p (i + 1) =
    ap (λ us. flat_map (gap_at p) (ends_and_starts (i + 1) us (drop i ys))) (drop-cons xs i 0 in_xs)
    ∙ (ap (λ us. flat_map (gap_at p) (ends_and_starts (i + 1) (get_or xs i 0 ∷ drop (suc i) xs) us)) (drop-cons ys i 0 in_ys)
    ∙ ap (λ n. here ++ flat_map (gap_at p) (ends_and_starts (i + 1 + 1) (drop n xs) (drop n ys))) more) in
    piece_more old new here (gaps_left s p (i + 1)) all (ap (λ r. old ++ r) (sym split) ∙ h) e

pub gaps_done : (s : SolidData) (p : PlacedLoop) (i : ℕ) (now all : List Gap) → length p.loop.uses ≤ i → now ++ gaps_left s p i ≡ all → now ≡ all
gaps_done s p i now all past h =
    let xs : List ℕ = map (end_of s) p.loop.uses in
    let ys : List ℕ = next_of_each (map (start_of s) p.loop.uses) in
    let none : gaps_left s p i ≡ [] = ap (λ us. flat_map (gap_at p) (ends_and_starts (i + 1) us (drop i ys)))
    (drop_all i xs (omega (arith, past, length-map p.loop.uses (end_of s)))) in
    sym (append-nil now) ∙ (ap (λ r. now ++ r) (sym none) ∙ h)

-- the gaps of items that are numbered, from item i on
abbrev pub found_left : {A B : Type 0} → (ℕ × A → List B) → List A → ℕ → List B
found_left f xs i = flat_map f (enumerate_from i (drop i xs))

pub item_step : {A B : Type 0} (f : ℕ × A → List B) (xs : List A) (x : A) (i : ℕ) (old new all : List B) → i < length xs → get_or xs i x ≡ x
    → old ++ found_left f xs i ≡ all → new ≡ old ++ f (i, x) → new ++ found_left f xs (i + 1) ≡ all
item_step f xs x i old new all lt at h e =
    piece_more old new (f (i, x)) (found_left f xs (i + 1)) all (ap (λ ys. old ++ flat_map f (enumerate_from i ys)) (sym (split_drop xs x i lt at)) ∙ h) e

pub items_done : {A B : Type 0} (f : ℕ × A → List B) (xs : List A) (i : ℕ) (now all : List B) → length xs ≤ i → now ++ found_left f xs i ≡ all → now ≡ all
items_done f xs i now all past h =
    sym (append-nil now) ∙ (ap (λ ys. now ++ flat_map f (enumerate_from i ys)) (sym (drop_all i xs past)) ∙ h)

pub flat_of_map : {A B C : Type 0} (f : B → List C) (g : A → B) (xs : List A) → flat_map f (map g xs) ≡ flat_map (λ x. f (g x)) xs
flat_of_map f g [] = refl
flat_of_map f g (x ∷ xs) = ap (λ ys. f (g x) ++ ys) (flat_of_map f g xs)

pub flat_of_flat : {A B C : Type 0} (f : B → List C) (g : A → List B) (xs : List A) → flat_map f (flat_map g xs) ≡ flat_map (λ x. flat_map f (g x)) xs
flat_of_flat f g [] = refl
flat_of_flat f g (x ∷ xs) = flat_map-append f (g x) (flat_map g xs) ∙ ap (λ ys. flat_map f (g x) ++ ys) (flat_of_flat f g xs)

pub plain_step : {A B : Type 0} (f : A → List B) (xs : List A) (x : A) (i : ℕ) (old new all : List B) → slice_get xs i ≡ Some x
    → old ++ flat_map f (drop i xs) ≡ all → new ≡ old ++ f x → new ++ flat_map f (drop (i + 1) xs) ≡ all
plain_step f xs x i old new all at h e =
    piece_more old new (f x) (flat_map f (drop (i + 1) xs)) all (ap (λ ys. old ++ flat_map f ys) (sym (split_at xs i x at)) ∙ h) e

pub plain_done : {A B : Type 0} (f : A → List B) (xs : List A) (i : ℕ) (now all : List B) → length xs ≤ i → now ++ flat_map f (drop i xs) ≡ all → now ≡ all
plain_done f xs i now all past h = sym (append-nil now) ∙ (ap (λ ys. now ++ flat_map f ys) (sym (drop_all i xs past)) ∙ h)

pub loop_step : (s : SolidData) (face : ℕ) (forwards : Bool) (ls : List Loop) (l : Loop) (i : ℕ) (old new all : List Gap) → i < length ls → get_or ls i l ≡ l
    → old ++ flat_map (loop_gaps s) (loops_left face forwards ls i) ≡ all → new ≡ old ++ loop_gaps s (placed_at face forwards (i, l))
    → new ++ flat_map (loop_gaps s) (loops_left face forwards ls (i + 1)) ≡ all
loop_step s face forwards ls l i old new all lt at h e =
    piece_more old new (loop_gaps s (placed_at face forwards (i, l))) (flat_map (loop_gaps s) (loops_left face forwards ls (i + 1))) all
    (ap (λ ps. old ++ flat_map (loop_gaps s) ps) (sym (split_loops face forwards ls l i lt at)) ∙ h) e

pub face_step : (s : SolidData) (flag : Bool) (fs : List FaceUse) (f : FaceUse) (i : ℕ) (old new all : List Gap) → i < length fs → get_or fs i f ≡ f
    → old ++ flat_map (loop_gaps s) (faces_left flag fs i) ≡ all → new ≡ old ++ flat_map (loop_gaps s) (placed_in_face flag (i, f))
    → new ++ flat_map (loop_gaps s) (faces_left flag fs (i + 1)) ≡ all
face_step s flag fs f i old new all lt at h e =
    let here : List PlacedLoop = placed_in_face flag (i, f) in
    piece_more old new (flat_map (loop_gaps s) here) (flat_map (loop_gaps s) (faces_left flag fs (i + 1))) all
    (ap (λ ps. old ++ ps) (sym (flat_map-append (loop_gaps s) here (faces_left flag fs (i + 1))))
    ∙ (ap (λ ps. old ++ flat_map (loop_gaps s) ps) (sym (split_faces flag fs f i lt at)) ∙ h)) e

pub loops_done : (s : SolidData) (face : ℕ) (forwards : Bool) (ls : List Loop) (i : ℕ) (now all : List Gap) → length ls ≤ i
    → now ++ flat_map (loop_gaps s) (loops_left face forwards ls i) ≡ all → now ≡ all
loops_done s face forwards ls i now all past h =
    sym (append-nil now) ∙ (ap (λ us. now ++ flat_map (loop_gaps s) (map (placed_at face forwards) (enumerate_from i us))) (sym (drop_all i ls past)) ∙ h)

pub faces_done : (s : SolidData) (flag : Bool) (fs : List FaceUse) (i : ℕ) (now all : List Gap) → length fs ≤ i
    → now ++ flat_map (loop_gaps s) (faces_left flag fs i) ≡ all → now ≡ all
faces_done s flag fs i now all past h =
    sym (append-nil now) ∙ (ap (λ us. now ++ flat_map (loop_gaps s) (flat_map (placed_in_face flag) (enumerate_from i us))) (sym (drop_all i fs past)) ∙ h)

pub mapped_step : {A B : Type 0} (f : A → B) (xs : List A) (x : A) (i : ℕ) (y : B) (old new all : List B) → slice_get xs i ≡ Some x
    → old ++ map f (drop i xs) ≡ all → y ≡ f x → new ≡ old ++ y ∷ [] → new ++ map f (drop (i + 1) xs) ≡ all
mapped_step f xs x i y old new all at h is e =
    piece_more old new (f x ∷ []) (map f (drop (i + 1) xs)) all (ap (λ ys. old ++ map f ys) (sym (split_at xs i x at)) ∙ h) (e ∙ ap (λ z. old ++ z ∷ []) is)
