-- The list that is chosen.
use Rattle.std.specs.Prelude.{◌≡◌, ◌⊎◌, ℕ, zero, suc, ◌+◌, ◌<◌, ◌==◌, ◌&&◌, ◌||◌, ◌≤◌, nat_lt, Bool, true, false, not, List, [], ◌∷◌, length, map, drop}
use Rattle.std.specs.Prelude.{Some, slice_get, if◌then◌else◌}
use Rattle.std.specs.List.{list_all}
use Rattle.std.proofs.Common.{refl, get_or, ◌∙◌, ap, inl, inr, arith}
use Rattle.std.proofs.lemmas.Bool.{cond-false}
use Rattle.std.proofs.lemmas.List.{length-map, drop_all}
use Rattle.iges_base.proofs.Lists.{open_at}
use Rattle.solid_data.specs.declared.solid.FaceUse.{FaceUse}
use Rattle.flag_choice.specs.Choice.{reversed, change, changes, all_set, is_turned, chosen}

pub length-reversed : (flags : List Bool) → length (reversed flags) ≡ length flags
length-reversed flags = length-map flags not

pub twice_reversed : (flags : List Bool) → reversed (reversed flags) ≡ flags
twice_reversed [] = refl
twice_reversed (true ∷ flags) = ap (λ (bs : List Bool). true ∷ bs) (twice_reversed flags)
twice_reversed (false ∷ flags) = ap (λ (bs : List Bool). false ∷ bs) (twice_reversed flags)

pub chosen_either : (own kept : List Bool) → (chosen own kept ≡ kept) ⊎ (chosen own kept ≡ reversed kept)
unfolding chosen
chosen_either own kept = by_test (is_turned own kept)
  where
    by_test : (b : Bool) → ((if b then reversed kept else kept) ≡ kept) ⊎ ((if b then reversed kept else kept) ≡ reversed kept)
    by_test true = inr refl
    by_test false = inl refl

no_change : (b : Bool) → change b b ≡ 0
no_change true = refl
no_change false = refl

none_change : (flags : List Bool) → changes flags flags ≡ 0
unfolding changes
none_change [] = refl
none_change (b ∷ flags) = omega (arith, no_change b, none_change flags)

own_not_turned : (own : List Bool) → is_turned own own ≡ false
unfolding is_turned
own_not_turned own =
    ap (λ n. not (n == 0) && not (all_set own) && (all_set (reversed own) || nat_lt (changes own (reversed own)) n)) (none_change own)

-- the own flags, where they fit
pub chosen_own : (own : List Bool) → chosen own own ≡ own
unfolding chosen
chosen_own own = cond-false (is_turned own own) (reversed own) own (own_not_turned own)

-- ---- counting

both_change : (a b : Bool) → change a b + change a (not b) ≡ 1
both_change true true = refl
both_change true false = refl
both_change false true = refl
both_change false false = refl

-- each face changes in a list or in its reverse
pub all_change : (own flags : List Bool) → length own ≡ length flags → changes own flags + changes own (reversed flags) ≡ length flags
unfolding changes
all_change [] [] e = refl
all_change [] (b ∷ flags) e = absurd (omega (arith, e))
all_change (a ∷ own) [] e = absurd (omega (arith, e))
all_change (a ∷ own) (b ∷ flags) e =
    let rest : changes own flags + changes own (reversed flags) ≡ length flags = all_change own flags (omega (arith, e)) in
    omega (arith, both_change a b, rest)

-- a face more
pub next_change : (own flags : List Bool) (i : ℕ) (a b : Bool) (count new all : ℕ) → slice_get own i ≡ Some a → slice_get flags i ≡ Some b
    → new ≡ count + change a b → count + changes (drop i own) (drop i flags) ≡ all → new + changes (drop (i + 1) own) (drop (i + 1) flags) ≡ all
unfolding changes
next_change own flags i a b count new all at_a at_b e so_far =
    let here : changes (drop i own) (drop i flags) ≡ change a b + changes (drop (i + 1) own) (drop (i + 1) flags) =
    ap (λ (xs : List Bool). changes xs (drop i flags)) (open_at own i a at_a) ∙ ap (changes (a ∷ drop (i + 1) own)) (open_at flags i b at_b) in
    omega (arith, e, here, so_far)

-- no face more
pub none_more : (own flags : List Bool) (i count all : ℕ) → length own ≡ length flags → length flags ≤ i
    → count + changes (drop i own) (drop i flags) ≡ all → count ≡ all
unfolding changes
none_more own flags i count all long past so_far =
    let here : changes (drop i own) (drop i flags) ≡ 0 =
    ap (λ (xs : List Bool). changes xs (drop i flags)) (drop_all i own (let more : length own ≤ i = omega (arith, long, past) in more)) in
    omega (arith, here, so_far)

pub none_are_set : (flags : List Bool) → list_all not flags ≡ all_set (reversed flags)
none_are_set [] = refl
none_are_set (b ∷ flags) = ap (λ (rest : Bool). not b && rest) (none_are_set flags)

-- ---- places

pub flag_at : (faces : List FaceUse) (i : ℕ) (d : FaceUse) → i < length faces
    → slice_get (map (λ (g : FaceUse). g.flag) faces) i ≡ Some (get_or faces i d).flag
flag_at [] i d lt = absurd (omega (arith, lt))
flag_at (x ∷ faces) zero d lt = refl
flag_at (x ∷ faces) (suc i) d lt = flag_at faces i d (omega (arith, lt))

pub bool_at : (flags : List Bool) (i : ℕ) → i < length flags → slice_get flags i ≡ Some (get_or flags i false)
bool_at [] i lt = absurd (omega (arith, lt))
bool_at (b ∷ flags) zero lt = refl
bool_at (b ∷ flags) (suc i) lt = bool_at flags i (omega (arith, lt))
