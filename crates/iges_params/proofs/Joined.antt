-- Columns of lines that follow each other, joined.
use Rattle.std.proofs.Common.{◌≡◌, ℕ, ◌+◌, ◌-◌, ◌<◌, List, [], ◌∷◌, ◌++◌, length, take, drop, Some, sym, ap, ◌∙◌, arith, length-drop, get_or, get_or-drop}
use Rattle.std.specs.Prelude.{slice_get, slice_range, flat_map}
use Rattle.std.proofs.lemmas.List.{take_more, append-nil}
use Rattle.std.proofs.lemmas.Grind.{flat_map-append}
use Rattle.std.proofs.lemmas.Option.{slice_get_within, get_or_from_slice_get}
use Rattle.iges_lines.specs.Lines.{columns}

-- one more of a range of a list
pub range_more : {X : Type 0} (xs : List X) (from i : ℕ) (x : X) → slice_get xs (from + i) ≡ Some x →
    slice_range xs from (from + (i + 1)) ≡ slice_range xs from (from + i) ++ x ∷ []
range_more {X} xs from i x is =
    let within : from + i < length xs = slice_get_within xs (from + i) x is in
    let here : i < length (drop from xs) = omega (arith, length-drop from xs) in
    let item : get_or (drop from xs) i x ≡ x = get_or-drop from xs i x ∙ get_or_from_slice_get xs (from + i) x x is in
    let more : take (i + 1) (drop from xs) ≡ take i (drop from xs) ++ get_or (drop from xs) i x ∷ [] = take_more (drop from xs) i x here in
    let n : from + (i + 1) - from ≡ i + 1 = omega arith in
    let m : from + i - from ≡ i = omega arith in
    ap (λ (k : ℕ). take k (drop from xs)) n ∙ more ∙ ap (λ (y : X). take i (drop from xs) ++ y ∷ []) item ∙ ap (λ (k : ℕ). take k (drop from xs) ++ x ∷ [])
    (sym m)

pub joined_more : (w from i : ℕ) (ls : List (List ℕ)) (line text : List ℕ) → text ≡ flat_map (columns 1 w) (slice_range ls from (from + i)) →
    slice_get ls (from + i) ≡ Some line
    → text ++ columns 1 w line ≡ flat_map (columns 1 w) (slice_range ls from (from + (i + 1)))
joined_more w from i ls line text e is =
    ap (λ (t : List ℕ). t ++ columns 1 w line) e
    ∙ sym (
    ap (flat_map (columns 1 w)) (range_more ls from i line is) ∙ flat_map-append (columns 1 w) (slice_range ls from (from + i)) (line ∷ [])
    ∙ ap (λ (t : List ℕ). flat_map (columns 1 w) (slice_range ls from (from + i)) ++ t) (append-nil (columns 1 w line))
    )
