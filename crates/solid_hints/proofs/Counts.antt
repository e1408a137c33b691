-- How many faces have the flag 0.
use Rattle.std.specs.Prelude.{◌≡◌, ℕ, ◌+◌, ◌<◌, ◌≤◌, ◌^◌, Bool, not, List, ◌++◌, length, Some, slice_get, drop, flat_map, count_by, filter}
use Rattle.std.proofs.Common.{ap, ◌∙◌, arith, length-append}
use Rattle.std.proofs.lemmas.List.Sums.{count_by-le-length, length-filter}
use Rattle.std.proofs.lemmas.List.Elements.{filter-append}
use Rattle.std.proofs.lemmas.List.{drop_all}
use Rattle.solid_data.specs.Numbering.{IsNumberedSolid}
use Rattle.solid_data.specs.SolidData.{SolidData}
use Rattle.solid_data.specs.declared.solid.FaceUse.{FaceUse}
use Rattle.solid_data.specs.declared.solid.Shell.{Shell}
use Rattle.solid_data.proofs.Members.{split_at}
use Rattle.solid_hints.specs.Flags.{unset_flags}

abbrev pub is_unset : FaceUse → Bool
is_unset face = not face.flag

abbrev pub faces_of : List Shell → List FaceUse
faces_of hs = flat_map (λ (h : Shell). h.faces) hs

count_apart : (xs ys : List FaceUse) → count_by is_unset (xs ++ ys) ≡ count_by is_unset xs + count_by is_unset ys
count_apart xs ys =
    let all = length-filter is_unset (xs ++ ys) in
    let split = ap (λ (zs : List FaceUse). length zs) (filter-append is_unset xs ys) in
    let sum = length-append (filter is_unset xs) (filter is_unset ys) in
    omega (arith, all, split, sum, length-filter is_unset xs, length-filter is_unset ys)

-- the unset flags that are counted, and those of the shells that are left
abbrev pub Counted : SolidData → ℕ → ℕ → Type 0
Counted s k count = count + count_by is_unset (faces_of (drop k s.shells)) ≡ unset_flags s

pub counted_none : (s : SolidData) → Counted s 0 0
unfolding unset_flags
counted_none s = omega arith

counted_split : (s : SolidData) (k : ℕ) (h : Shell) → slice_get s.shells k ≡ Some h → count_by is_unset (faces_of (drop k s.shells))
    ≡ count_by is_unset h.faces + count_by is_unset (faces_of (drop (k + 1) s.shells))
counted_split s k h at = ap (λ hs. count_by is_unset (faces_of hs)) (split_at s.shells k h at) ∙ count_apart h.faces (faces_of (drop (k + 1) s.shells))

pub counted_more : (s : SolidData) (k : ℕ) (h : Shell) (count u : ℕ) → slice_get s.shells k ≡ Some h → u ≡ count_by is_unset h.faces → Counted s k count
    → Counted s (k + 1) (count + u)
counted_more s k h count u at is sum = omega (arith, is, sum, counted_split s k h at)

pub unset_few : (s : SolidData) → IsNumberedSolid s → unset_flags s < 2 ^ 29
unfolding unset_flags
unset_few s numbered = let few = numbered.few_faces in omega (arith, few, count_by-le-length is_unset (faces_of s.shells))

pub counted_few : (s : SolidData) (k : ℕ) (h : Shell) (count u : ℕ) → IsNumberedSolid s → slice_get s.shells k ≡ Some h → u ≡ count_by is_unset h.faces
    → Counted s k count → count + u < 2 ^ 29
counted_few s k h count u numbered at is sum = let few = unset_few s numbered in omega (arith, is, sum, few, counted_split s k h at)

pub counted_all : (s : SolidData) (k count : ℕ) → length s.shells ≤ k → Counted s k count → count ≡ unset_flags s
counted_all s k count past sum = omega (arith, sum, ap (λ hs. count_by is_unset (faces_of hs)) (drop_all k s.shells past))
