-- The obligations of a loop say that it joins.
use Rattle.std.specs.Prelude.{◌≡◌, ℕ, ◌+◌, List, [], ◌∷◌, length, map}
use Rattle.std.specs.List.{AllByRecursion}
use Rattle.std.proofs.Common.{refl, sym, ◌∙◌, ap, subst, arith, length-append}
use Rattle.std.proofs.lemmas.List.{length-map}
use Rattle.solid_data.specs.Ring.{next_of_each}
use Rattle.solid_data.specs.SolidData.{SolidData}
use Rattle.solid_data.specs.Obligations.{obligation, AllHold}
use Rattle.solid_data.specs.declared.solid.Loop.{Loop}
use Rattle.solid_data.specs.declared.verdict.Rule.TheVariants.{Unjoined}
use Rattle.solid_data.proofs.ObligationLemmas.{AllHold-map, map-AllHold}
use Rattle.edge_uses.specs.Joins.{start_of, end_of, IsJoined, ends_and_starts, loop_obligations}

pub length-next : (xs : List ℕ) → length (next_of_each xs) ≡ length xs
length-next [] = refl
length-next (x ∷ xs) = length-append xs (x ∷ []) ∙ omega arith

Agree : ℕ × ℕ × ℕ → Type 0
Agree u = u.1 ≡ u.2

same_lists : (i : ℕ) (xs ys : List ℕ) → length xs ≡ length ys → AllByRecursion (λ (u : ℕ × ℕ × ℕ). u.1 ≡ u.2) (ends_and_starts i xs ys) → xs ≡ ys
same_lists i [] [] e h = refl
same_lists i [] (y ∷ ys) e h = absurd (omega (arith, e))
same_lists i (x ∷ xs) [] e h = absurd (omega (arith, e))
same_lists i (x ∷ xs) (y ∷ ys) e h = ap (λ z. z ∷ xs) h.0 ∙ ap (λ zs. y ∷ zs) (same_lists (i + 1) xs ys (omega (arith, e)) h.1)

agrees_with_itself : (i : ℕ) (xs : List ℕ) → AllByRecursion (λ (u : ℕ × ℕ × ℕ). u.1 ≡ u.2) (ends_and_starts i xs xs)
agrees_with_itself i [] = tt
agrees_with_itself i (x ∷ xs) = (refl, agrees_with_itself (i + 1) xs)

pub joined_from_hold : (s : SolidData) (l : Loop) → AllHold (loop_obligations s l) → IsJoined s l
joined_from_hold s l h =
    let ends : List ℕ = map (end_of s) l.uses in
    let starts : List ℕ = map (start_of s) l.uses in
    same_lists 1 ends (next_of_each starts)
    (length-map l.uses (end_of s) ∙ (sym (length-map l.uses (start_of s)) ∙ sym (length-next starts)))
    (AllHold-map (λ (u : ℕ × ℕ × ℕ). obligation Unjoined l.entity.0 u.0 (u.1 ≡ u.2)) (ends_and_starts 1 ends (next_of_each starts)) h)

pub hold_from_joined : (s : SolidData) (l : Loop) → IsJoined s l → AllHold (loop_obligations s l)
hold_from_joined s l h =
    let ends : List ℕ = map (end_of s) l.uses in
    let starts : List ℕ = map (start_of s) l.uses in
    map-AllHold (λ (u : ℕ × ℕ × ℕ). obligation Unjoined l.entity.0 u.0 (u.1 ≡ u.2)) (ends_and_starts 1 ends (next_of_each starts))
    (subst (λ zs. AllByRecursion (λ (u : ℕ × ℕ × ℕ). u.1 ≡ u.2) (ends_and_starts 1 ends zs)) h (agrees_with_itself 1 ends))
