-- The parts of a solid's record, put one after the other.
use Rattle.std.specs.Prelude.{◌≡◌, ℕ, ◌+◌, ◌*◌, List, [], ◌∷◌, ◌++◌, length, take, drop, flat_map}
use Rattle.std.proofs.Common.{sym, ◌∙◌, ap, arith, append_assoc, length-drop}
use Rattle.std.proofs.lemmas.List.{take_all}
use Rattle.iges_fields.specs.declared.value.Value.{Value}
use Rattle.brep_lists.specs.Record.{count_at}
use Rattle.changed_records.specs.declared.shells.FaceFlag.{FaceFlag}
use Rattle.changed_records.specs.Values.{number_value}
use Rattle.changed_records.specs.Shells.{pair_values, solid_values}

pub solid_put : (vs : List Value) (voids : List FaceFlag) (count number len : ℕ) (l0 l1 l2 l3 l4 l5 : List Value) → l0 ≡ [] → count ≡ count_at vs 2
    → number ≡ count + length voids → len ≡ length vs → l1 ≡ l0 ++ take 2 vs → l2 ≡ l1 ++ number_value number ∷ []
    → l3 ≡ l2 ++ take (2 * count) (drop 3 vs) → l4 ≡ l3 ++ flat_map pair_values voids → l5 ≡ l4 ++ take len (drop (3 + 2 * count) vs)
    → l5 ≡ solid_values vs voids
unfolding solid_values
solid_put vs voids count number len l0 l1 l2 l3 l4 l5 e0 ec en el e1 e2 e3 e4 e5 =
    let A : List Value = take 2 vs in
    let D : List Value = flat_map pair_values voids in
    let B : List Value = number_value number ∷ [] in
    let C : List Value = take (2 * count) (drop 3 vs) in
    let T : List Value = take len (drop (3 + 2 * count) vs) in
    let put : l5 ≡ (((take 2 vs ++ number_value number ∷ []) ++ take (2 * count) (drop 3 vs)) ++ flat_map pair_values voids) ++ take len (drop (3 + 2 * count) vs) =
    e5 ∙ ap (λ (x : List Value). x ++ T) (e4 ∙ ap (λ (x : List Value). x ++ D) (e3 ∙ ap (λ (x : List Value). x ++ C) (e2 ∙ ap (λ (x : List Value). x ++ B)
    (e1 ∙ ap (λ (x : List Value). x ++ A) e0)))) in
    put
    ∙ ap (λ (x : List Value). (x ++ D) ++ T) (append_assoc A B C)
    ∙ (ap (λ (n : ℕ). ((A ++ (number_value n ∷ C)) ++ D) ++ T) (en ∙ ap (λ (k : ℕ). k + length voids) ec)
    ∙ (ap (λ (k : ℕ). ((A ++ (number_value (count_at vs 2 + length voids) ∷ take (2 * k) (drop 3 vs))) ++ D) ++ take len (drop (3 + 2 * k) vs)) ec
    ∙ ap (λ (t : List Value). ((A ++ (number_value (count_at vs 2 + length voids) ∷ take (2 * count_at vs 2) (drop 3 vs))) ++ D) ++ t)
    (take_all len (drop (3 + 2 * count_at vs 2) vs) (omega (arith, el, length-drop (3 + 2 * count_at vs 2) vs)))))
