-- Tuples that are cut one by one.
use Rattle.std.specs.Prelude.{◌≡◌, ℕ, zero, suc, ◌+◌, ◌-◌, ◌<◌, List, [], ◌∷◌, ◌++◌, map, drop}
use Rattle.std.proofs.Common.{sym, ◌∙◌, ap, arith, append_assoc}
use Rattle.std.proofs.lemmas.List.{drop-drop, map-append}
use Rattle.iges_fields.specs.declared.value.Value.{Value}
use Rattle.changed_records.specs.Loops.{tuple_from, tuple_size, tuple_cuts, behind_tuples}

pub next_cut : (vs : List Value) (end left size new_end : ℕ) (places new : List ℕ) (all : List (List Value)) → 0 < left
    → size ≡ tuple_size (drop end vs) → new ≡ places ++ end ∷ [] → new_end ≡ end + size
    → map (tuple_from vs) places ++ tuple_cuts left (drop end vs) ≡ all → map (tuple_from vs) new ++ tuple_cuts (left - 1) (drop new_end vs) ≡ all
next_cut vs end zero size new_end places new all some es en ee inv = absurd (omega (arith, some))
next_cut vs end (suc left) size new_end places new all some es en ee inv =
    let less : suc left - 1 ≡ left = omega arith in
    let rest : drop new_end vs ≡ drop (tuple_size (drop end vs)) (drop end vs) = ap (λ k. drop k vs) ee ∙ (sym (drop-drop size end vs) ∙ ap (λ k. drop k (drop end vs)) es) in
    let cuts : map (tuple_from vs) new ≡ map (tuple_from vs) places ++ tuple_from vs end ∷ [] =
    ap (map (tuple_from vs)) en ∙ map-append (tuple_from vs) places (end ∷ []) in
    ap (λ k. map (tuple_from vs) new ++ tuple_cuts k (drop new_end vs)) less
    ∙ (ap (λ (zs : List (List Value)). zs ++ tuple_cuts left (drop new_end vs)) cuts
    ∙ (append_assoc (map (tuple_from vs) places) (tuple_from vs end ∷ []) (tuple_cuts left (drop new_end vs))
    ∙ (ap (λ (ws : List Value). map (tuple_from vs) places ++ tuple_from vs end ∷ tuple_cuts left ws) rest ∙ inv)))

pub next_behind : (vs : List Value) (end left size new_end : ℕ) (all : List Value) → 0 < left → size ≡ tuple_size (drop end vs) → new_end ≡ end + size
    → behind_tuples left (drop end vs) ≡ all → behind_tuples (left - 1) (drop new_end vs) ≡ all
next_behind vs end zero size new_end all some es ee inv = absurd (omega (arith, some))
next_behind vs end (suc left) size new_end all some es ee inv =
    let less : suc left - 1 ≡ left = omega arith in
    let rest : drop new_end vs ≡ drop (tuple_size (drop end vs)) (drop end vs) = ap (λ k. drop k vs) ee ∙ (sym (drop-drop size end vs) ∙ ap (λ k. drop k (drop end vs)) es) in
    ap (λ k. behind_tuples k (drop new_end vs)) less ∙ (ap (behind_tuples left) rest ∙ inv)
