-- Behind the own values of a kept record stand well-formed groups.
use Rattle.std.specs.Prelude.{◌≡◌, ℕ, suc, ◌≤◌, ◌&&◌, ◌==◌, nat_le, Bool, true, false, ℤ, pos, List, [], ◌∷◌, length, take, drop}
use Rattle.std.specs.List.{list_all}
use Rattle.std.proofs.Common.{refl, ◌∙◌, ap, arith}
use Rattle.std.proofs.Math.ListN.{drop_of_length-le}
use Rattle.std.proofs.lemmas.Bool.{and_from, cond-false, ne_eqb, le-leb}
use Rattle.std.proofs.lemmas.List.{take_all}
use Rattle.iges_fields.specs.declared.value.Value.{Value}
use Rattle.iges_fields.specs.declared.value.Value.TheVariants as value
use Rattle.entry_references.specs.Layout.{is_pointer}
use Rattle.entry_references.specs.Refs.{group_at, is_group, is_left_out}
use Rattle.solid_extract.specs.NewValues.{new_numbers, names_behind}
use Rattle.solid_extract.proofs.AgainRecord.{numbers_point}

-- the groups of what stands behind, in a record of these values
abbrev pub groups_pass : List Value → List Value → Bool
groups_pass vs tail = is_group vs (group_at tail) && is_group vs (group_at (group_at tail).rest) && list_all is_left_out (group_at (group_at tail).rest).rest

abbrev counted : List Value → List Value
counted names = value.Int (pos 0) ∷ value.Int (pos (length names)) ∷ names

none_counted : (vs : List Value) → nat_le 0 (length vs) ≡ true
none_counted vs = le-leb 0 (length vs) (omega arith)

counted_pass : (vs names : List Value) → list_all is_pointer names ≡ true → length names ≤ length vs → groups_pass vs (counted names) ≡ true
counted_pass vs names point few =
    let all : take (length names) names ≡ names = take_all (length names) names (omega arith) in
    let none : drop (length names) names ≡ [] = drop_of_length-le names (omega arith) in
    let first : is_group vs (group_at (counted names)) ≡ true = and_from (nat_le 0 (length vs)) true (none_counted vs) refl in
    let second : is_group vs (group_at (value.Int (pos (length names)) ∷ names)) ≡ true =
    and_from (nat_le (length names) (length vs)) (list_all is_pointer (take (length names) names)) (le-leb (length names) (length vs) few)
    (ap (list_all is_pointer) all ∙ point) in
    let rest : list_all is_left_out (drop (length names) names) ≡ true = ap (list_all is_left_out) none in
    and_from (is_group vs (group_at (counted names)) && is_group vs (group_at (value.Int (pos (length names)) ∷ names)))
    (list_all is_left_out (drop (length names) names))
    (and_from (is_group vs (group_at (counted names))) (is_group vs (group_at (value.Int (pos (length names)) ∷ names))) first second) rest

nothing_passes : (vs : List Value) → groups_pass vs [] ≡ true
nothing_passes vs =
    and_from (is_group vs (group_at []) && is_group vs (group_at [])) true
    (and_from (is_group vs (group_at [])) (is_group vs (group_at [])) (and_from (nat_le 0 (length vs)) true (none_counted vs) refl)
    (and_from (nat_le 0 (length vs)) true (none_counted vs) refl)) refl

-- names behind own values are groups, in values that are no fewer
pub names_pass : (vs : List Value) (kept : List ℕ) (zs : List ℤ) → length (names_behind (new_numbers kept zs)) ≤ length vs
    → groups_pass vs (names_behind (new_numbers kept zs)) ≡ true
names_pass vs kept [] few = nothing_passes vs
names_pass vs kept (z ∷ zs) few =
    let names : List Value = new_numbers kept (z ∷ zs) in
    let some : (length (new_numbers kept (z ∷ zs)) == 0) ≡ false = ne_eqb (suc (length (new_numbers kept zs))) 0 (λ e. omega (arith, e)) in
    let is : names_behind (new_numbers kept (z ∷ zs)) ≡ counted (new_numbers kept (z ∷ zs)) =
    cond-false (length (new_numbers kept (z ∷ zs)) == 0) [] (counted (new_numbers kept (z ∷ zs))) some in
    ap (groups_pass vs) is ∙ counted_pass vs (new_numbers kept (z ∷ zs)) (numbers_point kept (z ∷ zs)) (omega (arith, few, ap length is))
