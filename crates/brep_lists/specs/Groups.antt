-- Groups of values, each with its places.
use Rattle.std.specs.Prelude.{ℕ, zero, suc, ◌+◌, ◌*◌, ◌&&◌, Bool, true, false, if◌then◌else◌, pos, List, [], ◌∷◌, length, drop}
use Rattle.iges_fields.specs.declared.value.Value.{Value}
use Rattle.brep_lists.specs.DueValues.{at_least_one, count}
use Rattle.brep_lists.specs.Record.{int_of, flag_of, value_or_default, count_at}
use Rattle.brep_lists.specs.OwnValues.{is_int, is_same_coordinate, meets, meets_all}
use Rattle.brep_lists.specs.declared.groups.Slot.{Slot}
use Rattle.brep_lists.specs.declared.groups.Slot.TheVariants.{Whole, Flag, Coordinate}

-- the value may be there
abbrev pub passes : Slot → Value → Bool
passes Whole v = is_int (int_of v) v
passes Flag v = is_int (if flag_of v then pos 1 else pos 0) v
passes Coordinate v = is_same_coordinate v v

abbrev pub group_passes : List Slot → List Value → Bool
group_passes [] vs = true
group_passes (s ∷ ss) [] = false
group_passes (s ∷ ss) (v ∷ vs) = passes s v && group_passes ss vs

abbrev pub groups_pass : List Slot → ℕ → List Value → Bool
groups_pass shape zero vs = true
groups_pass shape (suc n) vs = group_passes shape vs && groups_pass shape n (drop (length shape) vs)

-- a count, so many groups, and nothing else that counts
abbrev pub is_counted : List Slot → List Value → Bool
is_counted shape vs =
    meets (at_least_one (count_at vs 0)) (value_or_default vs 0)
    && (groups_pass shape (count_at vs 0) (drop 1 vs) && meets_all [] (drop (1 + count_at vs 0 * length shape) vs))

-- a pair, a count, so many pairs, and nothing else that counts
abbrev pub is_solid : List Value → Bool
is_solid vs =
    group_passes (Whole ∷ Flag ∷ []) vs
    && (meets (count (count_at vs 2)) (value_or_default vs 2)
    && (groups_pass (Whole ∷ Flag ∷ []) (count_at vs 2) (drop 3 vs) && meets_all [] (drop (3 + count_at vs 2 * 2) vs)))

-- a pointer, a count, a flag, so many pointers, and nothing else that counts
abbrev pub is_face : List Value → Bool
is_face vs =
    meets (at_least_one (count_at vs 1)) (value_or_default vs 1)
    && (group_passes (Whole ∷ []) vs
    && (group_passes (Flag ∷ []) (drop 2 vs)
    && (groups_pass (Whole ∷ []) (count_at vs 1) (drop 3 vs) && meets_all [] (drop (3 + count_at vs 1 * 1) vs))))

-- so many tuples, and nothing else that counts; where a count of curves is missing, it is 0
abbrev pub tuple_passes : List Value → Bool
tuple_passes vs =
    group_passes (Flag ∷ Whole ∷ Whole ∷ Flag ∷ []) vs
    && (meets (count (count_at vs 4)) (value_or_default vs 4) && groups_pass (Flag ∷ Whole ∷ []) (count_at vs 4) (drop 5 vs))

abbrev pub tuples_pass : ℕ → List Value → Bool
tuples_pass zero vs = meets_all [] vs
tuples_pass (suc n) vs = tuple_passes vs && tuples_pass n (drop (5 + count_at vs 4 * 2) vs)

-- a count, so many tuples, and nothing else that counts
abbrev pub is_loop : List Value → Bool
is_loop vs = meets (at_least_one (count_at vs 0)) (value_or_default vs 0) && tuples_pass (count_at vs 0) (drop 1 vs)
