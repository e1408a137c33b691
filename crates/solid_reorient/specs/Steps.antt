-- Private: flags that are put in place one by one, and lists of flags by number.
use Rattle.std.specs.Prelude.{ℕ, suc, ◌+◌, ◌*◌, Bool, ℤ, pos, List, [], ◌∷◌, set, get_or, if◌then◌else◌}
use Rattle.std.specs.Ordering.{int_eq}
use Rattle.iges_fields.specs.declared.value.Value.{Value}
use Rattle.solid_reorient.specs.Reflagged.{flag_value}

-- the values with flags in every second place from this one on
abbrev pub put_from : ℕ → List Bool → List Value → List Value
put_from at [] vs = vs
put_from at (b ∷ bs) vs = put_from (suc (suc at)) bs (set vs at (flag_value b))

-- the list of this number, from 1; no flags where there is none
abbrev pub list_numbered : List (List Bool) → ℕ → List Bool
list_numbered flags n = get_or ([] ∷ flags) n []

-- what is noted for the entry at place p, where z names the entry of a list
abbrev pub noted : ℤ → ℕ → ℕ → ℕ → ℕ
noted z «list» p before = if int_eq z (pos (2 * p + 1)) then «list» else before
