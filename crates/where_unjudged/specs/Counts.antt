-- How many entities of a type there are.
use Rattle.std.specs.Prelude.{◌≡◌, ℕ, ◌<◌, Bool, nat_lt, pos, List, length, count_by, get_or}
use Rattle.std.specs.List.{list_all}
use Rattle.std.specs.Ordering.{int_eq}
use Rattle.iges_fields.specs.declared.value.Value.{Value}
use Rattle.iges_directory.specs.declared.entry.Entry.{Entry}
use Rattle.iges_params.specs.Contents.{Contents}

abbrev pub has_type : ℕ → Entry × List Value → Bool
has_type t r = int_eq r.0.kind (pos t)

abbrev pub count_of_type : Contents → ℕ → ℕ
count_of_type f t = count_by (has_type t) f.entries

-- types up to 430
abbrev pub are_counted : List ℕ → Bool
are_counted types = list_all (λ t. nat_lt t 431) types

-- at the place of each type up to 430 how many there are
pub record AreTypeCounts (f : Contents) (counts : List ℕ) : Type 0 where
  pub len : length counts ≡ 431
  pub count : (t : ℕ) → t < 431 → get_or counts t 0 ≡ count_of_type f t
